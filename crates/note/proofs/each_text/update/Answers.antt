use Rattle.std.proofs.Common.{◌<◌, length, arith}
use Rattle.note.specs.Texts.{HasAdmittedMore, IsUpToDate, NoteText}
use Rattle.note.proofs.Each.{each_more, ended, one_more, still_left}
use Rattle.note.proofs.Following.{grown_itself}
use Rattle.note.proofs.each_text.update.Goals as goal

pub returns-in_err-update-clause-grown : goal.returns-in_err-update-clause-grown
returns-in_err-update-clause-grown c =
    let i = c.loop-index.index in
    let old = c.args.texts.now in
    let now = c.loop-index.texts in
    let many = c.loop-index.auto.texts in
    let within = c.loop-index-test.true in
    let lt : i < length now = omega arith in
    let So = λ (was t : NoteText). HasAdmittedMore c.args.key.now c.args.chains.now was t in
    ended So old now many i c.index-texts-index.result c.update.new.self lt c.loop-index.invariant.left
    c.in_err-update.ensures.grown c.loop-index.invariant.done (λ t. grown_itself c.args.key.now c.args.chains.now t)

pub loop-index-preserved : goal.loop-index-preserved
loop-index-preserved c =
    let i = c.loop-index.index in
    let old = c.args.texts.now in
    let now = c.loop-index.texts in
    let many = c.loop-index.auto.texts in
    let within = c.loop-index-test.true in
    let lt : i < length now = omega arith in
    let So = λ (was t : NoteText). HasAdmittedMore c.args.key.now c.args.chains.now was t in
    let w = c.index-texts-index.result in
    let x = c.update.new.self in
    let left = c.loop-index.invariant.left in
    let one = c.in_ok-update.ensures.grown in
    record {
      done = λ k d less. one_more So old now many i w x lt left one c.loop-index.invariant.done k less d;
      current = λ k d less. each_more IsUpToDate now i x lt c.in_ok-update.ensures.ok c.loop-index.invariant.current k less d;
      left = λ k d le. still_left So old now many i w x lt left one k d le;
    }
