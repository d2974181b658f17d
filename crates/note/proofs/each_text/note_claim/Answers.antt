use Rattle.std.proofs.Common.{◌<◌, length, arith}
use Rattle.note_admission.specs.Growing.{IsOfLost}
use Rattle.note.specs.Texts.{HasFollowed, NoteText}
use Rattle.note.proofs.Each.{one_more, still_left}
use Rattle.note.proofs.each_text.note_claim.Goals as goal

pub loop-index-preserved : goal.loop-index-preserved
loop-index-preserved c =
    let i = c.loop-index.index in
    let old = c.args.texts.now in
    let now = c.loop-index.texts in
    let many = c.loop-index.auto.texts in
    let within = c.loop-index-test.true in
    let lt : i < length now = omega arith in
    let So = λ (was t : NoteText). HasFollowed c.args.site (IsOfLost c.args.lost c.args.site) was t in
    let w = c.index-texts-index.result in
    let x = c.note_claim.new.self in
    let left = c.loop-index.invariant.left in
    record {
      done = λ k d less. one_more So old now many i w x lt left c.note_claim.ensures c.loop-index.invariant.done k less d;
      left = λ k d le. still_left So old now many i w x lt left c.note_claim.ensures k d le;
    }

pub returns-clause-follows : goal.returns-clause-follows
returns-clause-follows c = λ k d lt. c.loop-index.invariant.done k d (let past = c.loop-index-test.false in omega arith)
