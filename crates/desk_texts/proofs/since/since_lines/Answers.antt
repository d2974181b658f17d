use Rattle.std.proofs.Common.{ℕ, ◌≡◌, List, [], ◌++◌, ◌<◌, length, sym, ap, ◌∙◌, arith, rules}
use Rattle.std.specs.Prelude.{codes}
use Rattle.std.proofs.lemmas.List.{take_all}
use Rattle.operations.specs.Operation.{Operation}
use Rattle.machine.specs.Printing.{line}
use Rattle.machine.specs.Since.{message_line, message_lines}
use Rattle.texts.specs.Fronts.{beyond}
use Rattle.desk_texts.proofs.Beyond.{lines_beyond, lines_none, lines_up_to}
use Rattle.desk_texts.proofs.since.since_lines.Goals as goal
use Rattle.desk_texts.proofs.since.since_lines.Goals.{else-front_in-seq, then-front_in-seq+in_ok-op+in_ok-put_message}

pub loop-place-init : goal.loop-place-init
loop-place-init c =
    let empty : c.new-lines.result.items ≡ [] = search rules in
    empty
    ∙ sym (lines_none c.args.fronts.now c.args.replica.now.operations c.first_beyond-place.result
    (rw c.list-named.ensures at c.first_beyond-place.ensures.before))

pub loop-place-preserved : goal.loop-place-preserved
loop-place-preserved c =
    let fronts = c.args.fronts.now in
    let ops = c.args.replica.now.operations in
    let site = c.taken_identity-site.result.0 in
    let seq = c.taken_identity-site.result.1 in
    let front = rw c.list-named.ensures at c.front_in.ensures in
    elim c.if-front_in-seq.branch [
      | then-front_in-seq+in_ok-op+in_ok-put_message w ↦
          rw w.lines-is
          (w.in_ok-put_message.ensures.ok ∙ ap (λ (lines : List ℕ). lines ++ message_line w.in_ok-op.op) c.loop-place.invariant
          ∙ sym (lines_beyond fronts ops c.loop-place.place site seq c.front_in.result c.taken_identity-site.ensures front
          w.in_ok-op.op w.in_ok-op.ensures.ok w.if-front_in-seq.true))
      | else-front_in-seq w ↦
          let within : c.loop-place.place < length ops =
          omega (arith, c.loop-place-test.true, c.taken_len-place-end.ensures) in
          rw w.lines-is
          (c.loop-place.invariant
          ∙ sym (lines_up_to fronts ops c.loop-place.place site seq c.front_in.result c.taken_identity-site.ensures front within
          w.if-front_in-seq.false))
    ]

pub returns-clause-ok : goal.returns-clause-ok
returns-clause-ok c =
    let fronts = c.args.fronts.now in
    let ops = c.args.replica.now.operations in
    c.in_ok-extend_from_slice.ensures.items
    ∙ ap (λ (lines : List ℕ). lines ++ line (codes "ok"))
    (c.loop-place.invariant ∙ ap (λ (xs : List Operation). message_lines (beyond fronts xs)) (take_all c.loop-place.place ops (omega (arith, c.loop-place-test.false, c.taken_len-place-end.ensures))))
