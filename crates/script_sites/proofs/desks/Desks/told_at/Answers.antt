use Rattle.script_sites.specs.Seen.{texts_of}
use Rattle.script_sites.specs.Sent.{IsOperationAt}
use Rattle.script_sites.proofs.Sending.{of_ok}
use Rattle.script_sites.proofs.desks.Desks.told_at.Goals as goal

pub returns-then-is_spelled : goal.returns-then-is_spelled
returns-then-is_spelled c =
    let stands = IsOperationAt (texts_of c.args.self.now) c.in_ok-at.at in
    let there = of_ok c.op_at.result stands c.in_ok-op.op c.in_ok-op.ensures.value c.op_at.ensures.ok in
    (c.in_ok-op.op, there, c.lemma_has_spelling.ensures, c.is_spelled.ensures.0 c.if-is_spelled.true)
