use Rattle.std.proofs.Common.{ap, ◌∙◌}
use Rattle.std.proofs.lemmas.Result.{IfOk-weaker}
use Rattle.machine.specs.Printing.{text_lines}
use Rattle.desk_texts.proofs.printing.past_lines.Goals as goal

pub returns-clause-ok : goal.returns-clause-ok
returns-clause-ok c =
    let is_past = rw c.list.ensures at c.in_ok-past.ensures.ok in
    IfOk-weaker c.text_lines.result _ _ (λ lines is. (c.in_ok-past.field-0, is_past, is ∙ ap text_lines c.replica-2.ensures)) c.text_lines.ensures.ok
