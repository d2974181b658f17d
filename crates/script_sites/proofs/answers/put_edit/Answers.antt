use Rattle.std.proofs.Common.{ℕ, Result, Err, ap, ◌∙◌}
use Rattle.texts.specs.declared.edit_refusal.EditRefusal.{EditRefusal}
use Rattle.script_sites.proofs.WriteLemmas.{writes_after, writes_stopped}
use Rattle.script_sites.proofs.answers.put_edit.Goals as goal

abbrev refused : EditRefusal → Result ℕ EditRefusal
refused why = Err why

pub returns-in_err-put_sends-in-Ok : goal.returns-in_err-put_sends-in-Ok
returns-in_err-put_sends-in-Ok g c = rw c.in-Ok.is (writes_stopped _ _ _ _ _ _ _ c.from_residual.ensures.1 c.in_err-put_sends-in-Ok.ensures)

pub returns-in_ok-put_sends-in-Ok : goal.returns-in_ok-put_sends-in-Ok
returns-in_ok-put_sends-in-Ok g c = rw c.in-Ok.is (writes_after _ _ _ _ _ _ _ c.in_ok-put_sends-in-Ok.ensures c.put.ensures)

pub returns-in_err-put_sends-in-Err-Partial : goal.returns-in_err-put_sends-in-Err-Partial
returns-in_err-put_sends-in-Err-Partial g c =
    let is = c.in-Err-Partial.is ∙ ap refused (rw c.in-Err-Partial.is at c.in-Err-Partial.field-0-is) in
    rw is (writes_stopped _ _ _ _ _ _ _ c.from_residual-in_err-put_sends-in-Err-Partial.ensures.1 c.in_err-put_sends-in-Err-Partial.ensures)

pub returns-in_ok-put_sends-in-Err-Partial : goal.returns-in_ok-put_sends-in-Err-Partial
returns-in_ok-put_sends-in-Err-Partial g c =
    let is = c.in-Err-Partial.is ∙ ap refused (rw c.in-Err-Partial.is at c.in-Err-Partial.field-0-is) in
    let told = rw (c.from.ensures, c.number.ensures) at c.put_partial.ensures in
    rw is (writes_after _ _ _ _ _ _ _ c.in_ok-put_sends-in-Err-Partial.ensures told)
