use Rattle.script_sites.proofs.WriteLemmas.{writes_after, writes_stopped}
use Rattle.script_sites.proofs.answers.put_refused.Goals as goal

pub returns-in_err-put_numbered : goal.returns-in_err-put_numbered
returns-in_err-put_numbered g c = rw (← c.number.ensures, ← c.from.ensures) (writes_stopped _ _ _ _ _ _ _ c.from_residual.ensures.1 c.in_err-put_numbered.ensures)

pub returns : goal.returns
returns g c = rw (← c.number.ensures, ← c.from.ensures) (writes_after _ _ _ _ _ _ _ c.in_ok-put_numbered.ensures c.put.ensures)
