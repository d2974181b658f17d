use Rattle.std.proofs.Common.{append_assoc}
use Rattle.script_sites.specs.Answers.{send_line}
use Rattle.script_sites.proofs.WriteLemmas.{writes_after, writes_stopped}
use Rattle.script_sites.proofs.answers.put_long_send.Goals as goal

pub returns-in_err-put_numbered_far : goal.returns-in_err-put_numbered_far
unfolding send_line
returns-in_err-put_numbered_far g c = simp append_assoc (writes_stopped _ _ _ _ _ _ _ c.from_residual.ensures.1 c.in_err-put_numbered_far.ensures)

pub returns-in_err-put : goal.returns-in_err-put
unfolding send_line
returns-in_err-put g c = simp append_assoc (writes_after _ _ _ _ _ _ _ c.in_ok-put_numbered_far.ensures (writes_stopped _ _ _ _ _ _ _ c.from_residual-in_err-put.ensures.1 c.in_err-put.ensures))

pub returns-in_err-put_hex : goal.returns-in_err-put_hex
unfolding send_line
returns-in_err-put_hex g c =
    simp append_assoc (writes_after _ _ _ _ _ _ _ c.in_ok-put_numbered_far.ensures (writes_after _ _ _ _ _ _ _ c.in_ok-put.ensures (writes_stopped _ _ _ _ _ _ _ c.from_residual-in_err-put_hex.ensures.1 c.in_err-put_hex.ensures)))

pub returns : goal.returns
unfolding send_line
returns g c = simp append_assoc (writes_after _ _ _ _ _ _ _ c.in_ok-put_numbered_far.ensures (writes_after _ _ _ _ _ _ _ c.in_ok-put.ensures (writes_after _ _ _ _ _ _ _ c.in_ok-put_hex.ensures c.put-2.ensures)))
