use Rattle.std.proofs.Common.{ℕ, ap, length, nat_lt, ◌∙◌}
use Rattle.text_chunks.proofs.Handed.{none_handed, one_handed}
use Rattle.text_chunks.proofs.unpacking.hand_in.Goals as goal

pub returns-in-Ok-clause-answered : goal.returns-in-Ok-clause-answered
returns-in-Ok-clause-answered c =
    let t = c.args.replica.now in
    one_handed c.args.counts c.count.result t c.take_op.new.self c.args.op c.in-Ok.took c.in-Ok.ensures
    (c.count.ensures.counted t c.take_op.new.self
    (ap (λ (n : ℕ). nat_lt n c.waiting.result) c.waiting-waiting.ensures
    ∙ ap (λ (n : ℕ). nat_lt (length t.waiting_room) n) c.waiting.ensures))

pub returns-in-Err-clause-answered : goal.returns-in-Err-clause-answered
returns-in-Err-clause-answered c =
    none_handed c.args.counts c.args.replica.now c.take_op.new.self c.args.op c.in-Err.why c.in-Err.ensures
