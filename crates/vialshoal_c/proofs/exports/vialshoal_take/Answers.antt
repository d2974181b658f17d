use Rattle.std.proofs.Common.{subst}
use Rattle.vialshoal_c.specs.SessionState.{SessionState}
use Rattle.vialshoal_c.specs.Feeding.{SessionTakesIn}
use Rattle.vialshoal_c.proofs.exports.vialshoal_take.Goals as goal

pub returns : goal.returns
returns c =
    rw c.in-Some.ensures.some (rw c.close.ensures (subst (λ (s : SessionState). SessionTakesIn s c.args.message.now
    c.take-answer.result.number c.take-answer.result.taking c.take-answer.new.self) c.deref_mut.ensures.value
    c.take-answer.ensures))
