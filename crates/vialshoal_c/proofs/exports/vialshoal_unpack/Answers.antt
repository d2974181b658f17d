use Rattle.std.proofs.Common.{subst}
use Rattle.vialshoal_c.specs.SessionState.{SessionState}
use Rattle.vialshoal_c.specs.Feeding.{UnpacksIn}
use Rattle.vialshoal_c.proofs.exports.vialshoal_unpack.Goals as goal

pub returns : goal.returns
returns c =
    rw c.in-Some.ensures.some (rw c.close.ensures (subst (λ (s : SessionState). UnpacksIn s c.args.chunk.now
    c.unpack-handed.result.number c.unpack-handed.result.unpacking c.unpack-handed.new.self) c.deref_mut.ensures.value
    c.unpack-handed.ensures))
