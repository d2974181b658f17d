use Rattle.std.proofs.Common.{ap, subst}
use Rattle.std.specs.Prelude.{◌⊎◌}
use Rattle.text_chunks.specs.Unpacking.{Unpacks, UnpacksShort}
use Rattle.vialshoal_c.specs.SessionState.{SessionState}
use Rattle.vialshoal_c.proofs.session.Session.unpack.Goals as goal

pub returns : goal.returns
returns c =
    let is = c.self.view_is in (
      c.unpack.result,
      subst (λ (s : SessionState). Unpacks s.text c.args.chunk.now c.unpack.result c.unpack.new.replica
          ⊎ UnpacksShort s.text c.args.chunk.now c.unpack.result c.unpack.new.replica) is c.unpack.ensures,
      c.handed_of.ensures.0,
      c.handed_of.ensures.1,
      (ap (λ (s : SessionState). s.sent) is, ap (λ (s : SessionState). s.told) is),
    )
