use Rattle.std.proofs.Common.{ap, subst}
use Rattle.std.specs.Prelude.{◌⊎◌}
use Rattle.texts.specs.Take.{Takes, TakesShort}
use Rattle.vialshoal_c.specs.SessionState.{SessionState}
use Rattle.vialshoal_c.proofs.session.Session.take.Goals as goal

pub returns : goal.returns
returns c =
    let is = c.self.view_is in (
      c.take.result,
      subst (λ (s : SessionState). Takes s.text c.args.message.now c.take.result c.take.new.self
          ⊎ TakesShort s.text c.args.message.now c.take.result c.take.new.self) is c.take.ensures,
      c.answer_of.ensures.0,
      c.answer_of.ensures.1,
      (ap (λ (s : SessionState). s.sent) is, ap (λ (s : SessionState). s.told) is),
    )
