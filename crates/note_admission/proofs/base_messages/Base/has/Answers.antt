use Rattle.std.proofs.Common.{List, sym, subst, ◌∙◌}
use Rattle.note_laws.specs.Note.{Saying}
use Rattle.note_admission.specs.Base.{HasSite}
use Rattle.note_admission.proofs.Bases.{seen_some}
use Rattle.note_admission.proofs.base_messages.Base.has.Goals as goal

pub returns : goal.returns
returns c =
    let seen = seen_some c.get.result _ c.get.ensures in (
      λ is. subst (λ (said : List Saying). HasSite said c.args.site) c.self.view_is
          ((c.self.invariant.theirs c.args.site).0 ((c.self.invariant.listed c.args.site).0
          (sym seen ∙ (sym c.is_some.ensures ∙ is)))),
      λ has. c.is_some.ensures ∙ (seen ∙ (c.self.invariant.listed c.args.site).1 ((c.self.invariant.theirs c.args.site).1
          (subst (λ (said : List Saying). HasSite said c.args.site) (sym c.self.view_is) has))),
    )
