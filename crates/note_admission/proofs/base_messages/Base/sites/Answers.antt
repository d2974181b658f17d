use Rattle.std.proofs.Common.{ℕ, List, Contains, sym, subst}
use Rattle.note_laws.specs.Note.{Saying}
use Rattle.note_admission.specs.Base.{HasSite}
use Rattle.note_admission.proofs.base_messages.Base.sites.Goals as goal

pub returns : goal.returns
returns c = λ site. (
  λ held. subst (λ (said : List Saying). HasSite said site) c.self.view_is
      ((c.self.invariant.theirs site).0 (subst (λ (sites : List ℕ). Contains sites site) c.deref.ensures.value held)),
  λ has. subst (λ (sites : List ℕ). Contains sites site) (sym c.deref.ensures.value) ((c.self.invariant.theirs site).1
      (subst (λ (said : List Saying). HasSite said site) (sym c.self.view_is) has)),
)
