use Rattle.std.proofs.Common.{sym, subst}
use Rattle.note_admission.specs.Standing.{AreChainsOf, ChainsSeen}
use Rattle.note_admission.proofs.Standing.{of_base}
use Rattle.note_admission.proofs.note_chains.NoteChains.base_sites.Goals as goal

pub returns : goal.returns
returns c = λ note entries are site.
    let was = subst (λ (chains : ChainsSeen). AreChainsOf chains note entries) (sym c.self.view_is) are in
    let of = of_base _ note entries was site in (
      λ held. of.0 ((c.sites.ensures site).0 held),
      λ is. (c.sites.ensures site).1 (of.1 is),
    )
