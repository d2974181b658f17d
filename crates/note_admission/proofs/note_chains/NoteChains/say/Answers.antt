use Rattle.std.proofs.Common.{ℕ, sym, ap, subst, ◌∙◌}
use Rattle.std.proofs.lemmas.Bool.{false≢true}
use Rattle.note_laws.specs.Note.{IsHolder, Saying}
use Rattle.note_admission.specs.Standing.{AreChainsOf, ChainsSeen}
use Rattle.note_admission.proofs.Standing.{stands_still}
use Rattle.note_admission.proofs.note_chains.NoteChains.say.Goals as goal
use Rattle.note_admission.proofs.note_chains.NoteChains.say.Goals.{then-is_holders, else-is_holders}

pub returns-clause-kept : goal.returns-clause-kept
returns-clause-kept c = λ note entries told are.
    let was = subst (λ (chains : ChainsSeen). AreChainsOf chains note entries) (sym c.self.view_is) are in
    record {
      opens = was.opens;
      identified = was.identified;
      base = was.base;
      told = told;
      kept = c.in_ok-said.ensures.kept entries told was.kept;
    }

pub returns-clause-places : goal.returns-clause-places
returns-clause-places c = λ note entries are.
    let was = subst (λ (chains : ChainsSeen). AreChainsOf chains note entries) (sym c.self.view_is) are in
    let m = c.args.saying in
    let author = sym (ap (λ (x : Saying). x.author) c.saying.view_is) in
    let site = sym (c.site.ensures ∙ ap (λ (x : Saying). x.op.site) c.saying.view_is) in
    stands_still note entries m c.if-is_holders.result c.in_ok-said.said
    (λ lesser holds. elim c.if-is_holders.branch [
      | then-is_holders w ↦ w.result-is ∙ w.is_lesser.ensures lesser
      | else-is_holders w ↦ absurd (false≢true (sym w.if-is_holders.false ∙ c.is_held_by-is_holders.ensures note entries are
          (subst (λ (n : ℕ). IsHolder note entries n c.saying.inside.author) site
          (subst (λ (a : ℕ). IsHolder note entries m.op.site a) author holds))))
    ])
    (c.in_ok-said.ensures.places note entries was.kept)
