use Rattle.std.proofs.Common.{◌≡◌, ℕ, ◌/◌, ◌%◌, ◌^◌, true, sym, subst, ◌∙◌}
use Rattle.std.specs.Cmp.{nat_eq_equiv}
use Rattle.std.proofs.lemmas.Bool.{and_from}
use Rattle.note_entries.specs.Branches.{is_same_hash}
use Rattle.note_admission.proofs.note_chains.NoteChains.is_held_by.Goals as goal

pub returns-in-Some : goal.returns-in-Some
returns-in-Some c = λ note entries are holds.
    let holder = c.in-Some.holder in
    let same : c.args.author ≡ holder = (c.in-Some.ensures.some note entries are holds.free c.args.author).0 holds in
    c.eq.ensures ∙ subst (λ (a : ℕ). is_same_hash holder a ≡ true) (sym same)
    (and_from _ _ (nat_eq_equiv.refl (holder / 2 ^ 128)) (nat_eq_equiv.refl (holder % 2 ^ 128)))

pub returns-in-None : goal.returns-in-None
returns-in-None c = λ note entries are holds. absurd (c.in-None.ensures.none note entries are c.args.author holds)
