-- What a text of a note is of when one entry more came.
use Rattle.std.proofs.Common.{◌≡◌, ◌≢◌, ℕ, List, ◌++◌, Bool, true, Contains, inl, inr, refl, sym, ap, subst, ◌∙◌}
use Rattle.std.proofs.lemmas.List.Elements.{Contains-push_cases}
use Rattle.note_laws.specs.Note.{Note, Entries, Saying, Claim}
use Rattle.note_laws.specs.Chains.{AreBranches, HoldsItsPlace}
use Rattle.note_laws.proofs.Lists.{index_of}
use Rattle.note_entries.specs.Kept.{with_claim, with_saying}
use Rattle.note_admission.specs.Growing.{AreAdmitted, AreOfNote, IsOfLost, IsReplaced, TextSeen}
use Rattle.note_admission.specs.Standing.{AreChainsOf, ChainsSeen}
use Rattle.note_admission.proofs.Adding.{claim_adds, message_adds}
use Rattle.note_admission.proofs.Expecting.{same_with_more}
use Rattle.note_hashes.specs.Hashes.{digest_of}
use Rattle.note.specs.Texts.{HasFollowed, HasAdmittedMore, IsTextOfNote, NoteText}

-- what is admitted holds its place
holding : (note : Note) (entries : Entries) (t : TextSeen) (admitted : List Saying) → AreAdmitted note entries t admitted
    → (s : Saying) → Contains admitted s → HoldsItsPlace note entries s × (s.op.text ≡ t.text)
holding note entries t admitted is s held =
    let (n, at) = index_of admitted s held in
    let next = (is.taken.in_turn n s at).0 in
    (next.holds, next.of_text)

module _ (note : Note) (entries : Entries) where
  pub text_with_claim : (claim : Claim) (lost : Bool) (old new : NoteText)
      → ((s : Saying) → HoldsItsPlace note entries s → (lost ≡ true → s.op.site ≢ claim.site)
      → HoldsItsPlace note (with_claim entries claim) s)
      → HasFollowed claim.site (IsOfLost lost claim.site) old new → IsTextOfNote note entries old
      → IsTextOfNote note (with_claim entries claim) new
  text_with_claim claim lost old new places followed (admitted, is) =
      followed.0 note entries (with_claim entries claim) admitted is (λ s said on. inl said)
      (λ s holds on. claim_adds note entries claim s holds)
      (λ s held free. places s (holding note entries old.admission admitted is s held).0 (λ l on. free (l, on)))

  module _ (m : Saying) (lost : Bool)
      (places : (s : Saying) → HoldsItsPlace note entries s → (lost ≡ true → ¬ AreBranches m s)
      → HoldsItsPlace note (with_saying entries m) s) where
    pub text_with_message : (old new : NoteText) → Contains old.admission.sites m.op.site
        → HasFollowed m.op.site (IsReplaced lost m.op.site m.op.seq) old new → IsTextOfNote note entries old
        → IsTextOfNote note (with_saying entries m) new
    text_with_message old new known followed (admitted, is) =
        followed.0 note entries (with_saying entries m) admitted is
        (λ s said on. elim (Contains-push_cases entries.said m s said) [
          | inl was ↦ inl was
          | inr same ↦ inr (subst (λ (x : Saying). Contains old.admission.sites x.op.site) same known)
        ])
        (λ s holds on. elim (message_adds note entries m s holds) [
          | inl was ↦ inl was
          | inr same ↦ inr (ap (λ (x : Saying). x.op.site) same)
        ])
        (λ s held free. places s (holding note entries old.admission admitted is s held).0
        (λ l are. free (l, sym are.site, sym are.seq)))

    -- a text of another number stays as it is
    pub other_text : (t : NoteText) → t.admission.text ≢ m.op.text → IsTextOfNote note entries t
        → IsTextOfNote note (with_saying entries m) t
    other_text t other (admitted, is) = (
      admitted,
      same_with_more note entries (with_saying entries m) t.admission t.admission admitted is
          (λ s said on. elim (Contains-push_cases entries.said m s said) [
            | inl was ↦ inl was
            | inr same ↦ absurd (other (sym on ∙ ap (λ (x : Saying). x.op.text) (sym same)))
          ])
          refl refl
          (λ s holds on. elim (message_adds note entries m s holds) [
            | inl was ↦ inl was
            | inr same ↦ absurd (other (sym on ∙ ap (λ (x : Saying). x.op.text) same))
          ])
          (λ s held.
          let (holds, on) = holding note entries t.admission admitted is s held in
          places s holds (λ l are. other (sym on ∙ sym are.text)))
          refl refl (λ x may. may),
    )

  pub text_grown : (key : List ℕ) (chains : ChainsSeen) (old new : NoteText) → note.digest ≡ digest_of key
      → AreChainsOf chains note entries → HasAdmittedMore key chains old new → IsTextOfNote note entries old
      → IsTextOfNote note entries new
  text_grown key chains old new digest are grown (admitted, is) =
      let of : AreOfNote note entries (digest_of key) (λ note entries. AreChainsOf chains note entries) =
      record { same_digest = digest; same_chains = are; base = are.identified; told = are.told } in
      let (more, now) = grown.0 note entries admitted of is in
      (admitted ++ more, now)
