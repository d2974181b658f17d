-- What the texts of a note are of when one entry more came.
use Rattle.std.proofs.Common.{◌≡◌, ◌≢◌, ℕ, ◌+◌, ◌<◌, List, Bool, true, Contains, length, slice_index_or, inl, inr, sym, ap, subst, ◌∙◌, arith}
use Rattle.std.proofs.lemmas.Bool.{cases_eq}
use Rattle.note_laws.specs.Note.{Note, Entries, Saying, Claim}
use Rattle.note_laws.specs.Chains.{AreBranches, HoldsItsPlace}
use Rattle.note_entries.specs.Kept.{with_claim, with_saying}
use Rattle.note_hashes.specs.Hashes.{digest_of}
use Rattle.note_admission.specs.Growing.{IsOfLost, IsReplaced, StaysAdmitted}
use Rattle.note_admission.specs.Standing.{AreChainsOf, ChainsSeen}
use Rattle.note_bodies.specs.declared.messages.TheConstants.{TEXTS}
use Rattle.note.specs.Notes.{AreNumberedTexts}
use Rattle.note.specs.Texts.{ArePairs, EachText, HasFollowed, HasAdmittedMore, IsSameText, IsTextOfNote, NoteText}
use Rattle.note.proofs.Following.{place_then}
use Rattle.note.proofs.Coming.{other_text, text_grown, text_with_claim, text_with_message}

-- the numbers of texts stay
pub numbers_stay : (old new : List NoteText) → AreNumberedTexts old → length new ≡ length old
    → ((k : ℕ) (d : NoteText) → k < length old
    → (slice_index_or new k d).admission.text ≡ (slice_index_or old k d).admission.text) → AreNumberedTexts new
numbers_stay old new are many same = record {
  many = many ∙ are.many;
  numbers = λ k d lt.
      let within : k < length old = omega arith in
      same k d within ∙ are.numbers k d within;
}

pub heard_numbers : (old new : List NoteText) → AreNumberedTexts old → length new ≡ length old → (at site : ℕ)
    (MayLose : Saying → Type 0)
    → ((k : ℕ) (d : NoteText) → k ≢ at → slice_index_or new k d ≡ slice_index_or old k d)
    → ((d : NoteText) → HasFollowed site MayLose (slice_index_or old at d) (slice_index_or new at d)) → AreNumberedTexts new
heard_numbers old new are many at site MayLose others own =
    numbers_stay old new are many (λ k d lt. elim (cases_eq k at) [
      | inl same ↦
          subst (λ (n : ℕ). (slice_index_or new n d).admission.text ≡ (slice_index_or old n d).admission.text) (sym same)
          (own d).1.0
      | inr apart ↦ ap (λ (t : NoteText). t.admission.text) (others k d apart)
    ])

-- each text stays the same site's copy of the same text
pub heard_places : (old mid new : List NoteText) → ArePairs (λ was t. IsSameText was t) old mid → (at site : ℕ)
    (MayLose : Saying → Type 0)
    → ((k : ℕ) (d : NoteText) → k ≢ at → slice_index_or new k d ≡ slice_index_or mid k d)
    → ((d : NoteText) → HasFollowed site MayLose (slice_index_or mid at d) (slice_index_or new at d))
    → ArePairs (λ was t. IsSameText was t) old new
heard_places old mid new first at site MayLose others own k d lt = elim (cases_eq k at) [
  | inl same ↦
      let was = first k d lt in
      let now = subst (λ (n : ℕ). IsSameText (slice_index_or mid n d) (slice_index_or new n d)) (sym same) (own d).1 in
      (now.0 ∙ was.0, place_then (slice_index_or old k d).replica (slice_index_or mid k d).replica (slice_index_or new k d).replica was.1 now.1)
  | inr apart ↦ subst (λ (t : NoteText). IsSameText (slice_index_or old k d) t) (sym (others k d apart)) (first k d lt)
]

module _ (note : Note) (entries : Entries) (old new : List NoteText) (len : length new ≡ length old)
    (are : EachText (λ k t. IsTextOfNote note entries t) old) where
  pub texts_grown : (key : List ℕ) (chains : ChainsSeen) → note.digest ≡ digest_of key → AreChainsOf chains note entries
      → ArePairs (λ was t. HasAdmittedMore key chains was t) old new → EachText (λ k t. IsTextOfNote note entries t) new
  texts_grown key chains digest of grown k d lt =
      let within : k < length old = omega arith in
      text_grown note entries key chains (slice_index_or old k d) (slice_index_or new k d) digest of (grown k d within)
      (are k d within)

  pub texts_expected : ArePairs (λ was t. StaysAdmitted was.admission t.admission × IsSameText was t) old new
      → EachText (λ k t. IsTextOfNote note entries t) new
  texts_expected stay k d lt =
      let within : k < length old = omega arith in
      let (admitted, is) = are k d within in
      (admitted, (stay k d within).0 note entries admitted is)

  pub texts_claimed : (claim : Claim) (lost : Bool) (site : ℕ) → site ≡ claim.site
      → ((s : Saying) → HoldsItsPlace note entries s → (lost ≡ true → s.op.site ≢ claim.site)
      → HoldsItsPlace note (with_claim entries claim) s)
      → ArePairs (λ was t. HasFollowed site (IsOfLost lost site) was t) old new
      → EachText (λ k t. IsTextOfNote note (with_claim entries claim) t) new
  texts_claimed claim lost site same places followed k d lt =
      let within : k < length old = omega arith in
      text_with_claim note entries claim lost (slice_index_or old k d) (slice_index_or new k d) places
      (subst (λ (n : ℕ). HasFollowed n (IsOfLost lost n) (slice_index_or old k d) (slice_index_or new k d)) same
      (followed k d within)) (are k d within)

  module _ (m : Saying) (lost : Bool)
      (places : (s : Saying) → HoldsItsPlace note entries s → (lost ≡ true → ¬ AreBranches m s)
      → HoldsItsPlace note (with_saying entries m) s)
      (numbers : EachText (λ k t. t.admission.text ≡ k + 1) old) where
    -- a message of one of them
    pub texts_heard : (at site seq : ℕ) → at < length old → at + 1 ≡ m.op.text → site ≡ m.op.site → seq ≡ m.op.seq
        → ((d : NoteText) → Contains (slice_index_or old at d).admission.sites site)
        → ((k : ℕ) (d : NoteText) → k ≢ at → slice_index_or new k d ≡ slice_index_or old k d)
        → ((d : NoteText) → HasFollowed site (IsReplaced lost site seq) (slice_index_or old at d) (slice_index_or new at d))
        → EachText (λ k t. IsTextOfNote note (with_saying entries m) t) new
    texts_heard at site seq within of on nth known others own k d lt =
        let below : k < length old = omega arith in
        elim (cases_eq k at) [
          | inl same ↦
              subst (λ (n : ℕ). IsTextOfNote note (with_saying entries m) (slice_index_or new n d)) (sym same)
              (text_with_message note entries m lost places (slice_index_or old at d) (slice_index_or new at d)
              (subst (λ (n : ℕ). Contains (slice_index_or old at d).admission.sites n) on (known d))
              (subst (λ (n : ℕ). HasFollowed m.op.site (IsReplaced lost m.op.site n) (slice_index_or old at d) (slice_index_or new at d)) nth
              (subst (λ (n : ℕ). HasFollowed n (IsReplaced lost n seq) (slice_index_or old at d) (slice_index_or new at d)) on (own d)))
              (are at d within))
          | inr apart ↦
              subst (λ (t : NoteText). IsTextOfNote note (with_saying entries m) t) (sym (others k d apart))
              (other_text note entries m lost places (slice_index_or old k d)
              (λ same. apart (let number = numbers k d below in let equal : k + 1 ≡ at + 1 = sym number ∙ (same ∙ sym of) in omega arith))
              (are k d below))
        ]

    -- a message of a text that the note hasn't
    pub texts_unheard : new ≡ old → length old ≡ TEXTS → TEXTS < m.op.text
        → EachText (λ k t. IsTextOfNote note (with_saying entries m) t) new
    texts_unheard same many past k d lt =
        let below : k < length old = omega arith in
        subst (λ (xs : List NoteText). IsTextOfNote note (with_saying entries m) (slice_index_or xs k d)) (sym same)
        (other_text note entries m lost places (slice_index_or old k d)
        (λ of. let number = numbers k d below in let equal : k + 1 ≡ m.op.text = sym number ∙ of in absurd (omega arith))
        (are k d below))
