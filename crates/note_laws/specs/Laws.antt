-- The laws of what counts.
use Rattle.std.specs.Prelude.{◌≡◌, ℕ, ◌≤◌, ◌⊎◌, ◌↔◌, List, Contains, Some, slice_get, take}
use Rattle.operations.specs.Operation.{Operation}
use Rattle.tree_order.specs.Laws.{SaysTheSame}
use Rattle.set_laws.specs.Sets.{AreIdentified, KeepsCauses, HasCausesBefore}
use Rattle.set_laws.specs.Verdict.{HasForeignNames, HasVerdict, IsNew, ready}
use Rattle.note_laws.specs.Note.{Note, Entries, Saying, Claim, IsLeastClaim}
use Rattle.note_laws.specs.Chains.{operations, AreBranches, IsLeastBranch, HoldsItsPlace, ComesNext}
use Rattle.note_laws.specs.Admission.{Fate, wrong, held_back, BuildsOn, MeetsFate, IsAdmission}

-- the base has one message of a text, a number and a seq
abbrev pub IsBaseIdentified : Note → Type 0
IsBaseIdentified note = (a b : Saying) → Contains note.base a → Contains note.base b → a.op.text ≡ b.op.text
    → a.op.site ≡ b.op.site → a.op.seq ≡ b.op.seq → a ≡ b

-- messages with one hash are one, and claims with one rank are one author's
pub record AreToldApart (entries : Entries) : Type 0 where
  pub hashes : (a b : Saying) → Contains entries.said a → Contains entries.said b → a.hash ≡ b.hash → a ≡ b
  pub ranks : (a b : Claim) → Contains entries.claims a → Contains entries.claims b → a.rank ≡ b.rank
      → a.author ≡ b.author

-- each message of the first is in the second
abbrev pub AreAmong : List Saying → List Saying → Type 0
AreAmong a b = (s : Saying) → Contains a s → Contains b s

-- the same messages, in whatever order and however often
abbrev pub AreSameSayings : List Saying → List Saying → Type 0
AreSameSayings a b = (s : Saying) → Contains a s ↔ Contains b s

-- the same entries, in whatever order and however often
pub record AreSameEntries (a b : Entries) : Type 0 where
  pub claims : (claim : Claim) → Contains a.claims claim ↔ Contains b.claims claim
  pub said : AreSameSayings a.said b.said

-- more claims and messages, of which none has a lesser rank than a number's least claim had, or a lesser hash than the
-- least branch beside it had
pub record AddsNoLesser (entries more : Entries) : Type 0 where
  pub claims : (claim : Claim) → Contains entries.claims claim → Contains more.claims claim
  pub said : AreAmong entries.said more.said
  pub ranks : (old new : Claim) → IsLeastClaim entries.claims old → Contains more.claims new → old.site ≡ new.site
      → old.rank ≤ new.rank
  pub hashes : (old new : Saying) → IsLeastBranch entries.said old → Contains more.said new → AreBranches old new
      → old.hash ≤ new.hash

-- each of these messages holds its place with those entries, too
abbrev pub KeepTheirPlaces : Note → Entries → List Saying → Type 0
KeepTheirPlaces note entries admitted = (s : Saying) → Contains admitted s → HoldsItsPlace note entries s

-- what counts in turn is a good set, in which each operation comes after its causes
pub record CountAsGoodSet (admitted : List Saying) : Type 0 where
  pub identified : AreIdentified (operations admitted)
  pub keep_causes : KeepsCauses (operations admitted)
  pub causes_before : HasCausesBefore (operations admitted)

-- each operation is on this text, and ready over those before it
abbrev pub AreReadyInTurn : ℕ → List Operation → Type 0
AreReadyInTurn text ops = (n : ℕ) (op : Operation) → slice_get ops n ≡ Some op
    → (op.text ≡ text) × IsNew (take n ops) op × HasVerdict (take n ops) op ready

-- two admissions are of the same messages, and show the same text
pub record AreEqualAdmissions (a b : List Saying) : Type 0 where
  pub same : AreSameSayings a b
  pub show : SaysTheSame (operations a) (operations b)

-- where the next message lacks no characters and builds on what is admitted, it is wrong, or its stamp is held back
abbrev pub EndsOrWaits : Note → List Saying → Saying → Type 0
EndsOrWaits note admitted s = HasForeignNames (operations admitted) s.op → BuildsOn note admitted s
    → MeetsFate note admitted s wrong ⊎ MeetsFate note admitted s held_back

-- of each number one message comes next
abbrev pub HasOneNext : Note → Entries → ℕ → List Saying → Type 0
HasOneNext note entries text admitted = (a b : Saying) → ComesNext note entries text admitted a
    → ComesNext note entries text admitted b → a.op.site ≡ b.op.site → a ≡ b

-- the next message has one fate, and no other
pub record HasOneFate (note : Note) (admitted : List Saying) (s : Saying) : Type 0 where
  pub fate : Fate
  pub is : MeetsFate note admitted s fate
  pub only : (other : Fate) → MeetsFate note admitted s other → other ≡ fate

-- there is an admission, and any two are alike
pub record HasOneAdmission (note : Note) (entries : Entries) (text : ℕ) : Type 0 where
  pub admission : List Saying
  pub is : IsAdmission note entries text admission
  pub only : (a b : List Saying) → IsAdmission note entries text a → IsAdmission note entries text b → AreEqualAdmissions a b

-- what comes next over the first, and keeps its place, comes next over the second, and has that fate there too
abbrev pub KeepsItsFate : Note → Entries → Entries → ℕ → List Saying → List Saying → Saying → Fate → Type 0
KeepsItsFate note entries more text a b s fate = ComesNext note entries text a s → HoldsItsPlace note more s
    → MeetsFate note a s fate → ComesNext note more text b s × MeetsFate note b s fate
