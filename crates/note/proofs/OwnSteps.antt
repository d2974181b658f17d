-- One operation more while a body is written, and what the functions that write it say of one another's values.
use Rattle.std.proofs.Common.{◌≡◌, ◌≢◌, ◌⊎◌, ℕ, ◌+◌, ◌-◌, ◌^◌, ◌<◌, inl, inr, min, true, false, List, [], Option, Some, All, refl, sym, ap, subst, ◌∙◌}
use Rattle.std.specs.Prelude.{AllPairs, IfSome, slice_get}
use Rattle.operations.specs.Operation.{Operation}
use Rattle.operations.specs.Spelling.{HasSpelling}
use Rattle.tree_order.specs.Good.{file_before}
use Rattle.chunks.specs.Parts.{placed}
use Rattle.set_laws.specs.Fronts.{front_of}
use Rattle.texts.specs.Text.{IsText}
use Rattle.note_laws.specs.Note.{Note, Entries, Saying}
use Rattle.note_admission.specs.Growing.{AreTaken, IsLastHash}
use Rattle.note_bodies.specs.Writing.{Begun}
use Rattle.note.specs.Texts.{IsFollowing, NoteText}
use Rattle.note.specs.Editing.{is_own_left}
use Rattle.note.specs.Own.{HasNoRoom, HasPut, PutsSaying, placed_in}
use Rattle.note.specs.declared.own_entry.Turn.{Turn}
use Rattle.note.proofs.OwnEntries.{AreEntriesSoFar, HasPutSoFar, full, none_said, passed_on, put_on}

-- where an operation stands, by what the replica answers of the one at its place
pub placed_so : (u t : NoteText) → u ≡ t → (n : ℕ) (op : Operation) (len : ℕ) → slice_get t.replica.operations n ≡ Some op
    → IfSome (slice_get u.replica.operations n) (λ o. len ≡ file_before u.replica.operations o.site o.seq)
    → placed op len ≡ placed_in t op
placed_so u t same n op len at found =
    let seen = subst (λ (x : NoteText). IfSome (slice_get x.replica.operations n) (λ o. len ≡ file_before x.replica.operations o.site o.seq)) same found in
    let is : len ≡ file_before t.replica.operations op.site op.seq =
    subst (λ (o : Option Operation). IfSome o (λ o. len ≡ file_before t.replica.operations o.site o.seq)) at seen in
    ap (placed op) is

-- an operation was put into the body, or isn't own
abbrev pub IsPassed : (key : List ℕ) → (author : ℕ) → NoteText → Operation → (turn now : Turn) → (body grown : Begun) → Type 0
IsPassed key author t op turn now body grown =
    ((new : Turn) × (left : Begun) × (is_own_left t op ≡ true) × PutsSaying key author t op turn new body left
    × (now ≡ new) × (grown ≡ left))
    ⊎ ((is_own_left t op ≡ false) × (now ≡ turn) × (grown ≡ body))

-- the place is the next one
abbrev pub turn_on : Turn → Turn
turn_on turn = record { place = turn.place + 1; seq = turn.seq; before = turn.before; between = turn.between }

module _ (key : List ℕ) (author : ℕ) (t : NoteText) (last : ℕ) (said : List Saying) (start turn : Turn) (body : Begun)
    (so : HasPutSoFar key author t last said start turn body) (u : NoteText) (same : u ≡ t) (op : Operation)
    (at : slice_get u.replica.operations turn.place ≡ Some op) (is : IsText u.replica)
    (once : AllPairs (λ a b. a ≢ b) u.replica.operations) (spelled : All HasSpelling u.replica.operations) where
  at_place : slice_get t.replica.operations turn.place ≡ Some op
  at_place = subst (λ (x : NoteText). slice_get x.replica.operations turn.place ≡ Some op) same at

  is_text : IsText t.replica
  is_text = subst (λ (x : NoteText). IsText x.replica) same is

  taken_once : AllPairs (λ a b. a ≢ b) t.replica.operations
  taken_once = subst (λ (x : NoteText). AllPairs (λ a b. a ≢ b) x.replica.operations) same once

  have_spelling : All HasSpelling t.replica.operations
  have_spelling = subst (λ (x : NoteText). All HasSpelling x.replica.operations) same spelled

  -- the next operation was put into the body, or passed over
  pub step_on : (now : Turn) (grown : Begun) → IsPassed key author t op turn now body grown
      → HasPutSoFar key author t last said start (turn_on now) grown
  step_on now grown (inl (new, left, own, puts, moved, more)) =
      subst (λ (x : Turn). HasPutSoFar key author t last said start (turn_on x) grown) (sym moved)
      (subst (λ (b : Begun). HasPutSoFar key author t last said start (turn_on new) b) (sym more)
      (put_on key author t last said start turn (turn_on new) body so op at_place is_text taken_once have_spelling own new left
      puts (ap (λ (n : ℕ). n + 1) puts.place) refl refl refl))
  step_on now grown (inr (other, stays, left)) =
      subst (λ (x : Turn). HasPutSoFar key author t last said start (turn_on x) grown) (sym stays)
      (subst (λ (b : Begun). HasPutSoFar key author t last said start (turn_on turn) b) (sym left)
      (passed_on key author t last said start turn (turn_on turn) body so op at_place other refl refl refl refl))

  -- it had no room
  pub is_full : (new : Turn) (left : Begun) → HasNoRoom t op turn new body left → HasPut key author t last said start new left
  is_full new left none =
      full key author t last said start turn turn body so op at_place is_text taken_once have_spelling new left none

-- before the first entry
pub nothing_made : (key : List ℕ) (author : ℕ) (u t : NoteText) → u ≡ t → IsFollowing u → (turn : Turn) → (site front : ℕ)
    → site ≡ u.replica.site → front ≡ front_of u.admission.ops site → front < 2 ^ 32 → turn.place ≡ u.alike
    → turn.seq ≡ min (front + 1) (2 ^ 32 - 1)
    → ((note : Note) (entries : Entries) (admitted : List Saying) → AreTaken note entries u.admission admitted
    → IsLastHash admitted site turn.before)
    → turn.between ≡ [] → AreEntriesSoFar key author t turn []
nothing_made key author u t same is turn site front of_site of_front few place seq counts between =
    let fronts : front ≡ front_of u.admission.ops u.replica.site = of_front ∙ ap (λ (s : ℕ). front_of u.admission.ops s) of_site in
    subst (λ (x : NoteText). AreEntriesSoFar key author x turn []) same
    (record {
      last = turn.before;
      counts = λ note entries admitted taken.
          subst (λ (s : ℕ). IsLastHash admitted s turn.before) of_site (counts note entries admitted taken);
      said = [];
      have = none_said key author u turn.before turn is (subst (λ (n : ℕ). n < 2 ^ 32) fronts few) place
          (seq ∙ ap (λ (n : ℕ). min (n + 1) (2 ^ 32 - 1)) fronts) refl between;
      parts = refl;
    })
