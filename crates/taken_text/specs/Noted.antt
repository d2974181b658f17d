-- What a note of changes tells of what is shown, operation by operation.
use Rattle.std.specs.Prelude.{◌≡◌, ℕ, zero, suc, ◌≤◌, ◌⊎◌, List, [], ◌∷◌, ◌++◌, length, take, drop, All, slice_range}
use Rattle.char_files.specs.declared.character.Char.{Char}
use Rattle.operations.specs.NameSet.{IsAmong}
use Rattle.operations.specs.Operation.{Operation, OpKind, insert, delete, restore, change_looks}
use Rattle.list_changes.specs.Changes.{IsOfKind, Leads}
use Rattle.list_changes.specs.declared.change.Change.{Change}
use Rattle.list_changes.specs.declared.change.ChangeKind.TheVariants.{Insert, Delete, Replace}
use Rattle.char_files.specs.CharFiles.{FilesBySite}
use Rattle.tree_order.specs.Shown.{IsShown}
use Rattle.piece_list.specs.Piece.{Piece}
use Rattle.taken_text.specs.Taken.{IsTaken, chars_shown}

-- the same character with the same byte, whatever it looks like
abbrev pub SameChar : Char → Char → Type 0
SameChar x y = (x.name ≡ y.name) × (x.byte ≡ y.byte)

-- A change of an operation's sort, of one character at least: an Insert and a Restore insert, a Delete deletes, and a ChangeLooks replaces
-- characters that it names.
abbrev pub IsChangeOf : OpKind → List Char → Change → Type 0
IsChangeOf (insert cause at looks bytes) was change = IsOfKind Insert change
IsChangeOf (delete names) was change = IsOfKind Delete change
IsChangeOf (restore names) was change = IsOfKind Insert change
IsChangeOf (change_looks sel looks names) was change =
    IsOfKind Replace change × All (λ c. IsAmong names c.name) (slice_range was change.beg change.end)

-- these changes tell of one operation more: each is of its sort, and they lead from what was shown to what is
-- defined with it
pub record AreChangesOf (ops : List Operation) (op : Operation) (changes : List Change) (was now : List Char) : Type 0 where
  pub shown : IsShown (ops ++ op ∷ []) now
  pub each : All (IsChangeOf op.kind was) changes
  pub leads : Leads SameChar changes was now

-- the changes tell of these operations more, one after the other, and of nothing else
abbrev pub AreChangesOfAll : (ops more : List Operation) → List Change → (was now : List Char) → Type 0
AreChangesOfAll ops [] changes was now = (changes ≡ []) × (now ≡ was)
AreChangesOfAll ops (op ∷ more) changes was now =
    (here rest : List Change) × (mid : List Char) × (changes ≡ here ++ rest) × AreChangesOf ops op here was mid
    × AreChangesOfAll (ops ++ op ∷ []) more rest mid now

-- the changes tell what the operations after the first n made of what these show
pub record AreChangesAfter (n : ℕ) (ops : List Operation) (changes : List Change) (was now : List Char) : Type 0 where
  pub within : n ≤ length ops
  pub shown : IsShown (take n ops) was
  pub told : AreChangesOfAll (take n ops) (drop n ops) changes was now

-- one insertion of so many characters; none of no characters
abbrev pub insertion_of : ℕ → List Change
insertion_of zero = []
insertion_of (suc n) = record { kind = Insert; beg = 0; end = suc n } ∷ []

-- nothing was told of before, and the changes tell of the first operations together, as one insertion of all that they show,
-- and then of the others
pub record AreToldTogether (asked : ℕ) (ops : List Operation) (changes : List Change) (was now : List Char) : Type 0 where
  pub first : asked ≡ 0
  pub nothing : was ≡ []
  pub together : ℕ
  pub mid : List Char
  pub rest : List Change
  pub begin : changes ≡ insertion_of (length mid) ++ rest
  pub others : AreChangesAfter together ops rest mid now

-- The changes tell what the operations after the first so many made of what these show: of each of them, or, where there are
-- none before them, of the first together.
pub record AreChangesSince (asked : ℕ) (ops : List Operation) (changes : List Change) (now : List Char) : Type 0 where
  pub was : List Char
  pub shown : IsShown (take asked ops) was
  pub told : AreChangesAfter asked ops changes was now ⊎ AreToldTogether asked ops changes was now

-- the note has gained changes that tell of this operation, and of nothing else
pub record GainsChangesOf (ops : List Operation) (op : Operation) (old new : List Change) (was now : List Char) : Type 0 where
  pub gained : List Change
  pub kept : new ≡ old ++ gained
  pub told : AreChangesOf ops op gained was now

-- the operations are taken in, and the note tells what those after the first so many made of what is shown
pub record IsNotedText (ops : List Operation) (items : List (ℕ × Piece)) (files : FilesBySite) (asked : ℕ)
    (note : List Change) : Type 0 where
  pub taken : IsTaken ops items files
  pub noted : AreChangesSince asked ops note (chars_shown items files)
