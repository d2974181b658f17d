-- What lists of numbered pieces spell, before and after one is split, inserted, or changed.
use Rattle.std.specs.Prelude.{◌≡◌, ℕ, ◌+◌, ◌≤◌, true, false, List, [], ◌∷◌, ◌++◌, length, map, All}
use Rattle.looks.specs.Key.{is_below}
use Rattle.looks.specs.declared.key.Key.{Key}
use Rattle.char_files.specs.CharName.{CharName}
use Rattle.char_files.specs.declared.name.Anchor.{Anchor}
use Rattle.char_files.specs.declared.name.Anchor.TheVariants.{Root, At}
use Rattle.operations.specs.NameSet.{Range, IsIn}
use Rattle.operations.specs.Operation.{Operation, insert, key_of}
use Rattle.tree_order.specs.Insertion.{IsOneMore, IsInsertAt}
use Rattle.tree_order.specs.AtomInsertion.{atom_run}
use Rattle.tree_order.specs.Registers.{Atom, AreAtoms, if_named}
use Rattle.piece_list.specs.Piece.{Piece}
use Rattle.piece_list.specs.declared.run.Run.{Run}
use Rattle.piece_list.specs.Pieces.{range_of, char_of, chars_of, key_of_name, piece_of, piece_front, rest_of}
use Rattle.piece_list.specs.Placed.{IsPlaced}
use Rattle.piece_list.specs.Spelled.{spelled, ArePieces}

-- a piece split in two, the rest under any number, spells the same
abbrev pub SplitSpellsTheSame : Type 0
SplitSpellsTheSame =
    (before after : List (ℕ × Piece)) (tag rest n : ℕ) (p : Piece) → n ≤ p.len
    → spelled (before ++ (tag, piece_front n p) ∷ (rest, rest_of n p) ∷ after) ≡ spelled (before ++
    (tag, p) ∷ after)

-- the pieces end with the cause; there are none before the root
abbrev pub EndAt : List (ℕ × Piece) → Anchor → Type 0
EndAt before Root = before ≡ []
EndAt before (At c) = (front : List (ℕ × Piece)) × (tag : ℕ) × (p : Piece)
    × (before ≡ front ++ (tag, p) ∷ []) × (c.site ≡ p.site) × (c.off + 1 ≡ p.off + p.len)

-- there are no pieces, or the first one's key isn't greater
abbrev pub BeginNotAbove : Key → List (ℕ × Piece) → Type 0
BeginNotAbove key [] = Unit {0}
BeginNotAbove key (m ∷ after) = is_below key m.1.key ≡ false

-- after the cause whole pieces of greater key are skipped, and no further one is of greater key
pub record IsPieceGap (key : Key) (cause : Anchor) (before skipped after : List (ℕ × Piece)) : Type 0 where
  pub at_cause : EndAt before cause
  pub greater : All (λ m. is_below key m.1.key ≡ true) skipped
  pub stops : BeginNotAbove key after

-- a piece inserted into this gap stands, character by character, where the insertion law inserts its run
abbrev pub PieceGoesIntoGap : Type 0
PieceGoesIntoGap =
    (before skipped after : List (ℕ × Piece)) (cause : Anchor) (tag : ℕ) (p : Piece)
    → ArePieces (before ++ skipped ++ after) → IsPieceGap p.key cause before skipped after
    → IsPlaced p.key cause (chars_of p) (spelled (before ++ skipped ++ after))
    (spelled (before ++ skipped ++ (tag, p) ∷ after))

-- a run that is inserted there makes all characters of the larger set in order, each with its registers
abbrev pub PlacedAreAtoms : Type 0
PlacedAreAtoms =
    (ops : List Operation) (i : Operation) (cause : Anchor) (old new : List Atom)
    → IsOneMore ops i → IsInsertAt i cause → AreAtoms ops old
    → IsPlaced (key_of i) cause (atom_run i) old new → AreAtoms (ops ++ i ∷ []) new

-- the run is what an Insert inserts, under its key, which rises at most where there is one character alone
abbrev pub IsRunOf : Operation → Run → Type 0
IsRunOf i r = (cause : Anchor) × (bytes : List ℕ) × (i.kind ≡ insert cause r.off r.looks bytes)
    × (r.site ≡ i.site) × (r.len ≡ length bytes) × (r.key ≡ key_of i) × (r.rising ≡ true → r.len ≡ 1)

-- the piece of this run has these characters
abbrev pub PieceIsFirstAtoms : Type 0
PieceIsFirstAtoms = (i : Operation) (r : Run) → IsRunOf i r → chars_of (piece_of r) ≡ atom_run i

-- none of the pieces has one of these names
abbrev pub Avoid : Range → List (ℕ × Piece) → Type 0
Avoid r items = All (λ m. (c : CharName) → IsIn (range_of m.1) c → IsIn r c → ⊥) items

-- a change under a key is this one, character by character, where the characters have lesser keys
abbrev pub ChangesEach : Key → (Piece → Piece) → (Atom → Atom) → Type 0
ChangesEach key change each = (p : Piece) → (range_of (change p) ≡ range_of p)
    × ((c : CharName) → is_below (key_of_name p c) key ≡ true → char_of (change p) c ≡ each (char_of p c))

-- all of a piece's characters have lesser keys
abbrev pub IsPieceBelow : Key → Piece → Type 0
IsPieceBelow key p = (c : CharName) → IsIn (range_of p) c → is_below (key_of_name p c) key ≡ true

-- a piece that is changed changes the characters of its names, and no others
abbrev pub ChangeIsOfItsNames : Type 0
ChangeIsOfItsNames =
    (key : Key) (change : Piece → Piece) (each : Atom → Atom) (before after : List (ℕ × Piece)) (tag : ℕ) (p : Piece)
    → ChangesEach key change each → IsPieceBelow key p → Avoid (range_of p) before → Avoid (range_of p) after
    → spelled (before ++ (tag, change p) ∷ after)
    ≡ map (if_named (range_of p ∷ []) each) (spelled (before ++ (tag, p) ∷ after))
