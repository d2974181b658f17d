-- How a run's piece is inserted into the list.
use Rattle.std.specs.Prelude.{◌≡◌, ℕ, ◌+◌, ◌-◌, ◌^◌, ◌<◌, ◌≤◌, ◌⊎◌, min, true, List, [], ◌∷◌, ◌++◌, length, All}
use Rattle.std.specs.Prelude.{Option, Some, None}
use Rattle.looks.specs.Key.{is_below}
use Rattle.looks.specs.declared.key.Key.{Key}
use Rattle.char_files.specs.declared.name.Anchor.{Anchor}
use Rattle.char_files.specs.declared.name.Anchor.TheVariants.{Root, At}
use Rattle.piece_raw.specs.Ring.{last_tag}
use Rattle.tree_order.specs.Registers.{Atom}
use Rattle.piece_list.specs.Piece.{Piece}
use Rattle.piece_list.specs.declared.spot.Spot.{Spot}
use Rattle.piece_list.specs.Held.{IsSpotOf, IsSplit}
use Rattle.piece_list.specs.Pieces.{piece_front, rest_of}
use Rattle.piece_list.specs.Laws.{EndAt, BeginNotAbove, IsPieceGap}
use Rattle.piece_list.specs.Spelled.{spelled, HasName}

-- the anchor is the root, or one of the characters has its name
abbrev pub HasAnchor : List Atom → Anchor → Type 0
HasAnchor chars Root = Unit {0}
HasAnchor chars (At c) = HasName chars c

-- how many comparisons find the anchor: none for the root, one for a character
abbrev pub compared : Anchor → ℕ
compared Root = 0
compared (At c) = 1

-- this is where the anchor's character stands; none for the root
abbrev pub IsAnchorSpot : List (ℕ × Piece) → Anchor → Option Spot → Type 0
IsAnchorSpot items Root spot = spot ≡ None
IsAnchorSpot items (At c) spot = (at : Spot) × (spot ≡ Some at) × IsSpotOf items at c

-- the pieces are those before, of which the last has this number (none where there are none), and those after
abbrev pub IsParted : List (ℕ × Piece) → Option ℕ → List (ℕ × Piece) → List (ℕ × Piece) → Type 0
IsParted items last before after = (items ≡ before ++ after) × (last_tag before ≡ last)

-- the pieces can be parted after this number
abbrev pub HasPart : List (ℕ × Piece) → Option ℕ → Type 0
HasPart items last = (before : List (ℕ × Piece)) × (after : List (ℕ × Piece)) × IsParted items last before after

-- one piece of old is split in two: its first n characters are the last of those before, and the others the
-- first of those after
pub record IsSplitAt (old before after : List (ℕ × Piece)) : Type 0 where
  pub front : List (ℕ × Piece)
  pub rest : List (ℕ × Piece)
  pub tag : ℕ
  pub other : ℕ
  pub n : ℕ
  pub piece : Piece
  pub within : n < piece.len
  pub whole : old ≡ front ++ (tag, piece) ∷ rest
  pub ends : before ≡ front ++ (tag, piece_front n piece) ∷ []
  pub begins : after ≡ (other, rest_of n piece) ∷ rest

-- old's pieces are those before and those after, or are once one piece is split there
abbrev pub IsSplitThere : List (ℕ × Piece) → List (ℕ × Piece) → List (ℕ × Piece) → Type 0
IsSplitThere old before after = (old ≡ before ++ after) ⊎ IsSplitAt old before after

-- the pieces are parted after this number, directly after the anchor; for this one of old's was split there at
-- most
abbrev pub IsPartedAt : List (ℕ × Piece) → List (ℕ × Piece) → Option ℕ → Anchor → Type 0
IsPartedAt old items last cause = (before : List (ℕ × Piece)) × (after : List (ℕ × Piece))
    × IsParted items last before after × EndAt before cause × IsSplitThere old before after

-- the piece of this number follows directly, and its key is greater
abbrev pub IsNextPiece : List (ℕ × Piece) → Key → Option ℕ → ℕ → Type 0
IsNextPiece items key last next = (before after : List (ℕ × Piece)) → IsParted items last before after
    → (p : Piece) × (rest : List (ℕ × Piece)) × (after ≡ (next, p) ∷ rest) × (is_below key p.key ≡ true)

-- a count went on by n from one number to another, as far as a u64 reaches
abbrev pub IsCounted : (from n steps : ℕ) → Type 0
IsCounted from n steps = (steps ≤ from + n) × (min (from + n) (2 ^ 64 - 1) ≤ steps)

-- a count went on by so many at least and by so many at most, as far as a u64 reaches
abbrev pub IsCountedBetween : (from least most steps : ℕ) → Type 0
IsCountedBetween from least most steps = (steps ≤ from + most) × (min (from + least) (2 ^ 64 - 1) ≤ steps)

-- to see that the first of the pieces isn't skipped takes one look at its key; where there is none, no look
abbrev pub last_look : List (ℕ × Piece) → ℕ
last_look [] = 0
last_look (m ∷ rest) = 1

-- after those before, of the pieces that follow, whole pieces of greater key are skipped, and no further one
-- is of greater key; the last piece then has this number, and the next one's key was looked at, and those of no more than the
-- skipped ones
pub record IsSkip (key : Key) (before after : List (ℕ × Piece)) (last : Option ℕ) (from steps : ℕ) : Type 0 where
  pub skipped : List (ℕ × Piece)
  pub rest : List (ℕ × Piece)
  pub whole : after ≡ skipped ++ rest
  pub greater : All (λ m. is_below key m.1.key ≡ true) skipped
  pub stops : BeginNotAbove key rest
  pub last_is : last_tag (before ++ skipped) ≡ last
  pub counts : IsCountedBetween from (last_look rest) (length skipped + last_look rest) steps

-- new is these pieces, of which the one of this number may be one with the piece before it
abbrev pub AreOrAreJoined : (tag : ℕ) → (parts new : List (ℕ × Piece)) → Type 0
AreOrAreJoined tag parts new = (new ≡ parts) ⊎ ((first : ℕ) × (n : ℕ) × IsSplit first n tag new parts)

-- new is old, split after the anchor where that is needed, with this piece in its gap; the steps are the comparisons that find the
-- anchor, and a look at the key of the piece after those skipped, and of no more than those
pub record IsInsertedInGap (cause : Anchor) (p : Piece) (old new : List (ℕ × Piece)) (steps : ℕ) : Type 0 where
  pub before : List (ℕ × Piece)
  pub skipped : List (ℕ × Piece)
  pub after : List (ℕ × Piece)
  pub tag : ℕ
  pub gap : IsPieceGap p.key cause before skipped after
  pub split : IsSplitThere old before (skipped ++ after)
  pub spells : spelled (before ++ skipped ++ after) ≡ spelled old
  pub insert : AreOrAreJoined tag (before ++ skipped ++ (tag, p) ∷ after) new
  pub counts : IsCountedBetween (compared cause) (last_look after) (length skipped + last_look after) steps
