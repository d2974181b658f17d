-- What a contract sees of a list of pieces, and what its tables and its index keep.
use Rattle.std.specs.Prelude.{◌≡◌, ℕ, ◌+◌, ◌<◌, if◌then◌else◌, List, ◌∷◌, ◌++◌, map, Some, All}
use Rattle.char_files.specs.CharName.{CharName}
use Rattle.operations.specs.NameSet.{IsIn}
use Rattle.piece_raw.specs.Ring.{AreTags, IsMember, HasTag}
use Rattle.piece_list.specs.Piece.{Piece}
use Rattle.piece_list.specs.declared.spot.Spot.{Spot}
use Rattle.piece_list.specs.Pieces.{range_of, piece_front, rest_of}
use Rattle.piece_list.specs.Spelled.{spelled, ArePieces, HasName}
use Rattle.piece_list.specs.Numbers.{AreKeyed}
use Rattle.piece_list.specs.Tables.{Tables, tag_at}
use Rattle.piece_list.specs.Values.{Values}

-- how many characters a piece shows: none where they are hidden
abbrev pub shown_weight : Piece → ℕ
shown_weight p = if p.hidden.value then 0 else p.len

-- the pieces in order, each under its number, and how many steps the last `locate` or `place` took
pub record PiecesSeen : Type 0 where
  pub items : List (ℕ × Piece)
  pub steps : ℕ

-- the piece of this number holds the character of this name, after so many others
abbrev pub IsSpotOf : List (ℕ × Piece) → Spot → CharName → Type 0
IsSpotOf items spot c = (p : Piece) × IsMember items spot.piece p × (spot.within < p.len)
    × (c.site ≡ p.site) × (c.off ≡ p.off + spot.within)

-- each piece keeps its number and the first of its characters
abbrev pub KeepFirsts : (old new : List (ℕ × Piece)) → Type 0
KeepFirsts old new = (tag : ℕ) (c : CharName) → IsSpotOf old (record { piece = tag; within = 0 }) c
    → IsSpotOf new (record { piece = tag; within = 0 }) c

-- each piece's names are entered under its number, and each entry is the number of a piece, and of a name that is
-- spelled
pub record AreEntered (items : List (ℕ × Piece)) (tables : Tables) : Type 0 where
  pub pieces : ArePieces items
  pub entered : All (λ m. (c : CharName) → IsIn (range_of m.1) c → tag_at tables c ≡ Some m.0) items
  pub held : (c : CharName) (tag : ℕ) → tag_at tables c ≡ Some tag → HasTag items tag
  pub known : (c : CharName) (tag : ℕ) → tag_at tables c ≡ Some tag → HasName (spelled items) c

-- the pieces' numbers, each with how many characters the piece shows
abbrev pub weighed : List (ℕ × Piece) → List (ℕ × ℕ)
weighed items = map (λ m. (m.0, shown_weight m.1)) items

-- what is changed together: the pieces in order, each under its number, the values of their registers, the tables that
-- find one by a name, and how many more pieces take no memory
pub record HeldPieces : Type 0 where
  pub items : List (ℕ × Piece)
  pub values : Values
  pub tables : Tables
  pub room : ℕ

-- no number is used twice, the tables have the pieces' names, and the index has what each piece shows, and its key
pub record AreHeld (items : List (ℕ × Piece)) (tables : Tables) (weights : List (ℕ × ℕ)) (keys : List ℕ) : Type 0 where
  pub numbered : AreTags items
  pub entered : AreEntered items tables
  pub indexed : weights ≡ weighed items
  pub keyed : AreKeyed items keys

-- there is a piece of this number, with more characters than so many
abbrev pub HasSpot : List (ℕ × Piece) → Spot → Type 0
HasSpot items spot = (p : Piece) × IsMember items spot.piece p × (spot.within < p.len)

-- new is old with the piece of this number split after its first n characters; the rest has the other number
pub record IsSplit (tag n rest : ℕ) (old new : List (ℕ × Piece)) : Type 0 where
  pub before : List (ℕ × Piece)
  pub after : List (ℕ × Piece)
  pub piece : Piece
  pub whole : old ≡ before ++ (tag, piece) ∷ after
  pub within : n < piece.len
  pub parts : new ≡ before ++ (tag, piece_front n piece) ∷ (rest, rest_of n piece) ∷ after
