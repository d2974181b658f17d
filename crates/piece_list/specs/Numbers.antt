-- Keys as numbers.
use Rattle.std.specs.Prelude.{◌≡◌, ℕ, ◌+◌, ◌-◌, ◌*◌, ◌^◌, List, All, Some, min, slice_get}
use Rattle.looks.specs.declared.key.Key.{Key}
use Rattle.piece_list.specs.Piece.{Piece}

-- the stamp and then the site, as far as a u64 reaches: a lesser key's number is never greater
abbrev pub key_number : Key → ℕ
key_number key = min (key.stamp * 2 ^ 16 + min key.site (2 ^ 16 - 1)) (2 ^ 64 - 1)

-- the number of each piece's key stands under the piece's number
abbrev pub AreKeyed : List (ℕ × Piece) → List ℕ → Type 0
AreKeyed items keys = All (λ m. slice_get keys m.0 ≡ Some (key_number m.1.key)) items
