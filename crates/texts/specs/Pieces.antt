-- The pieces of a stretch that are still to be inserted.
use Rattle.std.specs.Prelude.{ℕ, ◌<◌, List, [], ◌∷◌, ◌++◌, length, drop}
use Rattle.std.specs.List.{flat_map}
use Rattle.char_files.specs.Stretch.{Item, Stretch}
use Rattle.texts.specs.Edit.{parts_of, pieces_of}

-- the pieces of runs of whose first one so many bytes are read
abbrev pub pieces_left : List Stretch → ℕ → List Stretch
pieces_left [] read = []
pieces_left (r ∷ runs) read = parts_of (record r { bytes = drop read r.bytes }) ++ flat_map parts_of runs

-- how many bytes the first of some pieces has; none where there is no piece
abbrev pub first_of : List Stretch → ℕ
first_of [] = 0
first_of (p ∷ pieces) = length p.bytes

-- how many bytes the first piece of a stretch has
abbrev pub first_len : List Item → ℕ
first_len items = first_of (pieces_of items)

-- a byte of the first run is left, and no other one is empty
abbrev pub AreUnread : List Stretch → ℕ → Type 0
AreUnread [] read = Unit {0}
AreUnread (r ∷ runs) read = (read < length r.bytes) × AreUnread runs 0
