-- What contracts see of readers and writers.
use Rattle.std.specs.Prelude.{ℕ, ◌-◌, List, ◌++◌, map, replicate, length, take, drop, ℤ}
use Rattle.std.specs.Fmt.{signed_decimal}
use Rattle.looks.specs.declared.looks.Looks.{Looks}
use Rattle.char_files.specs.Stretch.{Item}

-- a source's characters, and a position in it
pub record ReaderState : Type 0 where
  pub items : List Item
  pub pos : ℕ

-- the characters' bytes
abbrev pub item_bytes : List Item → List ℕ
item_bytes items = map (λ item. item.0) items

-- the bytes from a position on
abbrev pub bytes_from : List Item → ℕ → List ℕ
bytes_from items pos = drop pos (item_bytes items)

-- the bytes from beg up to end
abbrev pub bytes_between : List Item → (beg end : ℕ) → List ℕ
bytes_between items beg end = take (end - beg) (bytes_from items beg)

-- what was written, and the looks of what is written next
pub record WriterState : Type 0 where
  pub written : List Item
  pub looks : Looks

-- bytes in these looks
abbrev pub in_looks : Looks → List ℕ → List Item
in_looks looks bytes = map (λ b. (b, looks)) bytes

-- a number in decimal digits, a minus sign before them where it is negative, filled with blanks on the left
abbrev pub filled_decimal : ℤ → ℕ → List ℕ
filled_decimal number width = replicate (width - length (signed_decimal number)) 32 ++ signed_decimal number
