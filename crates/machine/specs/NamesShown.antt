-- The names of the characters that are shown in a part of a text, and how they are printed.
use Rattle.std.specs.Prelude.{ℕ, ◌+◌, List, [], ◌∷◌, ◌++◌, map, codes, slice_range}
use Rattle.std.specs.List.{flat_map}
use Rattle.std.specs.Fmt.{decimal}
use Rattle.char_files.specs.CharName.{CharName}
use Rattle.char_files.specs.declared.character.Char.{Char}
use Rattle.operations.specs.NameSet.{Range, of_name, with_first}
use Rattle.machine.specs.Printing.{line}

-- names that follow one another, shown one after the other, and the position of the first of them
pub record NamedStretch : Type 0 where
  pub pos : ℕ
  pub names : Range

-- these names in their order, as few ranges: a name that follows the one before it is of that one's range
abbrev pub ranges_of : List CharName → List Range
ranges_of [] = []
ranges_of (name ∷ names) = with_first (of_name name) (ranges_of names)

-- ranges that are shown one after the other, from this position on
abbrev pub shown_from : (pos : ℕ) → List Range → List NamedStretch
shown_from pos [] = []
shown_from pos (r ∷ ranges) = record { pos = pos; names = r } ∷ shown_from (pos + r.len) ranges

-- the names of what is shown from beg to end
abbrev pub named_stretches : List Char → (beg end : ℕ) → List NamedStretch
named_stretches chars beg end = shown_from beg (ranges_of (map (λ c. c.name) (slice_range chars beg end)))

-- the line of such names: the position of the first, its site and its offset in that one's file, and how many there are
abbrev pub name_line : NamedStretch → List ℕ
name_line s =
    line (codes "name " ++ decimal s.pos ++ 32 ∷ decimal s.names.site ++ 32 ∷ decimal s.names.at
    ++ 32 ∷ decimal s.names.len)

-- their lines
abbrev pub name_lines : List NamedStretch → List ℕ
name_lines stretches = flat_map name_line stretches

-- the answer to `names`: these lines, then `ok`
abbrev pub names_lines : List Char → (beg end : ℕ) → List ℕ
names_lines chars beg end = name_lines (named_stretches chars beg end) ++ line (codes "ok")
