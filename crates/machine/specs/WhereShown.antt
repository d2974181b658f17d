-- Where the characters of some names are shown, and how that is printed.
use Rattle.std.specs.Prelude.{ℕ, ◌+◌, List, [], ◌∷◌, ◌++◌, ◌&&◌, ◌==◌, if◌then◌else◌, Option, codes, position, slice_range}
use Rattle.std.specs.List.{flat_map}
use Rattle.std.specs.Option.{option_map_or}
use Rattle.std.specs.Fmt.{decimal}
use Rattle.char_files.specs.CharName.{CharName}
use Rattle.char_files.specs.declared.character.Char.{Char}
use Rattle.machine.specs.Printing.{line, print_of}

-- Neighbouring names of a site that are shown one after the other: the first one's offset in the site's file, where it is
-- shown, and how many they are.
pub record ShownRange : Type 0 where
  pub at : ℕ
  pub pos : ℕ
  pub len : ℕ

-- where the character of a name is shown
abbrev pub shown_at : List Char → CharName → Option ℕ
shown_at chars name = position (λ c. c.name.site == name.site && c.name.off == name.off) chars

-- a name that is shown here, in front of others: the first of them go on from it, or it stands by itself
abbrev pub with_shown : (off pos : ℕ) → List ShownRange → List ShownRange
with_shown off pos [] = record { at = off; pos = pos; len = 1 } ∷ []
with_shown off pos (s ∷ others) =
    if s.at == off + 1 && s.pos == pos + 1 then record { at = off; pos = pos; len = s.len + 1 } ∷ others
    else record { at = off; pos = pos; len = 1 } ∷ s ∷ others

-- where these names of a site stand, in their order; those that aren't shown are left out
abbrev pub shown_ranges : List Char → List CharName → List ShownRange
shown_ranges chars [] = []
shown_ranges chars (name ∷ names) =
    option_map_or (λ pos. with_shown name.off pos (shown_ranges chars names)) (shown_at chars name) (shown_ranges chars names)

-- the line of names that stand so: the first one's offset, its position, how many there are, and their characters
abbrev pub shown_line : List Char → ShownRange → List ℕ
shown_line chars s =
    line (codes "shown " ++ decimal s.at ++ 32 ∷ decimal s.pos ++ 32 ∷ decimal s.len
    ++ 32 ∷ print_of (slice_range chars s.pos (s.pos + s.len)))

-- the lines of some names, where they are shown
abbrev pub shown_lines : List Char → List CharName → List ℕ
shown_lines chars names = flat_map (shown_line chars) (shown_ranges chars names)

-- the answer to `where`: these lines, then `ok`
abbrev pub where_lines : List Char → List CharName → List ℕ
where_lines chars names = shown_lines chars names ++ line (codes "ok")
