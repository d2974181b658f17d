-- The tables that say which piece holds a name.
use Rattle.std.specs.Prelude.{ℕ, ◌+◌, ◌++◌, take, drop, replicate, nat_eq, List, [], Option, None, Some, slice_index_or, if◌then◌else◌}
use Rattle.std.specs.Option.{option_map_or}
use Rattle.std.specs.Map.{lookup}
use Rattle.char_files.specs.CharName.{CharName}
use Rattle.piece_list.specs.declared.tags.TheConstants.{NO_TAG}

-- the number that an entry of four bytes stands for, if it does for one
abbrev pub tag_of : ℕ → Option ℕ
tag_of n = if nat_eq n NO_TAG then None else Some n

-- the number of the piece that holds the byte at an offset, if one does
abbrev pub tag_in : List (Option ℕ) → ℕ → Option ℕ
tag_in tags off = slice_index_or tags off None

-- entries of which those from an offset on, so many, are written over by this tag
abbrev pub written : List ℕ → (off len tag : ℕ) → List ℕ
written tags off len tag = take off tags ++ (replicate len tag ++ drop (off + len) tags)

-- tables by their sites' numbers
abbrev pub Tables : Type 0
Tables = List (ℕ × List (Option ℕ))

-- a site's table; an empty one where there is none
abbrev pub table_of : Tables → ℕ → List (Option ℕ)
table_of tables site = option_map_or (λ t. t) (lookup (nat_eq site) tables) []

-- the number of the piece that holds this name, if one does
abbrev pub tag_at : Tables → CharName → Option ℕ
tag_at tables c = tag_in (table_of tables c.site) c.off
