-- Sets of names, as the stretches that a site's neighbouring names make.
use Rattle.std.specs.Prelude.{◌≡◌, ℕ, ◌+◌, ◌^◌, ◌<◌, ◌≤◌, ◌⊎◌, Bool, ◌==◌, nat_lt, nat_le, ◌&&◌, ◌||◌}
use Rattle.std.specs.Prelude.{if◌then◌else◌, List, [], ◌∷◌, ◌++◌, length, take, drop, map, All, Any}
use Rattle.std.specs.Prelude.{AllPairs, Contains, ◌↔◌}
use Rattle.std.specs.List.{range_with_len, flat_map}
use Rattle.std.specs.List.Sorted.{IsPartitionPoint}
use Rattle.char_files.specs.CharName.{CharName}
use Rattle.char_files.specs.declared.TheConstants.{MAX_FILE}
use Rattle.operations.specs.declared.name_set.TheConstants.{MAX_RANGES}

-- len neighbouring names of one site, from at on
pub record Range : Type 0 where
  pub site : ℕ
  pub at : ℕ
  pub len : ℕ

-- the name is one of the range's
abbrev pub IsIn : Range → CharName → Type 0
IsIn r name = (name.site ≡ r.site) × (r.at ≤ name.off) × (name.off < r.at + r.len)

-- the name is one of the set's
abbrev pub IsAmong : List Range → CharName → Type 0
IsAmong names name = Any (λ r. IsIn r name) names

-- one name at least, all of them within a site's file
abbrev pub IsRange : Range → Type 0
IsRange r = (0 < r.site) × (r.site < 2 ^ 16) × (0 < r.len) × (r.at + r.len ≤ MAX_FILE)

-- one name of a site's file
abbrev pub IsFileName : CharName → Type 0
IsFileName name = (0 < name.site) × (name.site < 2 ^ 16) × (name.off < MAX_FILE)

-- r stands before s, and doesn't touch it
abbrev pub IsBefore : Range → Range → Type 0
IsBefore r s = (r.site < s.site) ⊎ ((r.site ≡ s.site) × (r.at + r.len < s.at))

-- the maximal ranges of a set, rising
pub record IsSet (names : List Range) : Type 0 where
  pub ranges : All IsRange names
  pub rising : AllPairs IsBefore names

-- what a message may name: 1 to 1,024 ranges
pub record IsNamed (names : List Range) : Type 0 where
  pub set : IsSet names
  pub some : 0 < length names
  pub few : length names ≤ MAX_RANGES

-- the ranges below at stand before r, the others don't
abbrev pub IsInsertionPoint : List Range → ℕ → Range → Type 0
IsInsertionPoint ranges at r = IsPartitionPoint (λ s. IsBefore s r) (λ s. ¬ IsBefore s r) ranges at

-- the name alone
abbrev pub of_name : CharName → Range
of_name name = record { site = name.site; at = name.off; len = 1 }

-- the names of a range, rising
abbrev pub names_of : Range → List CharName
names_of r = map (λ off. record { site = r.site; off = off }) (range_with_len r.at r.len)

-- the names of all ranges, one range after the other
abbrev pub names_in : List Range → List CharName
names_in ranges = flat_map names_of ranges

-- whether r stands before s, and doesn't touch it
abbrev pub comes_before : Range → Range → Bool
comes_before r s = nat_lt r.site s.site || (r.site == s.site && nat_lt (r.at + r.len) s.at)

-- whether s goes on where r ends
abbrev pub touches : Range → Range → Bool
touches r s = r.site == s.site && r.at + r.len == s.at

-- whether the name is one of r's
abbrev pub range_contains : Range → CharName → Bool
range_contains r name = name.site == r.site && nat_le r.at name.off && nat_lt name.off (r.at + r.len)

-- the ranges with r before them, in one with the first of them where they touch
abbrev pub with_first : Range → List Range → List Range
with_first r [] = r ∷ []
with_first r (s ∷ ranges) = if touches r s then record r { len = r.len + s.len } ∷ ranges else r ∷ s ∷ ranges

-- the same before the ranges from at on
abbrev pub with_range_at : List Range → ℕ → Range → List Range
with_range_at ranges at r = take at ranges ++ with_first r (drop at ranges)

-- r instead of the range at at, in one with the next where they touch
abbrev pub with_other_at : List Range → ℕ → Range → List Range
with_other_at ranges at r = take at ranges ++ with_first r (drop (at + 1) ranges)

-- the set with this name too
abbrev pub with_name : List Range → CharName → List Range
with_name [] name = of_name name ∷ []
with_name (r ∷ ranges) name =
    if comes_before r (of_name name) then r ∷ with_name ranges name
    else (if touches r (of_name name) then with_first (record r { len = r.len + 1 }) ranges
    else (if range_contains r name then r ∷ ranges else with_first (of_name name) (r ∷ ranges)))

-- the set of these names, put in one by one
abbrev pub set_of : List CharName → List Range
set_of [] = []
set_of (name ∷ names) = with_name (set_of names) name

-- `set_of` makes the set that has these names and no others
abbrev pub SetOfHasTheNames : Type 0
SetOfHasTheNames =
    (names : List CharName) → (All IsFileName names → IsSet (set_of names))
    × ((c : CharName) → IsAmong (set_of names) c ↔ Contains names c)

-- sets that have the same names are one
abbrev pub NamesDetermineTheSet : Type 0
NamesDetermineTheSet =
    (xs ys : List Range) → IsSet xs → IsSet ys → ((c : CharName) → IsAmong xs c ↔ IsAmong ys c) → xs ≡ ys

-- r's first name is no later than that of s
abbrev pub StartsNoLater : Range → Range → Type 0
StartsNoLater r s = (r.site < s.site) ⊎ ((r.site ≡ s.site) × (r.at ≤ s.at))
