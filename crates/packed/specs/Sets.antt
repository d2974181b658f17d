-- Sets of names in packed histories: how many ranges, less one, and what each has after the one before.
use Rattle.std.specs.Prelude.{◌≡◌, ℕ, zero, suc, ◌+◌, ◌-◌, ◌^◌, ◌<◌, ◌⊎◌, nat_lt, nat_le, ◌==◌, ◌&&◌}
use Rattle.std.specs.Prelude.{if◌then◌else◌, List, [], ◌∷◌, ◌++◌, length, Option, Some, None, Bool, false}
use Rattle.std.specs.Option.{option_map_or}
use Rattle.char_files.specs.declared.TheConstants.{MAX_FILE}
use Rattle.byte_fields.specs.Fields.{◌>>=◌}
use Rattle.operations.specs.declared.name_set.TheConstants.{MAX_RANGES}
use Rattle.operations.specs.NameSet.{Range}
use Rattle.packed.specs.Numbers.{sevens, sevens_at}

-- r stands after a range of this site that ends there, and doesn't touch it
abbrev pub FollowsApart : (site end : ℕ) → Range → Type 0
FollowsApart site end r = (site < r.site) ⊎ ((site ≡ r.site) × (end < r.at))

-- how many names are between, if the site is the same, else before r
abbrev pub gap_before : (site end : ℕ) → Range → ℕ
gap_before site end r = if r.site == site then r.at - (end + 1) else r.at

-- a range after one of this site that ends there: how much greater its site is, the gap, and its length less one
unfoldable pub range_after : (site end : ℕ) → Range → List ℕ
range_after site end r = sevens (r.site - site) ++ sevens (gap_before site end r) ++ sevens (r.len - 1)

-- ranges, each after the one before
unfoldable pub ranges_after : (site end : ℕ) → List Range → List ℕ
ranges_after site end [] = []
ranges_after site end (r ∷ ranges) = range_after site end r ++ ranges_after r.site (r.at + r.len) ranges

-- a set of names: how many ranges there are, less one, then the ranges
unfoldable pub packed_set : List Range → List ℕ
packed_set names = sevens (length names - 1) ++ ranges_after 0 0 names

-- these names, where there is such a site and they are within its file
abbrev pub range_in_file : (site at len : ℕ) → Option Range
range_in_file site at len =
    if nat_lt 0 site && nat_lt site (2 ^ 16) && nat_le (at + len) MAX_FILE
    then Some (record { site = site; at = at; len = len }) else None

-- a range after one of this site that ends there
unfoldable pub range_after_at : (site end : ℕ) → List ℕ → Option (Range × List ℕ)
range_after_at site end bytes = do
  further ← sevens_at bytes
  gap ← sevens_at further.1
  more ← sevens_at gap.1
  range ← range_in_file (site + further.0) (if further.0 == 0 then end + 1 + gap.0 else gap.0) (more.0 + 1)
  Some (range, more.1)

-- so many ranges, each after the one before
unfoldable pub ranges_after_at : (count site end : ℕ) → List ℕ → Option (List Range × List ℕ)
ranges_after_at zero site end bytes = Some ([], bytes)
ranges_after_at (suc n) site end bytes = do
  first ← range_after_at site end bytes
  others ← ranges_after_at n first.0.site (first.0.at + first.0.len) first.1
  Some (first.0 ∷ others.0, others.1)

-- so many ranges; none where the bytes don't begin with so many
abbrev pub packed_ranges_in : ℕ → List ℕ → List Range
packed_ranges_in count bytes = option_map_or (λ x. x.0) (ranges_after_at count 0 0 bytes) []

-- a set of names: 1 to 1,024 ranges
unfoldable pub packed_set_at : List ℕ → Option (List Range × List ℕ)
packed_set_at bytes = do
  more ← sevens_at bytes
  if nat_lt more.0 MAX_RANGES then ranges_after_at (more.0 + 1) 0 0 more.1 else None

-- the set is one name
abbrev pub is_one : List Range → Bool
is_one [] = false
is_one (r ∷ []) = r.len == 1
is_one (r ∷ s ∷ names) = false
