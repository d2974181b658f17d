-- The tables that say where a site's operations stand.
use Rattle.std.specs.Prelude.{◌≡◌, ℕ, zero, suc, ◌+◌, ◌-◌, ◌<◌, ◌≤◌, nat_eq, List, [], ◌∷◌, ◌++◌, length, map, slice_get, get_or, Some}
use Rattle.std.specs.Option.{option_map_or}
use Rattle.std.specs.Map.{lookup}
use Rattle.op_log.specs.declared.site_log.Entry.{Entry}

-- what is known of a site: its operations by their numbers, and how many operations more take no memory
pub record SiteSeen : Type 0 where
  pub entries : List Entry
  pub room : ℕ

-- how long the site's file is after the last entry
abbrev pub entries_end : List Entry → ℕ
entries_end entries = option_map_or (λ e. e.end) (slice_get entries (length entries - 1)) 0

-- the first entry whose operation ends its site's file after the offset
pub record IsFirstPast (entries : List Entry) (off : ℕ) (e : Entry) : Type 0 where
  pub at : ℕ
  pub there : slice_get entries at ≡ Some e
  pub past : off < e.end
  pub before : (k : ℕ) (d : Entry) → k < at → slice_get entries k ≡ Some d → d.end ≤ off

-- the first n entries end their site's file at the offset or before it
abbrev pub EndBy : List Entry → ℕ → ℕ → Type 0
EndBy entries off n = (k : ℕ) (d : Entry) → k < n → (get_or entries k d).end ≤ off

-- the entry at this slot ends its site's file after the offset
abbrev pub EndsPast : List Entry → ℕ → ℕ → Type 0
EndsPast entries off slot = (slot < length entries) × ((d : Entry) → off < (get_or entries slot d).end)

-- the entry of the k-th letter that a site types after the one of this entry
abbrev pub letter_entry : Entry → ℕ → Entry
letter_entry first k = record { stamp = first.stamp + k; end = first.end + k; index = first.index + k }

-- the entries of the first n letters from that one on
abbrev pub letter_entries : Entry → ℕ → List Entry
letter_entries first zero = []
letter_entries first (suc n) = letter_entries first n ++ letter_entry first n ∷ []

-- tables by their sites' numbers
abbrev pub LogTables : Type 0
LogTables = List (ℕ × SiteSeen)

-- nothing is known of a site
abbrev pub unknown : SiteSeen
unknown = record { entries = []; room = 0 }

-- a site's table; an empty one where there is none
abbrev pub log_table : LogTables → ℕ → SiteSeen
log_table tables site = option_map_or (λ t. t) (lookup (nat_eq site) tables) unknown

-- a site's front: how many entries its table has
abbrev pub table_front : LogTables → ℕ → ℕ
table_front tables site = length (log_table tables site).entries

-- how many operations more of each site take no memory
abbrev pub rooms_of : LogTables → List (ℕ × ℕ)
rooms_of tables = map (λ t. (t.0, t.1.room)) tables
