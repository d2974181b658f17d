-- What is kept of the messages of a text that are admitted, as a contract sees it.
use Rattle.std.specs.Prelude.{◌≡◌, ◌≢◌, ℕ, ◌+◌, ◌<◌, ◌≤◌, ◌↔◌, nat_eq, nat_le, Bool, ◌==◌, ◌&&◌, not, List, [], map, All}
use Rattle.std.specs.Prelude.{Contains, Some, IsSome, slice_get, length}
use Rattle.std.specs.Option.{is_some, option_map_or}
use Rattle.std.specs.Map.{lookup}
use Rattle.char_files.specs.CharName.{CharName}
use Rattle.operations.specs.NameSet.{Range}
use Rattle.operations.specs.Operation.{Operation, Inserts, Mentions}
use Rattle.tree_order.specs.Good.{IsPredecessor}
use Rattle.set_laws.specs.Verdict.{FitsFile}
use Rattle.note_laws.specs.Note.{Note, Saying, IsOfBase}

-- of each number what is kept of it: the offset after the last of its characters that was mentioned
abbrev pub Offsets : Type 0
Offsets = List (ℕ × ℕ)

-- that offset, 0 where none was mentioned
abbrev pub end_in : Offsets → ℕ → ℕ
end_in offsets site = option_map_or (λ n. n) (lookup (nat_eq site) offsets) 0

-- there is a place for it
abbrev pub HasPlace : Offsets → ℕ → Type 0
HasPlace offsets site = IsSome (lookup (nat_eq site) offsets)

-- the same by the numbers whose messages mentioned them
abbrev pub Seen : Type 0
Seen = List (ℕ × Offsets)

-- what a number's messages mentioned
abbrev pub offsets_of : Seen → ℕ → Offsets
offsets_of seen chain = option_map_or (λ offsets. offsets) (lookup (nat_eq chain) seen) []

abbrev pub seen_of : Seen → (chain site : ℕ) → ℕ
seen_of seen chain site = end_in (offsets_of seen chain) site

-- there is a place for each number of these ranges
pub record HasPlaces (seen : Seen) (chain : ℕ) (ranges : List Range) : Type 0 where
  pub known : IsSome (lookup (nat_eq chain) seen)
  pub each : All (λ r. HasPlace (offsets_of seen chain) r.site) ranges

-- the number's ranges end by this offset
abbrev pub RangesEndBy : List Range → (site off : ℕ) → Type 0
RangesEndBy ranges site off = All (λ r. r.site ≡ site → r.at + r.len ≤ off) ranges

-- the ranges were mentioned too
abbrev pub AreSeenIn : Offsets → List Range → Offsets → Type 0
AreSeenIn old ranges new = (site off : ℕ) → end_in new site ≤ off ↔ (end_in old site ≤ off) × RangesEndBy ranges site off

-- by this number, and all else is as it was
pub record AreSeenBy (old : Seen) (chain : ℕ) (ranges : List Range) (new : Seen) : Type 0 where
  pub own : AreSeenIn (offsets_of old chain) ranges (offsets_of new chain)
  pub others : (other : ℕ) → other ≢ chain → offsets_of new other ≡ offsets_of old other

-- numbers of the base
abbrev pub BaseSites : Type 0
BaseSites = List (ℕ × Unit {0})

-- the hashes of the messages in the order of their admission, what each number's messages mentioned of each number,
-- and the numbers of the base
pub record Kept : Type 0 where
  pub hashes : List ℕ
  pub seen : Seen
  pub base : BaseSites

-- all characters of the site that messages of the chain mentioned stand before the offset
abbrev pub MentionBelow : List Saying → (chain site off : ℕ) → Type 0
MentionBelow admitted chain site off =
    (p : Saying) (name : CharName) → Contains admitted p → p.op.site ≡ chain → Mentions p.op name
    → name.site ≡ site → name.off < off

-- this is kept of these messages of the note
pub record IsKeptOf (note : Note) (admitted : List Saying) (kept : Kept) : Type 0 where
  pub hashes : kept.hashes ≡ map (λ s. s.hash) admitted
  pub seen : (chain site off : ℕ) → seen_of kept.seen chain site ≤ off ↔ MentionBelow admitted chain site off
  pub base : (site : ℕ) → IsSome (lookup (nat_eq site) kept.base) ↔ IsOfBase note site

-- whether the name is another number's, not of the base, and after all that the chain mentioned of that number
abbrev pub is_past_seen : Kept → ℕ → CharName → Bool
is_past_seen kept chain name =
    not (name.site == chain) && not (is_some (lookup (nat_eq name.site) kept.base))
    && nat_le (seen_of kept.seen chain name.site) name.off

-- at one place stand an operation that inserted the character, and the hash
abbrev pub IsHashOfInsert : List Operation → List ℕ → CharName → ℕ → Type 0
IsHashOfInsert ops hashes name hash =
    (place : ℕ) × (op : Operation) × (slice_get ops place ≡ Some op) × Inserts op name
    × (slice_get hashes place ≡ Some hash)

-- its stamp is above its predecessor's, it fits its number's file, and it says what it builds on where it mentions names
-- beyond
pub record IsMadeOver (ops : List Operation) (s : Saying) (lasts : List CharName) : Type 0 where
  pub above : (p : Operation) → Contains ops p → IsPredecessor p s.op → p.stamp < s.op.stamp
  pub fits : FitsFile ops s.op
  pub says : IsSome s.on ↔ (0 < length lasts)
