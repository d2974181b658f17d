-- An index in chunks: neighbouring members that are looked through as a whole.
use Rattle.std.specs.Prelude.{◌≡◌, ℕ, ◌+◌, ◌-◌, ◌*◌, ◌<◌, ◌≤◌, ◌⊎◌, List, [], ◌∷◌, ◌++◌, Option, Some, None}
use Rattle.std.specs.Prelude.{All, length, max, min, slice_get}
use Rattle.std.specs.List.{flat_map}
use Rattle.rank_index.specs.declared.chunk.TheConstants.{MOST, HALF}
use Rattle.piece_raw.specs.Ring.{HasTag, AreTags}

-- the members of a chunk in order, the number under which they are entered as being in it, and which key it tells as the
-- least of theirs
pub record ChunkSeen : Type 0 where
  pub members : List (ℕ × ℕ)
  pub home : ℕ
  pub least : ℕ

-- the members of all chunks, one chunk after the other
abbrev pub members_of : List ChunkSeen → List (ℕ × ℕ)
members_of chunks = flat_map (λ c. c.members) chunks

-- each of these members is entered, by its tag, under this number
abbrev pub AreEnteredUnder : List ℕ → ℕ → List (ℕ × ℕ) → Type 0
AreEnteredUnder homes home members = (tag : ℕ) → HasTag members tag → slice_get homes tag ≡ Some home

-- each member is entered under the number of its chunk
abbrev pub AreHomes : List ℕ → List ChunkSeen → Type 0
AreHomes homes chunks = All (λ c. AreEnteredUnder homes c.home c.members) chunks

-- the table tells the slots of the first chunks, so many of them, by their homes
abbrev pub AreSlotsTo : List ℕ → List ChunkSeen → ℕ → Type 0
AreSlotsTo slots chunks most = (slot : ℕ) (c : ChunkSeen) → slot < most → slice_get chunks slot ≡ Some c
    → slice_get slots c.home ≡ Some slot

-- no two chunks have one home
abbrev pub HomesDiffer : List ChunkSeen → Type 0
HomesDiffer chunks = (j k : ℕ) (c d : ChunkSeen) → slice_get chunks j ≡ Some c → slice_get chunks k ≡ Some d
    → c.home ≡ d.home → j ≡ k

-- the table tells the slot of each chunk, by its home, and of none beside them
pub record AreInSlots (slots : List ℕ) (chunks : List ChunkSeen) : Type 0 where
  pub told : AreSlotsTo slots chunks (length chunks)
  pub counted : length slots ≡ length chunks

-- no chunk is half empty, but for the only one
abbrev pub AreHalfFull : List ChunkSeen → Type 0
AreHalfFull chunks = (length chunks ≡ 1) ⊎ All (λ c. HALF ≤ length c.members) chunks

-- there are chunks, and the table tells the chunk of each tag
pub record AreTied (homes : List ℕ) (chunks : List ChunkSeen) : Type 0 where
  pub tags : AreTags (members_of chunks)
  pub counted : length homes ≡ length (members_of chunks)
  pub entered : AreHomes homes chunks
  pub halves : AreHalfFull chunks
  pub some : 0 < length chunks

-- the chunks have no members
abbrev pub AreEmpty : List ChunkSeen → Type 0
AreEmpty chunks = All (λ c. c.members ≡ []) chunks

-- the chunk at this slot has the member of this tag
abbrev pub IsSlotOf : List ChunkSeen → ℕ → ℕ → Type 0
IsSlotOf chunks slot tag = (c : ChunkSeen) × (slice_get chunks slot ≡ Some c) × HasTag c.members tag

-- this slot is that of a member's chunk, or the first one
abbrev pub IsSlotAfter : List ChunkSeen → ℕ → Option ℕ → Type 0
IsSlotAfter chunks slot None = slot ≡ 0
IsSlotAfter chunks slot (Some tag) = IsSlotOf chunks slot tag

-- the chunk at this slot has room for one member more
abbrev pub HasRoomInChunk : List ChunkSeen → ℕ → Type 0
HasRoomInChunk chunks slot = (c : ChunkSeen) × (slice_get chunks slot ≡ Some c) × (length c.members < MOST)

-- the chunk at this slot has given its second half to a chunk that stands after it
pub record IsHalved (at : ℕ) (old new : List ChunkSeen) : Type 0 where
  pub before : List ChunkSeen
  pub whole : ChunkSeen
  pub after : List ChunkSeen
  pub front : ChunkSeen
  pub rest : ChunkSeen
  pub slot : at ≡ length before
  pub was : old ≡ before ++ whole ∷ after
  pub is : new ≡ before ++ front ∷ rest ∷ after
  pub parts : whole.members ≡ front.members ++ rest.members
  pub halves : (length front.members ≡ HALF) × (length rest.members ≡ HALF)

-- so many insertions find a chunk with room: each takes one spare chunk at most, and none is missing while there are fewer members
-- than fill one of all chunks whole and the others by half
abbrev pub chunk_room : ℕ → ℕ → ℕ → ℕ
chunk_room chunks spare members = max spare (HALF * (chunks + spare + 1) - members)

-- so many take no memory
abbrev pub index_room : ℕ → ℕ → ℕ → ℕ → ℕ
index_room slots chunks spare members = min slots (chunk_room chunks spare members)
