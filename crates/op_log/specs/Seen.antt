-- The operations that were taken in, as a contract sees them.
use Rattle.std.specs.Prelude.{◌≡◌, ℕ, ◌<◌, ◌≤◌, nat_eq, List, Some, slice_get}
use Rattle.std.specs.Option.{option_map_or}
use Rattle.std.specs.Map.{lookup}
use Rattle.looks.specs.declared.looks.Looks.{Looks}
use Rattle.operations.specs.Operation.{Operation}

-- operations in order, the looks that runs of letters among them share, and for how many more there is room: of any
-- kind; runs of letters that begin; and letters of such runs
pub record OpsSeen : Type 0 where
  pub items : List Operation
  pub looks : List Looks
  pub room : ℕ
  pub runs : ℕ
  pub letters : ℕ

-- the operations in the order of their taking, for how many more the list has room, as above, and for how many more
-- of each site there is room beside it
pub record LogSeen : Type 0 where
  pub ops : List Operation
  pub room : ℕ
  pub runs : ℕ
  pub letters : ℕ
  pub rooms : List (ℕ × ℕ)

-- for how many operations more of a site there is room, 0 for one that isn't named
abbrev pub room_of : List (ℕ × ℕ) → ℕ → ℕ
room_of rooms site = option_map_or (λ n. n) (lookup (nat_eq site) rooms) 0

-- the site stands among these
abbrev pub IsKnownIn : List (ℕ × ℕ) → ℕ → Type 0
IsKnownIn rooms site = (place : ℕ) × (room : ℕ) × (slice_get rooms place ≡ Some (site, room))

-- the next operation of this site takes no memory
abbrev pub HasRoom : LogSeen → ℕ → Type 0
HasRoom log site = (0 < log.room) × (0 < room_of log.rooms site)

-- so many letters that the site types one after the other take no memory
abbrev pub HasRoomFor : LogSeen → (site len : ℕ) → Type 0
HasRoomFor log site len = (0 < log.runs) × (len ≤ log.letters) × (len ≤ room_of log.rooms site)

-- neither the list's room nor that of any site is less than it was
pub record KeepsRoom (old new : LogSeen) : Type 0 where
  pub list : old.room ≤ new.room
  pub runs : old.runs ≤ new.runs
  pub letters : old.letters ≤ new.letters
  pub sites : (site : ℕ) → room_of old.rooms site ≤ room_of new.rooms site
