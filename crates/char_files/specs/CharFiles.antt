use Rattle.std.specs.Prelude.{◌≡◌, ◌≢◌, ℕ, nat_eq, List, []}
use Rattle.std.specs.Option.{option_map_or}
use Rattle.std.specs.Map.{lookup}

-- the bytes that a site inserted in a text, and how many more can be appended without taking memory
pub record FileSeen : Type 0 where
  pub bytes : List ℕ
  pub room : ℕ

-- files by their sites' numbers
abbrev pub FilesBySite : Type 0
FilesBySite = List (ℕ × FileSeen)

-- the bytes of a site's file; none where there is no file
abbrev pub bytes_of : FilesBySite → ℕ → List ℕ
bytes_of files site = option_map_or (λ f. f.bytes) (lookup (nat_eq site) files) []

-- how many more bytes the site's file takes without taking memory
abbrev pub file_room : FilesBySite → ℕ → ℕ
file_room files site = option_map_or (λ f. f.room) (lookup (nat_eq site) files) 0

-- the bytes of all other sites are the same
abbrev pub OtherSitesStay : FilesBySite → ℕ → FilesBySite → Type 0
OtherSitesStay old site new = (other : ℕ) → other ≢ site → bytes_of new other ≡ bytes_of old other

-- the bytes of all sites are the same
abbrev pub SameBytes : FilesBySite → FilesBySite → Type 0
SameBytes old new = (site : ℕ) → bytes_of new site ≡ bytes_of old site
