-- Values by the sites' numbers.
use Rattle.std.specs.Prelude.{◌≡◌, ℕ, nat_eq, List, Some, slice_get, if◌then◌else◌}
use Rattle.std.specs.Map.{lookup}

module _ {V : Type 0} where
  -- at this place stands the site's value
  abbrev pub HoldsSiteValue : List (ℕ × V) → (site slot : ℕ) → Type 0
  HoldsSiteValue values site slot = (value : V) × (slice_get values slot ≡ Some (site, value))
      × (lookup (nat_eq site) values ≡ Some value)

  -- the site has this value, and each other what it had
  abbrev pub IsPut : (old : List (ℕ × V)) (site : ℕ) (value : V) (new : List (ℕ × V)) → Type 0
  IsPut old site value new = (other : ℕ)
      → lookup (nat_eq other) new ≡ if nat_eq site other then Some value else lookup (nat_eq other) old
