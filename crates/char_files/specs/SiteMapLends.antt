-- What a map ends as, once a `&mut` to a site's value has ended.
use Rattle.std.specs.Prelude.{◌≡◌, ℕ, nat_eq, List, Option, IsSome}
use Rattle.std.specs.Map.{lookup}
use Rattle.std.specs.Borrow.{Fml, LendsSo, MutBor, RattleType}
use Rattle.char_files.specs.SiteMap.{IsPut}
use Rattle.char_files.specs.contracts.site_map.SiteMap.{the_row}

-- the site has the last value written through r; without one, all is as it was
abbrev pub lends_site_value : (V : RattleType) → MutBor (List (ℕ × V.Denot)) → ℕ → Option (MutBor V.Denot) → Fml
lends_site_value V m site r = LendsSo (the_row V) V m r (λ values w. IsSome (lookup (nat_eq site) m.now) → IsPut m.now site w values)
    (λ values. values ≡ m.now)
