-- A map whose values stand under keys of their own.
use Rattle.std.specs.Prelude.{◌≡◌, Bool, List, Contains}
use Rattle.std.specs.List.{IsDistinct}
use Rattle.std.specs.Map.{keys_of}

module _ {K X : Type 0} where
  -- each value stands under its key, and no key stands twice
  pub record StandUnderKeys (eq : K → K → Bool) (key_of : X → K) (entries : List (K × X)) : Type 0 where
    pub keyed : (k : K) (x : X) → Contains entries (k, x) → k ≡ key_of x
    pub distinct : IsDistinct eq (keys_of entries)
