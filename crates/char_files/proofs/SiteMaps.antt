-- A site's value where it stands, and a map after it was written there.
use Rattle.std.proofs.Common.{◌≡◌, ℕ, nat_eq, List, Some, slice_get, sym, ap, ◌∙◌}
use Rattle.std.specs.Cmp.{nat_eq_equiv}
use Rattle.std.specs.Map.{lookup}
use Rattle.std.specs.Option.{option_map}
use Rattle.std.proofs.lemmas.Option.{slice_get-map}
use Rattle.indexmap.specs.IndexMap.{IndexMap, IsUnique, values, with_value_at}
use Rattle.indexmap.proofs.CallerLemmas.{updates-with_value_at}
use Rattle.char_files.specs.SiteMap.{HoldsSiteValue, IsPut}

-- where the site's number stands, its value does
pub stands : {V : Type 0} (entries : List (ℕ × V)) (site slot key : ℕ) (value : V) → key ≡ site
    → slice_get entries slot ≡ Some (key, value) → lookup (nat_eq site) entries ≡ Some value → HoldsSiteValue entries site slot
stands entries site slot key value same there own = (value, there ∙ ap (λ (k : ℕ). Some (k, value)) same, own)

module _ {V S : Type 0} (m : IndexMap ℕ V S) (site slot : ℕ) (at : HoldsSiteValue m.entries site slot) where
  -- so it is what is read there
  pub read_at : slice_get (values m) slot ≡ lookup (nat_eq site) m.entries
  read_at =
      let (x, there, own) = at in
      slice_get-map (λ (e : ℕ × V). e.1) m.entries slot ∙ ap (option_map (λ (e : ℕ × V). e.1)) there ∙ sym own

  -- and what is written there is put
  pub put_at : IsUnique nat_eq m → (w : V) → IsPut m.entries site w (with_value_at m slot w).entries
  put_at unique w =
      let (x, there, own) = at in
      (updates-with_value_at m slot w nat_eq_equiv unique site x there).0
