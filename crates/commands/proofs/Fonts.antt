-- Names that a font may have.
use Rattle.std.proofs.Common.{◌≡◌, ℕ, ◌↔◌, Bool, true, false, List, Option, Some, None, refl, ap}
use Rattle.std.specs.Prelude.{IfSome, IsSome, if◌then◌else◌}
use Rattle.looks.specs.FontName.{IsFontName}
use Rattle.operations.proofs.Fields.{font_name_is}
use Rattle.operations.specs.Reading.{is_font_name}

-- a name is told as a font exactly where a font may have it
pub font_named : (name : List ℕ) (told : Option (List ℕ)) → IsSome told ↔ IsFontName name → IfSome told (λ font. font ≡ name)
    → told ≡ (if is_font_name name then Some name else None)
font_named name (Some font) valid same = rw ((font_name_is name).1 (valid.0 refl)) (ap Some same)
font_named name None valid same = by (is_font_name name) refl
  where
    by : (is : Bool) → is_font_name name ≡ is → None ≡ (if is then Some name else None)
    by true is =
        let lost = valid.1 ((font_name_is name).0 is) in
        absurd cc
    by false is = refl
