-- The values that the words of `looks` give.
use Rattle.std.proofs.Common.{◌≡◌, ◌↔◌, ℕ, List, Bool, true, false, Option, Some, None, refl, ap}
use Rattle.std.specs.Prelude.{IfSome, IsSome}
use Rattle.looks.specs.FontName.{IsFontName}
use Rattle.operations.specs.Reading.{is_font_name}
use Rattle.operations.proofs.Fields.{font_name_is}
use Rattle.script_events.specs.Words.{some_if}
use Rattle.script_events.specs.LooksWords.{font_in}

by_test : (test : Bool) (o : Option (List ℕ)) (word : List ℕ) → (IsSome o → test ≡ true) → (test ≡ true → IsSome o) → IfSome o (λ font. font ≡ word) → o ≡ some_if test word
by_test true None word to from is = let wrong : IsSome {T = List ℕ} None = from refl in absurd cc
by_test false None word to from is = refl
by_test true (Some font) word to from is = ap Some is
by_test false (Some font) word to from is = let wrong : false ≡ true = to refl in absurd cc

-- there is a font of this name just where it is a font's name
pub font_in-found : (o : Option (List ℕ)) (word : List ℕ) → (IsSome o ↔ IsFontName word) → IfSome o (λ font. font ≡ word) → o ≡ font_in word
font_in-found o word valid is =
    by_test (is_font_name word) o word (λ s. (font_name_is word).1 (valid.0 s)) (λ t. valid.1 ((font_name_is word).0 t)) is
