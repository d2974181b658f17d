use Rattle.std.specs.Prelude.{ℕ, ◌≤◌, Bool, ◌||◌, ◌==◌, List, length, IsTrue, slice_index}
use Rattle.std.specs.Char.{is_ascii_alphabetic, is_ascii_alphanumeric}
use Rattle.std.specs.List.{AllPass}
use Rattle.looks.specs.declared.font_name.TheConstants.{MAX_FONT_NAME}

-- a letter, a digit or a full stop
abbrev pub is_font_byte : ℕ → Bool
is_font_byte b = is_ascii_alphanumeric b || b == 46

-- 1 to 31 letters, digits and full stops, the first a letter
pub record IsFontName (bytes : List ℕ) : Type 0 where
  pub some : 1 ≤ length bytes
  pub few : length bytes ≤ MAX_FONT_NAME
  pub first : IsTrue (is_ascii_alphabetic (slice_index bytes 0))
  pub each : AllPass is_font_byte bytes
