-- The number that a text spells.
use Rattle.std.specs.Prelude.{ℕ, ◌^◌, List, length, ◌&&◌, nat_le, nat_lt, if◌then◌else◌, Option, Some, None, option_and_then}
use Rattle.std.specs.Str.{all_ascii_digits}
use Rattle.std.specs.Str.Parse.{digits_value}

-- one decimal digit or more, and nothing else, with a value below 2^16
abbrev pub decimal_in : List ℕ → Option ℕ
decimal_in text =
    if nat_le 1 (length text) && all_ascii_digits text && nat_lt (digits_value 10 text) (2 ^ 16)
    then Some (digits_value 10 text) else None

-- such a number within bounds
abbrev pub bounded_number : (least most : ℕ) → List ℕ → Option ℕ
bounded_number least most text = option_and_then
    (λ n. if nat_le least n && nat_le n most then Some n else None) (decimal_in text)

-- the same of a text, where there is one
abbrev pub number_found : (least most : ℕ) → Option (List ℕ) → Option ℕ
number_found least most text = option_and_then (bounded_number least most) text
