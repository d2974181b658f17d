-- The words of a line, with one blank between them, and the numbers that they spell.
use Rattle.std.specs.Prelude.{ℕ, ◌+◌, ◌-◌, ◌^◌, List, length, take, drop, Bool, ◌&&◌, ◌==◌}
use Rattle.std.specs.Prelude.{nat_eq, nat_le, nat_lt, if◌then◌else◌, Option, Some, None, option_and_then}
use Rattle.std.specs.Prelude.{option_map, position}
use Rattle.std.specs.Option.{option_map_or}
use Rattle.std.specs.Cmp.Lexicographic.{pointwise}
use Rattle.std.specs.Str.{all_ascii_digits}
use Rattle.std.specs.Str.Parse.{digits_value}
use Rattle.machine.specs.declared.TheConstants.{MAX_TEXT}

infixl 10 ◌>>=◌
-- what f makes of a value, where there is one
abbrev pub ◌>>=◌ : {A B : Type 0} → Option A → (A → Option B) → Option B
o >>= f = option_and_then f o

-- v where the test holds
abbrev pub some_if : {A : Type 0} → Bool → A → Option A
some_if test v = if test then Some v else None

-- whether a word is this one
abbrev pub is_word : List ℕ → List ℕ → Bool
is_word word other = pointwise nat_eq word other

-- the word up to the first blank, and what stands after that blank
abbrev pub split_word : List ℕ → Option (List ℕ × List ℕ)
split_word bytes = option_map (λ i. (take i bytes, drop (i + 1) bytes)) (position (λ b. b == 32) bytes)

-- the word in front, and what stands after its blank: nothing where it is the line's last word
abbrev pub front_word : List ℕ → List ℕ × Option (List ℕ)
front_word words = option_map_or (λ cut. (cut.0, Some cut.1)) (split_word words) (words, None)

-- a number: 1 to 10 decimal digits, with a value to 2^32 - 1
abbrev pub number_in : List ℕ → Option ℕ
number_in word =
    some_if (nat_le 1 (length word) && nat_le (length word) 10 && all_ascii_digits word
    && nat_lt (digits_value 10 word) (2 ^ 32)) (digits_value 10 word)

-- the number up to the first blank, and what stands after that blank
abbrev pub split_number : List ℕ → Option (ℕ × List ℕ)
split_number bytes = do
  cut ← split_word bytes
  n ← number_in cut.0
  Some (n, cut.1)

-- the index among the run's sites of the site with this number
abbrev pub desk_in : (first count : ℕ) → List ℕ → Option ℕ
desk_in first count word =
    number_in word >>= λ site. some_if (nat_le first site && nat_lt site (first + count)) (site - first)

-- the number of a text of a desk
abbrev pub text_in : List ℕ → Option ℕ
text_in word = number_in word >>= λ text. some_if (nat_le 1 text && nat_le text MAX_TEXT) text
