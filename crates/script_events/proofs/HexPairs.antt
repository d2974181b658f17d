-- The bytes of two hex digits each, one more at a time.
use Rattle.std.proofs.Common.{◌≡◌, ℕ, ◌+◌, ◌*◌, ◌/◌, ◌%◌, ◌<◌, ◌≤◌, inl, inr, List, [], ◌∷◌, length, true, false, ◌==◌, Option, Some, None, option_map, refl, sym, ap, ◌∙◌, arith}
use Rattle.std.specs.Prelude.{Bool, IfSome, MatchBool, IsSome, is_some, option_and_then, unwrap_or}
use Rattle.std.specs.Bool.{then_some}
use Rattle.std.specs.Char.{IsAsciiHexdigit, IsNotAsciiHexdigit}
use Rattle.std.proofs.lemmas.Option.{same_Some}
use Rattle.hex.specs.Hex.{hex_digit_value}
use Rattle.script_events.specs.Script.{byte_of_digits, split_hex_byte, hex_in, hex_pairs}

-- a digit's value is the low half of its code, and 9 more for a letter
pub hex_digit-bits : (digit : Bool) (c : ℕ) → MatchBool digit (IsAsciiHexdigit c) (IsNotAsciiHexdigit c) → then_some digit (c % 16 + 9 * (c / 64)) ≡ hex_digit_value c
hex_digit-bits true c (inl (inl in_range)) = grind (arith, in_range.0, in_range.1)
hex_digit-bits true c (inl (inr in_range)) = grind (arith, in_range.0, in_range.1)
hex_digit-bits true c (inr in_range) = grind (arith, in_range.0, in_range.1)
hex_digit-bits false c out_of_ranges = grind (arith, out_of_ranges.0.0, out_of_ranges.0.1, out_of_ranges.1)

-- the bytes after the first
abbrev after : List ℕ → ℕ → Option (List ℕ)
after rest byte = option_map (λ bytes. byte ∷ bytes) (hex_pairs rest)

of_byte : (o : Option ℕ) (rest : List ℕ) (byte : ℕ) (left : List ℕ) → ◌≡◌ {A = Option (ℕ × List ℕ)} (Some (byte, left)) (option_map (λ b. (b, rest)) o) → option_and_then (after rest) o ≡ after left byte
of_byte None rest byte left e = absurd cc
of_byte (Some b) rest byte left e = sym (ap (λ (cut : ℕ × List ℕ). after cut.1 cut.0) (same_Some (byte, left) (b, rest) e))

-- a byte is cut, and the rest spells the others
pub hex_pairs-cut : (raw : List ℕ) (byte : ℕ) (left : List ℕ) → Some (byte, left) ≡ split_hex_byte raw → hex_pairs raw ≡ option_map (λ bytes. byte ∷ bytes) (hex_pairs left)
unfolding hex_pairs
hex_pairs-cut [] byte left e = absurd cc
hex_pairs-cut (digit ∷ []) byte left e = absurd cc
hex_pairs-cut (high ∷ low ∷ rest) byte left e = of_byte (byte_of_digits high low) rest byte left e

of_none : (o : Option ℕ) (rest : List ℕ) → ◌≡◌ {A = Option (ℕ × List ℕ)} None (option_map (λ b. (b, rest)) o) → option_and_then (after rest) o ≡ None
of_none None rest e = refl
of_none (Some b) rest e = absurd cc

-- where no byte can be cut, none are spelled
pub hex_pairs-wrong : (raw : List ℕ) → 0 < length raw → None ≡ split_hex_byte raw → hex_pairs raw ≡ None
unfolding hex_pairs
hex_pairs-wrong [] some e = absurd (omega arith)
hex_pairs-wrong (digit ∷ []) some e = refl
hex_pairs-wrong (high ∷ low ∷ rest) some e = of_none (byte_of_digits high low) rest e

pub hex_pairs-end : (raw : List ℕ) → length raw ≡ 0 → hex_pairs raw ≡ Some []
unfolding hex_pairs
hex_pairs-end [] none = refl
hex_pairs-end (digit ∷ raw) none = absurd (omega arith)

-- no more bytes are spelled than there are digits
one_longer : (o : Option (List ℕ)) (byte n : ℕ) → IfSome o (λ bytes. length bytes ≤ n) → IfSome (option_map (λ bytes. byte ∷ bytes) o) (λ bytes. length bytes ≤ n + 2)
one_longer None byte n h = tt
one_longer (Some bytes) byte n h = omega arith

longer : (o : Option ℕ) (rest : List ℕ) → IfSome (hex_pairs rest) (λ bytes. length bytes ≤ length rest) → IfSome (option_and_then (after rest) o) (λ bytes. length bytes ≤ length rest + 2)
longer None rest h = tt
longer (Some byte) rest h = one_longer (hex_pairs rest) byte (length rest) h

weaker : (o : Option (List ℕ)) (n m : ℕ) → n ≤ m → IfSome o (λ bytes. length bytes ≤ n) → IfSome o (λ bytes. length bytes ≤ m)
weaker None n m le h = tt
weaker (Some bytes) n m le h = omega arith

pub hex_pairs-short : (raw : List ℕ) → IfSome (hex_pairs raw) (λ bytes. length bytes ≤ length raw)
unfolding hex_pairs
hex_pairs-short [] = omega arith
hex_pairs-short (digit ∷ []) = tt
hex_pairs-short (high ∷ low ∷ rest) = weaker _ (length rest + 2) (length (high ∷ low ∷ rest)) (omega arith) (longer (byte_of_digits high low) rest (hex_pairs-short rest))

-- what is left is spelled just where all of it is
pub record IsChecked (raw rest : List ℕ) : Type 0 where
  pub same : is_some (hex_pairs rest) ≡ is_some (hex_pairs raw)

is_some-map : (byte : ℕ) (o : Option (List ℕ)) → is_some (option_map (λ bytes. byte ∷ bytes) o) ≡ is_some o
is_some-map byte None = refl
is_some-map byte (Some bytes) = refl

pub IsChecked-more : {raw rest : List ℕ} (byte : ℕ) (left : List ℕ) → IsChecked raw rest → Some (byte, left) ≡ split_hex_byte rest → IsChecked raw left
IsChecked-more {raw} {rest} byte left i cut_is =
    record { same = sym (ap is_some (hex_pairs-cut rest byte left cut_is) ∙ is_some-map byte (hex_pairs left)) ∙ i.same }

none_there : (o : Option (List ℕ)) → false ≡ is_some o → o ≡ None
none_there None e = refl
none_there (Some bytes) e = absurd cc

some_there : (o : Option (List ℕ)) → true ≡ is_some o → Some (unwrap_or o []) ≡ o
some_there None e = absurd cc
some_there (Some bytes) e = refl

-- one digit at least is asked for
pub hex_in-some : (raw : List ℕ) → 0 < length raw → hex_in raw ≡ hex_pairs raw
hex_in-some [] some = absurd (omega arith)
hex_in-some (digit ∷ raw) some = let test : (length (digit ∷ raw) == 0) ≡ false = grind arith in rw test refl

pub IsChecked-wrong : {raw rest : List ℕ} → IsChecked raw rest → 0 < length raw → 0 < length rest → None ≡ split_hex_byte rest → hex_in raw ≡ None
IsChecked-wrong {raw} {rest} i some left e =
    hex_in-some raw some ∙ none_there (hex_pairs raw) (sym (ap is_some (hex_pairs-wrong rest left e)) ∙ i.same)

pub IsChecked-all : {raw rest : List ℕ} → IsChecked raw rest → 0 < length raw → length rest ≡ 0 → Some (unwrap_or (hex_in raw) []) ≡ hex_in raw
IsChecked-all {raw} {rest} i some none =
    let there = some_there (hex_pairs raw) (sym (ap is_some (hex_pairs-end rest none)) ∙ i.same) in
    rw (hex_in-some raw some) there

shorter_there : (o : Option (List ℕ)) (n : ℕ) → IfSome o (λ bytes. length bytes ≤ n) → length (unwrap_or o []) ≤ n
shorter_there None n h = omega arith
shorter_there (Some bytes) n h = h

pub hex_in-short : (raw : List ℕ) → 0 < length raw → length (unwrap_or (hex_in raw) []) ≤ length raw
hex_in-short raw some = rw (hex_in-some raw some) (shorter_there (hex_pairs raw) (length raw) (hex_pairs-short raw))

pub there_is_some : (o : Option (List ℕ)) → Some (unwrap_or o []) ≡ o → IsSome o
there_is_some None e = absurd cc
there_is_some (Some bytes) e = refl
