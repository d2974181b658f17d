-- Words of a line, and the numbers that they spell.
use Rattle.std.proofs.Common.{◌≡◌, ℕ, suc, ◌+◌, ◌-◌, ◌*◌, ◌^◌, ◌<◌, ◌≤◌, List, length, get_or, take, drop, Bool, true, false, ◌&&◌, ◌==◌, Option, Some, None, Result, Ok, Err, Bor, inl, inr, option_map, refl, sym, ap, subst, ◌∙◌, arith}
use Rattle.std.specs.Prelude.{nat_le, nat_lt, IfSome}
use Rattle.std.specs.Char.{is_ascii_digit}
use Rattle.std.specs.Int.{IsInRange}
use Rattle.std.specs.List.{position}
use Rattle.std.specs.Result.{OkIff, result_ok}
use Rattle.std.specs.Str.{all_ascii_digits}
use Rattle.std.specs.Str.Parse.{digits_value}
use Rattle.std.proofs.Math.Bool.{and-false}
use Rattle.std.proofs.Math.Nat.{pow-succ'}
use Rattle.std.proofs.lemmas.Bool.Decides.{nat_tests}
use Rattle.std.proofs.lemmas.Bool.{cases_lt, lt-ltb, le-ltb, false_from_ne_true}
use Rattle.std.proofs.lemmas.Int.Digits.{digits_value_more}
use Rattle.std.proofs.lemmas.List.{take_all, length-drop}
use Rattle.std.proofs.lemmas.Str.{digit_value_digit}
use Rattle.std.proofs.lemmas.Str.Parse.{IsNumeralModel, numerals_by_value, tells_all_ascii_digits, tells_by_index, digit_at}
use Rattle.script_events.specs.Words.{some_if, split_word, number_in}

pub split_word-none : (bytes : List ℕ) → position (λ b. b == 32) bytes ≡ None → split_word bytes ≡ None
split_word-none bytes e = ap (option_map (λ (i : ℕ). (take i bytes, drop (i + 1) bytes))) e

pub split_word-some : (bytes : List ℕ) (i : ℕ) → position (λ b. b == 32) bytes ≡ Some i → split_word bytes ≡ Some (take i bytes, take (length bytes - (i + 1)) (drop (i + 1) bytes))
split_word-some bytes i e =
    let whole : take (length bytes - (i + 1)) (drop (i + 1) bytes) ≡ drop (i + 1) bytes = take_all (length bytes - (i + 1)) (drop (i + 1) bytes) (omega (arith, length-drop (i + 1) bytes)) in
    rw whole (ap (option_map (λ (i : ℕ). (take i bytes, drop (i + 1) bytes))) e)

-- what a loop keeps that reads a number: so many bytes are digits, and spell this
pub record SpellsSoFar (word : List ℕ) (n number : ℕ) : Type 0 where
  pub digits : (i : ℕ) → i < n → IsInRange 48 57 (get_or word i 0)
  pub is : number ≡ digits_value 10 (take n word)
  pub below : number < 10 ^ n

power : (n : ℕ) → 10 ^ (n + 1) ≡ 10 * 10 ^ n
power n = let on : n + 1 ≡ suc n = omega arith in ap (λ (k : ℕ). 10 ^ k) on ∙ pow-succ' 10 n

-- one digit more
pub reads_on : (word : List ℕ) (n number next : ℕ) → n < length word → IsInRange 48 57 (get_or word n 0)
    → next ≡ number * 10 + (get_or word n 0 - 48) → SpellsSoFar word n number → SpellsSoFar word (n + 1) next
reads_on word n number next within digit next_is so_far = record {
  digits = λ i lt. elim (cases_lt i n) [
    | inl below ↦ so_far.digits i below
    | inr ge ↦ let last : n ≡ i = omega arith in subst (λ (k : ℕ). IsInRange 48 57 (get_or word k 0)) last digit
  ];
  is =
      omega (arith, next_is, so_far.is, digit_value_digit (get_or word n 0) digit, digits_value_more 10 word n within);
  below = omega (arith, next_is, so_far.below, power n, digit.1);
}

-- a digit is one of 48 to 57, and what isn't one is none of these
pub is_digit : (c : ℕ) → is_ascii_digit c ≡ true → IsInRange 48 57 c
is_digit c e = (grind (arith, nat_tests), grind (arith, nat_tests))

pub is_other : (c : ℕ) → is_ascii_digit c ≡ false → ¬ (IsInRange 48 57 c)
is_other c e within = grind (arith, nat_tests)

by_index : IsNumeralModel (λ ds. (i : ℕ) → i < length ds → IsInRange 48 57 (get_or ds i 0)) (digits_value 10)
by_index = numerals_by_value _ tells_by_index

by_test : IsNumeralModel (λ ds. all_ascii_digits ds ≡ true) (digits_value 10)
by_test = numerals_by_value _ tells_all_ascii_digits

all_hold : (n : ℕ) (digits fits : Bool) → 1 ≤ n → n ≤ 10 → digits ≡ true → (nat_le 1 n && nat_le n 10 && digits && fits) ≡ fits
all_hold n digits fits some few h = grind (arith, nat_tests)

fits : {E : Type 0} (v : ℕ) (r : Result ℕ E) → OkIff r (v < 2 ^ 32) v → result_ok r ≡ some_if (nat_lt v (2 ^ 32)) v
fits v (Ok x) h = let test : nat_lt v (2 ^ 32) ≡ true = lt-ltb _ _ h.0 in rw test (ap Some h.1)
fits v (Err e) h =
    elim (cases_lt v (2 ^ 32)) [
      | inl lt ↦ absurd (h lt)
      | inr le ↦ let test : nat_lt v (2 ^ 32) ≡ false = le-ltb _ _ le in rw test refl
    ]

-- a word of 1 to 10 digits is a number where what they spell is below 2^32
pub number_in-read : {E : Type 0} (word : List ℕ) (number : ℕ) (r : Result ℕ E) → 1 ≤ length word → length word ≤ 10
    → SpellsSoFar word (length word) number → OkIff r (number < 2 ^ 32) number → result_ok r ≡ number_in word
number_in-read word number r some few read number_is =
    let digits : all_ascii_digits word ≡ true = by_test.from word (by_index.to word read.digits) in
    let v : digits_value 10 word ≡ number = sym (read.is ∙ ap (digits_value 10) (take_all (length word) word (omega arith))) in
    fits number r number_is
    ∙ ap (λ (t : Bool). some_if t number) (sym (all_hold (length word) (all_ascii_digits word) (nat_lt number (2 ^ 32)) some few digits))
    ∙ ap (λ (n : ℕ). some_if (nat_le 1 (length word) && nat_le (length word) 10 && all_ascii_digits word && nat_lt n (2 ^ 32)) n) (sym v)

one_fails : (some few digits fits : Bool) → digits ≡ false → (some && few && digits && fits) ≡ false
one_fails some few digits fits e = rw e (ap (λ (t : Bool). t && fits) (and-false (some && few)))

-- a word with another byte is none
pub number_in-other : (word : List ℕ) (i : ℕ) → i < length word → ¬ (IsInRange 48 57 (get_or word i 0)) → number_in word ≡ None
number_in-other word i within other =
    let none : all_ascii_digits word ≡ false = false_from_ne_true (all_ascii_digits word) (λ digits. other (digit_at word i (by_test.to word digits) within)) in
    ap (λ (t : Bool). some_if t (digits_value 10 word)) (one_fails (nat_le 1 (length word)) (nat_le (length word) 10) _ _ none)

-- what is no longer than a list is no longer than a longer one
pub shorter : (o : Option (Bor (List ℕ))) (n m : ℕ) → n ≤ m → IfSome o (λ rest. length rest.now ≤ n)
    → IfSome o (λ rest. length rest.now ≤ m)
shorter None n m le h = tt
shorter (Some rest) n m le h = omega (arith, h, le)

-- what holds of a value for each number that passes holds for one that does
pub applied : {A : Type 0} (o : Option A) (Holds : ℕ → A → Type 0) (Passes : ℕ → Type 0) (n : ℕ)
    → IfSome o (λ a. (m : ℕ) → Passes m → Holds m a) → Passes n → IfSome o (λ a. Holds n a)
applied None Holds Passes n h passes = tt
applied (Some a) Holds Passes n h passes = h n passes
