-- The number that digits spell is the one that `parse` reads.
use Rattle.std.proofs.Common.{◌≡◌, ℕ, ◌^◌, ◌<◌, ◌≤◌, List, length, Bool, true, false, ◌&&◌, Some, None, Result, Ok, Err, inl, inr, refl, sym, subst, ap, ◌∙◌, arith}
use Rattle.std.specs.Prelude.{Option, nat_le, nat_lt, if◌then◌else◌, option_and_then}
use Rattle.std.specs.Result.{OkIff, result_ok}
use Rattle.std.specs.Str.{all_ascii_digits}
use Rattle.std.specs.Str.Parse.{digits_value, ParsesUnsigned}
use Rattle.std.proofs.lemmas.Bool.Decides.{nat_tests}
use Rattle.std.proofs.lemmas.Bool.{cases_lt, lt-ltb, le-ltb, leb-true}
use Rattle.std.proofs.lemmas.Option.{same_Some}
use Rattle.std.proofs.lemmas.Str.Parse.{IsNumeralModel, numerals_by_value, tells_all_ascii_digits, parse_digits}
use Rattle.clap.proofs.WalkLemmas.{both}
use Rattle.site_cli.specs.Numbers.{decimal_in, number_found}

numerals : IsNumeralModel (λ ds. all_ascii_digits ds ≡ true) (digits_value 10)
numerals = numerals_by_value _ tells_all_ascii_digits

all_hold : (n : ℕ) (digits fits : Bool) → 1 ≤ n → digits ≡ true → (nat_le 1 n && digits && fits) ≡ fits
all_hold n digits fits some h = grind (arith, nat_tests)

of_parsed : {E : Type 0} (v : ℕ) (r : Result ℕ E) (P : Type 0) → OkIff r (P × (v < 2 ^ 16)) v → P
    → result_ok r ≡ (if nat_lt v (2 ^ 16) then Some v else None)
of_parsed v (Ok x) P h p =
    let test : nat_lt v (2 ^ 16) ≡ true = lt-ltb _ _ h.0.1 in
    rw test (ap Some h.1)
of_parsed v (Err e) P h p =
    elim (cases_lt v (2 ^ 16)) [
      | inl lt ↦ absurd (h (p, lt))
      | inr le ↦ let test : nat_lt v (2 ^ 16) ≡ false = le-ltb _ _ le in rw test refl
    ]

pub decimal_in-parsed : {E : Type 0} (text : List ℕ) (r : Result ℕ E) → 1 ≤ length text → all_ascii_digits text ≡ true
    → ParsesUnsigned 16 10 text r → result_ok r ≡ decimal_in text
decimal_in-parsed text r some digits parsed =
    let v = digits_value 10 text in
    of_parsed v r (0 < length text) (parse_digits numerals 16 text r parsed digits) (omega arith)
    ∙ ap (λ (t : Bool). if t then Some v else None) (sym (all_hold (length text) (all_ascii_digits text) (nat_lt v (2 ^ 16)) some digits))

-- a number that was found lies in its bounds

within : (least most : ℕ) (o : Option ℕ) (n : ℕ) → option_and_then (λ k. if nat_le least k && nat_le k most then Some k else None) o ≡ Some n → (least ≤ n) × (n ≤ most)
within least most None n e = absurd cc
within least most (Some m) n e = go (nat_le least m && nat_le m most) refl e
  where
    go : (b : Bool) → (nat_le least m && nat_le m most) ≡ b → (if b then Some m else None) ≡ Some n → (least ≤ n) × (n ≤ most)
    go false t found = absurd cc
    go true t found =
        let tests = both _ _ t in
        subst (λ k. (least ≤ k) × (k ≤ most)) (same_Some m n found) (leb-true _ _ tests.0, leb-true _ _ tests.1)

pub number_found-bounds : (least most : ℕ) (text : Option (List ℕ)) (n : ℕ) → number_found least most text ≡ Some n → (least ≤ n) × (n ≤ most)
number_found-bounds least most None n e = absurd cc
number_found-bounds least most (Some text) n e = within least most (decimal_in text) n e
