-- The size that digits write, one more at a time, and what ends it early.
use Rattle.std.proofs.Common.{◌≡◌, ℕ, ◌+◌, ◌-◌, ◌*◌, ◌<◌, ◌≤◌, Bool, true, false, ltb, leb, ◌&&◌}
use Rattle.std.proofs.Common.{List, []}
use Rattle.std.proofs.Common.{◌∷◌, ◌++◌, length, get_or, take, refl}
use Rattle.std.proofs.Common.{sym, ap}
use Rattle.std.proofs.Common.{subst, ◌∙◌, arith}
use Rattle.std.specs.Char.{digit_value}
use Rattle.std.specs.List.{list_all}
use Rattle.std.specs.Str.Parse.{digits_value}
use Rattle.std.proofs.lemmas.Bool.{lt-ltb, ltb-true, leb-true}
use Rattle.std.proofs.lemmas.Int.Digits.{digits_value_push}
use Rattle.std.proofs.lemmas.Str.Parse.{digits_value-take-le}
use Rattle.std.proofs.lemmas.List.{take-take, get_or-take, get_or-drop}
use Rattle.std.proofs.lemmas.List.Folds.{list_all-append}
use Rattle.std.proofs.lemmas.List.Sums.{AllPass-from_list_all}
use Rattle.char_files.specs.Stretch.{Item}
use Rattle.reader_scanner.specs.declared.token.TheConstants.{MAX_INT}
use Rattle.reader_scanner.specs.ReaderState.{item_bytes, bytes_from, bytes_between}
use Rattle.reader_scanner.specs.Tokens.{is_size}
use Rattle.reader_scanner.proofs.Bytes.{between_length, between_more}

abbrev pub is_digit_in : ℕ → ℕ → Bool
is_digit_in radix d = ltb (digit_value d) radix

-- what the loop keeps: the digits so far write this size, which isn't past the greatest
pub record IsSizeSoFar (radix : ℕ) (digits : List ℕ) (size : ℕ) : Type 0 where
  pub is : size ≡ digits_value radix digits
  pub each : list_all (is_digit_in radix) digits ≡ true
  pub few : size ≤ MAX_INT

pub size_goes_on : (radix : ℕ) (items : List Item) (beg pos b size next : ℕ) → beg ≤ pos
    → pos < length items → b ≡ get_or (item_bytes items) pos 0 → digit_value b < radix
    → next ≡ size * radix + digit_value b → next ≤ MAX_INT
    → IsSizeSoFar radix (bytes_between items beg pos) size
    → IsSizeSoFar radix (bytes_between items beg (pos + 1)) next
size_goes_on radix items beg pos b size next le lt is digit next_is few so_far =
    let ds : List ℕ = bytes_between items beg pos in
    subst (λ (x : List ℕ). IsSizeSoFar radix x next) (sym (between_more items beg pos b le lt is))
    (record {
      is = next_is ∙ ap (λ (n : ℕ). n * radix + digit_value b) so_far.is ∙ sym (digits_value_push radix ds b);
      each =
          list_all-append (is_digit_in radix) ds (b ∷ [])
          ∙ rw (so_far.each, lt-ltb (digit_value b) radix digit) refl;
      few = few;
    })

-- one digit more, as the code reckons it
pub next_is : (a b d size radix digit code byte : ℕ) → a ≡ size → b ≡ radix → d ≡ digit
    → digit_value code ≡ digit → code ≡ byte → a * b + d ≡ size * radix + digit_value byte
next_is a b d size radix digit code byte ea eb ed ev ec =
    ap (λ (x : ℕ). x * b + d) ea ∙ ap (λ (x : ℕ). size * x + d) eb
    ∙ ap (λ (x : ℕ). size * radix + x) (ed ∙ sym ev ∙ ap digit_value ec)

and_false : (a b : Bool) → b ≡ false → (a && b) ≡ false
and_false true b e = e
and_false false b e = refl

bool_cases : (b : Bool) → (b ≡ true → b ≡ false) → b ≡ false
bool_cases true h = h refl
bool_cases false h = refl

-- a byte that is no digit
pub no_digit : (radix : ℕ) (items : List Item) (beg pos end b : ℕ) → beg ≤ pos → pos < end
    → end ≤ length items → b ≡ get_or (item_bytes items) pos 0 → ¬ (digit_value b < radix)
    → is_size radix (bytes_between items beg end) ≡ false
no_digit radix items beg pos end b le lt inside is none =
    let ds : List ℕ = bytes_between items beg end in
    let n : ℕ = pos - beg in
    let at : beg + n ≡ pos = omega arith in
    let shorter : n < end - beg = omega arith in
    let within : n < length ds = omega (arith, between_length items beg end (omega arith) inside) in
    let here : get_or ds n 0 ≡ b =
    get_or-take (end - beg) (bytes_from items beg) n 0 shorter ∙ get_or-drop beg (item_bytes items) n 0
    ∙ ap (λ (k : ℕ). get_or (item_bytes items) k 0) at ∙ sym is in
    let fails : list_all (is_digit_in radix) ds ≡ false =
    bool_cases (list_all (is_digit_in radix) ds) (λ e.
    let passes : is_digit_in radix b ≡ true =
    rw here at (AllPass-from_list_all (is_digit_in radix) ds e n 0 within) in
    absurd (none (ltb-true (digit_value b) radix passes))) in
    rw fails refl

-- a size past the greatest stays past it
pub too_large : (radix : ℕ) (items : List Item) (beg pos end b size next : ℕ) → 1 ≤ radix → beg ≤ pos
    → pos < end → end ≤ length items → b ≡ get_or (item_bytes items) pos 0
    → next ≡ size * radix + digit_value b → MAX_INT < next
    → IsSizeSoFar radix (bytes_between items beg pos) size
    → is_size radix (bytes_between items beg end) ≡ false
too_large radix items beg pos end b size next some le lt inside is next_is large so_far =
    let ds : List ℕ = bytes_between items beg end in
    let n : ℕ = (pos + 1) - beg in
    let shorter : n ≤ end - beg = omega arith in
    let front : take n ds ≡ bytes_between items beg pos ++ b ∷ [] =
    take-take n (end - beg) (bytes_from items beg) shorter
    ∙ between_more items beg pos b le (omega arith) is in
    let value : digits_value radix (take n ds) ≡ next =
    ap (digits_value radix) front ∙ digits_value_push radix (bytes_between items beg pos) b
    ∙ ap (λ (k : ℕ). k * radix + digit_value b) (sym so_far.is) ∙ sym next_is in
    let more : next ≤ digits_value radix ds =
    rw value at (digits_value-take-le radix ds n some) in
    let past : leb (digits_value radix ds) MAX_INT ≡ false =
    bool_cases (leb (digits_value radix ds) MAX_INT) (λ e.
    absurd (omega (arith, leb-true (digits_value radix ds) MAX_INT e))) in
    and_false (list_all (is_digit_in radix) ds) (leb (digits_value radix ds) MAX_INT) past
