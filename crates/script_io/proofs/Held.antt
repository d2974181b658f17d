-- What is taken of the bytes that a reader holds.
use Rattle.std.proofs.Common.{◌≡◌, ◌≢◌, ℕ, min, ◌<◌, ◌≤◌, ◌-◌, List, ◌++◌, length, take, drop, Bool, true, false, ◌==◌, cond, Option, Some, None, Result, Ok, Err, inl, inr, refl, sym, ap, subst, ◌∙◌, arith, take-append-drop, length-take}
use Rattle.std.specs.Prelude.{All, IsOk, is_ok, if◌then◌else◌, nat_lt, unwrap_or}
use Rattle.std.specs.List.{position, position_or_len}
use Rattle.std.specs.Io.BufRead.{DropsConsumable}
use Rattle.std.specs.Io.Buffered.{reader_buffer, reader_capacity, reader_remaining}
use Rattle.std.specs.Io.KnownBytes.{Consumes, prepend_known}
use Rattle.std.specs.declared.io.buffered.BufReader.{BufReader}
use Rattle.script_io.specs.Wires.{line_front}
use Rattle.std.proofs.lemmas.Bool.{cases_lt, eqb-false, lt-ltb, le-ltb}
use Rattle.std.proofs.lemmas.List.{get_or-take, take-append-le, take-take, take_min}
use Rattle.std.proofs.lemmas.List.Sums.{fails_before_first}

front_known : (none : Bool) (after new : Option (List ℕ)) (held : List ℕ) (n : ℕ) → n ≤ length held → DropsConsumable (cond none None (prepend_known held after)) new (Some (length held)) n
    → Consumes (cond none None (prepend_known held after)) new (take n held)
front_known true after new held n le drops = tt
front_known false None new held n le drops = tt
front_known false (Some ys) new held n le drops =
    let split : held ++ ys ≡ take n held ++ drop n (held ++ ys) = sym (take-append-drop n (held ++ ys)) ∙ ap (λ (front : List ℕ). front ++ drop n (held ++ ys)) (take-append-le n held ys le) in
    subst (λ (o : Option (List ℕ)). Consumes (Some (held ++ ys)) o (take n held)) (sym (drops le)) split

-- what is consumed of the bytes that are held is their front
pub front_consumed : {R A : Type 0} (remaining : R → Option (List ℕ)) (reader : BufReader R A) (new : Option (List ℕ)) (n : ℕ) → n ≤ length (reader_buffer reader)
    → DropsConsumable (reader_remaining remaining reader) new (Some (length (reader_buffer reader))) n → Consumes (reader_remaining remaining reader) new (take n (reader_buffer reader))
front_consumed remaining reader new n le drops = front_known (reader_capacity reader == 0) (remaining reader.inner) new (reader_buffer reader) n le drops

-- so many bytes are before the first newline, or all where there is none
pub record IsBefore (xs : List ℕ) (n : ℕ) : Type 0 where
  pub first : n ≤ position_or_len (λ b. b == 10) xs
  pub within : n ≤ length xs

before_or_all : (p n : ℕ) → (unwrap_or (cond (nat_lt p n) (Some p) None) n ≤ p) × (unwrap_or (cond (nat_lt p n) (Some p) None) n ≤ n)
before_or_all p n =
    elim (cases_lt p n) [
      | inl lt ↦ let test : nat_lt p n ≡ true = lt-ltb _ _ lt in rw test (omega arith, omega arith)
      | inr le ↦ let test : nat_lt p n ≡ false = le-ltb _ _ le in rw test (omega arith, omega arith)
    ]

pub IsBefore-found : (xs : List ℕ) (found : Option ℕ) → found ≡ position (λ b. b == 10) xs → IsBefore xs (unwrap_or found (length xs))
IsBefore-found xs found is =
    let p = position_or_len (λ (b : ℕ). b == 10) xs in
    let at = ap (λ (o : Option ℕ). unwrap_or o (length xs)) is in
    let both = before_or_all p (length xs) in
    record { first = omega (arith, at, both.0); within = omega (arith, at, both.1) }

-- no newline is among them
pub IsBefore-none : {xs : List ℕ} {n : ℕ} → IsBefore xs n → All (λ b. b ≢ 10) (take n xs)
IsBefore-none {xs} {n} before k d lt =
    let near : k < n = omega (arith, length-take n xs) in
    let fails = fails_before_first (λ b. b == 10) xs k d (omega (arith, before.first)) in
    rw (get_or-take n xs k d near) (eqb-false _ _ fails)

-- so it is of what is held of a line
module _ (most : ℕ) (held : List ℕ) where
  abbrev near : List ℕ
  near = take most held

  comes_before : IsBefore near (unwrap_or (position (λ b. b == 10) near) (length near))
  comes_before = IsBefore-found near (position (λ b. b == 10) near) refl

  pub line_front-none : All (λ b. b ≢ 10) (line_front most held)
  line_front-none = IsBefore-none comes_before

  pub line_front-few : length (line_front most held) ≤ most
  line_front-few = omega (
    arith,
    length-take (unwrap_or (position (λ b. b == 10) near) (length near)) near,
    length-take most held,
  )

  -- it is so many of the bytes that are held
  pub line_front-take : take (length (line_front most held)) held ≡ line_front most held
  line_front-take =
      let count = unwrap_or (position (λ b. b == 10) near) (length near) in
      let long : length (line_front most held) ≡ count = omega (arith, length-take count near, comes_before.within) in
      ap (λ (n : ℕ). take n held) long
      ∙ sym (take-take count most held (omega (arith, comes_before.within, length-take most held)))

-- what the code finds so is what is held of a line
pub front_is : (most : ℕ) (held : List ℕ) (n count : ℕ) (found : Option ℕ) → n ≡ min most (length held)
    → found ≡ position (λ b. b == 10) (take n held) → count ≡ unwrap_or found (length (take n held))
    → take count (take n held) ≡ line_front most held
front_is most held n count found least first is =
    let near : take n held ≡ take most held = ap (λ (k : ℕ). take k held) least ∙ take_min most held in
    ap (λ (k : ℕ). take k (take n held)) (is ∙ ap (λ (o : Option ℕ). unwrap_or o (length (take n held))) first)
    ∙ ap (λ (l : List ℕ). take (unwrap_or (position (λ b. b == 10) l) (length l)) l) near

-- what is found so of the same bytes is the same
pub line_front-of : (most : ℕ) {n len : ℕ} {front buffer held : List ℕ} → front ≡ line_front (most - n) buffer → n ≡ len
    → buffer ≡ held → front ≡ line_front (most - len) held
line_front-of most {n} {len} {front} {buffer} {held} is many same =
    is ∙ ap (λ (k : ℕ). line_front (most - k) buffer) many ∙ ap (line_front (most - len)) same

-- bytes for which there is room are appended
pub extended : {E : Type 0} (result : Result (Unit {0}) E) (old new part : List ℕ) → new ≡ (if is_ok result then old ++ part else old) → IsOk result → new ≡ old ++ part
extended (Ok done) old new part is ok = is
extended (Err why) old new part is ok = absurd cc
