-- Numbers in sevens of bits, as they are written and read.
use Rattle.std.proofs.Common.{◌≡◌, ◌≢◌, ℕ, zero, suc, ◌+◌, ◌-◌, ◌*◌, ◌/◌, ◌%◌, ◌^◌, ◌<◌, ◌≤◌, Bool, true, false, cond, ltb, eqb}
use Rattle.std.proofs.Common.{List, [], ◌∷◌, ◌++◌, Some, refl, sym, ap, subst, ◌∙◌, inl, inr, arith}
use Rattle.std.proofs.Math.Nat.{pow-succ'}
use Rattle.std.proofs.lemmas.Bool.{cases_lt, lt-ltb, le-ltb, eqb-false, ne_eqb}
use Rattle.byte_fields.proofs.Readers.{IsBytes, Took, Reads, step, byte_reads, bind_some, some_is, not_stopped}
use Rattle.packed.specs.Numbers.{sevens_within, sevens, sevens_within_at, sevens_at}
use Rattle.packed.proofs.Parts.{IsPut, none_put, put_more}

-- ---- powers of 128

pow_more : (n : ℕ) → 128 ^ (suc n) ≡ 128 * 128 ^ n
pow_more n = pow-succ' 128 n

-- what one seven less holds
one_less : (fuel n : ℕ) → n < 128 ^ (suc fuel) → n / 128 < 128 ^ fuel
one_less fuel n lt = omega (arith, pow_more fuel)

-- one seven more
one_more : (fuel high low : ℕ) → high < 128 ^ fuel → low < 128 → 128 * high + low < 128 ^ (suc fuel)
one_more fuel high low lt small = omega (arith, pow_more fuel)

some_held : (fuel : ℕ) → 128 ≤ 128 ^ (suc fuel)
some_held zero = omega arith
some_held (suc fuel) = omega (arith, pow_more (suc fuel), some_held fuel)

pub pow_less : (fuel : ℕ) → fuel ≢ 0 → (128 ^ fuel ≡ 128 * 128 ^ (fuel - 1)) × (128 ≤ 128 ^ fuel)
pow_less zero some = absurd (some refl)
pow_less (suc fuel) some =
    let one : fuel ≡ suc fuel - 1 = omega arith in
    (pow_more fuel ∙ ap (λ (n : ℕ). 128 * 128 ^ n) one, some_held fuel)

pub few_held : (fuel : ℕ) → fuel ≤ 7 → 128 ^ fuel ≤ 2 ^ 49
few_held zero le = omega arith
few_held (suc zero) le = omega arith
few_held (suc (suc zero)) le = omega arith
few_held (suc (suc (suc zero))) le = omega arith
few_held (suc (suc (suc (suc zero)))) le = omega arith
few_held (suc (suc (suc (suc (suc zero))))) le = omega arith
few_held (suc (suc (suc (suc (suc (suc zero)))))) le = omega arith
few_held (suc (suc (suc (suc (suc (suc (suc zero))))))) le = omega arith
few_held (suc (suc (suc (suc (suc (suc (suc (suc n)))))))) le = absurd (omega arith)

-- ---- writing

one_seven : (fuel n : ℕ) → n < 128 → sevens_within (suc fuel) n ≡ n ∷ []
unfolding sevens_within
one_seven fuel n low = rw (lt-ltb n 128 low) refl

low_seven : (fuel n : ℕ) → 128 ≤ n
    → sevens_within (suc fuel) n ≡ (n % 128 + 128) ∷ sevens_within fuel (n / 128)
unfolding sevens_within
low_seven fuel n high = rw (le-ltb n 128 high) refl

-- the sevens of a number are left, with room for them
pub record IsPutBut (old new all : List ℕ) (number : ℕ) : Type 0 where
  pub more : ℕ
  pub below : number < 128 ^ (suc more)
  pub put : IsPut old new all (sevens_within (suc more) number)

pub all_left : (old : List ℕ) (number : ℕ) → number < 2 ^ 49 → IsPutBut old old (sevens number) number
unfolding sevens
all_left old number lt = record { more = 6; below = lt; put = none_put old (sevens_within 7 number) }

-- the lowest seven was put
pub seven_put : (old mid new all : List ℕ) (number : ℕ) → 128 ≤ number → IsPutBut old mid all number
    → new ≡ mid ++ (number % 128 + 128) ∷ [] → IsPutBut old new all (number / 128)
seven_put old mid new all number high so_far is = go so_far.more so_far.below so_far.put
  where
    go : (more : ℕ) → number < 128 ^ (suc more) → IsPut old mid all (sevens_within (suc more) number)
        → IsPutBut old new all (number / 128)
    go zero below put = absurd (omega arith)
    go (suc more) below put = record {
      more = more;
      below = one_less (suc more) number below;
      put = put_more old mid new all ((number % 128 + 128) ∷ []) (sevens_within (suc more) (number / 128))
          (subst (IsPut old mid all) (low_seven (suc more) number high) put) is;
    }

-- the last seven is left
pub last_left : (old new all : List ℕ) (number : ℕ) → number < 128 → IsPutBut old new all number
    → IsPut old new all (number ∷ [])
last_left old new all number low so_far =
    subst (IsPut old new all) (one_seven so_far.more number low) so_far.put

-- ---- reading

first_of_two : {A : Type 0} (b : Bool) (x y z : A) → b ≡ true → cond b x y ≡ z → x ≡ z
first_of_two true x y z is e = e
first_of_two false x y z is e = absurd cc

second_of_two : {A : Type 0} (b : Bool) (x y z : A) → b ≡ false → cond b x y ≡ z → y ≡ z
second_of_two true x y z is e = absurd cc
second_of_two false x y z is e = e

sevens_take : (fuel : ℕ) (bytes : List ℕ) (n : ℕ) (rest : List ℕ) → IsBytes bytes
    → sevens_within_at fuel bytes ≡ Some (n, rest) → Took (sevens_within fuel) (λ n. n < 128 ^ fuel) bytes n rest
unfolding sevens_within_at
sevens_take zero bytes n rest fits e = absurd cc
sevens_take (suc more) bytes n rest fits e =
    let s = step _ _ _ byte_reads _ bytes (n, rest) fits e in
    elim (cases_lt s.x 128) [
      | inl low ↦
          let is = first_of_two (ltb s.x 128) (Some (s.x, s.rest)) _ (Some (n, rest)) (lt-ltb s.x 128 low) s.goes_on in
          subst (λ (p : ℕ × List ℕ). Took (sevens_within (suc more)) (λ n. n < 128 ^ (suc more)) bytes p.0 p.1)
          (some_is _ _ is)
          (record {
            parts = s.took.parts ∙ ap (λ (l : List ℕ). l ++ s.rest) (sym (one_seven more s.x low));
            rest_fits = s.took.rest_fits;
            in_range = omega (arith, some_held more);
          })
      | inr high ↦
          let next = second_of_two (ltb s.x 128) (Some (s.x, s.rest)) _ (Some (n, rest)) (le-ltb s.x 128 high)
          s.goes_on in
          let h = bind_some (sevens_within_at more s.rest) _ (n, rest) next in
          let t = sevens_take more s.rest h.0.0 h.0.1 s.took.rest_fits h.1 in
          let made : ℕ = 128 * h.0.0 + (s.x - 128) in
          let g = not_stopped (eqb h.0.0 0) (Some (made, h.0.1)) (n, rest) h.2 in
          let some = eqb-false _ _ g.0 in
          let byte : s.x < 256 = s.took.in_range in
          let back : made % 128 + 128 ≡ s.x = omega arith in
          let above : made / 128 ≡ h.0.0 = omega arith in
          let spelled : sevens_within (suc more) made ≡ s.x ∷ sevens_within more h.0.0 =
          low_seven more made (omega (arith, some))
          ∙ rw (back, above) refl in
          subst (λ (p : ℕ × List ℕ). Took (sevens_within (suc more)) (λ n. n < 128 ^ (suc more)) bytes p.0 p.1)
          (some_is _ _ g.1)
          (record {
            parts = s.took.parts ∙ ap (λ (l : List ℕ). s.x ∷ l) t.parts
                ∙ ap (λ (l : List ℕ). l ++ h.0.1) (sym spelled);
            rest_fits = t.rest_fits;
            in_range = one_more more h.0.0 (s.x - 128) t.in_range (omega arith);
          })
    ]

low_again : (more n : ℕ) (rest : List ℕ) → n < 128
    → sevens_within_at (suc more) (sevens_within (suc more) n ++ rest) ≡ Some (n, rest)
unfolding sevens_within_at
low_again more n rest low =
    ap (λ (l : List ℕ). sevens_within_at (suc more) (l ++ rest)) (one_seven more n low)
    ∙ rw (lt-ltb n 128 low) refl

sevens_again : (more n : ℕ) (rest : List ℕ) → n < 128 ^ (suc more)
    → sevens_within_at (suc more) (sevens_within (suc more) n ++ rest) ≡ Some (n, rest)
unfolding sevens_within_at
sevens_again zero n rest lt = low_again zero n rest (omega arith)
sevens_again (suc more) n rest lt =
    elim (cases_lt n 128) [
      | inl low ↦ low_again (suc more) n rest low
      | inr high ↦
          let some : eqb (n / 128) 0 ≡ false = ne_eqb _ _ (λ z. absurd (omega arith)) in
          let whole : 128 * (n / 128) + (n % 128 + 128 - 128) ≡ n = omega arith in
          ap (λ (l : List ℕ). sevens_within_at (suc (suc more)) (l ++ rest)) (low_seven (suc more) n high)
          ∙ rw (
            le-ltb (n % 128 + 128) 128 (omega arith),
            sevens_again more (n / 128) rest (one_less (suc more) n lt),
            some,
            whole,
          ) refl
    ]

pub sevens_reads : Reads sevens_at sevens (λ n. n < 2 ^ 49)
unfolding sevens_at sevens
sevens_reads = record {
  takes = λ bytes n rest fits e.
      let t = sevens_take 7 bytes n rest fits e in
      record { parts = t.parts; rest_fits = t.rest_fits; in_range = t.in_range };
  again = λ n rest lt. sevens_again 6 n rest lt;
}
