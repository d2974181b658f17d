-- Orders of numbers and hashes, and when two are one.
use Rattle.std.proofs.Common.{◌≡◌, ℕ, ◌/◌, ◌%◌, ◌^◌, true, refl, arith}
use Rattle.std.specs.Cmp.{IsEquivalence, IsTotalOrder, eq_by_cmp_equiv, nat_cmp_total, on_total, then_total}
use Rattle.std.specs.declared.cmp.Ordering.{Ordering}
use Rattle.std.specs.declared.cmp.Ordering.TheVariants.{Less, Equal, Greater}
use Rattle.std.specs.Ordering.{eq_by_cmp, is_eq, nat_cmp, ordering_then}
use Rattle.std.proofs.lemmas.Bool.{false≢true}
use Rattle.std.proofs.lemmas.Cmp.{ranked}
use Rattle.note_entries.specs.Branches.{hash_cmp}

-- what is equal by one order and then another is so by both
pub equal_parts : (first rest : Ordering) → is_eq (ordering_then first rest) ≡ true → (is_eq first ≡ true) × (is_eq rest ≡ true)
equal_parts Less rest e = absurd (false≢true e)
equal_parts Equal rest e = (refl, e)
equal_parts Greater rest e = absurd (false≢true e)

pub one_number : (a b : ℕ) → eq_by_cmp nat_cmp a b ≡ true → a ≡ b
one_number a b = by (nat_cmp a b) refl
  where
    by : (r : Ordering) → r ≡ nat_cmp a b → is_eq r ≡ true → a ≡ b
    by Less at e = absurd (false≢true e)
    by Equal at e = ranked a b Equal at
    by Greater at e = absurd (false≢true e)

pub numbers : IsEquivalence (eq_by_cmp nat_cmp)
numbers = eq_by_cmp_equiv nat_cmp_total

pub one_hash : (a b : ℕ) → eq_by_cmp hash_cmp a b ≡ true → a ≡ b
one_hash a b e =
    let (high, low) = equal_parts (nat_cmp (a / 2 ^ 128) (b / 2 ^ 128)) _ e in
    let highs = one_number (a / 2 ^ 128) (b / 2 ^ 128) high in
    let lows = one_number (a % 2 ^ 128) (b % 2 ^ 128) low in
    omega arith

pub hash_total : IsTotalOrder hash_cmp
hash_total =
    then_total (on_total (λ (n : ℕ). n / 2 ^ 128) nat_cmp_total) (on_total (λ (n : ℕ). n % 2 ^ 128) nat_cmp_total)
