-- Numbers at the front of bytes.
use Rattle.std.proofs.Common.{◌≡◌, ℕ, ◌^◌, ◌<◌, ◌≤◌, List, ◌++◌, length, take, drop, None}
use Rattle.std.proofs.Common.{refl, sym, ap, ◌∙◌, length-append, arith}
use Rattle.std.specs.Int.{w32, to_be_bytes, from_be_bytes}
use Rattle.std.proofs.lemmas.List.{take_at, drop_at}
use Rattle.std.proofs.lemmas.Nat.{from_be_bytes-to_be_bytes_4}
use Rattle.byte_fields.specs.Fields.{number_spelling, number_at}
use Rattle.byte_fields.proofs.Readers.{number_missing as few}

pub number_told : (m n : ℕ) (x y : List ℕ) → m < 2 ^ 32 → n < 2 ^ 32
    → number_spelling w32 m ++ x ≡ number_spelling w32 n ++ y → (m ≡ n) × (x ≡ y)
unfolding number_spelling
number_told m n x y m_fits n_fits e =
    let a : List ℕ = to_be_bytes w32 m in
    let b : List ℕ = to_be_bytes w32 n in
    let front : a ≡ b = sym (take_at a x 4 refl) ∙ ap (λ (l : List ℕ). take 4 l) e ∙ take_at b y 4 refl in
    let back : x ≡ y = sym (drop_at a x 4 refl) ∙ ap (λ (l : List ℕ). drop 4 l) e ∙ drop_at b y 4 refl in (
      sym (from_be_bytes-to_be_bytes_4 m m_fits) ∙ ap (from_be_bytes w32) front
          ∙ from_be_bytes-to_be_bytes_4 n n_fits,
      back,
    )

pub number_len : (n : ℕ) → length (number_spelling w32 n) ≡ 4
unfolding number_spelling
number_len n = refl

-- a number has four bytes
pub number_long : (n : ℕ) (rest : List ℕ) → 4 ≤ length (number_spelling w32 n ++ rest)
unfolding number_spelling
number_long n rest = omega (arith, length-append (to_be_bytes w32 n) rest)

-- where no number was found there are fewer than four bytes
pub number_missing : (bytes : List ℕ) → number_at w32 bytes ≡ None → length bytes < 4
number_missing bytes none = few w32 bytes none
