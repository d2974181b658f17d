-- A hash is the number of its bytes.
use Rattle.std.proofs.Common.{◌≡◌, ℕ, ◌+◌, ◌*◌, ◌/◌, ◌%◌, ◌^◌, ◌<◌, List, ◌++◌, drop, refl, ap, ◌∙◌, arith}
use Rattle.std.specs.Int.{w128, from_be_bytes, to_be_bytes}
use Rattle.std.proofs.lemmas.List.{drop_at, take_at}
use native.Mathlib.Nat.{div-div-eq-div-mul}
use Rattle.note_entries.specs.Bytes.{IsHash}

-- a byte, and those above it
byte_and_rest : (n p : ℕ) → n / p ≡ n / p % 256 + n / (p * 256) * 256
byte_and_rest n p = omega (arith, div-div-eq-div-mul n p 256)

-- eight bytes, and those above them
eight_and_rest : (a b c d e f g h n at1 at2 at3 at4 at5 at6 at7 at8 : ℕ) → n ≡ a + at1 * 256 → at1 ≡ b + at2 * 256
    → at2 ≡ c + at3 * 256 → at3 ≡ d + at4 * 256 → at4 ≡ e + at5 * 256 → at5 ≡ f + at6 * 256 → at6 ≡ g + at7 * 256
    → at7 ≡ h + at8 * 256
    → n ≡ a + b * 256 ^ 1 + c * 256 ^ 2 + d * 256 ^ 3 + e * 256 ^ 4 + f * 256 ^ 5 + g * 256 ^ 6 + h * 256 ^ 7 + at8 * 256 ^ 8
eight_and_rest a b c d e f g h n at1 at2 at3 at4 at5 at6 at7 at8 is0 is1 is2 is3 is4 is5 is6 is7 = omega arith

-- sixteen bytes, the highest first
sixteen : (a b c d e f g h i j k l m o p q n high : ℕ)
    → n ≡ a + b * 256 ^ 1 + c * 256 ^ 2 + d * 256 ^ 3 + e * 256 ^ 4 + f * 256 ^ 5 + g * 256 ^ 6 + h * 256 ^ 7 + high * 256 ^ 8
    → high ≡ i + j * 256 ^ 1 + k * 256 ^ 2 + l * 256 ^ 3 + m * 256 ^ 4 + o * 256 ^ 5 + p * 256 ^ 6 + q * 256 ^ 7 + 0 * 256 ^ 8
    → q * 256 ^ 15 + p * 256 ^ 14 + o * 256 ^ 13 + m * 256 ^ 12 + l * 256 ^ 11 + k * 256 ^ 10 + j * 256 ^ 9 + i * 256 ^ 8
    + h * 256 ^ 7 + g * 256 ^ 6 + f * 256 ^ 5 + e * 256 ^ 4 + d * 256 ^ 3 + c * 256 ^ 2 + b * 256 ^ 1 + a ≡ n
sixteen a b c d e f g h i j k l m o p q n high low_is high_is = omega arith

-- a number of sixteen bytes
number_again : (n : ℕ) → n < 2 ^ 128 → from_be_bytes w128 (to_be_bytes w128 n) ≡ n
number_again n below =
    let step = byte_and_rest n in
    let none : n / 256 ^ 16 ≡ 0 = omega arith in
    sixteen _ _ _ _ _ _ _ _ _ _ _ _ _ _ _ _ n (n / 256 ^ 8)
    (eight_and_rest _ _ _ _ _ _ _ _ n (n / 256) (n / 256 ^ 2) (n / 256 ^ 3) (n / 256 ^ 4) (n / 256 ^ 5) (n / 256 ^ 6) (n / 256 ^ 7)
    (n / 256 ^ 8) (omega arith) (step 256) (step (256 ^ 2)) (step (256 ^ 3)) (step (256 ^ 4)) (step (256 ^ 5)) (step (256 ^ 6))
    (step (256 ^ 7)))
    (eight_and_rest _ _ _ _ _ _ _ _ (n / 256 ^ 8) (n / 256 ^ 9) (n / 256 ^ 10) (n / 256 ^ 11) (n / 256 ^ 12) (n / 256 ^ 13)
    (n / 256 ^ 14) (n / 256 ^ 15) 0 (step (256 ^ 8)) (step (256 ^ 9)) (step (256 ^ 10)) (step (256 ^ 11)) (step (256 ^ 12))
    (step (256 ^ 13)) (step (256 ^ 14)) (omega (arith, step (256 ^ 15), none)))

pub is_hash : (high low : ℕ) → high < 2 ^ 128 → low < 2 ^ 128 → IsHash (high * 2 ^ 128 + low)
is_hash high low high_fits low_fits =
    let n : ℕ = high * 2 ^ 128 + low in
    let high_is : n / 2 ^ 128 ≡ high = omega arith in
    let low_is : n % 2 ^ 128 ≡ low = omega arith in
    let front : List ℕ = to_be_bytes w128 (n / 2 ^ 128) in
    let back : List ℕ = to_be_bytes w128 (n % 2 ^ 128) in
    ap (λ (l : List ℕ). from_be_bytes w128 l * 2 ^ 128 + from_be_bytes w128 (drop 16 (front ++ back))) (take_at front back 16 refl)
    ∙ ap (λ (l : List ℕ). from_be_bytes w128 front * 2 ^ 128 + from_be_bytes w128 l) (drop_at front back 16 refl)
    ∙ ap (λ (m : ℕ). from_be_bytes w128 (to_be_bytes w128 m) * 2 ^ 128 + from_be_bytes w128 back) high_is
    ∙ ap (λ (m : ℕ). from_be_bytes w128 (to_be_bytes w128 high) * 2 ^ 128 + from_be_bytes w128 (to_be_bytes w128 m)) low_is
    ∙ ap (λ (m : ℕ). m * 2 ^ 128 + from_be_bytes w128 (to_be_bytes w128 low)) (number_again high high_fits)
    ∙ ap (λ (m : ℕ). high * 2 ^ 128 + m) (number_again low low_fits)
