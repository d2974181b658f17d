-- The hex digits of bytes, one after the other.
use Rattle.std.proofs.Common.{◌≡◌, ℕ, ◌/◌, ◌%◌, List, [], ◌∷◌, ◌++◌, get_or, refl, ap}
use Rattle.hex.specs.Hex.{encode_lower, encode_with, lower_digits}

pub encode_lower-nil : encode_lower [] ≡ []
unfolding encode_with
encode_lower-nil = refl

pub encode_lower-append : (xs ys : List ℕ) → encode_lower (xs ++ ys) ≡ encode_lower xs ++ encode_lower ys
unfolding encode_with
encode_lower-append [] ys = refl
encode_lower-append (x ∷ xs) ys = ap (λ (r : List ℕ). get_or lower_digits (x / 16) 0 ∷ get_or lower_digits (x % 16) 0 ∷ r) (encode_lower-append xs ys)
