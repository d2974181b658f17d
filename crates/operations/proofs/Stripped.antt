-- Bytes that are taken off the front of others, one part after the other.
use Rattle.std.proofs.Common.{◌≡◌, ◌↔◌, ℕ, Bool, true, false, eqb, List, [], ◌∷◌, ◌++◌, Option, Some, None, refl, sym, ap}
use Rattle.std.proofs.Common.{◌∙◌, ◌+◌, ◌<◌, ◌≤◌, length, get_or, drop, drop_of_length-le, arith}
use Rattle.std.proofs.lemmas.List.{append-nil, drop_more}
use Rattle.std.specs.List.{flat_map}
use Rattle.std.specs.Prelude.{◌≢◌, ◌==◌, if◌then◌else◌, MatchOption, IsTrue}
use Rattle.std.specs.Borrow.{Bor}
use Rattle.std.proofs.lemmas.Bool.{eqb-true}
use Rattle.std.proofs.lemmas.Bool.Decides.{nat_tests}
use Rattle.byte_fields.specs.Fields.{◌>>=◌, Finds}
use Rattle.operations.specs.Stripped.{stripped}

-- two parts are taken off one after the other
pub stripped_append : (a b bytes : List ℕ) → stripped (a ++ b) bytes ≡ (stripped a bytes >>= stripped b)
unfolding stripped
stripped_append [] b bytes = refl
stripped_append (f ∷ a) b [] = refl
stripped_append (f ∷ a) b (x ∷ bytes) =
    elim (eqb f x) as (λ same. (if same then stripped (a ++ b) bytes else None)
    ≡ ((if same then stripped a bytes else None) >>= stripped b)) [
      | true ↦ stripped_append a b bytes
      | false ↦ refl
    ]

-- what was put in front is taken off
stripped_front : (front rest : List ℕ) → stripped front (front ++ rest) ≡ Some rest
unfolding stripped
stripped_front [] rest = refl
stripped_front (f ∷ front) rest = grind (arith, nat_tests, stripped_front front rest)

-- and nothing is left of itself
stripped_whole : (front bytes : List ℕ) → bytes ≡ front → stripped front bytes ≡ Some []
stripped_whole front bytes same =
    ap (stripped front) (same ∙ sym (append-nil front)) ∙ stripped_front front []

-- what is taken off stood in front
stripped_is : (front bytes rest : List ℕ) → stripped front bytes ≡ Some rest → bytes ≡ front ++ rest
unfolding stripped
stripped_is [] bytes rest e = cc
stripped_is (f ∷ front) [] rest e = absurd cc
stripped_is (f ∷ front) (b ∷ bytes) rest e = grind (arith, nat_tests, stripped_is front bytes rest)

-- what std's `strip_prefix` finds
pub stripping : (front bytes : List ℕ) (found : Option (Bor (List ℕ)))
    → MatchOption found ((rest : List ℕ) → bytes ≢ front ++ rest) (λ x. bytes ≡ front ++ x.now)
    → Finds (λ x. x.now) found (stripped front bytes)
stripping front bytes None nowhere = none (stripped front bytes) refl
  where
    none : (left : Option (List ℕ)) → stripped front bytes ≡ left → stripped front bytes ≡ None
    none None e = e
    none (Some rest) e = absurd (nowhere rest (stripped_is front bytes rest e))
stripping front bytes (Some x) e = ap (stripped front) e ∙ stripped_front front x.now

-- the same where the first part is one byte
pub stripped_head : (f : ℕ) (b bytes : List ℕ)
    → stripped (f ∷ b) bytes ≡ (stripped (f ∷ []) bytes >>= stripped b)
stripped_head f b bytes = stripped_append (f ∷ []) b bytes

-- the same where the first part begins with a byte, as computing leaves it
pub stripped_cons : (f : ℕ) (a b bytes : List ℕ)
    → stripped (f ∷ (a ++ b)) bytes ≡ (stripped (f ∷ a) bytes >>= stripped b)
stripped_cons f a b bytes = stripped_append (f ∷ a) b bytes

-- of parts one after the other, the next is taken off, and then those after it
pub stripped_next : {X : Type 0} (f : X → List ℕ) (xs : List X) (i : ℕ) (x : X) (bytes : List ℕ) → i < length xs
    → x ≡ get_or xs i x
    → stripped (flat_map f (drop i xs)) bytes ≡ (stripped (f x) bytes >>= stripped (flat_map f (drop (i + 1) xs)))
stripped_next f xs i x bytes h here =
    rw (drop_more xs i x h, ← here) (stripped_append (f x) (flat_map f (drop (i + 1) xs)) bytes)

-- where there are no more parts, all is left
pub stripped_end : {X : Type 0} (f : X → List ℕ) (xs : List X) (i : ℕ) (bytes : List ℕ) → length xs ≤ i
    → stripped (flat_map f (drop i xs)) bytes ≡ Some bytes
unfolding stripped
stripped_end f xs i bytes h = rw (drop_of_length-le xs h) refl

-- the bytes are what was taken off them where none are left
pub are_these : (front bytes rest : List ℕ) (empty : Bool) → stripped front bytes ≡ Some rest
    → empty ≡ (length rest == 0) → IsTrue empty ↔ (bytes ≡ front)
are_these front bytes [] empty e is = (λ t. stripped_is front bytes [] e ∙ append-nil front, λ same. is)
are_these front bytes (x ∷ rest) empty e is = (
  λ t. let none : length (x ∷ rest) ≡ 0 = eqb-true _ _ (sym is ∙ t) in absurd (omega arith),
  λ same. let all : stripped front bytes ≡ Some [] = stripped_whole front bytes same in absurd cc,
)

-- they are others where it doesn't stand in front
pub are_others : (front bytes : List ℕ) → stripped front bytes ≡ None → bytes ≡ front → ⊥
are_others front bytes e same = let all = stripped_whole front bytes same in absurd cc
