-- Messages and their operations, in lists and their first parts.
use Rattle.std.proofs.Common.{◌≡◌, ℕ, suc, ◌+◌, ◌<◌, ◌≤◌, inl, inr, List, [], ◌∷◌, ◌++◌, length, take, drop, Some}
use Rattle.std.proofs.Common.{Contains, slice_get, get_or, refl, sym, ap, subst, ◌∙◌, arith}
use Rattle.std.proofs.Math.Seq.{take-suc}
use Rattle.std.proofs.lemmas.List.{take-append-drop, length-take-le, get_or-append-add, get_or-take, map-append}
use Rattle.std.proofs.lemmas.List.Elements.{Contains-append_left}
use Rattle.std.proofs.lemmas.Option.{slice_get_within, get_or_from_slice_get, slice_get_read}
use Rattle.operations.specs.Operation.{Operation}
use Rattle.set_laws.proofs.Picking.{Contains-head, Contains-tail, Contains-cases, Contains-none}
use Rattle.note_laws.specs.Note.{Saying}
use Rattle.note_laws.specs.Chains.{operations}

-- what is held is held as an operation
pub has_op : (xs : List Saying) (s : Saying) → Contains xs s → Contains (operations xs) s.op
has_op [] s held = absurd (Contains-none s held)
has_op (x ∷ xs) s held = elim (Contains-cases x xs s held) [
  | inl is ↦ subst (Contains (operations (x ∷ xs))) (ap (λ (y : Saying). y.op) is)
      (Contains-head x.op (operations xs))
  | inr rest ↦ Contains-tail x.op (operations xs) s.op (has_op xs s rest)
]

-- and the other way round
pub of_op : (xs : List Saying) (op : Operation) → Contains (operations xs) op
    → (s : Saying) × Contains xs s × (s.op ≡ op)
of_op [] op held = absurd (Contains-none op held)
of_op (x ∷ xs) op held = elim (Contains-cases x.op (operations xs) op held) [
  | inl is ↦ (x, Contains-head x xs, is)
  | inr rest ↦ let (s, there, is) = of_op xs op rest in (s, Contains-tail x xs s there, is)
]

pub ops_push : (xs : List Saying) (s : Saying) → operations (xs ++ s ∷ []) ≡ operations xs ++ s.op ∷ []
ops_push xs s = map-append (λ (y : Saying). y.op) xs (s ∷ [])

-- the first part up to an element, and with it
pub take_next : (xs : List Saying) (n : ℕ) (s : Saying) → slice_get xs n ≡ Some s
    → take (suc n) xs ≡ take n xs ++ s ∷ []
take_next xs n s at =
    take-suc xs n s (slice_get_within xs n s at)
    ∙ ap (λ (y : Saying). take n xs ++ y ∷ []) (get_or_from_slice_get xs n s s at)

pub of_take : (xs : List Saying) (n : ℕ) (s : Saying) → Contains (take n xs) s → Contains xs s
of_take xs n s held =
    subst (λ (ys : List Saying). Contains ys s) (take-append-drop n xs)
    (Contains-append_left (take n xs) (drop n xs) s held)

pub index_of : (xs : List Saying) (s : Saying) → Contains xs s → (n : ℕ) × (slice_get xs n ≡ Some s)
index_of xs s (n, lt, is) = (n, slice_get_read xs (length xs) n s refl lt (sym is))

pub held_at : (xs : List Saying) (n : ℕ) (s : Saying) → slice_get xs n ≡ Some s → Contains xs s
held_at xs n s at = (n, slice_get_within xs n s at, get_or_from_slice_get xs n s s at)

-- what stands earlier is in the first part
pub in_take : (xs : List Saying) (m n : ℕ) (s : Saying) → slice_get xs m ≡ Some s → m < n → n ≤ length xs
    → Contains (take n xs) s
in_take xs m n s at lt le =
    let len = length-take-le n xs le in
    (m, omega arith, get_or-take n xs m s lt ∙ get_or_from_slice_get xs m s s at)

-- the last of a list
pub get_or-push : (xs : List Saying) (s : Saying) (n : ℕ) (d : Saying) → n ≡ length xs
    → get_or (xs ++ s ∷ []) n d ≡ s
get_or-push xs s n d is =
    let at : n ≡ length xs + 0 = omega arith in
    ap (λ (k : ℕ). get_or (xs ++ s ∷ []) k d) at ∙ get_or-append-add xs (s ∷ []) 0 d
