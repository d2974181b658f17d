-- The nodes of a ring, as the proofs see them.
use Rattle.std.specs.Prelude.{◌≡◌, Bool, true, false, ◌&&◌, ◌==◌, cond, List, [], ◌∷◌, ◌++◌, map}
use Rattle.std.specs.List.{IsDistinct, IsDistinct-prop}
use denote.RawPtr.{Ptr, block_ptr, null_ptr}

-- a node: where it lies, and its value
pub record Linked (V : Type 0) : Type 0 where
  pub at : Ptr
  pub value : V

-- whether two pointers are the same
abbrev pub same_ptr : Ptr → Ptr → Bool
same_ptr (block_ptr b o) (block_ptr c p) = (b == c) && (o == p)
same_ptr (block_ptr b o) null_ptr = false
same_ptr null_ptr (block_ptr c p) = false
same_ptr null_ptr null_ptr = true

-- no pointer comes twice
abbrev pub IsApart : List Ptr → Type 0
IsApart = IsDistinct same_ptr

pub IsApart-prop : (ps : List Ptr) → IsProp (IsApart ps)
IsApart-prop = IsDistinct-prop same_ptr

-- q comes directly after p
abbrev pub HasNext : List Ptr → Ptr → Ptr → Type 0
HasNext ps p q = (xs : List Ptr) × (ys : List Ptr) × (ps ≡ xs ++ p ∷ q ∷ ys)

-- q comes directly before p
abbrev pub HasPrev : List Ptr → Ptr → Ptr → Type 0
HasPrev ps p q = HasNext ps q p

-- the last of a and xs
abbrev pub last_from : {X : Type 0} → X → List X → X
last_from a [] = a
last_from a (x ∷ xs) = last_from x xs

module _ {V : Type 0} where
  abbrev pub linked : Ptr → V → Linked V
  linked p v = record { at = p; value = v }

  abbrev pub places : List (Linked V) → List Ptr
  places = map (λ n. n.at)

  -- where the nodes lie, from the trailer around to the trailer
  abbrev pub round : Linked V → List (Linked V) → List Ptr
  round t ns = t.at ∷ (places ns ++ t.at ∷ [])

  -- a node lies at p
  abbrev pub IsAt : List (Linked V) → Ptr → Type 0
  IsAt ns p = (xs : List (Linked V)) × (n : Linked V) × (ys : List (Linked V)) × (ns ≡ xs ++ n ∷ ys)
      × (n.at ≡ p)

  -- P holds of the node at p, with those before it and those after it
  abbrev pub AtNode : List (Linked V) → Ptr → (List (Linked V) → Linked V → List (Linked V) → Type 0) → Type 0
  AtNode ns p P = (xs : List (Linked V)) (n : Linked V) (ys : List (Linked V)) → ns ≡ xs ++ n ∷ ys →
      n.at ≡ p → P xs n ys

  -- the nodes are xs, of which the last (the trailer, where there is none) lies at p, and then ys
  abbrev pub IsSplitAfter : Linked V → List (Linked V) → Ptr → List (Linked V) → List (Linked V) → Type 0
  IsSplitAfter t ns p xs ys = (ns ≡ xs ++ ys) × (last_from t.at (places xs) ≡ p)

  -- the trailer or a node lies at p
  abbrev pub IsOn : Linked V → List (Linked V) → Ptr → Type 0
  IsOn t ns p = (xs : List (Linked V)) × (ys : List (Linked V)) × IsSplitAfter t ns p xs ys

  -- the nodes, with w as the value of the one at p
  unfoldable pub set_value : Ptr → V → List (Linked V) → List (Linked V)
  set_value p w = map (λ n. linked n.at (cond (same_ptr n.at p) w n.value))

  pub places-set_value : (p : Ptr) (w : V) (ns : List (Linked V)) → places (set_value p w ns) ≡ places ns
  unfolding set_value
  places-set_value p w [] = λ i. []
  places-set_value p w (n ∷ ns) = λ i. n.at ∷ places-set_value p w ns i
