-- To stand before is a strict total order on the characters of a good set, and the order is the list that is
-- sorted by it.
use Rattle.std.proofs.Common.{◌≡◌, ◌⊎◌, ◌↔◌, ℕ, ◌<◌, ◌≤◌, inl, inr, List, Some, length, get_or, slice_get}
use Rattle.std.proofs.Common.{lt_trans, refl, sym, subst, AllPairs, Contains, insert}
use Rattle.std.proofs.lemmas.Bool.{cases_order}
use Rattle.std.proofs.lemmas.Option.{get_or_from_slice_get, slice_get-get_or, slice_get_read}
use Rattle.std.proofs.lemmas.Option.{slice_get_within}
use Rattle.char_files.specs.CharName.{CharName}
use Rattle.char_files.specs.declared.name.Anchor.TheVariants.{Root, At}
use Rattle.operations.specs.Operation.{Operation}
use Rattle.tree_order.specs.Good.{Good}
use Rattle.tree_order.specs.Tree.{IsChar, IsPath}
use Rattle.tree_order.specs.Order.{Before, IsBeforeIn, IsOrder}
use Rattle.tree_order.specs.Laws.{HasOneOrder}
use Rattle.tree_order.proofs.Characters.{IsChar-from_characters, characters, characters_from_IsChar}
use Rattle.tree_order.proofs.Sorted.{AllPairs-insert_first, same_sorted, sorted_list}
use Rattle.tree_order.proofs.Trails.{Trail, Trail-from_prefix, Trail-from_turn, Trail-irreflexive}
use Rattle.tree_order.proofs.Trails.{Trail-transitive, cases_Trail, cases_leads}
use Rattle.tree_order.proofs.Tree.{has_path, one_path, one_end, IsChar-from_path}

-- from the paths to the characters, and back

pub Before-from_trail : (ops : List Operation) (c d : CharName) (p q : List CharName) → IsPath ops c p
    → IsPath ops d q → Trail ops p q → Before ops c d
Before-from_trail ops c d p q up uq t = (p, q, up, uq, cases_Trail ops p q t)

pub trail_from_Before : (ops : List Operation) → Good ops → (c d : CharName) (p q : List CharName)
    → IsPath ops c p → IsPath ops d q → Before ops c d → Trail ops p q
trail_from_Before ops good c d p q up uq (p', q', up', uq', before) =
    rw (one_path ops good c p p' up up', one_path ops good d q q' uq uq')
    (elim before [ inl h ↦ Trail-from_prefix ops p' q' h | inr h ↦ Trail-from_turn ops p' q' h ])

-- what stands before another is a character, and so is the other

IsChar-before : (ops : List Operation) (c d : CharName) → Before ops c d → IsChar ops c
IsChar-before ops c d (p, q, up, uq, before) = IsChar-from_path ops c p up

IsChar-after : (ops : List Operation) (c d : CharName) → Before ops c d → IsChar ops d
IsChar-after ops c d (p, q, up, uq, before) = IsChar-from_path ops d q uq

-- a strict total order

pub Before-irreflexive : (ops : List Operation) → Good ops → (c : CharName) → Before ops c c → ⊥
Before-irreflexive ops good c b = Trail-irreflexive ops b.0 (trail_from_Before ops good c c b.0 b.0 b.2 b.2 b)

pub Before-transitive : (ops : List Operation) → Good ops → (c d e : CharName) → Before ops c d
    → Before ops d e → Before ops c e
Before-transitive ops good c d e b b' =
    let t : Trail ops b.0 b.1 = trail_from_Before ops good c d b.0 b.1 b.2 b.3 b in
    let t' : Trail ops b.1 b'.1 = trail_from_Before ops good d e b.1 b'.1 b.3 b'.3 b' in
    Before-from_trail ops c e b.0 b'.1 b.2 b'.3 (Trail-transitive ops good b.0 b.1 b'.1 t t')

pub Before-total : (ops : List Operation) → Good ops → (c d : CharName) → IsChar ops c → IsChar ops d
    → (c ≡ d) ⊎ (Before ops c d ⊎ Before ops d c)
Before-total ops good c d is is' =
    let (p, up) = has_path ops good c is in
    let (q, uq) = has_path ops good d is' in
    elim (cases_leads ops good Root (At c) (At d) p q up uq) [
      | inl e ↦ inl (one_end ops c d p up (rw e uq))
      | inr other ↦ elim other [
        | inl t ↦ inr (inl (Before-from_trail ops c d p q up uq t))
        | inr t ↦ inr
            (inr (Before-from_trail ops d c q p uq up t))
      ]
    ]

-- not both ways
pub Before-asymmetric : (ops : List Operation) → Good ops → (c d : CharName) → Before ops c d
    → Before ops d c → ⊥
Before-asymmetric ops good c d b b' = Before-irreflexive ops good c (Before-transitive ops good c d c b b')

-- sorted lists and the order

-- c put before the first element that it stands before
pub sorted_with : (ops : List Operation) → Good ops → (order : List CharName) (i : ℕ) (c : CharName)
    → i ≤ length order → AllPairs (Before ops) order → ((k : ℕ) (d : CharName) → k < i
    → Before ops (get_or order k d) c) → ((d : CharName) → i < length order
    → Before ops c (get_or order i d)) → AllPairs (Before ops) (insert order i c)
sorted_with ops good order i c within sorted below at =
    AllPairs-insert_first (Before ops) (Before-transitive ops good) order i c within sorted below at

-- what stands before another in a sorted list is before it
Before_from_order : (ops : List Operation) (order : List CharName) → AllPairs (Before ops) order
    → (c d : CharName) → IsBeforeIn order c d → Before ops c d
Before_from_order ops order sorted c d (i, j, less, at, at') =
    let high : get_or order j c ≡ d = get_or_from_slice_get order j d c at' in
    let low : get_or order i c ≡ c = get_or_from_slice_get order i c c at in
    subst (λ (x : CharName). Before ops x d) low (subst (λ (x : CharName). Before ops (get_or order i c) x)
    high (sorted i j c less (slice_get_within order j d at')))

-- and of two members the one that is before the other stands before it
order_from_Before : (ops : List Operation) → Good ops → (order : List CharName)
    → AllPairs (Before ops) order → (c d : CharName) → Contains order c → Contains order d → Before ops c d
    → IsBeforeIn order c d
order_from_Before ops good order sorted c d (i, low, e) (j, high, f) b =
    let at : slice_get order i ≡ Some c = slice_get_read order (length order) i c refl low (sym e) in
    let at' : slice_get order j ≡ Some d = slice_get_read order (length order) j d refl high (sym f) in
    elim (cases_order i j) [
      | inl same ↦
          let one : c ≡ d = same_at i j same at at' in
          absurd (Before-irreflexive ops good d (subst (λ (x : CharName). Before ops x d) one b))
      | inr other ↦ elim other [
        | inl less ↦ (i, j, less, at, at')
        | inr more ↦ absurd (Before-asymmetric ops good c d b (Before_from_order ops order sorted d c
            (j, i, more, at', at)))
      ]
    ]
  where
    same_at : (i j : ℕ) → i ≡ j → slice_get order i ≡ Some c → slice_get order j ≡ Some d → c ≡ d
    same_at i j same at at' = cc

-- the sorted list of the characters is the order
pub IsOrder-from_sorted : (ops : List Operation) → Good ops → (order : List CharName)
    → ((c : CharName) → Contains order c ↔ IsChar ops c) → AllPairs (Before ops) order → IsOrder ops order
IsOrder-from_sorted ops good order each sorted = record {
  each = each;
  once = λ i j d less within same. Before-irreflexive ops good (get_or order j d)
      (subst (λ (x : CharName). Before ops x (get_or order j d)) same (sorted i j d less within));
  before = λ c d. (
    Before_from_order ops order sorted c d,
    λ b. order_from_Before ops good order sorted c d ((each c).1 (IsChar-before ops c d b))
        ((each d).1 (IsChar-after ops c d b)) b,
  );
}

-- and the order is sorted
pub sorted_from_IsOrder : (ops : List Operation) (order : List CharName) → IsOrder ops order
    → AllPairs (Before ops) order
sorted_from_IsOrder ops order is i j d less within =
    (is.before (get_or order i d) (get_or order j d)).0 (
      i,
      j,
      less,
      slice_get-get_or order i d
          (lt_trans less within),
      slice_get-get_or order j d within,
    )

-- so there is no other
same_order : (ops : List Operation) → Good ops → (order other : List CharName) → IsOrder ops order
    → IsOrder ops other → other ≡ order
same_order ops good order other is is' =
    same_sorted (Before ops) (Before-irreflexive ops good) (Before-transitive ops good) other order
    (sorted_from_IsOrder ops other is') (sorted_from_IsOrder ops order is)
    (λ c h. (is.each c).1 ((is'.each c).0 h)) (λ c h. (is'.each c).1 ((is.each c).0 h))

-- a good set has an order, and only one
pub has_order : (ops : List Operation) → Good ops → HasOneOrder ops
has_order ops good =
    let (order, sorted, same) =
    sorted_list (Before ops) (Before-transitive ops good) (IsChar ops) (Before-total ops good)
    (characters ops) (IsChar-from_characters ops) in
    let each : (c : CharName) → Contains order c ↔ IsChar ops c =
    λ c. (
      λ h. IsChar-from_characters ops c ((same c).0 h),
      λ is. (same c).1 (characters_from_IsChar ops
          c is),
    ) in
    let is : IsOrder ops order = IsOrder-from_sorted ops good order each sorted in
    record { order = order; is = is; only = λ other is'. same_order ops good order other is is' }
