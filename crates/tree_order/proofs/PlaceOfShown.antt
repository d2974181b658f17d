-- Places of the characters that are shown.
use Rattle.std.proofs.Common.{◌≡◌, ◌≢◌, ℕ, zero, suc, Bool, true, false, cond, eqb, ◌==◌, ◌&&◌, List, []}
use Rattle.std.proofs.Common.{◌∷◌, Some, length, slice_get, refl, ap, subst, AllPairs, Contains}
use Rattle.std.proofs.Common.{arith}
use Rattle.std.specs.List.{filter, count_by}
use Rattle.std.proofs.lemmas.Bool.{and_parts, eqb-true}
use Rattle.std.proofs.lemmas.List.Elements.{All-contains, All-contains_itself, All-filter}
use Rattle.std.proofs.lemmas.List.Sums.{length-filter}
use Rattle.std.proofs.lemmas.Option.{get_or_from_slice_get, slice_get_within}
use Rattle.char_files.specs.CharName.{CharName}
use Rattle.char_files.specs.declared.name.Anchor.TheVariants.{Root, At}
use Rattle.tree_order.specs.Sequential.{PlaceIsAfter, LatestIsPlainEdit}
use Rattle.tree_order.specs.Shown.{is_visible, up_to}
use Rattle.operations.proofs.WithName.{same_name}
use Rattle.tree_order.proofs.ShownLatest.{shown_at_place}
use Rattle.tree_order.proofs.Sorted.{AllPairs-tail, before_members}
use Rattle.tree_order.proofs.Turns.{names_differ}

-- what a filter keeps was there
Contains-filter : (p : CharName → Bool) (order : List CharName) (c : CharName) (k : ℕ)
    → slice_get (filter p order) k ≡ Some c → Contains order c
Contains-filter p order c k at =
    let kept : Contains (filter p order) c =
    (k, slice_get_within (filter p order) k c at, get_or_from_slice_get (filter p order) k c c at) in
    All-contains (Contains order) (filter p order) c
    (All-filter p (Contains order) order (All-contains_itself order)) kept

-- one step of the search for c, where d passes or not, and is c or not
count_step : (p : CharName → Bool) (c d : CharName) (order : List CharName) (passes same : Bool) (k : ℕ)
    → (same ≡ true → d ≡ c) → (same ≡ false → d ≢ c) → (d ≡ c → Contains order c → ⊥)
    → ((j : ℕ) → slice_get (filter p order) j ≡ Some c → length (filter p (up_to c order)) ≡ suc j)
    → slice_get (cond passes (d ∷ filter p order) (filter p order)) k ≡ Some c
    → length (cond passes (d ∷ filter p (cond same [] (up_to c order)))
    (filter p (cond same [] (up_to c order)))) ≡ suc k
count_step p c d order true true zero here differ once rest at = refl
count_step p c d order true true (suc k) here differ once rest at =
    absurd (once (here refl) (Contains-filter p order c k at))
count_step p c d order true false zero here differ once rest at = absurd (differ refl cc)
count_step p c d order true false (suc k) here differ once rest at = ap suc (rest k at)
count_step p c d order false true k here differ once rest at =
    absurd (once (here refl) (Contains-filter p order c k at))
count_step p c d order false false k here differ once rest at = rest k at

-- as many pass up to c as stand up to it in the filtered list
length-filter-up_to : (p : CharName → Bool) (c : CharName) (order : List CharName)
    → AllPairs (λ x y. x ≢ y) order → (k : ℕ) → slice_get (filter p order) k ≡ Some c
    → length (filter p (up_to c order)) ≡ suc k
length-filter-up_to p c [] once k at = absurd cc
length-filter-up_to p c (d ∷ order) once k at =
    count_step p c d order (p d) (d.site == c.site && d.off == c.off) k
    (λ e.
    let parts = and_parts (eqb d.site c.site) (eqb d.off c.off) e in
    same_name d c (eqb-true _ _ parts.0) (eqb-true _ _ parts.1))
    (names_differ d c)
    (λ e h. before_members (λ (x y : CharName). x ≢ y) d order once c h e)
    (length-filter-up_to p c order (AllPairs-tail (λ (x y : CharName). x ≢ y) d order once)) at

pub place_is_after : PlaceIsAfter
place_is_after ops Root shown n good is after = (is.order, is.in_order, after)
place_is_after ops (At c) shown n good is (k, at, next) =
    let p : CharName → Bool = is_visible ops in
    let at' : slice_get (filter p is.order) k ≡ Some c =
    subst (λ (xs : List CharName). slice_get xs k ≡ Some c) is.visible at in
    let found : length (filter p (up_to c is.order)) ≡ suc k =
    length-filter-up_to p c is.order is.in_order.once k at' in
    let counted : length (filter p (up_to c is.order)) ≡ count_by p (up_to c is.order) =
    length-filter p (up_to c is.order) in
    (is.order, is.in_order, omega (arith, found, counted, next))

pub plain_edit : LatestIsPlainEdit
plain_edit ops i cause shown n one latest at is after =
    shown_at_place ops i cause shown n one latest at is (place_is_after ops cause shown n one.good is after)
