-- An Insert that is stamped above all others stands directly after its cause.
use Rattle.std.proofs.Common.{◌≡◌, ◌<◌, true, false, List, [], ◌∷◌, ◌++◌, refl, sym, ap, subst}
use Rattle.std.proofs.Common.{◌∙◌, All, Contains, arith}
use Rattle.std.proofs.lemmas.Bool.Decides.{nat_tests}
use Rattle.std.proofs.lemmas.List.{append-nil}
use Rattle.std.proofs.lemmas.List.Elements.{All-contains, All-head, All-nil, Contains-append_right}
use Rattle.looks.specs.Key.{is_below}
use Rattle.char_files.specs.CharName.{CharName}
use Rattle.char_files.specs.declared.name.Anchor.{Anchor}
use Rattle.operations.specs.Operation.{Operation, key_of}
use Rattle.tree_order.specs.Tree.{IsChar}
use Rattle.tree_order.specs.Order.{IsOrder}
use Rattle.tree_order.specs.Insertion.{IsGap, IsInsertAt, EndsAt, IsAbove, BeginsNotAbove, run_of}
use Rattle.tree_order.specs.Sequential.{IsLatest, LatestSkipsNone, LatestGoesAfterCause}
use Rattle.tree_order.proofs.Gap.{into_gap}
use Rattle.tree_order.proofs.Sorted.{Contains-head}

-- no key is above that of the latest
not_above_latest : (i j : Operation) → j.stamp < i.stamp → is_below (key_of i) (key_of j) ≡ false
not_above_latest i j less = grind (arith, nat_tests)

below_latest : (ops : List Operation) (i j : Operation) → IsLatest ops i → Contains ops j → j.stamp < i.stamp
below_latest ops i j latest held = All-contains (λ (op : Operation). op.stamp < i.stamp) ops j latest held

none_above : (ops : List Operation) (i : Operation) → IsLatest ops i → (c : CharName)
    → IsAbove ops (key_of i) c → ⊥
none_above ops i latest c (k, (j, is, e), above) =
    let not_above = not_above_latest i j (below_latest ops i j latest is.held) in
    let again : is_below (key_of i) (key_of j) ≡ true = sym (ap (is_below (key_of i)) e) ∙ above in
    absurd cc

skips_none : (ops : List Operation) (i : Operation) → IsLatest ops i → (skipped : List CharName)
    → All (IsAbove ops (key_of i)) skipped → skipped ≡ []
skips_none ops i latest [] greater = refl
skips_none ops i latest (c ∷ skipped) greater =
    absurd (none_above ops i latest c (All-head (IsAbove ops (key_of i)) c skipped greater))

pub latest_skips_none : LatestSkipsNone
latest_skips_none ops i before skipped after latest gap = skips_none ops i latest skipped gap.greater

-- so the gap begins where the cause stands
begins_not_above : (ops : List Operation) (i : Operation) → IsLatest ops i → (after : List CharName)
    → ((c : CharName) → Contains after c → IsChar ops c) → BeginsNotAbove ops (key_of i) after
begins_not_above ops i latest [] old = tt
begins_not_above ops i latest (c ∷ after) old =
    let (j, is) = old c (Contains-head c after) in
    (key_of j, (j, is, refl), not_above_latest i j (below_latest ops i j latest is.held))

pub latest_gap : (ops : List Operation) (i : Operation) (cause : Anchor) (before after : List CharName)
    → IsLatest ops i → IsInsertAt i cause → IsOrder ops (before ++ after) → EndsAt before cause
    → IsGap ops i before [] after
latest_gap ops i cause before after latest at is ends = record {
  cause = cause;
  of_insert = at;
  at_cause = ends;
  greater = All-nil (IsAbove ops (key_of i));
  stops =
      begins_not_above ops i latest after
      (λ c h. (is.each c).0 (Contains-append_right before after c h));
}

pub after_cause : LatestGoesAfterCause
after_cause ops i cause before after one latest at is ends =
    let same : before ++ [] ≡ before = append-nil before in
    let is' : IsOrder ops (before ++ [] ++ after) =
    subst (λ (xs : List CharName). IsOrder ops (xs ++ after)) (sym same) is in
    subst (λ (xs : List CharName). IsOrder (ops ++ i ∷ []) (xs ++ run_of i ++ after)) same
    (into_gap ops i before [] after one is' (latest_gap ops i cause before after latest at is ends))
