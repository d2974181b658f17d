-- Lists that keep causes: causes come first, and such lists grow.
use Rattle.std.proofs.Common.{◌≡◌, ℕ, suc, ◌<◌, ◌≤◌, inl, inr, List, [], ◌∷◌, ◌++◌, length, take, drop, Some}
use Rattle.std.proofs.Common.{Contains, slice_get, sym, ap, subst, ◌∙◌, arith}
use Rattle.std.proofs.Math.Seq.{take-suc, take-length}
use Rattle.std.proofs.lemmas.Bool.{cases_lt}
use Rattle.std.proofs.lemmas.List.{take-append-drop, take-append-le, take_all, length-append}
use Rattle.std.proofs.lemmas.List.Elements.{Contains-append_left, Contains-push, Contains-push_cases}
use Rattle.std.proofs.lemmas.Option.{slice_get_within, get_or_from_slice_get}
use Rattle.operations.specs.Operation.{Operation}
use Rattle.tree_order.specs.Good.{Good}
use Rattle.set_laws.specs.Sets.{IsPartOf, AreIdentified, KeepsCauses, HasCausesBefore}
use Rattle.set_laws.proofs.Covered.{good_part_closed}
use Rattle.set_laws.proofs.OneMore.{with_one}

-- a first part holds no others
pub first_part_within : (ops : List Operation) (n : ℕ) → IsPartOf (take n ops) ops
first_part_within ops n op held =
    subst (λ (xs : List Operation). Contains xs op) (take-append-drop n ops)
    (Contains-append_left (take n ops) (drop n ops) op held)

-- the first part up to an operation, and with it
take_with_next : (ops : List Operation) (n : ℕ) (op : Operation) → slice_get ops n ≡ Some op
    → take (suc n) ops ≡ with_one (take n ops) op
take_with_next ops n op at =
    take-suc ops n op (slice_get_within ops n op at)
    ∙ ap (λ (o : Operation). take n ops ++ o ∷ []) (get_or_from_slice_get ops n op op at)

-- a list that keeps causes is good
whole_is_good : (ops : List Operation) → KeepsCauses ops → Good ops
whole_is_good ops keeps = subst Good (take-length ops) (keeps (length ops))

pub causes_before : (ops : List Operation) → KeepsCauses ops → AreIdentified ops → HasCausesBefore ops
causes_before ops keeps known n op p at held cause =
    let part : List Operation = with_one (take n ops) op in
    let same : take (suc n) ops ≡ part = take_with_next ops n op at in
    let good : Good part = subst Good same (keeps (suc n)) in
    let within : IsPartOf part ops =
    subst (λ (xs : List Operation). IsPartOf xs ops) same (first_part_within ops (suc n)) in
    let here : Contains part op = Contains-push (take n ops) op in
    let laid = (whole_is_good ops keeps).begins in
    let there : Contains part p = good_part_closed part ops good within known laid op p here held cause in
    elim (Contains-push_cases (take n ops) op p there) [
      | inl before ↦ before
      | inr is ↦ let less : p.stamp < op.stamp = good.stamps op p here there cause in
          let equal : op.stamp ≡ p.stamp = ap (λ (o : Operation). o.stamp) is in absurd (omega arith)
    ]

pub causes_kept_with_one : (ops : List Operation) (op : Operation) → KeepsCauses ops → Good (with_one ops op)
    → KeepsCauses (with_one ops op)
causes_kept_with_one ops op keeps good n =
    elim (cases_lt (length ops) n) [
      | inl past ↦
          let all : length (with_one ops op) ≤ n = let len = length-append ops (op ∷ []) in omega (arith, len) in
          subst Good (sym (take_all n (with_one ops op) all)) good
      | inr within ↦ subst Good (sym (take-append-le n ops (op ∷ []) within)) (keeps n)
    ]
