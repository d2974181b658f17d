-- A set that holds what it frees has each good part of the whole: each operation is freed by those of smaller
-- stamps.
use Rattle.std.proofs.Common.{◌≡◌, ℕ, zero, suc, ◌<◌, ◌≤◌, inl, inr, List, [], ◌∷◌, Contains}
use Rattle.std.proofs.Common.{refl, sym, subst, arith}
use Rattle.std.proofs.lemmas.Bool.{cases_lt}
use Rattle.std.proofs.lemmas.List.Elements.{Contains-append_left, Contains-push_cases}
use Rattle.operations.specs.Operation.{Operation}
use Rattle.tree_order.specs.Good.{Good, IsCauseOf}
use Rattle.set_laws.specs.Sets.{IsPartOf, AreIdentified}
use Rattle.set_laws.specs.Closure.{HoldsWhatItFrees}
use Rattle.set_laws.proofs.Covered.{closed_is_good, IsCausallyClosedIn}
use Rattle.set_laws.proofs.OneMore.{with_one}
use Rattle.set_laws.proofs.Picking.{chosen}

module _ (ops : List Operation) (good : Good ops) (known : AreIdentified ops) where
  -- the operations of smaller stamp
  record IsBelow (stamp : ℕ) (part : List Operation) : Type 0 where
    has : (op : Operation) → Contains ops op → op.stamp < stamp → Contains part op
    only : (op : Operation) → Contains part op → Contains ops op × (op.stamp < stamp)

  below : (stamp : ℕ) → (part : List Operation) × IsBelow stamp part
  below stamp =
      let (part, has, only) = chosen (λ x. x.stamp < stamp) (λ x. stamp ≤ x.stamp)
      (λ x. cases_lt x.stamp stamp) ops in (
        part,
        record {
          has = λ op held less. elim (has op held) [ inl there ↦ there | inr more ↦ absurd (omega arith) ];
          only = only;
        },
      )

  module _ (stamp : ℕ) (part : List Operation) (is : IsBelow stamp part) where
    has_lower : (p op : Operation) → Contains ops p → Contains ops op → IsCauseOf p op → op.stamp ≤ stamp
        → Contains part p
    has_lower p op held other cause le =
        let less = good.stamps op p other held cause in is.has p held (omega arith)

    below_is_good : Good part
    below_is_good =
        closed_is_good part ops good known (λ x held. (is.only x held).0) (λ op p held other cause.
        let (there, less) = is.only op held in has_lower p op other there cause (omega arith))

    -- with one of this stamp they are good, too
    with_one_of_stamp : (op : Operation) → Contains ops op → op.stamp ≡ stamp → Good (with_one part op)
    with_one_of_stamp op held at =
        let within : IsPartOf (with_one part op) ops = λ x there. elim (Contains-push_cases part op x there) [
          | inl old ↦ (is.only x old).0
          | inr same ↦ subst (Contains ops) same held
        ] in
        let closed : IsCausallyClosedIn (with_one part op) ops = λ x p there other cause.
        Contains-append_left part (op ∷ []) p (elim (Contains-push_cases part op x there) [
          | inl old ↦ let (in_ops, less) = is.only x old in has_lower p x other in_ops cause (omega arith)
          | inr same ↦ has_lower p op other held (subst (IsCauseOf p) (sym same) cause) (omega arith)
        ]) in
        closed_is_good (with_one part op) ops good known within closed

-- a good part of all is in each set that holds what it frees of all
pub good_part_within : (all ops set : List Operation) → AreIdentified ops → Good ops → IsPartOf ops all
    → HoldsWhatItFrees all set → IsPartOf ops set
good_part_within all ops set known good within holds op held =
    reach (suc op.stamp) op held (omega arith)
  where
    reach : (bound : ℕ) (op : Operation) → Contains ops op → op.stamp < bound → Contains set op
    reach zero op held lt = absurd (omega arith)
    reach (suc bound) op held lt =
        let (part, is) = below ops good known op.stamp in
        holds op (within op held) (record {
          past = part;
          within = λ x there. let (in_ops, less) = is.only x there in reach bound x in_ops (omega arith);
          good = below_is_good ops good known op.stamp part is;
          good_with = with_one_of_stamp ops good known op.stamp part is op held refl;
        })
