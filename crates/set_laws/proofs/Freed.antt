-- What a good set frees is what is ready.
use Rattle.std.proofs.Common.{◌<◌, ◌↔◌, inl, inr, List, [], ◌∷◌, ◌++◌, Contains}
use Rattle.std.proofs.Common.{sym, ap, subst, arith}
use Rattle.std.proofs.lemmas.List.Elements.{Contains-append_left, Contains-append_right, Contains-append_cases}
use Rattle.std.proofs.lemmas.List.Elements.{Contains-push, Contains-push_cases}
use Rattle.char_files.specs.CharName.{CharName}
use Rattle.operations.specs.Operation.{Operation, Mentions, Inserts}
use Rattle.tree_order.specs.Good.{Good, IsCauseOf}
use Rattle.set_laws.specs.Sets.{IsPartOf, AreIdentified}
use Rattle.set_laws.specs.Verdict.{ready, HasVerdict, IsNew, FollowsOn, HasForeignNames}
use Rattle.set_laws.specs.Growing.{HoldsCausesAmong}
use Rattle.set_laws.specs.Closure.{IsFreedBy}
use Rattle.set_laws.proofs.Covered.{covered_is_good, union_good, good_part_closed, closed_is_good}
use Rattle.set_laws.proofs.Covered.{IsCausallyClosedIn}
use Rattle.set_laws.proofs.Files.{char_is_here}
use Rattle.set_laws.proofs.Lengths.{part_identified}
use Rattle.set_laws.proofs.OneMore.{with_one, with_one_good, with_one_identified}
use Rattle.set_laws.proofs.Refusals.{placed_if_held, above_if_held}

-- more operations free as much
pub freed_by_more : (a b : List Operation) → IsPartOf a b → (op : Operation) → IsFreedBy a op → IsFreedBy b op
freed_by_more a b within op freed = record {
  past = freed.past;
  within = λ x held. within x (freed.within x held);
  good = freed.good;
  good_with = freed.good_with;
}

-- a good set frees what is good with it
pub freed_if_good : (ops : List Operation) (op : Operation) → Good ops → Good (with_one ops op)
    → IsFreedBy ops op
freed_if_good ops op good good_with =
    record { past = ops; within = λ x held. held; good = good; good_with = good_with }

-- and the other way round
pub good_if_freed : (ops : List Operation) (op : Operation) → Good ops → AreIdentified (with_one ops op)
    → IsFreedBy ops op → Good (with_one ops op)
good_if_freed ops op good known freed =
    let here : IsPartOf ops (with_one ops op) = Contains-append_left ops (op ∷ []) in
    let within : IsPartOf (with_one freed.past op) (with_one ops op) = λ x held.
    elim (Contains-push_cases freed.past op x held) [
      | inl old ↦ here x (freed.within x old)
      | inr is ↦ subst (Contains (with_one ops op)) is (Contains-push ops op)
    ] in
    covered_is_good (with_one ops op) known (λ x held. elim (Contains-push_cases ops op x held) [
      | inl old ↦ (ops, good, here, old)
      | inr is ↦ (
        with_one freed.past op,
        freed.good_with,
        within,
        subst (Contains (with_one freed.past op)) is (Contains-push freed.past op),
      )
    ])

module _ (ops : List Operation) (op : Operation) (good : Good ops) (known : AreIdentified ops)
    (new : IsNew ops op) where
  -- a set that is good with a new operation has its causes
  module _ (good' : Good (with_one ops op)) where
    all_known : AreIdentified (with_one ops op)
    all_known = with_one_identified ops op known new

    here : IsPartOf ops (with_one ops op)
    here = Contains-append_left ops (op ∷ [])

    last : Contains (with_one ops op) op
    last = Contains-push ops op

    follows : FollowsOn ops op
    follows later =
        let (p, held, is) = good'.predecessors op last later in
        let next = is.1 in
        elim (Contains-push_cases ops op p held) [
          | inl old ↦ (p, old, is)
          | inr same ↦ let at = ap (λ (o : Operation). o.seq) same in absurd (omega arith)
        ]

    foreign : HasForeignNames ops op
    foreign name m apart =
        let (i, held, is) = good'.mentions op name last m in
        elim (Contains-push_cases ops op i held) [
          | inl old ↦ char_is_here ops good known name (i, record { held = old; inserts = is })
          | inr same ↦ absurd (not_own name m (subst (λ (o : Operation). Inserts o name) (sym same) is))
        ]
      where
        not_own : (name : CharName) → Mentions op name → Inserts op name → ⊥
        not_own name m is =
            let less : op.stamp < op.stamp = good'.stamps op op last last (inr (name, m, is)) in omega arith

    pub ready_if_good : HasVerdict ops op ready
    ready_if_good = (
      follows,
      placed_if_held ops (with_one ops op) op good good' all_known here new last follows,
      foreign,
      above_if_held ops (with_one ops op) op good good' all_known here last,
    )

  pub good_if_ready : HasVerdict ops op ready → Good (with_one ops op)
  good_if_ready is = with_one_good ops op good known new is.0 is.1 is.2 is.3

  pub ready_freed : HasVerdict ops op ready ↔ IsFreedBy ops op
  ready_freed = (
    λ is. freed_if_good ops op good (good_if_ready is),
    λ freed. ready_if_good (good_if_freed ops op good (with_one_identified ops op known new) freed),
  )

-- an operation of another good set is ready where its causes there are held
pub ready_from_others : (ops others : List Operation) (op : Operation) → Good ops → Good others
    → AreIdentified (ops ++ others) → Contains others op → IsNew ops op → HoldsCausesAmong ops others op
    → HasVerdict ops op ready
ready_from_others ops others op good good' known held new has =
    let both : Good (ops ++ others) = union_good ops others good good' known in
    let here : IsPartOf ops (ops ++ others) = Contains-append_left ops others in
    let last : Contains (ops ++ others) op = Contains-append_right ops others op held in
    let within : IsPartOf (with_one ops op) (ops ++ others) = λ x there.
    elim (Contains-push_cases ops op x there) [
      | inl old ↦ here x old
      | inr same ↦ subst (Contains (ops ++ others)) same last
    ] in
    let closed : IsCausallyClosedIn (with_one ops op) (ops ++ others) = λ x p there other cause.
    Contains-append_left ops (op ∷ []) p (elim (Contains-push_cases ops op x there) [
      | inl old ↦ good_part_closed ops (ops ++ others) good here known both.begins x p old other cause
      | inr same ↦ elim (Contains-append_cases ops others p other) [
        | inl there' ↦ there'
        | inr among ↦ has p among (subst (IsCauseOf p) (sym same) cause)
      ]
    ]) in
    ready_if_good ops op good (part_identified ops (ops ++ others) here known) new
    (closed_is_good (with_one ops op) (ops ++ others) both known within closed)
