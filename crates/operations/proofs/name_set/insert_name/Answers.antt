use Rattle.std.proofs.Common.{◌≡◌, ◌<◌, ◌↔◌, ◌∙◌, List, length, sym, ap, subst, arith}
use Rattle.std.specs.Prelude.{OnOk, IsErrOf}
use Rattle.std.proofs.lemmas.Bool.{iff_false}
use Rattle.looks.specs.declared.refusal.Refusal.TheVariants.{Scattered}
use Rattle.operations.specs.declared.name_set.TheConstants.{MAX_RANGES}
use Rattle.operations.specs.NameSet.{Range, of_name, with_range_at, with_other_at, with_name}
use Rattle.operations.proofs.WithName.{Touch, both, with_name-held, with_name-touching, with_name-apart}
use Rattle.operations.proofs.WithName.{with_name-past, length-with_other_at, not_scattered, not_among}
use Rattle.operations.proofs.WithName.{none_past}
use Rattle.operations.proofs.name_set.insert_name.Goals as goal
use Rattle.operations.proofs.name_set.insert_name.Goals.{then-at-len+else-contains+else-touches, else-at-len}

pub returns-then-contains-clause-ok : goal.returns-then-contains-clause-ok
returns-then-contains-clause-ok c =
    let ranges = c.args.ranges.now in
    sym (with_name-held ranges.items c.args.at c.args.name c.requires.within c.requires.point
    c.index-range.result.now (omega (arith, ranges.ok.0)) c.index-range.ensures
    (c.contains.ensures.0 c.if-contains.true))

pub returns-then-contains-clause-scattered : goal.returns-then-contains-clause-scattered
returns-then-contains-clause-scattered c =
    let ranges = c.args.ranges.now in
    not_scattered (with_name ranges.items c.args.name) ranges.items
    (with_name-held ranges.items c.args.at c.args.name c.requires.within c.requires.point
    c.index-range.result.now (omega (arith, ranges.ok.0)) c.index-range.ensures
    (c.contains.ensures.0 c.if-contains.true)) c.requires.few

pub returns-then-touches-clause-ok : goal.returns-then-touches-clause-ok
returns-then-touches-clause-ok c =
    let ranges = c.args.ranges.now in
    let r = c.index-range.result.now in
    let t : Touch r (of_name c.args.name) =
    subst (λ (x : Range). Touch r x) c.of-one.ensures.value (c.touches.ensures.0 c.if-touches.true) in
    c.replace.ensures
    ∙ ap (λ (x : Range). with_other_at ranges.items c.args.at x) (c.union.ensures
    ∙ ap (λ (x : Range). both r x) c.of-one.ensures.value)
    ∙ sym (with_name-touching ranges.items c.args.at c.args.name c.requires.within c.requires.point r
    (omega (arith, ranges.ok.0)) c.index-range.ensures t)

pub returns-then-touches-clause-scattered : goal.returns-then-touches-clause-scattered
returns-then-touches-clause-scattered c =
    let ranges = c.args.ranges.now in
    let r = c.index-range.result.now in
    let t : Touch r (of_name c.args.name) =
    subst (λ (x : Range). Touch r x) c.of-one.ensures.value (c.touches.ensures.0 c.if-touches.true) in
    let one : Range = both r (of_name c.args.name) in
    not_scattered (with_name ranges.items c.args.name) (with_other_at ranges.items c.args.at one)
    (with_name-touching ranges.items c.args.at c.args.name c.requires.within c.requires.point r
    (omega (arith, ranges.ok.0)) c.index-range.ensures t)
    (omega (
      arith,
      length-with_other_at ranges.items c.args.at one (omega (arith, ranges.ok.0)),
      c.requires.few,
    ))

-- where the name is added, the ranges are those that `add` leaves
with_name-added : (c : goal.After-add) → with_name c.args.ranges.now.items c.args.name
    ≡ with_range_at c.args.ranges.now.items c.args.at c.of-one.result
with_name-added c =
    let ranges = c.args.ranges.now in
    let one : of_name c.args.name ≡ c.of-one.result = sym c.of-one.ensures.value in
    elim c.if-at-len.branch [
      | then-at-len+else-contains+else-touches w ↦
          let r = w.index-range.result.now in
          let apart : ¬ Touch r (of_name c.args.name) =
          subst (λ (x : Range). ¬ Touch r x) c.of-one.ensures.value
          (iff_false w.touches.ensures w.if-touches.false) in
          with_name-apart ranges.items c.args.at c.args.name c.requires.within c.requires.point r
          (omega (arith, ranges.ok.0)) w.index-range.ensures apart (iff_false w.contains.ensures
          w.if-contains.false)
          ∙ ap (λ (x : Range). with_range_at ranges.items c.args.at x) one
      | else-at-len w ↦
          with_name-past ranges.items c.args.at c.args.name c.requires.within c.requires.point
          (omega (arith, ranges.ok.0))
          ∙ ap (λ (x : Range). with_range_at ranges.items c.args.at x) one
    ]

pub returns-clause-ok : goal.returns-clause-ok
returns-clause-ok c =
    subst (λ (xs : List Range). OnOk c.add.result (c.add.new.ranges.items ≡ xs)) (sym (with_name-added c))
    c.add.ensures.ok

pub returns-clause-scattered : goal.returns-clause-scattered
returns-clause-scattered c =
    subst (λ (xs : List Range). IsErrOf c.add.result Scattered ↔ (MAX_RANGES < length xs))
    (sym (with_name-added c)) c.add.ensures.scattered

pub returns-then-touches-clause-held : goal.returns-then-touches-clause-held
returns-then-touches-clause-held c =
    λ among. absurd (not_among c.args.ranges.now.items c.args.at c.args.name c.index-range.result.now
    c.requires.set c.requires.point c.index-range.ensures
    (iff_false c.contains.ensures c.if-contains.false) among)

pub returns-clause-held : goal.returns-clause-held
returns-clause-held c =
    let ranges = c.args.ranges.now in
    elim c.if-at-len.branch [
      | then-at-len+else-contains+else-touches w ↦ λ among. absurd
          (not_among ranges.items c.args.at c.args.name w.index-range.result.now c.requires.set
          c.requires.point w.index-range.ensures (iff_false w.contains.ensures w.if-contains.false) among)
      | else-at-len w ↦ λ among. absurd (none_past ranges.items c.args.at c.args.name c.requires.set
          c.requires.point (omega (arith, ranges.ok.0)) among)
    ]
