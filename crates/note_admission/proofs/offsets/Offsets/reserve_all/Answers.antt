use Rattle.std.proofs.Common.{All, take_all, subst, ◌∙◌, arith}
use Rattle.std.proofs.lemmas.List.Elements.{All-more}
use Rattle.operations.specs.NameSet.{Range}
use Rattle.note_admission.specs.Kept.{HasPlace}
use Rattle.note_admission.proofs.offsets.Offsets.reserve_all.Goals as goal

pub loop-range-preserved : goal.loop-range-preserved
loop-range-preserved c =
    let P : Range → Type 0 = λ r. HasPlace c.reserve.new.self r.site in
    let range = c.range-item.result in
    let here : P range = subst (HasPlace c.reserve.new.self) c.site.ensures c.in_ok-reserve.ensures.ok in
    record {
      same = λ other. c.reserve.ensures.same other ∙ c.loop-range.invariant.same other;
      places = All-more P c.args.ranges.now c.loop-range.range-index range c.loop-range-test.true
          (λ k d less. c.reserve.ensures.keeps _ (c.loop-range.invariant.places k d less))
          (subst P c.range-item.is here);
    }

pub returns-in_err-reserve-clause-same : goal.returns-in_err-reserve-clause-same
returns-in_err-reserve-clause-same c = λ other. c.reserve.ensures.same other ∙ c.loop-range.invariant.same other

pub returns-clause-ok : goal.returns-clause-ok
returns-clause-ok c =
    let past = c.loop-range-test.false in
    subst (All (λ (r : Range). HasPlace c.loop-range.self r.site))
    (take_all c.loop-range.range-index c.args.ranges.now (omega arith)) c.loop-range.invariant.places
