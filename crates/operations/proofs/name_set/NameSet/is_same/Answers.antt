use Rattle.std.proofs.Common.{rules, ◌↔◌, true, ◌≡◌, sym, ◌∙◌}
use Rattle.std.proofs.lemmas.Slice.Eq.{slice_eq-Decides}
use Rattle.operations.specs.NameSet.{Range}
use Rattle.operations.proofs.name_set.NameSet.is_same.Goals as goal

pub returns : goal.returns
returns c =
    let same : (c.eq.result ≡ true) ↔ (c.ranges-2.result.now ≡ c.ranges-3.result.now) =
    slice_eq-Decides {A = Range} (λ a b. search rules) _ _ _ c.eq.ensures in
    let left = c.ranges-2.ensures.value in
    let right = c.ranges-3.ensures.value in
    (λ e. sym left ∙ same.0 e ∙ right, λ e. same.1 (left ∙ e ∙ sym right))
