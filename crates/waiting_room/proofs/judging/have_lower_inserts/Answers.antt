use Rattle.std.proofs.Common.{rules, tests, subst, ◌∙◌}
use Rattle.std.specs.List.{All}
use Rattle.std.proofs.lemmas.Iterator.{cases_from_all, YieldsList-from_slice}
use Rattle.operations.specs.NameSet.{Range, IsRange}
use Rattle.tree_order.proofs.Each.{each}
use Rattle.waiting_room.specs.Judged.{last_of, HasLowerInsert}
use Rattle.waiting_room.proofs.LastNames.{all_lower_by_last}
use Rattle.waiting_room.proofs.judging.have_lower_inserts.Goals as goal

pub returns : goal.returns
returns g c =
    let ops = g.H.Held.ops c.args.held.now in
    let names = c.args.names.now in
    let P : Range → Type 0 = λ r. HasLowerInsert ops c.args.stamp (last_of r) in
    let all = YieldsList-from_slice names (c.iter.ensures.rest ∙ c.ranges-2.ensures.value) in
    let told = each P names c.all.result (cases_from_all _ _ _ P (λ r. ¬ P r) c.all.ensures.ran all
    (λ x q k. search (rules, tests)) (λ x q k. search (rules, tests))) in
    let by = all_lower_by_last ops c.lemma_are_good.ensures.good c.lemma_are_good.ensures.identified c.args.stamp names
    (subst (All IsRange) c.ranges-2.ensures.value c.ranges-2.ensures.set.ranges) in
    (λ e. by.0 (told.0 e), λ h. told.1 (by.1 h))
