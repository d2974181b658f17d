use Rattle.std.proofs.Common.{Bor, List, option_map, sym, ◌∙◌, ℕ, ◌++◌, length-append, arith}
use Rattle.script_events.specs.FrontWords.{fronts_in}
use Rattle.script_events.proofs.ReadFronts.{front_cuts, fronts_wrong}
use Rattle.script_events.proofs.ReadWords.{decodes_on, is_read}
use Rattle.script_events.proofs.front_words.FrontWords.decode.Goals as goal

pub returns-in_default-split_front-clause-fronts : goal.returns-in_default-split_front-clause-fronts
returns-in_default-split_front-clause-fronts c =
    absurd (is_read fronts_in (c.args.out.now.items ++ c.args.self.now) c.loop-rest.out.items c.in-Some.left.now
    (rw c.in-Some.is at c.loop-rest.invariant).0 (fronts_wrong c.in-Some.left.now (sym c.in_default-split_front.ensures.value)))

pub push_reserved-requires : goal.push_reserved-requires
push_reserved-requires c =
    let after = option_map (λ (rest : Bor (List ℕ)). rest.now) c.in-Some-split_front.after in
    let on = decodes_on fronts_in (c.args.out.now.items ++ c.args.self.now) c.loop-rest.out.items c.in-Some.left.now
    c.in-Some-split_front.front after (rw c.in-Some.is at c.loop-rest.invariant).0
    (front_cuts c.in-Some.left.now c.in-Some-split_front.front after (sym c.in-Some-split_front.ensures.value)) in
    omega (arith, on.1, c.loop-rest.invariant.1, length-append c.args.out.now.items c.args.self.now)

pub loop-rest-preserved : goal.loop-rest-preserved
loop-rest-preserved c =
    let after = option_map (λ (rest : Bor (List ℕ)). rest.now) c.in-Some-split_front.after in
    let on = decodes_on fronts_in (c.args.out.now.items ++ c.args.self.now) c.loop-rest.out.items c.in-Some.left.now
    c.in-Some-split_front.front after (rw c.in-Some.is at c.loop-rest.invariant).0
    (front_cuts c.in-Some.left.now c.in-Some-split_front.front after (sym c.in-Some-split_front.ensures.value)) in
    rw c.push_reserved.ensures.items (on.0, c.push_reserved.ensures.capacity ∙ c.loop-rest.invariant.1)
