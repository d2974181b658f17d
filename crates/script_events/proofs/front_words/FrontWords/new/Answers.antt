use Rattle.std.proofs.Common.{Bor, List, option_map, sym, ℕ}
use Rattle.script_events.specs.FrontWords.{fronts_in}
use Rattle.script_events.proofs.ReadFronts.{fronts_apart, fronts_twice, fronts_wrong}
use Rattle.script_events.proofs.ReadWords.{ends_wrong, goes_on, shorter_now}
use Rattle.script_events.proofs.front_words.FrontWords.new.Goals as goal

pub returns-in_default-split_front-clause-fronts : goal.returns-in_default-split_front-clause-fronts
returns-in_default-split_front-clause-fronts c =
    sym (ends_wrong fronts_in (option_map (λ (words : Bor (List ℕ)). words.now) c.args.words) c.in-Some.left.now
    (rw c.in-Some.is at c.loop-rest.invariant) (fronts_wrong c.in-Some.left.now (sym c.in_default-split_front.ensures.value)))

pub returns-then-has_front-clause-fronts : goal.returns-then-has_front-clause-fronts
returns-then-has_front-clause-fronts c =
    sym (ends_wrong fronts_in (option_map (λ (words : Bor (List ℕ)). words.now) c.args.words) c.in-Some.left.now
    (rw c.in-Some.is at c.loop-rest.invariant)
    (fronts_twice c.in-Some.left.now c.in-Some-split_front.front (option_map (λ (rest : Bor (List ℕ)). rest.now) c.in-Some-split_front.after)
    c.has_front.result (sym c.in-Some-split_front.ensures.value) c.has_front.ensures c.if-has_front.true))

pub loop-rest-preserved : goal.loop-rest-preserved
loop-rest-preserved c =
    goes_on fronts_in (option_map (λ (words : Bor (List ℕ)). words.now) c.args.words) c.in-Some.left.now c.in-Some-split_front.front
    (option_map (λ (rest : Bor (List ℕ)). rest.now) c.in-Some-split_front.after) (rw c.in-Some.is at c.loop-rest.invariant)
    (fronts_apart c.in-Some.left.now c.in-Some-split_front.front (option_map (λ (rest : Bor (List ℕ)). rest.now) c.in-Some-split_front.after)
    c.has_front.result (sym c.in-Some-split_front.ensures.value) c.has_front.ensures c.if-has_front.false)
    c.in-Some-split_front.ensures.shorter.0 (shorter_now c.in-Some-split_front.after _ c.in-Some-split_front.ensures.shorter.1)
