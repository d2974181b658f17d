use Rattle.std.proofs.Common.{Bor, List, ℕ, false, option_map, sym, ◌∙◌}
use Rattle.script_events.proofs.ReadFronts.{left_found, left_goes_on, left_wrong}
use Rattle.script_events.proofs.front_words.has_front.Goals as goal

pub returns-in_default-split_front : goal.returns-in_default-split_front
returns-in_default-split_front c =
    left_wrong (option_map (λ (words : Bor (List ℕ)). words.now) c.args.words) c.in-Some.left.now c.args.site false (rw c.in-Some.is at c.loop-rest.invariant)
    (sym c.in_default-split_front.ensures.value)

pub returns-then-eq : goal.returns-then-eq
returns-then-eq c =
    left_found (option_map (λ (words : Bor (List ℕ)). words.now) c.args.words) c.in-Some.left.now c.in-Some-split_front.front
    (option_map (λ (rest : Bor (List ℕ)). rest.now) c.in-Some-split_front.after) c.args.site (rw c.in-Some.is at c.loop-rest.invariant)
    (sym c.in-Some-split_front.ensures.value) (sym c.eq.ensures ∙ c.if-eq.true)

pub loop-rest-preserved : goal.loop-rest-preserved
loop-rest-preserved c =
    left_goes_on (option_map (λ (words : Bor (List ℕ)). words.now) c.args.words) c.in-Some.left.now c.in-Some-split_front.front
    (option_map (λ (rest : Bor (List ℕ)). rest.now) c.in-Some-split_front.after) c.args.site (rw c.in-Some.is at c.loop-rest.invariant)
    (sym c.in-Some-split_front.ensures.value) (sym c.eq.ensures ∙ c.if-eq.false)
