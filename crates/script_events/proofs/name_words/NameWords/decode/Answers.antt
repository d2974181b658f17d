use Rattle.std.proofs.Common.{Bor, List, option_map, sym, ◌∙◌, ℕ, ◌++◌, length-append, arith}
use Rattle.script_events.proofs.ReadNames.{names_cuts, names_left, names_wrong}
use Rattle.script_events.proofs.ReadWords.{decodes_on, is_read}
use Rattle.script_events.proofs.name_words.NameWords.decode.Goals as goal

pub returns-in_default-split_range-clause-names : goal.returns-in_default-split_range-clause-names
returns-in_default-split_range-clause-names c =
    absurd (is_read names_left (c.args.out.now.items ++ c.args.self.now) c.loop-rest.out.items c.in-Some.left.now
    (rw c.in-Some.is at c.loop-rest.invariant).0 (names_wrong c.in-Some.left.now (sym c.in_default-split_range.ensures.value)))

pub push_reserved-requires : goal.push_reserved-requires
push_reserved-requires c =
    let after = option_map (λ (rest : Bor (List ℕ)). rest.now) c.in-Some-split_range.cut.1 in
    let on = decodes_on names_left (c.args.out.now.items ++ c.args.self.now) c.loop-rest.out.items c.in-Some.left.now
    c.in-Some-split_range.cut.0 after (rw c.in-Some.is at c.loop-rest.invariant).0
    (names_cuts c.in-Some.left.now c.in-Some-split_range.cut.0 after (sym c.in-Some-split_range.ensures.value)) in
    omega (arith, on.1, c.loop-rest.invariant.1, length-append c.args.out.now.items c.args.self.now)

pub loop-rest-preserved : goal.loop-rest-preserved
loop-rest-preserved c =
    let after = option_map (λ (rest : Bor (List ℕ)). rest.now) c.in-Some-split_range.cut.1 in
    let on = decodes_on names_left (c.args.out.now.items ++ c.args.self.now) c.loop-rest.out.items c.in-Some.left.now
    c.in-Some-split_range.cut.0 after (rw c.in-Some.is at c.loop-rest.invariant).0
    (names_cuts c.in-Some.left.now c.in-Some-split_range.cut.0 after (sym c.in-Some-split_range.ensures.value)) in
    rw c.push_reserved.ensures.items (on.0, c.push_reserved.ensures.capacity ∙ c.loop-rest.invariant.1)
