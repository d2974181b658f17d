use Rattle.std.proofs.Common.{Bor, List, Some, option_map, sym, ℕ}
use Rattle.script_events.proofs.ReadNames.{names_cut, names_left, names_wrong}
use Rattle.script_events.proofs.ReadWords.{ends_wrong, goes_on, shorter_now}
use Rattle.script_events.proofs.name_words.NameWords.new.Goals as goal

pub returns-in_default-split_range-clause-names : goal.returns-in_default-split_range-clause-names
returns-in_default-split_range-clause-names c =
    sym (ends_wrong names_left (Some c.args.words.now) c.in-Some.left.now (rw c.in-Some.is at c.loop-rest.invariant)
    (names_wrong c.in-Some.left.now (sym c.in_default-split_range.ensures.value)))

pub loop-rest-preserved : goal.loop-rest-preserved
loop-rest-preserved c =
    let after = option_map (λ (rest : Bor (List ℕ)). rest.now) c.in-Some-split_range.after in
    goes_on names_left (Some c.args.words.now) c.in-Some.left.now c.in-Some-split_range.field-0-0 after
    (rw c.in-Some.is at c.loop-rest.invariant)
    (names_cut c.in-Some.left.now c.in-Some-split_range.field-0-0 after (sym c.in-Some-split_range.ensures.value))
    c.in-Some-split_range.ensures.shorter.0 (shorter_now c.in-Some-split_range.after _ c.in-Some-split_range.ensures.shorter.1)
