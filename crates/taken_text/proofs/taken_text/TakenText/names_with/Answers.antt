use Rattle.std.proofs.Common.{◌≡◌, ◌<◌, ◌++◌, List, length, filter, append-nil, sym, ap, subst, ◌∙◌, arith}
use Rattle.std.specs.Prelude.{IfOk}
use Rattle.std.proofs.lemmas.List.{drop_all}
use Rattle.operations.specs.NameSet.{IsAmong, Range, names_in, set_of}
use Rattle.operations.specs.declared.name_set.TheConstants.{MAX_RANGES}
use Rattle.taken_text.specs.Named.{has_visibility, names_with}
use Rattle.taken_text.proofs.Alike.{among, gathered}
use Rattle.taken_text.proofs.SameNames.{same_set}
use Rattle.taken_text.proofs.taken_text.TakenText.names_with.Goals as goal
use Rattle.taken_text.proofs.taken_text.TakenText.names_with.Goals.{After-of_all}

pub loop-range-init : goal.loop-range-init
loop-range-init c =
    ap (λ (ranges : List Range). names_in ranges ++ filter (has_visibility c.args.self.now.operations c.args.visible) (names_in c.deref-range-items.result.now))
    c.new-found.ensures.items

pub gather_from-requires : goal.gather_from-requires
gather_from-requires c = λ name held.
    c.requires name ((c.in_ok-ranges.ensures.names name).0
    (subst (λ (ranges : List Range). IsAmong ranges name) c.deref-range-items.ensures.value
    (among c.deref-range-items.result.now c.loop-range.range-index c.range-item.result c.loop-range-test.true c.range-item.is name held)))

pub loop-range-preserved : goal.loop-range-preserved
loop-range-preserved c =
    gathered (has_visibility c.args.self.now.operations c.args.visible) c.deref-range-items.result.now c.loop-range.range-index c.range-item.result
    c.loop-range-test.true c.range-item.is (names_in c.loop-range.found.items) (names_in c.gather_from.new.found.items) _
    c.in_ok-gather_from.ensures.ok c.loop-range.invariant

-- all were gathered
all : (c : After-of_all) → names_in c.loop-range.found.items
    ≡ filter (has_visibility c.args.self.now.operations c.args.visible) (names_in c.deref-range-items.result.now)
all c =
    let test = has_visibility c.args.self.now.operations c.args.visible in
    sym (append-nil (names_in c.loop-range.found.items))
    ∙ ap (λ (ranges : List Range). names_in c.loop-range.found.items ++ filter test (names_in ranges))
    (sym (drop_all c.loop-range.range-index c.deref-range-items.result.now (omega (arith, c.loop-range-test.false))))
    ∙ c.loop-range.invariant

-- and make the set
set_is : (c : After-of_all) → set_of (names_in c.loop-range.found.items) ≡ names_with c.args.self.now.operations c.args.visible c.args.names.now
set_is c =
    ap set_of (all c)
    ∙ ap (λ (ranges : List Range). set_of (filter (has_visibility c.args.self.now.operations c.args.visible) (names_in ranges)))
    c.deref-range-items.ensures.value
    ∙ same_set (has_visibility c.args.self.now.operations c.args.visible) c.in_ok-ranges.ranges.items c.args.names.now
    c.in_ok-ranges.ensures.ranges c.in_ok-ranges.ensures.names

pub returns-clause-ok : goal.returns-clause-ok
returns-clause-ok c =
    subst (λ (ranges : List Range). IfOk c.of_all.result (λ set. set ≡ ranges)) (set_is ((goal.at.returns-clause-ok c).After-of_all)) c.of_all.ensures.ok

pub returns-clause-scattered : goal.returns-clause-scattered
returns-clause-scattered c = λ scattered.
    subst (λ (ranges : List Range). MAX_RANGES < length ranges) (set_is ((goal.at.returns-clause-scattered c).After-of_all)) (c.of_all.ensures.scattered.0 scattered)
