use Rattle.std.proofs.Common.{◌≡◌, ◌<◌, List, length, ap, subst, ◌∙◌}
use Rattle.std.specs.Prelude.{IfOk}
use Rattle.operations.specs.NameSet.{Range, names_in, set_of}
use Rattle.operations.specs.declared.name_set.TheConstants.{MAX_RANGES}
use Rattle.taken_text.specs.Taken.{names_between}
use Rattle.taken_text.proofs.Stretch.{names_are}
use Rattle.taken_text.proofs.taken_text.TakenText.names_shown.Goals as goal

-- the ranges of the runs have the names
is_set : (c : goal.After-of_all) → set_of (names_in c.in_ok-ranges_of.field-0.items) ≡ names_between c.args.self.now c.args.beg c.args.end
is_set c =
    let t = c.self.inside in
    ap (λ (ranges : List Range). set_of (names_in ranges)) c.in_ok-ranges_of.ensures.ok
    ∙ names_are t.log.ops t.pieces.items t.files t.asked c.args.self.now c.self.view_is c.self.invariant.taken
    c.args.beg c.args.end c.walk_between.result c.walk_between.ensures.shown

pub returns-clause-ok : goal.returns-clause-ok
returns-clause-ok c =
    subst (λ (names : List Range). IfOk c.of_all.result (λ set. set ≡ names)) (is_set c) c.of_all.ensures.ok

pub returns-clause-scattered : goal.returns-clause-scattered
returns-clause-scattered c = λ scattered.
    subst (λ (names : List Range). MAX_RANGES < length names) (is_set c) (c.of_all.ensures.scattered.0 scattered)
