use Rattle.std.proofs.Common.{List, refl, sym, ap, ◌∙◌, arith}
use Rattle.std.specs.List.{list_any}
use Rattle.std.proofs.lemmas.List.{drop_all}
use Rattle.operations.specs.NameSet.{Range, names_in}
use Rattle.taken_text.specs.Named.{has_visibility}
use Rattle.taken_text.proofs.Alike.{among, any_found, any_passed}
use Rattle.taken_text.proofs.taken_text.TakenText.has_any.Goals as goal

pub loop-range-init : goal.loop-range-init
loop-range-init c = refl

pub has_in-requires : goal.has_in-requires
has_in-requires c = λ name held. c.requires name (among c.args.names.now c.loop-range.range-index c.range-item.result c.loop-range-test.true c.range-item.is name held)

pub returns-then-has_in : goal.returns-then-has_in
returns-then-has_in c =
    sym (sym c.loop-range.invariant
    ∙ any_found (has_visibility c.args.self.now.operations c.args.visible) c.args.names.now c.loop-range.range-index c.range-item.result
    c.loop-range-test.true c.range-item.is c.has_in.result c.has_in.ensures c.if-has_in.true)

pub loop-range-preserved : goal.loop-range-preserved
loop-range-preserved c =
    sym (any_passed (has_visibility c.args.self.now.operations c.args.visible) c.args.names.now c.loop-range.range-index c.range-item.result
    c.loop-range-test.true c.range-item.is c.has_in.result c.has_in.ensures c.if-has_in.false)
    ∙ c.loop-range.invariant

pub returns : goal.returns
returns c =
    ap (λ (ranges : List Range). list_any (has_visibility c.args.self.now.operations c.args.visible) (names_in ranges))
    (sym (drop_all c.loop-range.range-index c.args.names.now (omega (arith, c.loop-range-test.false))))
    ∙ c.loop-range.invariant
