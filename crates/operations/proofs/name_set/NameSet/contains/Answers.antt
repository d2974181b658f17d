use Rattle.std.proofs.Common.{◌≡◌, ◌↔◌, List, true, subst, arith}
use Rattle.operations.specs.NameSet.{Range, IsAmong, IsInsertionPoint, of_name}
use Rattle.operations.proofs.WithName.{among_at_point}
use Rattle.operations.proofs.name_set.NameSet.contains.Goals as goal

pub returns-then-at-len : goal.returns-then-at-len
returns-then-at-len c =
    let ranges = c.self.inside.ranges in
    let at = c.insertion_point-at.result in
    let here : IsInsertionPoint c.deref.result.now at (of_name c.args.name) =
    subst (λ (x : Range). IsInsertionPoint c.deref.result.now at x) c.of.ensures.value
    c.insertion_point-at.ensures.point in
    let point : IsInsertionPoint ranges.items at (of_name c.args.name) =
    subst (λ (xs : List Range). IsInsertionPoint xs at (of_name c.args.name)) c.deref.ensures.value
    here in
    subst (λ (xs : List Range). (c.contains.result ≡ true) ↔ IsAmong xs c.args.name) c.self.view_is
    (among_at_point ranges.items at c.args.name c.index.result.now c.contains.result c.self.invariant.0
    point (omega (arith, ranges.ok.0)) c.index.ensures c.contains.ensures)
