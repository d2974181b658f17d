use Rattle.std.proofs.Common.{◌≡◌, List, [], subst, ap, ◌∙◌, arith}
use Rattle.operations.specs.NameSet.{Range, IsNamed, set_of, names_in}
use Rattle.packed.proofs.ReadSets.{IsRead, none_read, one_is_there, goes_on, all_read, set_of-ranges}
use Rattle.packed.proofs.ReadSets.{none_scattered}
use Rattle.std.specs.Prelude.{IfOk}
use Rattle.packed.proofs.sets.PackedSet.set.Goals as goal

pub loop-init : goal.loop-init
loop-init c =
    let count = c.self.inside.count in
    let raw = c.self.inside.raw.now in
    rw c.in_ok-ranges.ensures.items (
      subst (λ (all : List Range). IsRead all [] count 0 0 0 raw) c.self.view_is (none_read count raw c.self.invariant.0),
      omega (arith, c.in_ok-ranges.ensures.capacity),
    )

pub unreachable-requires : goal.unreachable-requires
unreachable-requires c =
    one_is_there c.args.self.now c.loop.ranges.items c.self.inside.count c.loop.counter c.loop.site c.loop.end
    c.loop.raw.now c.loop-test.true c.in_default.ensures c.loop.invariant.0

pub loop-preserved : goal.loop-preserved
loop-preserved c =
    rw (
      c.push_reserved.ensures.items,
      c.get-site.ensures.value,
      c.site.ensures,
      c.at.ensures,
      c.len.ensures.value,
    ) (
      goes_on c.args.self.now c.loop.ranges.items c.self.inside.count c.loop.counter c.loop.site c.loop.end
          c.loop.raw.now c.in-Some.next.0 c.in-Some.next.1.now c.loop-test.true c.in-Some.ensures c.loop.invariant.0,
      omega (arith, c.loop.invariant.1, c.push_reserved.ensures.capacity),
    )

pub returns-clause-ok : goal.returns-clause-ok
returns-clause-ok c =
    let named : IsNamed c.args.self.now = subst IsNamed c.self.view_is c.self.invariant.1 in
    let all : c.loop.ranges.items ≡ c.args.self.now =
    all_read c.args.self.now c.loop.ranges.items c.self.inside.count c.loop.counter c.loop.site c.loop.end
    c.loop.raw.now c.loop-test.false c.loop.invariant.0 in
    subst (λ (names : List Range). IfOk c.of_all.result (λ set. set ≡ names))
    (ap (λ (ranges : List Range). set_of (names_in ranges)) all ∙ set_of-ranges c.args.self.now named.set)
    c.of_all.ensures.ok

pub returns-clause-errors : goal.returns-clause-errors
returns-clause-errors c =
    let named : IsNamed c.args.self.now = subst IsNamed c.self.view_is c.self.invariant.1 in
    let all : c.loop.ranges.items ≡ c.args.self.now =
    all_read c.args.self.now c.loop.ranges.items c.self.inside.count c.loop.counter c.loop.site c.loop.end
    c.loop.raw.now c.loop-test.false c.loop.invariant.0 in
    none_scattered c.of_all.result (set_of (names_in c.loop.ranges.items)) c.args.self.now
    (ap (λ (ranges : List Range). set_of (names_in ranges)) all ∙ set_of-ranges c.args.self.now named.set) named
    c.of_all.ensures.scattered c.of_all.ensures.errors
