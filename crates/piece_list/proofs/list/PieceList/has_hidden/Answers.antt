use Rattle.std.proofs.Common.{◌≡◌, ◌≤◌, true, false, List, length, refl, subst, arith}
use Rattle.operations.specs.NameSet.{Range, IsAmong}
use Rattle.tree_order.specs.Registers.{Atom}
use Rattle.piece_list.specs.Spelled.{spelled}
use Rattle.piece_list.proofs.ChangedNames.{is_false, true_is_not}
use Rattle.piece_list.proofs.HiddenNames.{NoneHidden, more_ranges, none_of_all}
use Rattle.piece_list.proofs.list.PieceList.has_hidden.Goals as goal

pub loop-range-preserved : goal.loop-range-preserved
loop-range-preserved c =
    let ks : List Atom = spelled c.args.self.now.items in
    let none : NoneHidden ks c.range-item.result =
    λ k has held. is_false k.hidden.value (λ hidden.
    let told : c.has_hidden_in.result ≡ true = c.has_hidden_in.ensures.1 (k, has, held, hidden) in
    true_is_not c.has_hidden_in.result told c.if-has_hidden_in.false) in
    more_ranges ks c.ranges-range-items.result.now c.loop-range.range-index c.range-item.result
    c.loop-range-test.true c.range-item.is c.loop-range.invariant none

pub returns : goal.returns
returns c =
    let ks : List Atom = spelled c.args.self.now.items in
    let all : length c.ranges-range-items.result.now ≤ c.loop-range.range-index = omega (arith, c.loop-range-test.false) in (
      λ hidden. absurd (true_is_not false hidden refl),
      λ (k, has, named, hidden). absurd (true_is_not k.hidden.value hidden
          (subst (λ (ranges : List Range). IsAmong ranges k.name → k.hidden.value ≡ false) c.ranges-range-items.ensures.value
          (none_of_all ks c.ranges-range-items.result.now c.loop-range.range-index all c.loop-range.invariant k has) named)),
    )
