use Rattle.std.proofs.Common.{◌≡◌, ℕ, List, [], ◌∷◌, map, take, sym, ap, subst, ◌∙◌, arith, refl}
use Rattle.operations.specs.NameSet.{Range}
use Rattle.tree_order.specs.Registers.{Atom, if_named}
use Rattle.piece_list.specs.Changing.{changed_char, setting_key, IsEdge}
use Rattle.piece_list.specs.Spelled.{spelled}
use Rattle.piece_list.proofs.Below.{below_stays}
use Rattle.piece_list.proofs.Noted.{range_among}
use Rattle.piece_list.proofs.ChangedNames.{unchanged, one_more, range_here}
use Rattle.piece_list.proofs.ChangedPiece.{keeps_name}
use Rattle.piece_list.proofs.Entries.{entries_none, entries_more}
use Rattle.piece_list.proofs.Positions.{Items}
use Rattle.piece_list.proofs.list.pieces.Pieces.change_ranges.Goals as goal

pub loop-range-init : goal.loop-range-init
loop-range-init c = record {
  room = omega (arith, c.requires.room);
  values = refl;
  few = omega arith;
  firsts = λ tag d is. is;
  changed = sym (unchanged (changed_char c.args.setting.now) (keeps_name c.args.setting.now) [] (λ d. refl)
      (spelled c.args.self.now.items));
  noted = entries_none c.args.setting.now c.args.ranges.now 0 0 c.args.note.now c.args.self.now.items;
}

pub change_range-requires-clause-here : goal.change_range-requires-clause-here
change_range-requires-clause-here c =
    range_here (changed_char c.args.setting.now) (keeps_name c.args.setting.now)
    (take c.loop-range.range-index c.args.ranges.now) c.args.ranges.now c.loop-range.range-index
    c.range-item.result (spelled c.args.self.now.items)
    (spelled c.split_across-in-loop-range.new.self.items) c.loop-range-test.true c.range-item.is c.requires.here
    (c.split_across-in-loop-range.ensures.split.spells ∙ c.split_across.ensures.split.spells ∙ c.loop-range.invariant.changed)

pub change_range-requires-clause-below : goal.change_range-requires-clause-below
change_range-requires-clause-below c =
    let ranges : List Range = c.args.ranges.now in
    let i : ℕ = c.loop-range.range-index in
    let spells = c.split_across-in-loop-range.ensures.split.spells ∙ c.split_across.ensures.split.spells
    ∙ c.loop-range.invariant.changed in
    λ k has held.
    below_stays (setting_key c.args.setting.now) c.args.setting.now (take i ranges) ranges (spelled c.args.self.now.items)
    (spelled c.split_across-in-loop-range.new.self.items) c.requires.below spells k has
    (range_among ranges i c.range-item.result k.name c.loop-range-test.true c.range-item.is held)

pub change_range-requires-clause-begins : goal.change_range-requires-clause-begins
change_range-requires-clause-begins c =
    let r : Range = c.range-item.result in
    let split : Items = c.split_across.new.self.items in
    c.split_across-in-loop-range.ensures.split.edges r.site r.at
    (subst (λ (s : ℕ). IsEdge s r.at split) c.site.ensures
    (subst (λ (o : ℕ). IsEdge c.site.result o split) c.at.ensures c.split_across.ensures.edge))

pub loop-range-preserved : goal.loop-range-preserved
loop-range-preserved c =
    let each : Atom → Atom = changed_char c.args.setting.now in
    let r : Range = c.range-item.result in
    let spells : spelled c.split_across-in-loop-range.new.self.items ≡ spelled c.loop-range.self.items =
    c.split_across-in-loop-range.ensures.split.spells ∙ c.split_across.ensures.split.spells in
    record {
      room = omega (
        arith,
        c.change_range.ensures.room,
        c.split_across-in-loop-range.ensures.room,
        c.split_across.ensures.room,
        c.loop-range.invariant.room,
      );
      values = c.change_range.ensures.values ∙ c.split_across-in-loop-range.ensures.values
          ∙ c.split_across.ensures.values ∙ c.loop-range.invariant.values;
      few = omega (
        arith,
        c.change_range.ensures.same.many,
        c.split_across-in-loop-range.ensures.split.few,
        c.split_across.ensures.split.few,
        c.loop-range.invariant.few,
      );
      firsts = λ tag d is. c.change_range.ensures.same.firsts tag d (c.split_across-in-loop-range.ensures.split.firsts tag d
          (c.split_across.ensures.split.firsts tag d (c.loop-range.invariant.firsts tag d is)));
      changed = c.change_range.ensures.changed
          ∙ ap (map (if_named (r ∷ []) each)) (spells ∙ c.loop-range.invariant.changed)
          ∙ one_more each (keeps_name c.args.setting.now) c.args.ranges.now c.loop-range.range-index r
          c.requires.set c.loop-range-test.true c.range-item.is (spelled c.args.self.now.items);
      noted = entries_more c.args.setting.now c.args.ranges.now c.loop-range.range-index r c.args.note.now
          c.loop-range.note c.change_range.new.note c.args.self.now.items c.loop-range.self.items
          c.split_across-in-loop-range.new.self.items c.change_range.new.self.items c.loop-range-test.true c.range-item.is
          spells (λ hidden. omega (
            arith,
            c.split_across-in-loop-range.ensures.split.unlike_more hidden,
            c.split_across.ensures.split.unlike_more hidden,
          )) c.loop-range.invariant.noted c.change_range.ensures.noted;
    }
