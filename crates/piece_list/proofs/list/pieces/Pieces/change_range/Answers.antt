use Rattle.std.proofs.Common.{◌≡◌, ℕ, ◌+◌, ◌-◌, ◌<◌, ◌≤◌, [], ◌∷◌, map, refl, sym, ap, subst, ◌∙◌, arith}
use Rattle.char_files.specs.CharName.{CharName}
use Rattle.operations.specs.NameSet.{IsIn, Range}
use Rattle.tree_order.specs.Registers.{Atom, if_named}
use Rattle.piece_list.specs.Changing.{AreTheSame, IsEdge, changed_char, setting_key}
use Rattle.piece_list.specs.Noted.{AreNoted}
use Rattle.piece_list.specs.Spelled.{spelled}
use Rattle.piece_list.proofs.Below.{below_stays, piece_below}
use Rattle.piece_list.proofs.ChangedNames.{range, no_range, name_here, range_grows}
use Rattle.piece_list.proofs.ChangedPiece.{keeps_name}
use Rattle.piece_list.proofs.Entries.{entries_none, entries_on}
use Rattle.piece_list.proofs.Positions.{Items}
use Rattle.piece_list.proofs.list.pieces.Pieces.change_range.Goals as goal

pub loop-at-init : goal.loop-at-init
loop-at-init c =
    let each : Atom → Atom = changed_char c.args.setting.now in
    let site : ℕ = c.args.range.site in
    let from : ℕ = c.args.range.at in
    let items : Items = c.args.self.now.items in
    let end : from + c.args.range.len ≡ c.at.result + c.len.result =
    omega (arith, c.at.ensures, c.len.ensures.value) in
    let none : c.at-at.result - from ≡ 0 = omega (arith, c.at-at.ensures) in
    record {
      end = sym end;
      low = omega (arith, c.at-at.ensures);
      high = omega (arith, c.at-at.ensures, c.at.ensures);
      begins = subst (λ (o : ℕ). IsEdge site o items) (sym c.at-at.ensures) c.requires.begins;
      ends = subst (λ (o : ℕ). IsEdge site o items) end c.requires.ends;
      changed = sym (ap (λ (n : ℕ). map (if_named (range site from n ∷ []) each) (spelled items)) none
          ∙ no_range each (keeps_name c.args.setting.now) site from (spelled items));
      same = record { many = refl; edges = λ s off edge. edge; firsts = λ tag d is. is };
      room = refl;
      values = refl;
      noted = entries_none c.args.setting.now (c.args.range ∷ []) (c.at-at.result - from) 0 c.args.note.now items;
    }

pub change_piece-at-requires-clause-here : goal.change_piece-at-requires-clause-here
change_piece-at-requires-clause-here c =
    let name : CharName = c.in-Some.name in
    let site : name.site ≡ c.args.range.site =
    ap (λ (d : CharName). d.site) c.in-Some.ensures.value ∙ c.site.ensures in
    let off : name.off ≡ c.loop-at.at = ap (λ (d : CharName). d.off) c.in-Some.ensures.value in
    let held : IsIn c.args.range name =
    (site, omega (arith, c.loop-at.invariant.low), omega (arith, c.loop-at.invariant.end, c.loop-at-test.true)) in
    name_here (changed_char c.args.setting.now) (keeps_name c.args.setting.now)
    (range c.args.range.site c.args.range.at (c.loop-at.at - c.args.range.at) ∷ []) c.args.range name
    (spelled c.args.self.now.items) (spelled c.loop-at.self.items) c.requires.here
    c.loop-at.invariant.changed held

pub change_piece-at-requires-clause-below : goal.change_piece-at-requires-clause-below
change_piece-at-requires-clause-below c =
    let name : CharName = c.in-Some.name in
    let r : Range = c.args.range in
    let items : Items = c.loop-at.self.items in
    let site : name.site ≡ r.site = ap (λ (d : CharName). d.site) c.in-Some.ensures.value ∙ c.site.ensures in
    let off : name.off ≡ c.loop-at.at = ap (λ (d : CharName). d.off) c.in-Some.ensures.value in
    let from : r.at ≤ name.off = omega (arith, off, c.loop-at.invariant.low) in
    let end : ℕ = c.at.result + c.len.result in
    let to : name.off < end = omega (arith, off, c.loop-at-test.true) in
    let begins : IsEdge name.site name.off items =
    subst (λ (o : ℕ). IsEdge name.site o items) (sym off) (subst (λ (s : ℕ). IsEdge s c.loop-at.at items) (sym site) c.loop-at.invariant.begins) in
    piece_below (setting_key c.args.setting.now) r items name end
    (below_stays (setting_key c.args.setting.now) c.args.setting.now (range r.site r.at (c.loop-at.at - r.at) ∷ []) (r ∷ [])
    (spelled c.args.self.now.items) (spelled items) c.requires.below c.loop-at.invariant.changed)
    site from to c.loop-at.invariant.end begins c.loop-at.invariant.ends

pub loop-at-preserved : goal.loop-at-preserved
loop-at-preserved c =
    let name : CharName = c.in-Some.name in
    let named : ℕ → CharName = λ (s : ℕ). record { site = s; off = c.loop-at.at } in
    let end : ℕ = c.at.result + c.len.result in
    let to : ℕ = c.change_piece-at.result in
    let was : Items = c.args.self.now.items in
    let between : Items = c.loop-at.self.items in
    let now : Items = c.change_piece-at.new.self.items in
    let is : name ≡ named c.args.range.site = c.in-Some.ensures.value ∙ ap named c.site.ensures in
    let site : name.site ≡ c.args.range.site = ap (λ (d : CharName). d.site) is in
    let off : name.off ≡ c.loop-at.at = ap (λ (d : CharName). d.off) is in
    let on : name.off < to = c.change_piece-at.ensures.end.some in
    let within : name.off < end = omega (arith, off, c.loop-at-test.true) in
    let high : to ≤ end =
    c.change_piece-at.ensures.end.first end within
    (subst (λ (s : ℕ). IsEdge s end between) (sym site) c.loop-at.invariant.ends) in
    let same : AreTheSame between now = c.change_piece-at.ensures.same in
    record {
      end = c.loop-at.invariant.end;
      low = omega (arith, c.loop-at.invariant.low, off, on);
      high = high;
      begins = same.edges c.args.range.site to
          (subst (λ (s : ℕ). IsEdge s to between) site c.change_piece-at.ensures.end.edge);
      ends = same.edges c.args.range.site end c.loop-at.invariant.ends;
      changed = range_grows (changed_char c.args.setting.now) (keeps_name c.args.setting.now)
          c.args.range.site c.args.range.at c.loop-at.at to name (spelled was) (spelled between) (spelled now) is
          c.loop-at.invariant.low (omega (arith, off, on)) c.loop-at.invariant.changed
          c.change_piece-at.ensures.changed;
      same = record {
        many = same.many ∙ c.loop-at.invariant.same.many;
        edges = λ s o edge. same.edges s o (c.loop-at.invariant.same.edges s o edge);
        firsts = λ tag d is. same.firsts tag d (c.loop-at.invariant.same.firsts tag d is);
      };
      room = c.change_piece-at.ensures.room ∙ c.loop-at.invariant.room;
      values = c.change_piece-at.ensures.values ∙ c.loop-at.invariant.values;
      noted = entries_on c.args.setting.now c.args.range name to c.args.note.now c.loop-at.note
          c.change_piece-at.new.note was between now site (omega (arith, off, c.loop-at.invariant.low)) on
          (omega (arith, c.loop-at.invariant.end, high))
          (subst (λ (o : ℕ). AreNoted c.args.setting.now (c.args.range ∷ []) (o - c.args.range.at) 0 c.args.note.now
          c.loop-at.note was between) (sym off) c.loop-at.invariant.noted)
          c.change_piece-at.ensures.noted;
    }
