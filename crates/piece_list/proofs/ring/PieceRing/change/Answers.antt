use Rattle.std.proofs.Common.{◌≡◌, IsTrue, length, sym, subst, ap, ◌∙◌, arith}
use Rattle.piece_raw.specs.Ring.{Ring, IsMember, with_value, with_value_at}
use Rattle.piece_list.specs.declared.record.PieceRecord.{PieceRecord}
use Rattle.piece_list.specs.Changing.{changed_piece}
use Rattle.piece_list.specs.Noted.{ShowsOther, ShowsTheSame}
use Rattle.piece_list.specs.Piece.{Piece}
use Rattle.piece_list.specs.Values.{Values, piece_in, pieces_in}
use Rattle.piece_list.proofs.Recorded.{AreWithin, Records, at_cursor, member_on, member_within, tag_off, written_at, written_on}
use Rattle.piece_list.proofs.Recorded.{written_many, written_within}
use Rattle.piece_list.proofs.ring.PieceRing.change.Goals as goal
use Rattle.piece_list.proofs.ring.PieceRing.change.Goals.{After-value_mut}

pub seek-requires : goal.seek-requires
seek-requires c =
    tag_off (piece_in c.self.inside.values.values) c.self.inside.records.items c.args.number
    (rw (← c.self.view_is) at c.requires.here)

-- the record that is changed
member : (c : After-value_mut) → IsMember c.self.inside.records.items c.args.number c.value_mut.result.now
member c =
    at_cursor c.seek.new.self c.self.inside.records.items c.args.number c.self.inside.records.room c.value_mut.result.now
    c.seek.ensures c.value_mut.ensures.value

pub set-requires-clause-within : goal.set-requires-clause-within
set-requires-clause-within c =
    member_within c.self.inside.values.values c.self.inside.records.items c.args.number c.value_mut.result.now c.self.invariant.0
    (member c)

pub invariant_of-self : goal.invariant_of-self
invariant_of-self c =
    let v : Values = c.self.inside.values.values in
    let records : Records = c.self.inside.records.items in
    let items = written_at c.seek.new.self records c.args.number c.self.inside.records.room c.set.new.record c.seek.ensures in
    let room : c.seek.new.self.room ≡ c.self.inside.records.room = ap (λ (r : Ring PieceRecord). r.room) c.seek.ensures in (
      subst (AreWithin v) (sym items)
          (written_within v records c.args.number c.set.new.record c.self.invariant.0 c.set.ensures.within),
      omega (arith, room, c.self.invariant.1),
      c.self.invariant.2,
      omega (arith, ap length items, written_many c.args.number c.set.new.record records, c.self.invariant.3),
    )

pub returns-clause-changed : goal.returns-clause-changed
returns-clause-changed c =
    let v : Values = c.self.inside.values.values in
    let records : Records = c.self.inside.records.items in
    let r : PieceRecord = c.value_mut.result.now in
    let p : Piece = piece_in v r in
    let changed : piece_in v c.set.new.record ≡ changed_piece c.args.setting.now p = c.set.ensures.changed in
    let items : pieces_in v (with_value_at c.seek.new.self.cursor c.set.new.record c.seek.new.self.items)
    ≡ with_value c.args.number (changed_piece c.args.setting.now p) (pieces_in v records) =
    ap (pieces_in v)
    (written_at c.seek.new.self records c.args.number c.self.inside.records.room c.set.new.record c.seek.ensures)
    ∙ written_on (piece_in v) c.args.number c.set.new.record records
    ∙ ap (λ (q : Piece). with_value c.args.number q (pieces_in v records)) changed in
    rw (← c.self.view_is) (
      p,
      member_on (piece_in v) records c.args.number r (member (goal.at.returns-clause-changed c).After-value_mut),
      items,
      subst (λ (q : Piece). IsTrue c.set.result → IsTrue c.args.asked × ShowsOther c.args.setting.now p q) changed
          c.set.ensures.other,
      subst (λ (q : Piece). IsTrue c.args.asked → ¬ IsTrue c.set.result → ShowsTheSame p q) changed c.set.ensures.same,
    )
