use Rattle.std.proofs.Common.{◌≡◌, ◌+◌, length, sym, subst, ap, ◌∙◌, arith}
use Rattle.std.proofs.lemmas.List.{length-map}
use Rattle.piece_raw.specs.Ring.{Ring, IsMember, with_value, with_value_at}
use Rattle.piece_list.specs.declared.record.PieceRecord.{PieceRecord}
use Rattle.piece_list.specs.Piece.{Piece}
use Rattle.piece_list.specs.Pieces.{longer}
use Rattle.piece_list.specs.Values.{IsWithin, Values, piece_in, pieces_in}
use Rattle.piece_list.proofs.Recorded.{AreWithin, Records, at_cursor, cut_within, member_on, member_within, on, tag_off, written_at, written_on}
use Rattle.piece_list.proofs.Recorded.{written_many, written_within}
use Rattle.piece_list.proofs.ring.PieceRing.lengthen.Goals as goal
use Rattle.piece_list.proofs.ring.PieceRing.lengthen.Goals.{After-value_mut}

pub seek-requires : goal.seek-requires
seek-requires c =
    tag_off (piece_in c.self.inside.values.values) c.self.inside.records.items c.args.number
    (rw (← c.self.view_is) at c.requires.here)

-- the record that becomes longer
member : (c : After-value_mut) → IsMember c.self.inside.records.items c.args.number c.value_mut.result.now
member c =
    at_cursor c.seek.new.self c.self.inside.records.items c.args.number c.self.inside.records.room c.value_mut.result.now
    c.seek.ensures c.value_mut.ensures.value

pub lengthen-requires : goal.lengthen-requires
lengthen-requires c =
    let p : Piece = piece_in c.self.inside.values.values c.value_mut.result.now in
    (rw (← c.self.view_is) at c.requires.small) p
    (member_on (piece_in c.self.inside.values.values) c.self.inside.records.items c.args.number c.value_mut.result.now (member c))

pub invariant_of-self : goal.invariant_of-self
invariant_of-self c =
    let v : Values = c.self.inside.values.values in
    let records : Records = c.self.inside.records.items in
    let r : PieceRecord = c.value_mut.result.now in
    let items = written_at c.seek.new.self records c.args.number c.self.inside.records.room c.lengthen.new.self c.seek.ensures in
    let room : c.seek.new.self.room ≡ c.self.inside.records.room = ap (λ (s : Ring PieceRecord). s.room) c.seek.ensures in
    let was : IsWithin v r =
    member_within v records c.args.number r c.self.invariant.0 (member (goal.at.invariant_of-self c).After-value_mut) in
    let is : IsWithin v c.lengthen.new.self =
    subst (IsWithin v) (sym c.lengthen.ensures) (cut_within v r r.stamp r.off (r.len + c.args.n) was) in (
      subst (AreWithin v) (sym items) (written_within v records c.args.number c.lengthen.new.self c.self.invariant.0 is),
      omega (arith, room, c.self.invariant.1),
      c.self.invariant.2,
      omega (arith, ap length items, written_many c.args.number c.lengthen.new.self records, c.self.invariant.3),
    )

pub returns-clause-longer : goal.returns-clause-longer
returns-clause-longer c =
    let v : Values = c.self.inside.values.values in
    let records : Records = c.self.inside.records.items in
    let r : PieceRecord = c.value_mut.result.now in
    let p : Piece = piece_in v r in
    let items : pieces_in v (with_value_at c.seek.new.self.cursor c.lengthen.new.self c.seek.new.self.items)
    ≡ with_value c.args.number (longer c.args.n p) (pieces_in v records) =
    ap (pieces_in v)
    (written_at c.seek.new.self records c.args.number c.self.inside.records.room c.lengthen.new.self c.seek.ensures)
    ∙ written_on (piece_in v) c.args.number c.lengthen.new.self records
    ∙ ap (λ (q : PieceRecord). with_value c.args.number (piece_in v q) (pieces_in v records)) c.lengthen.ensures in
    rw (← c.self.view_is) (
      p,
      member_on (piece_in v) records c.args.number r (member (goal.at.returns-clause-longer c).After-value_mut),
      items,
    )

pub returns-clause-few : goal.returns-clause-few
returns-clause-few c =
    let v : Values = c.self.inside.values.values in
    let records : Records = c.self.inside.records.items in
    rw (← c.self.view_is) (omega (arith, length-map records (on (piece_in v)), c.self.invariant.3))
