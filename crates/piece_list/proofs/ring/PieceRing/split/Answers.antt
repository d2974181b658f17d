use Rattle.std.proofs.Common.{◌≡◌, ◌<◌, Some, sym, subst, ap, ◌∙◌, arith}
use Rattle.piece_raw.specs.Ring.{Ring, IsMember, IsPushed, with_value}
use Rattle.piece_list.specs.declared.record.PieceRecord.{PieceRecord}
use Rattle.piece_list.specs.Piece.{Piece}
use Rattle.piece_list.specs.Pieces.{IsPiece, piece_front, rest_of}
use Rattle.piece_list.specs.Values.{IsWithin, Values, piece_in, pieces_in}
use Rattle.piece_list.proofs.Positions.{Items}
use Rattle.piece_list.proofs.Recorded.{Records, at_cursor, cut_within, member_on, member_within, pushed_on, pushed_within}
use Rattle.piece_list.proofs.Recorded.{pushed_after, pushed_many, rest_stands, written_many, tag_off, written_on, written_within}
use Rattle.piece_list.proofs.ring.PieceRing.split.Goals as goal
use Rattle.piece_list.proofs.ring.PieceRing.split.Goals.{After-value_mut, In-Ok}

pub seek-requires : goal.seek-requires
seek-requires c =
    tag_off (piece_in c.self.inside.values.values) c.self.inside.records.items c.args.number
    (rw (← c.self.view_is) at c.requires.here)

-- the record that is split
member : (c : After-value_mut) → IsMember c.self.inside.records.items c.args.number c.value_mut.result.now
member c =
    at_cursor c.seek.new.self c.self.inside.records.items c.args.number c.self.inside.records.room c.value_mut.result.now
    c.seek.ensures c.value_mut.ensures.value

-- what is asked of its piece
asked : (c : After-value_mut) → IsPiece (piece_in c.self.inside.values.values c.value_mut.result.now)
    × (c.args.n < c.value_mut.result.now.len)
asked c =
    let p : Piece = piece_in c.self.inside.values.values c.value_mut.result.now in
    (rw (← c.self.view_is) at c.requires.within) p
    (member_on (piece_in c.self.inside.values.values) c.self.inside.records.items c.args.number c.value_mut.result.now (member c))

pub split_off-rest-requires-clause-within : goal.split_off-rest-requires-clause-within
split_off-rest-requires-clause-within c = (asked (goal.at.split_off-rest-requires-clause-within c).After-value_mut).1

pub split_off-rest-requires-clause-small : goal.split_off-rest-requires-clause-small
split_off-rest-requires-clause-small c =
    let piece = (asked (goal.at.split_off-rest-requires-clause-small c).After-value_mut).0 in
    omega (arith, piece.2)

pub split_off-rest-requires-clause-stamps : goal.split_off-rest-requires-clause-stamps
split_off-rest-requires-clause-stamps c = (asked (goal.at.split_off-rest-requires-clause-stamps c).After-value_mut).0.4

-- the rest's record is inserted after the front's
pushed : (c : In-Ok) → IsPushed (with_value c.args.number c.split_off-rest.new.self c.self.inside.records.items) (Some c.args.number)
    c.in-Ok.new c.split_off-rest.result c.push_after.new.self.items
pushed c =
    pushed_after c.seek.new.self c.self.inside.records.items c.push_after.new.self.items c.args.number
    c.self.inside.records.room c.in-Ok.new c.split_off-rest.new.self c.split_off-rest.result c.seek.ensures
    c.in-Ok.ensures.pushed

pub invariant_of-self : goal.invariant_of-self
invariant_of-self c =
    let v : Values = c.self.inside.values.values in
    let r : PieceRecord = c.value_mut.result.now in
    let records : Records = c.self.inside.records.items in
    let is : IsWithin v r =
    member_within v records c.args.number r c.self.invariant.0 (member (goal.at.invariant_of-self c).After-value_mut) in
    let front : IsWithin v c.split_off-rest.new.self =
    subst (IsWithin v) (sym c.split_off-rest.ensures.front) (cut_within v r r.stamp r.off c.args.n is) in
    let rest : IsWithin v c.split_off-rest.result =
    subst (IsWithin v) (sym c.split_off-rest.ensures.rest) (cut_within v r _ _ _ is) in
    let pushed_in = pushed (goal.at.invariant_of-self c).In-Ok in
    let front_in : Records = with_value c.args.number c.split_off-rest.new.self records in
    let many = pushed_many front_in c.push_after.new.self.items (Some c.args.number) c.in-Ok.new c.split_off-rest.result pushed_in in
    let room : c.seek.new.self.room ≡ c.self.inside.records.room = ap (λ (r : Ring PieceRecord). r.room) c.seek.ensures in
    let some : 0 < c.self.inside.room = rw (← c.self.view_is) at c.requires.room in (
      pushed_within v front_in c.push_after.new.self.items (Some c.args.number) c.in-Ok.new c.split_off-rest.result
          (written_within v records c.args.number c.split_off-rest.new.self c.self.invariant.0 front) rest pushed_in,
      omega (arith, room, c.push_after.ensures.room, c.self.invariant.1),
      omega (arith, c.self.invariant.2),
      omega (arith, many, written_many c.args.number c.split_off-rest.new.self records, c.self.invariant.3, some),
    )

pub returns-clause-split : goal.returns-clause-split
returns-clause-split c =
    let v : Values = c.self.inside.values.values in
    let r : PieceRecord = c.value_mut.result.now in
    let p : Piece = piece_in v r in
    let records : Records = c.self.inside.records.items in
    let new : Items = pieces_in v c.push_after.new.self.items in
    let was : IsMember records c.args.number r = member (goal.at.returns-clause-split c).After-value_mut in
    let made : IsPushed (pieces_in v (with_value c.args.number c.split_off-rest.new.self records)) (Some c.args.number) c.in-Ok.new
    (piece_in v c.split_off-rest.result) new =
    pushed_on (piece_in v) (with_value c.args.number c.split_off-rest.new.self records) c.push_after.new.self.items
    (Some c.args.number) c.in-Ok.new c.split_off-rest.result (pushed (goal.at.returns-clause-split c).In-Ok) in
    let front : pieces_in v (with_value c.args.number c.split_off-rest.new.self records)
    ≡ with_value c.args.number (piece_front c.args.n p) (pieces_in v records) =
    written_on (piece_in v) c.args.number c.split_off-rest.new.self records
    ∙ ap (λ (f : PieceRecord). with_value c.args.number (piece_in v f) (pieces_in v records)) c.split_off-rest.ensures.front in
    rw (← c.self.view_is) (
      p,
      member_on (piece_in v) records c.args.number r was,
      subst (λ (l : Items). IsPushed l (Some c.args.number) c.in-Ok.new (rest_of c.args.n p) new) front
          (subst (λ (q : Piece). IsPushed (pieces_in v (with_value c.args.number c.split_off-rest.new.self records))
          (Some c.args.number) c.in-Ok.new q new)
          (ap (piece_in v) c.split_off-rest.ensures.rest ∙ rest_stands v r c.args.n) made),
    )
