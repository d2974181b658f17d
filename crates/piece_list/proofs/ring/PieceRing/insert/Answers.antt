use Rattle.std.proofs.Common.{◌≡◌, ◌<◌, ap, sym, subst, arith}
use Rattle.piece_raw.specs.Ring.{Ring, IsPushed}
use Rattle.piece_list.specs.declared.record.PieceRecord.{PieceRecord}
use Rattle.piece_list.specs.Piece.{Piece}
use Rattle.piece_list.specs.Pieces.{piece_of}
use Rattle.piece_list.specs.Values.{IsWithin, Values, piece_in, pieces_in}
use Rattle.piece_list.proofs.Positions.{Items}
use Rattle.piece_list.proofs.Recorded.{Records, all_within_stay, pieces_stay, pushed_at, pushed_on, pushed_within, run_in, run_within}
use Rattle.piece_list.proofs.Recorded.{pushed_many, tag_off_if}
use Rattle.piece_list.proofs.ring.PieceRing.insert.Goals as goal
use Rattle.piece_list.proofs.ring.PieceRing.insert.Goals.{In-Ok}

pub stand_on-requires : goal.stand_on-requires
stand_on-requires c =
    tag_off_if (piece_in c.self.inside.values.values) c.self.inside.records.items c.args.last
    (rw (← c.self.view_is) at c.requires.last)

pushed : (c : In-Ok) → IsPushed c.self.inside.records.items c.args.last c.in-Ok.new c.of_run.result c.push_after.new.self.items
pushed c =
    pushed_at c.stand_on.new.records c.self.inside.records.items c.push_after.new.self.items c.args.last
    c.self.inside.records.room c.in-Ok.new c.of_run.result c.stand_on.ensures c.in-Ok.ensures.pushed

pub invariant_of-self : goal.invariant_of-self
invariant_of-self c =
    let v : Values = c.number_of-looks.new.self.values in
    let records : Records = c.self.inside.records.items in
    let pushed_in = pushed (goal.at.invariant_of-self c).In-Ok in
    let many = pushed_many records c.push_after.new.self.items c.args.last c.in-Ok.new c.of_run.result pushed_in in
    let room : c.stand_on.new.records.room ≡ c.self.inside.records.room =
    ap (λ (r : Ring PieceRecord). r.room) c.stand_on.ensures in
    let some : 0 < c.self.inside.room = rw (← c.self.view_is) at c.requires.room in (
      pushed_within v records c.push_after.new.self.items c.args.last c.in-Ok.new c.of_run.result
          (all_within_stay c.self.inside.values.values v c.number_of-looks.ensures.grows records c.self.invariant.0)
          (subst (IsWithin v) (sym c.of_run.ensures)
          (run_within v c.args.run.now c.number_of-looks.result c.number_of-looks.ensures.there))
          pushed_in,
      omega (arith, room, c.push_after.ensures.room, c.self.invariant.1),
      omega (arith, c.number_of-looks.ensures.room, c.self.invariant.2),
      omega (arith, many, c.self.invariant.3, some),
    )

pub returns-clause-inserted : goal.returns-clause-inserted
returns-clause-inserted c =
    let v : Values = c.number_of-looks.new.self.values in
    let records : Records = c.self.inside.records.items in
    let new : Items = pieces_in v c.push_after.new.self.items in
    let made : IsPushed (pieces_in v records) c.args.last c.in-Ok.new (piece_in v c.of_run.result) new =
    pushed_on (piece_in v) records c.push_after.new.self.items c.args.last c.in-Ok.new c.of_run.result
    (pushed (goal.at.returns-clause-inserted c).In-Ok) in
    rw (← c.self.view_is)
    (subst (λ (l : Items). IsPushed l c.args.last c.in-Ok.new (piece_of c.args.run.now) new)
    (pieces_stay c.self.inside.values.values v c.number_of-looks.ensures.grows records c.self.invariant.0)
    (subst (λ (p : Piece). IsPushed (pieces_in v records) c.args.last c.in-Ok.new p new)
    (run_in v c.args.run.now c.number_of-looks.result c.number_of-looks.ensures.there)
    (subst (λ (r : PieceRecord). IsPushed (pieces_in v records) c.args.last c.in-Ok.new (piece_in v r) new) c.of_run.ensures made)))
