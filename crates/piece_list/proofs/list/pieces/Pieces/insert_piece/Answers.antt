use Rattle.rank_index.proofs.Tagged.{tags_pushed}
use Rattle.piece_list.specs.Piece.{Piece}
use Rattle.piece_list.specs.Pieces.{piece_of, range_of}
use Rattle.piece_list.proofs.SplitList.{Items}
use Rattle.piece_list.proofs.Entered.{filled_inside, filled_outside}
use Rattle.piece_list.proofs.Keyed.{keyed_pushed}
use Rattle.piece_list.proofs.Parts.{part_has_tag_if}
use Rattle.piece_list.proofs.Placing.{pushed_part, pushed_entered}
use Rattle.piece_list.proofs.Weighed.{part_has_weight, insert_fits, pushed_weighed}
use Rattle.std.proofs.Common.{refl}
use Rattle.piece_list.proofs.list.pieces.Pieces.insert_piece.Goals as goal

pub insert-number-requires-clause-last : goal.insert-number-requires-clause-last
insert-number-requires-clause-last c =
    part_has_tag_if c.self.inside.ring.items c.args.last (rw (← c.self.view_is) at c.requires.part)

pub insert_after-requires-clause-after : goal.insert_after-requires-clause-after
insert_after-requires-clause-after c =
    part_has_weight c.self.inside.ring.items c.self.inside.index.items c.args.last c.self.invariant.indexed
    (rw (← c.self.view_is) at c.requires.part)

pub insert_after-requires-clause-total : goal.insert_after-requires-clause-total
insert_after-requires-clause-total c =
    insert_fits c.self.inside.ring.items c.self.inside.tags c.self.inside.index.items c.args.run.now.len
    (piece_of c.args.run.now) c.self.invariant.numbered c.self.invariant.entered c.self.invariant.indexed refl
    c.requires.piece.1

pub invariant_of-self : goal.invariant_of-self
invariant_of-self c =
    let items : Items = c.self.inside.ring.items in
    let new : Items = c.insert-number.new.self.items in
    let v : Piece = piece_of c.args.run.now in
    record {
      numbered = tags_pushed items new c.args.last c.insert-number.result v c.self.invariant.numbered
          c.insert-number.ensures.number.0 c.insert-number.ensures.inserted;
      entered = pushed_entered items new c.args.last c.insert-number.result v c.self.inside.tags c.fill.new.self
          c.insert-number.ensures.inserted c.self.invariant.entered c.requires.piece
          (rw (← c.self.view_is) at c.requires.new)
          (filled_inside (range_of v) c.insert-number.result c.self.inside.tags c.fill.new.self c.fill.ensures.inside
          c.fill.ensures.before c.fill.ensures.after c.fill.ensures.others)
          (filled_outside (range_of v) c.insert-number.result c.self.inside.tags c.fill.new.self c.fill.ensures.inside
          c.fill.ensures.before c.fill.ensures.after c.fill.ensures.others);
      indexed = pushed_weighed items new c.self.inside.index.items c.insert_after.new.self.items c.args.last
          c.insert-number.result c.args.run.now.len v c.self.invariant.numbered c.self.invariant.indexed
          refl c.insert-number.ensures.inserted c.insert_after.ensures.inserted;
      keyed = keyed_pushed items new c.self.inside.index.keys c.insert_after.new.self.keys c.args.last c.insert-number.result
          c.number_of-key.result v c.self.invariant.keyed c.insert-number.ensures.inserted c.insert_after.ensures.keyed.0
          c.insert_after.ensures.keyed.1 c.number_of-key.ensures;
    }

pub returns-clause-insert : goal.returns-clause-insert
returns-clause-insert c =
    rw (← c.self.view_is)
    (pushed_part c.self.inside.ring.items c.insert-number.new.self.items c.self.invariant.numbered c.args.last
    c.insert-number.result (piece_of c.args.run.now) c.insert-number.ensures.inserted)

pub returns-clause-pieces : goal.returns-clause-pieces
returns-clause-pieces c = rw (← c.self.view_is) c.self.invariant.entered.pieces
