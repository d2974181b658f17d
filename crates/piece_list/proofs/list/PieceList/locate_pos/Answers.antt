use Rattle.std.proofs.Common.{◌≡◌, ◌<◌, ap, subst, arith, ◌∙◌}
use Rattle.std.specs.Prelude.{IfSome, slice_get}
use Rattle.piece_list.specs.declared.spot.Spot.{Spot}
use Rattle.piece_list.specs.Held.{HeldPieces, PiecesSeen, IsSpotOf}
use Rattle.piece_list.specs.Spelled.{spelled, shown_chars}
use Rattle.piece_list.proofs.Positions.{Items, shown_in, position}
use Rattle.piece_list.proofs.Ranks.{IsFoundAt, found_at, found_is_small}
use Rattle.piece_list.proofs.Weighed.{total_is_shown}
use Rattle.piece_list.proofs.list.PieceList.locate_pos.Goals as goal

pub find-piece-requires : goal.find-piece-requires
find-piece-requires c =
    let items : Items = c.pieces.inside.ring.items in
    let seen : shown_in items ≡ shown_in c.args.self.now.items =
    ap (λ (v : HeldPieces). shown_in v.items) c.pieces.view_is ∙ ap (λ (v : PiecesSeen). shown_in v.items) c.self.view_is in
    record { within = omega (arith, total_is_shown items c.pieces.inside.index.items c.pieces.invariant.indexed, seen, c.requires) }

pub overflow_cast-result : goal.overflow_cast-result
overflow_cast-result c =
    let items : Items = c.pieces.inside.ring.items in
    let found : IsFoundAt items c.args.pos c.find-piece.result.0 c.find-piece.result.1 =
    found_at items c.pieces.inside.index.items c.args.pos c.find-piece.result.0 c.find-piece.result.1
    c.pieces.invariant.indexed c.find-piece.ensures.found in
    let small : c.find-piece.result.1 < 4096 =
    found_is_small items c.args.pos c.find-piece.result.0 c.find-piece.result.1 c.pieces.invariant.entered.pieces found in
    omega (arith, small)

pub returns : goal.returns
returns c =
    let items : Items = c.pieces.inside.ring.items in
    let seen : items ≡ c.args.self.now.items = ap (λ (v : HeldPieces). v.items) c.pieces.view_is ∙ ap (λ (v : PiecesSeen). v.items) c.self.view_is in
    let spot : Spot = record { piece = c.find-piece.result.0; within = c.find-piece.result.1 } in
    let found : IsFoundAt items c.args.pos spot.piece spot.within =
    found_at items c.pieces.inside.index.items c.args.pos spot.piece spot.within c.pieces.invariant.indexed
    c.find-piece.ensures.found in
    subst (λ (l : Items). IfSome (slice_get (shown_chars (spelled l)) c.args.pos)
    (λ k. IsSpotOf l spot k.name)) seen
    (position items found.front found.after spot.piece found.piece found.whole c.args.pos spot.within
    found.at found.inside)
