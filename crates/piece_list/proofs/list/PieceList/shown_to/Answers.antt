use Rattle.std.proofs.Common.{◌≡◌, ℕ, ◌+◌, ◌^◌, ◌<◌, sym, ap, subst, arith, ◌∙◌}
use Rattle.piece_list.specs.Held.{HeldPieces, PiecesSeen, IsSpotOf}
use Rattle.piece_list.specs.Shown.{AreShownTo}
use Rattle.piece_list.specs.Spelled.{spelled}
use Rattle.piece_list.proofs.Positions.{Items}
use Rattle.piece_list.proofs.Ranks.{rank_fits, rank_counts}
use Rattle.piece_list.proofs.list.PieceList.shown_to.Goals as goal

pub overflow_add-result : goal.overflow_add-result
overflow_add-result c =
    let items : Items = c.pieces.inside.ring.items in
    let at : IsSpotOf items c.in_ok-spot.spot c.args.name =
    rw (← c.pieces.view_is) at c.in_ok-spot.ensures.spot in
    let fits : c.rank-before.result + c.shown_of.result < 2 ^ 64 =
    rank_fits items c.pieces.inside.tags c.pieces.inside.index.items c.in_ok-spot.spot c.args.name
    c.piece_at-piece.result c.rank-before.result c.shown_of.result c.pieces.invariant.numbered
    c.pieces.invariant.entered c.pieces.invariant.indexed at c.piece_at-piece.ensures c.rank-before.ensures.rank
    c.shown_of.ensures in
    omega (arith, fits, c.from.ensures)

pub returns-clause-count : goal.returns-clause-count
returns-clause-count c =
    let items : Items = c.pieces.inside.ring.items in
    let seen : items ≡ c.args.self.now.items = ap (λ (v : HeldPieces). v.items) c.pieces.view_is ∙ ap (λ (v : PiecesSeen). v.items) c.self.view_is in
    let at : IsSpotOf items c.in_ok-spot.spot c.args.name =
    rw (← c.pieces.view_is) at c.in_ok-spot.ensures.spot in
    subst (λ (n : ℕ). AreShownTo (spelled c.args.self.now.items) c.args.name (c.rank-before.result + n))
    (sym c.from.ensures)
    (subst (λ (l : Items). AreShownTo (spelled l) c.args.name (c.rank-before.result + c.shown_of.result)) seen
    (rank_counts items c.pieces.inside.tags c.pieces.inside.index.items c.in_ok-spot.spot c.args.name
    c.piece_at-piece.result c.rank-before.result c.shown_of.result c.pieces.invariant.numbered
    c.pieces.invariant.entered c.pieces.invariant.indexed at c.piece_at-piece.ensures c.rank-before.ensures.rank
    c.shown_of.ensures))
