use Rattle.std.proofs.Common.{◌≡◌, ◌<◌, Some, Contains, ap, sym, subst, ◌∙◌}
use Rattle.looks.specs.declared.key.Key.{Key}
use Rattle.piece_list.specs.Held.{HeldPieces, PiecesSeen, IsSpotOf}
use Rattle.piece_list.specs.Piece.{Piece}
use Rattle.piece_list.specs.Spelled.{spelled}
use Rattle.piece_list.proofs.CharOf.{key_of_spot}
use Rattle.piece_list.proofs.Found.{one_value}
use Rattle.piece_list.proofs.Positions.{Items}
use Rattle.piece_list.proofs.SplitList.{is_piece}
use Rattle.piece_list.proofs.list.PieceList.key_of.Goals as goal

pub key_at-requires-clause-within : goal.key_at-requires-clause-within
key_at-requires-clause-within c =
    let (q, member, within, site, off) = (rw (← c.pieces.view_is) at c.in_ok-spot.ensures.spot) in
    subst (λ (p : Piece). c.in_ok-spot.spot.within < p.len)
    (one_value c.pieces.inside.ring.items c.pieces.invariant.numbered c.in_ok-spot.spot.piece q c.piece_at.result member c.piece_at.ensures)
    within

pub key_at-requires-clause-stamps : goal.key_at-requires-clause-stamps
key_at-requires-clause-stamps c =
    (is_piece c.pieces.inside.ring.items c.in_ok-spot.spot.piece c.piece_at.result c.pieces.invariant.entered.pieces c.piece_at.ensures).4

pub returns-clause-key : goal.returns-clause-key
returns-clause-key c = λ k has same.
    let items : Items = c.pieces.inside.ring.items in
    let seen : items ≡ c.args.self.now.items =
    ap (λ (v : HeldPieces). v.items) c.pieces.view_is ∙ ap (λ (v : PiecesSeen). v.items) c.self.view_is in
    let at : IsSpotOf items c.in_ok-spot.spot c.args.name = rw (← c.pieces.view_is) at c.in_ok-spot.ensures.spot in
    ap (λ (key : Key). Some key) (c.key_at.ensures
    ∙ sym (key_of_spot items c.pieces.inside.tags c.pieces.invariant.numbered c.pieces.invariant.entered c.in_ok-spot.spot c.args.name
    c.piece_at.result at c.piece_at.ensures k (subst (λ (l : Items). Contains (spelled l) k) (sym seen) has) same))
