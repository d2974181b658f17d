use Rattle.std.proofs.Common.{◌≤◌, ◌^◌, subst, ap, length, ◌∙◌}
use Rattle.piece_list.specs.Held.{HeldPieces, PiecesSeen}
use Rattle.piece_list.specs.Spelled.{spelled, shown_chars}
use Rattle.piece_list.proofs.Positions.{Items, small_count}
use Rattle.piece_list.proofs.list.PieceList.lemma_shown_is_countable.Goals as goal

pub returns : goal.returns
returns c =
    let l = c.pieces.inside in
    subst (λ (items : Items). length (shown_chars (spelled items)) ≤ 2 ^ 40) (ap (λ (v : HeldPieces). v.items) c.pieces.view_is ∙ ap (λ (v : PiecesSeen). v.items) c.self.view_is)
    (small_count l.ring.items l.tags c.pieces.invariant.numbered c.pieces.invariant.entered)
