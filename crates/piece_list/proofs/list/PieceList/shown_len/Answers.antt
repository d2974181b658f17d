use Rattle.std.proofs.Common.{length, ap, ◌∙◌}
use Rattle.piece_list.specs.Held.{HeldPieces, PiecesSeen}
use Rattle.piece_list.specs.Spelled.{spelled, shown_chars}
use Rattle.piece_list.proofs.Weighed.{total_is_shown}
use Rattle.piece_list.proofs.list.PieceList.shown_len.Goals as goal

pub returns : goal.returns
returns c =
    c.total.ensures.total ∙ total_is_shown c.pieces.inside.ring.items c.pieces.inside.index.items c.pieces.invariant.indexed
    ∙ ap (λ (v : HeldPieces). length (shown_chars (spelled v.items))) c.pieces.view_is ∙ ap (λ (v : PiecesSeen). length (shown_chars (spelled v.items))) c.self.view_is
