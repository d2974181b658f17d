use Rattle.std.proofs.Common.{ℕ, ap, length, ◌∙◌}
use Rattle.std.proofs.lemmas.List.{length-map}
use Rattle.piece_list.specs.Held.{shown_weight}
use Rattle.piece_list.specs.Piece.{Piece}
use Rattle.piece_list.proofs.list.pieces.Pieces.len.Goals as goal

pub returns : goal.returns
returns c =
    rw (← c.self.view_is)
    (c.len.ensures ∙ ap length c.self.invariant.indexed
    ∙ length-map c.self.inside.ring.items (λ (m : ℕ × Piece). (m.0, shown_weight m.1)))
