use Rattle.std.proofs.Common.{◌≡◌, ℕ, List, refl, sym, ap, subst, ◌∙◌}
use Rattle.char_files.specs.CharName.{CharName}
use Rattle.piece_list.specs.Piece.{Piece}
use Rattle.piece_list.specs.Held.{PiecesSeen, IsSpotOf}
use Rattle.piece_list.specs.Spelled.{spelled}
use Rattle.piece_list.proofs.SplitList.{split_spells}
use Rattle.piece_list.proofs.list.PieceList.split.Goals as goal

pub returns-clause-spells : goal.returns-clause-spells
returns-clause-spells c =
    split_spells c.reserve.new.self.items c.split-piece.new.self.items c.args.spot.piece c.args.spot.within
    c.split-piece.result c.split-piece.ensures.split
    ∙ ap spelled (c.reserve.ensures.items ∙ ap (λ (v : PiecesSeen). v.items) c.self.view_is)

pub returns-clause-spot : goal.returns-clause-spot
returns-clause-spot c =
    let same : c.reserve.new.self.items ≡ c.args.self.now.items =
    c.reserve.ensures.items ∙ ap (λ (v : PiecesSeen). v.items) c.self.view_is in
    let at : List (ℕ × Piece) → CharName → Type 0 =
    λ (l : List (ℕ × Piece)) (d : CharName). IsSpotOf l c.args.spot d in
    (refl, λ d is. c.split-piece.ensures.spot d (subst (λ (l : List (ℕ × Piece)). at l d) (sym same) is))

pub returns-clause-others : goal.returns-clause-others
returns-clause-others c =
    let same : c.reserve.new.self.items ≡ c.args.self.now.items =
    c.reserve.ensures.items ∙ ap (λ (v : PiecesSeen). v.items) c.self.view_is in
    λ other d is before.
    let at : List (ℕ × Piece) → Type 0 = λ (l : List (ℕ × Piece)). IsSpotOf l other d in
    c.split-piece.ensures.others other d (subst at (sym same) is) before
