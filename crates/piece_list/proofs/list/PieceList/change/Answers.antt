use Rattle.std.proofs.Common.{◌≡◌, ℕ, ◌*◌, List, Contains, length, sym, ap, subst, ◌∙◌}
use Rattle.operations.specs.NameSet.{Range, IsAmong}
use Rattle.piece_list.specs.Piece.{Piece}
use Rattle.piece_list.specs.Held.{PiecesSeen}
use Rattle.piece_list.specs.Noted.{AreNoted, name_count}
use Rattle.piece_list.specs.Spelled.{spelled, HasName}
use Rattle.piece_list.proofs.Entries.{told_with_room}
use Rattle.piece_list.proofs.list.PieceList.change.Goals as goal

pub change_ranges-requires-clause-here : goal.change_ranges-requires-clause-here
change_ranges-requires-clause-here c = λ d is.
    let same : c.enter.new.self.items ≡ c.args.self.now.items =
    c.enter.ensures.items ∙ c.reserve.ensures.items ∙ ap (λ (v : PiecesSeen). v.items) c.self.view_is in
    subst (λ (l : List (ℕ × Piece)). HasName (spelled l) d) (sym same)
    (c.requires.here d (subst (λ (rs : List Range). IsAmong rs d) c.ranges-ranges.ensures.value is))

pub change_ranges-requires-clause-below : goal.change_ranges-requires-clause-below
change_ranges-requires-clause-below c = λ k has is.
    let same : c.enter.new.self.items ≡ c.args.self.now.items =
    c.enter.ensures.items ∙ c.reserve.ensures.items ∙ ap (λ (v : PiecesSeen). v.items) c.self.view_is in
    c.requires.below k (subst (λ (l : List (ℕ × Piece)). Contains (spelled l) k) same has)
    (subst (λ (rs : List Range). IsAmong rs k.name) c.ranges-ranges.ensures.value is)

pub returns-clause-noted : goal.returns-clause-noted
returns-clause-noted c = λ room.
    let same : c.enter.new.self.items ≡ c.args.self.now.items =
    c.enter.ensures.items ∙ c.reserve.ensures.items ∙ ap (λ (v : PiecesSeen). v.items) c.self.view_is in
    let Are : List Range → List (ℕ × Piece) → Type 0 = λ (rs : List Range) (was : List (ℕ × Piece)).
    AreNoted c.args.setting.now rs (name_count rs) (2 * length rs) c.args.note.now c.change_ranges.new.note was
    c.change_ranges.new.self.items in
    told_with_room c.args.setting.now c.args.names.now c.args.note.now c.change_ranges.new.note c.args.self.now.items
    c.change_ranges.new.self.items
    (subst (Are c.args.names.now) same
    (subst (λ (rs : List Range). Are rs c.enter.new.self.items) c.ranges-ranges.ensures.value c.change_ranges.ensures.noted))
    room
