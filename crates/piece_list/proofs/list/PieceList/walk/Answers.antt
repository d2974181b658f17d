use Rattle.std.proofs.Common.{◌≡◌, ℕ, List, [], ◌+◌, ◌<◌, ◌≤◌, All, refl, sym, ap, subst, ◌∙◌}
use Rattle.std.specs.List.{flat_map}
use Rattle.char_files.specs.declared.TheConstants.{MAX_FILE}
use Rattle.piece_list.specs.Piece.{Piece}
use Rattle.piece_list.specs.declared.run.Run.{Run}
use Rattle.piece_list.specs.Held.{HeldPieces, PiecesSeen}
use Rattle.piece_list.specs.Shown.{appearances_in, shown_runs}
use Rattle.piece_list.proofs.Shown.{runs_tell, runs_are}
use Rattle.piece_list.proofs.list.PieceList.walk.Goals as goal

pub returns-clause-runs : goal.returns-clause-runs
returns-clause-runs c =
    ap shown_runs (c.rest_after.ensures [] c.pieces.inside.ring.items refl refl)
    ∙ ap (λ (v : HeldPieces). shown_runs v.items) c.pieces.view_is ∙ ap (λ (v : PiecesSeen). shown_runs v.items) c.self.view_is

pub returns-clause-shown : goal.returns-clause-shown
returns-clause-shown c =
    let items : List (ℕ × Piece) = c.pieces.inside.ring.items in
    let seen : items ≡ c.args.self.now.items = ap (λ (v : HeldPieces). v.items) c.pieces.view_is ∙ ap (λ (v : PiecesSeen). v.items) c.self.view_is in
    ap (λ (l : List (ℕ × Piece)). flat_map appearances_in (shown_runs l)) (c.rest_after.ensures [] c.pieces.inside.ring.items refl refl ∙ seen)
    ∙ runs_tell c.args.self.now.items

pub returns-clause-some : goal.returns-clause-some
returns-clause-some c =
    let Some : Run → Type 0 = λ (run : Run). 0 < run.len in
    subst (λ (l : List (ℕ × Piece)). All Some (shown_runs l)) (sym (c.rest_after.ensures [] c.pieces.inside.ring.items refl refl))
    (runs_are Some (λ p is. is.0) c.pieces.inside.ring.items c.pieces.invariant.entered.pieces)

pub returns-clause-within : goal.returns-clause-within
returns-clause-within c =
    let Within : Run → Type 0 = λ (run : Run). run.off + run.len ≤ MAX_FILE in
    subst (λ (l : List (ℕ × Piece)). All Within (shown_runs l)) (sym (c.rest_after.ensures [] c.pieces.inside.ring.items refl refl))
    (runs_are Within (λ p is. is.2) c.pieces.inside.ring.items c.pieces.invariant.entered.pieces)
