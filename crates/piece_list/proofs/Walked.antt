-- What a walk from a position on tells.
use Rattle.std.proofs.Common.{◌≡◌, ℕ, ◌+◌, ◌<◌, ◌≤◌, ◌^◌, cond, not, true, List, ◌∷◌, ◌++◌}
use Rattle.std.proofs.Common.{length, map, drop, sym, ap, subst, ◌∙◌}
use Rattle.std.specs.List.{filter}
use Rattle.std.proofs.lemmas.List.{length-map, map-append}
use Rattle.std.proofs.Math.Seq.{drop-append-add}
use Rattle.char_files.specs.declared.TheConstants.{MAX_FILE}
use Rattle.piece_list.specs.Piece.{Piece}
use Rattle.piece_list.specs.declared.run.Run.{Run}
use Rattle.piece_list.specs.Pieces.{IsPiece}
use Rattle.piece_list.specs.RunSplits.{AreWithin, HasFront, HaveStamps}
use Rattle.piece_list.specs.Shown.{Appearance, appearance_of, piece_run, shown_runs}
use Rattle.piece_list.specs.Spelled.{spelled, shown_chars, ArePieces}
use Rattle.piece_list.proofs.Gap.{all_right}
use Rattle.piece_list.proofs.Positions.{Items, shown_in, own, is_visible}
use Rattle.piece_list.proofs.RunSplits.{told}
use Rattle.piece_list.proofs.Shown.{runs_are, runs_tell, shown_both}

-- what the characters tell that are shown
abbrev appear : Items → List Appearance
appear items = map appearance_of (shown_chars (spelled items))

-- from a piece on
module _ (items xs ys : Items) (tag : ℕ) (p : Piece) (is : items ≡ xs ++ (tag, p) ∷ ys) where
  abbrev after : Items
  after = (tag, p) ∷ ys

  abbrev left : List Run
  left = shown_runs after

  pub tells_from : (pos within : ℕ) → pos ≡ shown_in xs + within
      → drop within (told left) ≡ drop pos (appear items)
  tells_from pos within at =
      let before : shown_in xs ≡ length (appear xs) = sym (length-map (shown_chars (spelled xs)) appearance_of) in
      let whole : appear items ≡ appear xs ++ appear after =
      ap appear is ∙ ap (map appearance_of) (shown_both xs after)
      ∙ map-append appearance_of (shown_chars (spelled xs)) (shown_chars (spelled after)) in
      ap (drop within) (runs_tell after)
      ∙ sym (drop-append-add (appear xs) (appear after) within)
      ∙ ap (λ (n : ℕ). drop (n + within) (appear xs ++ appear after)) (sym before)
      ∙ ap (λ (n : ℕ). drop n (appear xs ++ appear after)) (sym at)
      ∙ ap (drop pos) (sym whole)

  pub front_from : (within : ℕ) → within < own p p.len → HasFront within left
  front_from within lt =
      let (visible, small) = is_visible p within lt in
      let others : Items = filter (λ (m : ℕ × Piece). not m.1.hidden.value) ys in
      let first : left ≡ piece_run p ∷ shown_runs ys =
      ap (λ b. map (λ (m : ℕ × Piece). piece_run m.1) (cond (not b) ((tag, p) ∷ others) others)) visible in
      subst (HasFront within) (sym first) small

  pub within_from : ArePieces items → AreWithin left
  within_from pieces =
      let Is : Run → Type 0 = λ (run : Run). (0 < run.len) × (run.off + run.len ≤ MAX_FILE) in
      let those : ArePieces after =
      all_right (λ (m : ℕ × Piece). IsPiece m.1) xs after (subst ArePieces is pieces) in
      runs_are Is (λ q piece. (piece.0, piece.2)) after those

  pub stamps_from : ArePieces items → HaveStamps left
  stamps_from pieces =
      let Is : Run → Type 0 = λ (run : Run). run.rising ≡ true → run.key.stamp + run.len ≤ 2 ^ 64 in
      let those : ArePieces after =
      all_right (λ (m : ℕ × Piece). IsPiece m.1) xs after (subst ArePieces is pieces) in
      runs_are Is (λ q piece. piece.4) after those
