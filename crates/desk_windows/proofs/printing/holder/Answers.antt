use Rattle.std.proofs.Common.{◌≡◌, ap, sym, ◌∙◌, ℕ, Some}
use Rattle.viewers.specs.Screen.{viewer_at}
use Rattle.desk_windows.specs.Printing.{column_of}
use Rattle.desk_windows.proofs.Printed.{has_area, holds}
use Rattle.desk_windows.proofs.printing.holder.Goals as goal

pub returns-in_default-area : goal.returns-in_default-area
returns-in_default-area c =
    let at : viewer_at c.args.viewers.now.tracks (column_of c.args.viewers.now.tracks.width c.args.track) c.args.row
    ≡ Some c.in-Some.number =
    ap (λ (w : ℕ). viewer_at c.args.viewers.now.tracks (column_of w c.args.track) c.args.row) (sym c.width.ensures)
    ∙ ap (λ (n : ℕ). viewer_at c.args.viewers.now.tracks n c.args.row) (sym c.first_column-col.ensures)
    ∙ sym c.at.ensures ∙ c.in-Some.is in
    absurd (has_area c.args.viewers.now c.args.track c.args.row c.in-Some.number c.lemma_are_viewers.ensures c.requires at
    (sym c.area.ensures ∙ c.in_default-area.is))

pub overflow_sub-result : goal.overflow_sub-result
overflow_sub-result c =
    let at : viewer_at c.args.viewers.now.tracks (column_of c.args.viewers.now.tracks.width c.args.track) c.args.row
    ≡ Some c.in-Some.number =
    ap (λ (w : ℕ). viewer_at c.args.viewers.now.tracks (column_of w c.args.track) c.args.row) (sym c.width.ensures)
    ∙ ap (λ (n : ℕ). viewer_at c.args.viewers.now.tracks n c.args.row) (sym c.first_column-col.ensures)
    ∙ sym c.at.ensures ∙ c.in-Some.is in
    (holds c.args.viewers.now c.args.track c.args.row c.in-Some.number c.in-Some-area.area c.lemma_are_viewers.ensures c.requires at
    (sym c.area.ensures ∙ c.in-Some-area.is)).0

pub returns : goal.returns
returns c =
    let at : viewer_at c.args.viewers.now.tracks (column_of c.args.viewers.now.tracks.width c.args.track) c.args.row
    ≡ Some c.in-Some.number =
    ap (λ (w : ℕ). viewer_at c.args.viewers.now.tracks (column_of w c.args.track) c.args.row) (sym c.width.ensures)
    ∙ ap (λ (n : ℕ). viewer_at c.args.viewers.now.tracks n c.args.row) (sym c.first_column-col.ensures)
    ∙ sym c.at.ensures ∙ c.in-Some.is in
    (holds c.args.viewers.now c.args.track c.args.row c.in-Some.number c.in-Some-area.area c.lemma_are_viewers.ensures c.requires at
    (sym c.area.ensures ∙ c.in-Some-area.is)).1
