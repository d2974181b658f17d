use Rattle.std.proofs.Common.{◌≡◌, ◌∙◌, ap, slice_index_or}
use Rattle.line_drawing.specs.Rows.{Row}
use Rattle.text_frames.specs.Frames.{FrameSeen}
use Rattle.text_frames.proofs.Drawn.{row_told}
use Rattle.text_frames.proofs.frame.Frame.row.Goals as goal

pub returns-clause-shown : goal.returns-clause-shown
returns-clause-shown c = λ t drawn.
    let row : Row = c.index-row.result.now in
    let kept : row ≡ slice_index_or c.args.self.now.rows c.args.i row =
    c.index-row.ensures
    ∙ ap (λ (f : FrameSeen). slice_index_or f.rows c.args.i row) c.self.view_is in
    c.copy_from_slice.ensures.after ∙ c.as_slice.ensures.value
    ∙ ap (λ (r : Row). r.cells)
    (c.row.view_is ∙ kept ∙ row_told c.args.self.now t c.args.i row drawn c.requires.in_rows)
