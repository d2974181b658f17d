use Rattle.std.proofs.Common.{◌≡◌, ◌∙◌, ap, slice_index_or}
use Rattle.line_drawing.specs.Rows.{Row, place_of}
use Rattle.text_frames.specs.Frames.{FrameSeen}
use Rattle.text_frames.proofs.Drawn.{row_told}
use Rattle.text_frames.proofs.frame.Frame.locate.Goals as goal

pub returns-clause-placed : goal.returns-clause-placed
returns-clause-placed c = λ t drawn.
    let row : Row = c.index-row.result.now in
    let kept : row ≡ slice_index_or c.args.self.now.rows c.args.row row =
    c.index-row.ensures
    ∙ ap (λ (f : FrameSeen). slice_index_or f.rows c.args.row row) c.self.view_is in
    c.located.ensures
    ∙ ap (λ (r : Row). place_of r.beg r.end c.args.col)
    (c.row.view_is ∙ kept ∙ row_told c.args.self.now t c.args.row row drawn c.requires.in_rows)
