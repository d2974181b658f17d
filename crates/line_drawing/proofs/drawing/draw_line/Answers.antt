use Rattle.std.proofs.Common.{◌≡◌, ◌<◌, ◌∙◌, sym, subst, ℕ, length, get_or, arith}
use Rattle.line_drawing.specs.Rows.{cells_of}
use Rattle.line_drawing.proofs.Cells.{cell-sign, cell-blank, next_cell, all_cells}
use Rattle.line_drawing.proofs.drawing.draw_line.Goals as goal
use Rattle.line_drawing.proofs.drawing.draw_line.Goals.{then-col-line, else-col-line}

pub loop-col-preserved : goal.loop-col-preserved
loop-col-preserved c =
    let on : c.loop-col.col < length c.loop-col.cells = omega (arith, c.loop-col-test.true, c.loop-col.auto.cells) in
    let is : c.if-col-line.cells
    ≡ get_or (cells_of (length c.loop-col.cells) c.args.line.now) c.loop-col.col 0 =
    elim c.if-col-line.branch [
      | then-col-line w ↦
          w.cells-is ∙ w.sign.ensures
          ∙ sym (cell-sign (length c.loop-col.cells) c.loop-col.col c.args.line.now on w.if-col-line.true)
      | else-col-line w ↦
          w.cells-is
          ∙ sym (cell-blank (length c.loop-col.cells) c.loop-col.col c.args.line.now on w.if-col-line.false)
    ] in
    next_cell c.loop-col.cells c.args.line.now c.loop-col.col c.if-col-line.cells on is c.loop-col.invariant

pub returns : goal.returns
returns c =
    subst (λ (n : ℕ). c.loop-col.cells ≡ cells_of n c.args.line.now) c.loop-col.auto.cells
    (all_cells c.loop-col.cells c.args.line.now c.loop-col.col
    (omega (arith, c.loop-col-test.false, c.loop-col.auto.cells)) c.loop-col.invariant)
