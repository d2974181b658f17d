use Rattle.std.proofs.Common.{◌∙◌, sym, length}
use Rattle.desk_windows.proofs.Printed.{as_wide, blank_row, empty_row, window_row}
use Rattle.desk_windows.proofs.printing.draw_track.Goals as goal

pub returns-in_default : goal.returns-in_default
returns-in_default c =
    c.draw_line.ensures ∙ blank_row c.args.texts.now c.args.viewers.now c.args.track c.args.row (length c.args.cells.now)
    c.requires.wide c.in_default.ensures

pub draw_viewer-requires-clause-wide : goal.draw_viewer-requires-clause-wide
draw_viewer-requires-clause-wide c =
    c.requires.wide ∙ sym (as_wide c.args.texts.now c.args.viewers.now c.args.track c.args.row c.in-Some.number c.in-Some.line
    c.in-Some.ensures c.in-Some-content_at.window.now c.requires.shown (sym c.in-Some-content_at.ensures))

pub returns-in-Some-content_at : goal.returns-in-Some-content_at
returns-in-Some-content_at c =
    c.draw_viewer.ensures ∙ window_row c.args.texts.now c.args.viewers.now c.args.track c.args.row c.in-Some.number
    c.in-Some.line c.in-Some.ensures c.in-Some-content_at.window.now c.requires.shown (sym c.in-Some-content_at.ensures)

pub returns-in-None : goal.returns-in-None
returns-in-None c =
    c.draw_line-in-None.ensures ∙ empty_row c.args.texts.now c.args.viewers.now c.args.track c.args.row c.in-Some.number
    c.in-Some.line c.in-Some.ensures (length c.args.cells.now) c.requires.wide (sym c.in-None.ensures)
