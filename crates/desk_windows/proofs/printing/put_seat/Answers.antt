use Rattle.std.proofs.Common.{◌≡◌, ap, sym, ◌∙◌, ◌++◌, subst, List, ℕ, append-nil}
use Rattle.std.specs.Prelude.{OnOk}
use Rattle.machine.specs.ScreenPrinting.{viewer_line}
use Rattle.desk_windows.specs.Printing.{seat_lines, track_name}
use Rattle.desk_windows.specs.Windows.{WindowSeen}
use Rattle.desk_windows.proofs.Printed.{seat_blank, seat_shown}
use Rattle.desk_windows.proofs.printing.put_seat.Goals as goal

pub returns-in-Some : goal.returns-in-Some
returns-in-Some c =
    let text = c.from.ensures ∙ c.get.ensures.value ∙ ap (λ (w : WindowSeen). w.text) c.window.view_is in
    let same : viewer_line (track_name c.args.track) c.args.seat c.args.top c.from.result
    ≡ seat_lines c.args.texts.now c.args.viewers.now (track_name c.args.track) c.args.top c.args.seat =
    ap (viewer_line (track_name c.args.track) c.args.seat c.args.top) text
    ∙ sym (seat_shown c.args.texts.now c.args.viewers.now (track_name c.args.track) c.args.top c.args.seat c.in-Some.window.now
    c.requires (sym c.in-Some.ensures)) in
    subst (λ (l : List ℕ). OnOk c.put_viewer.result (c.put_viewer.new.out.items ≡ c.args.out.now.items ++ l)) same
    c.put_viewer.ensures

pub returns-in-None : goal.returns-in-None
returns-in-None c =
    sym (ap (λ (l : List ℕ). c.args.out.now.items ++ l)
    (seat_blank c.args.texts.now c.args.viewers.now (track_name c.args.track) c.args.top c.args.seat (sym c.in-None.ensures))
    ∙ append-nil c.args.out.now.items)
