use Rattle.std.proofs.Common.{◌≡◌, ap, sym, ◌∙◌, ◌++◌, List, ℕ}
use Rattle.machine.specs.ScreenPrinting.{screen_line}
use Rattle.desk_windows.specs.Printing.{over}
use Rattle.desk_windows.specs.Windows.{WindowsSeen}
use Rattle.desk_windows.proofs.Printed.{lines_more}
use Rattle.desk_windows.proofs.windows.Windows.show.Goals as goal

pub loop-row-preserved : goal.loop-row-preserved
loop-row-preserved c =
    let line : ℕ → List ℕ = screen_line c.args.texts.now (over c.args.self.now.viewers) in
    let put : c.put_line.new.out.items
    ≡ c.loop-row.lines.items ++ screen_line c.args.texts.now (over c.self.inside.viewers) c.loop-row.row =
    c.in_ok-put_line.ensures in
    put
    ∙ ap (λ (w : WindowsSeen). c.loop-row.lines.items ++ screen_line c.args.texts.now (over w.viewers) c.loop-row.row)
    c.self.view_is
    ∙ ap (λ (l : List ℕ). l ++ line c.loop-row.row) c.loop-row.invariant ∙ sym (lines_more line c.loop-row.row)
