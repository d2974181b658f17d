use Rattle.std.proofs.Common.{◌≡◌}
use Rattle.std.specs.List.{flat_map, range_with_len}
use Rattle.machine.specs.ScreenPrinting.{screen_line}
use Rattle.desk_windows.specs.Printing.{over}
use Rattle.desk_windows.proofs.windows.Windows.show.Given as goal

abbrev pub invariant-loop-row : goal.invariant-loop-row
invariant-loop-row l = l.lines.items ≡ flat_map (screen_line l.texts (over l.self.viewers)) (range_with_len 0 l.row)
