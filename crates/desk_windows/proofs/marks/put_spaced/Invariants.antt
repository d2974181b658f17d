use Rattle.std.proofs.Common.{◌≡◌, ◌++◌, take}
use Rattle.machine.specs.ScreenPrinting.{spaced}
use Rattle.desk_windows.proofs.marks.put_spaced.Given as goal

abbrev pub invariant-loop-number : goal.invariant-loop-number
invariant-loop-number l = l.out.items ≡ l.initial.out.items ++ spaced (take l.number-index l.numbers)
