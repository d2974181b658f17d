use Rattle.std.proofs.Common.{◌≡◌, ◌++◌}
use Rattle.std.specs.Prelude.{slice_range}
use Rattle.machine.specs.Printing.{print_of}
use Rattle.texts.specs.TextState.{shown_of}
use Rattle.desk_texts.proofs.printing.put_shown.Given as goal

abbrev pub invariant-loop-char : goal.invariant-loop-char
invariant-loop-char l =
    l.out.items ++ print_of l.char-iterator
    ≡ l.initial.out.items ++ print_of (slice_range (shown_of l.replica) l.beg l.end)
