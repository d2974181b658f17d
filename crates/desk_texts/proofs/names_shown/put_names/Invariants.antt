use Rattle.std.proofs.Common.{◌≡◌, ◌+◌, ◌≤◌, ◌++◌, length, map}
use Rattle.operations.specs.NameSet.{with_first}
use Rattle.machine.specs.NamesShown.{name_lines, named_stretches, ranges_of, shown_from}
use Rattle.texts.specs.TextState.{shown_of}
use Rattle.desk_texts.proofs.names_shown.put_names.Given as goal

abbrev pub invariant-loop-char : goal.invariant-loop-char
invariant-loop-char l = record {
  within : (l.stretch.pos + l.stretch.names.len) + length l.char-iterator ≤ l.end;
  printed : l.out.items
      ++ name_lines (shown_from l.stretch.pos (with_first l.stretch.names (ranges_of (map (λ c. c.name) l.char-iterator))))
      ≡ l.initial.out.items ++ name_lines (named_stretches (shown_of l.replica) l.beg l.end);
}
