use Rattle.std.proofs.Common.{◌≡◌, List, ◌++◌, map}
use Rattle.char_files.specs.Stretch.{Item}
use Rattle.texts.specs.TextState.{shown_items}
use Rattle.desk_texts.specs.RunSoFar.{HasRunsSoFar}
use Rattle.desk_texts.proofs.runs.run_lines.Given as goal

abbrev pub invariant-loop-char : goal.invariant-loop-char
invariant-loop-char l =
    (items : List Item) × HasRunsSoFar items l.lines.items l.run.looks l.run.len
    × (items ++ map (λ c. (c.byte, c.looks)) l.char-iterator ≡ shown_items l.replica)
