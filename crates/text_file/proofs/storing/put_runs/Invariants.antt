use Rattle.std.proofs.Common.{◌≡◌, ◌++◌, take}
use Rattle.std.specs.List.{flat_map}
use Rattle.text_file.specs.Files.{run_spelling}
use Rattle.text_file.proofs.storing.put_runs.Given as goal

-- the runs so far are spelled
abbrev pub invariant-loop-run : goal.invariant-loop-run
invariant-loop-run l = l.out.items ≡ l.fn.out.items ++ flat_map run_spelling (take l.run-index l.runs)
