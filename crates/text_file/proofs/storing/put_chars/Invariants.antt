use Rattle.std.proofs.Common.{◌≡◌, ◌++◌, take}
use Rattle.text_file.proofs.Cuts.{chars_of}
use Rattle.text_file.proofs.storing.put_chars.Given as goal

-- the characters of the runs so far
abbrev pub invariant-loop-run : goal.invariant-loop-run
invariant-loop-run l = l.out.items ≡ l.fn.out.items ++ chars_of (take l.run-index l.runs)
