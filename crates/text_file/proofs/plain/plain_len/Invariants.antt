use Rattle.std.proofs.Common.{◌≡◌, ◌+◌, length}
use Rattle.text_file.specs.Files.{plain_bytes}
use Rattle.text_file.proofs.plain.plain_len.Given as goal

-- the characters so far, and those that are left, are all
abbrev pub invariant-loop-after : goal.invariant-loop-after
invariant-loop-after l = l.len + length (plain_bytes l.rest) ≡ length (plain_bytes l.bytes)

abbrev pub decreases-loop-after : goal.decreases-loop-after
decreases-loop-after l = length l.rest
