use Rattle.std.proofs.Common.{◌≡◌, ◌++◌, length}
use Rattle.char_files.specs.Plain.{plain_items}
use Rattle.text_file.specs.Files.{plain_bytes}
use Rattle.text_file.proofs.plain.plain_text.Given as goal

-- the characters so far, and those that are left, are all
abbrev pub invariant-loop-byte : goal.invariant-loop-byte
invariant-loop-byte l = l.text ++ plain_items (plain_bytes l.rest) ≡ plain_items (plain_bytes l.bytes)

abbrev pub decreases-loop-byte : goal.decreases-loop-byte
decreases-loop-byte l = length l.rest
