-- What stands at a place of a list of operations.
use Rattle.std.specs.Prelude.{◌<◌, List, length}
use Rattle.looks.specs.declared.looks.Looks.{Looks}
use Rattle.operations.specs.Operation.{Operation}
use Rattle.operations.specs.Spelling.{HasSpelling}
use Rattle.op_log.specs.declared.found.Found.{Found}
use Rattle.op_log.specs.declared.found.Found.TheVariants.{Letter, Deleted, Single}
use Rattle.op_log.specs.Stretches.{letter_of_run, one_delete}

-- the operation
abbrev pub found_op : List Looks → Found → Operation
found_op looks (Letter run k byte) = letter_of_run looks run k byte
found_op looks (Deleted d) = one_delete d
found_op looks (Single op) = op.now

-- a letter has looks that are there, and a message; a Delete of one character has a message
abbrev pub IsSound : List Looks → Found → Type 0
IsSound looks (Letter run k byte) =
    (run.looks < length looks) × HasSpelling (letter_of_run looks run k byte) × (run.cause_off < 16777216)
IsSound looks (Deleted d) = HasSpelling (one_delete d)
IsSound looks (Single op) = Unit {0}
