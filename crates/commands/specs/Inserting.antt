-- What is put in at the caret.
use Rattle.std.specs.Prelude.{ℕ, ◌≤◌, ⊤, List, length, map, Option, Some, None}
use Rattle.looks.specs.Looks.{plain_looks}
use Rattle.char_files.specs.Stretch.{Item}
use Rattle.char_files.specs.declared.TheConstants.{MAX_FILE}
use Rattle.texts.specs.Edit.{Edit, insertion, recalling}
use Rattle.machine.specs.Events.{Task, insert_at_caret, recall_at_caret}
use Rattle.commands.specs.declared.inserting.Insertion.{Insertion}
use Rattle.commands.specs.declared.inserting.Insertion.TheVariants.{Bytes, Items, Recalled}

-- its characters; none where they are those that were cut last
abbrev pub items_in : Insertion → Option (List Item)
items_in (Bytes bytes) = Some (map (λ b. (b, plain_looks)) bytes.now)
items_in (Items items) = Some items.now
items_in Recalled = None

-- a file has room for them
abbrev pub InsertionFits : Insertion → Type 0
InsertionFits (Bytes bytes) = length bytes.now ≤ MAX_FILE
InsertionFits other = ⊤

-- the edit that puts these characters in at a position
abbrev pub edit_inserting : Option (List Item) → ℕ → Edit
edit_inserting (Some items) at = insertion at items
edit_inserting None at = recalling at

-- the task that puts them in at the caret
abbrev pub task_of_insertion : Option (List Item) → Task
task_of_insertion (Some items) = insert_at_caret items
task_of_insertion None = recall_at_caret
