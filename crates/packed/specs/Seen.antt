-- What the code has read of an operation before it asks for memory, seen as the definition's.
use Rattle.std.specs.Prelude.{[], ◌∷◌}
use Rattle.operations.specs.NameSet.{of_name}
use Rattle.operations.specs.Operation.{OpKind, insert, delete, restore, change_looks}
use Rattle.packed.specs.declared.reading.Edit.{Edit}
use Rattle.packed.specs.declared.reading.Edit.TheVariants as edit
use Rattle.packed.specs.declared.reading.Read.{Read}
use Rattle.packed.specs.Reading.{Parts}

-- an edit, without where it lies in memory
abbrev pub view_edit : Edit → OpKind
view_edit (edit.Insert place at looks bytes) = insert place at looks bytes.now
view_edit (edit.One name) = delete (of_name name ∷ [])
view_edit (edit.Delete names) = delete names
view_edit (edit.Restore names) = restore names
view_edit (edit.ChangeLooks sel looks names) = change_looks sel looks names

-- the parts of an operation
abbrev pub view_read : Read → Parts
view_read r = record { site = r.site; more = r.more; kind = view_edit r.edit }
