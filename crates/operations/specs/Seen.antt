-- Operations as the code has them, seen as the definition's.
use Rattle.std.specs.Prelude.{ℕ}
use Rattle.operations.specs.declared.kind.Kind.{Kind}
use Rattle.operations.specs.declared.kind.Kind.TheVariants.{Insert, Delete, Restore, ChangeLooks}
use Rattle.operations.specs.Operation.{OpKind, insert, delete, restore, change_looks, Operation}

-- a kind, without where it lies in memory
abbrev pub kind_of : Kind → OpKind
kind_of (Insert cause at looks bytes) = insert cause at looks bytes.items
kind_of (Delete names) = delete names
kind_of (Restore names) = restore names
kind_of (ChangeLooks sel looks names) = change_looks sel looks names

-- the operation of these fields
abbrev pub operation_with : (text site seq stamp : ℕ) → Kind → Operation
operation_with text site seq stamp kind =
    record { text = text; site = site; seq = seq; stamp = stamp; kind = kind_of kind }
