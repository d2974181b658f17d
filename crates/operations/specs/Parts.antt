-- What the code has read of a message before it asks for memory, seen as the definition's.
use Rattle.operations.specs.declared.reading.Header.{Header as HeaderRead}
use Rattle.operations.specs.declared.reading.Parts.{Parts}
use Rattle.operations.specs.declared.reading.Parts.TheVariants as parts
use Rattle.operations.specs.NameSet.{IsNamed}
use Rattle.operations.specs.Operation.{OpKind, insert, delete, restore, change_looks}
use Rattle.operations.specs.Reading.{Header}

-- a header
abbrev pub view_header : HeaderRead → Header
view_header h = record { kind = h.kind; text = h.text; site = h.site; seq = h.seq; stamp = h.stamp }

-- what a kind has to itself, without where it lies in memory
abbrev pub view_parts : Parts → OpKind
view_parts (parts.Insert cause at looks bytes) = insert cause at looks bytes.now
view_parts (parts.Delete names) = delete names
view_parts (parts.Restore names) = restore names
view_parts (parts.ChangeLooks sel looks names) = change_looks sel looks names

-- what is named is what a message may name
abbrev pub NamesFew : OpKind → Type 0
NamesFew (insert cause at looks bytes) = Unit {0}
NamesFew (delete names) = IsNamed names
NamesFew (restore names) = IsNamed names
NamesFew (change_looks sel looks names) = IsNamed names
