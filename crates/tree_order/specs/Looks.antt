-- The looks of a character, in which each attribute goes by itself.
use Rattle.std.specs.Prelude.{◌≡◌, ◌⊎◌, Bool, true, List}
use Rattle.looks.specs.Looks.{plain_looks}
use Rattle.looks.specs.Sel.{Selection}
use Rattle.looks.specs.declared.looks.Looks.{Looks}
use Rattle.char_files.specs.CharName.{CharName}
use Rattle.operations.specs.NameSet.{IsAmong}
use Rattle.operations.specs.Operation.{Operation, OpKind, insert, delete, restore, change_looks, Inserts}
use Rattle.tree_order.specs.Last.{IsLast}

-- the looks of which an Insert gives all, and a ChangeLooks those that it selects; the others give none
abbrev pub looks_by : OpKind → Looks
looks_by (insert cause at looks bytes) = looks
looks_by (delete names) = plain_looks
looks_by (restore names) = plain_looks
looks_by (change_looks sel looks names) = looks

-- a ChangeLooks selects an attribute, of which the test tells, and names c
abbrev pub ChangesBy : OpKind → (Selection → Bool) → CharName → Type 0
ChangesBy (insert cause at looks bytes) selects c = ⊥
ChangesBy (delete names) selects c = ⊥
ChangesBy (restore names) selects c = ⊥
ChangesBy (change_looks sel looks names) selects c = (selects sel ≡ true) × IsAmong names c

-- the operation sets the attribute of c: it is the Insert of c, or a ChangeLooks that selects the attribute
-- and names c
abbrev pub Sets : Operation → (Selection → Bool) → CharName → Type 0
Sets op selects c = Inserts op c ⊎ ChangesBy op.kind selects c

-- of all operations that set the attribute of c this one has the greatest key
abbrev pub IsLastToSet : List Operation → (Selection → Bool) → CharName → Operation → Type 0
IsLastToSet ops selects c op = IsLast (λ o. Sets o selects c) ops op

-- each attribute of c has the value of the operation of the greatest key that sets it
pub record HasLooks (ops : List Operation) (c : CharName) (looks : Looks) : Type 0 where
  pub font : (op : Operation) × IsLastToSet ops (λ s. s.font) c op × (looks.font ≡ (looks_by op.kind).font)
  pub colour :
      (op : Operation) × IsLastToSet ops (λ s. s.colour) c op × (looks.colour ≡ (looks_by op.kind).colour)
  pub offset :
      (op : Operation) × IsLastToSet ops (λ s. s.offset) c op × (looks.offset ≡ (looks_by op.kind).offset)
