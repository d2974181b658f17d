-- The registers that a replica keeps of a character: its looks, and whether it is hidden, each under the key
-- of the operation that set it.
use Rattle.std.specs.Prelude.{◌≡◌, ℕ, ℤ, ◌⊎◌, Bool, true, false, List, map, All, if◌then◌else◌}
use Rattle.std.specs.List.{list_any}
use Rattle.looks.specs.Key.{is_below}
use Rattle.looks.specs.Sel.{Selection}
use Rattle.looks.specs.declared.key.Key.{Key}
use Rattle.looks.specs.declared.looks.Looks.{Looks}
use Rattle.looks.specs.declared.register.Register.{Register}
use Rattle.char_files.specs.CharName.{CharName}
use Rattle.operations.specs.NameSet.{Range, range_contains}
use Rattle.operations.specs.Operation.{Operation, OpKind, insert, delete, restore, change_looks, Inserts, key_of}
use Rattle.tree_order.specs.Last.{IsLast}
use Rattle.tree_order.specs.Tree.{IsInsertOf}
use Rattle.tree_order.specs.Order.{IsOrder}
use Rattle.tree_order.specs.Looks.{looks_by, Sets}
use Rattle.tree_order.specs.Shown.{SwitchesBy, is_delete}

-- the operation inserts c, which then isn't hidden, or it is a Delete or a Restore that names c
abbrev pub SetsHidden : Operation → CharName → Type 0
SetsHidden op c = Inserts op c ⊎ SwitchesBy op.kind c

-- the register has the greatest key of the operations that set something, and what that operation gives
pub record IsRegister {V : Type 0} (Sets : Operation → Type 0) (gives : OpKind → V) (ops : List Operation)
    (r : Register V) : Type 0 where
  pub last : Operation
  pub is : IsLast Sets ops last
  pub key : r.key ≡ key_of last
  pub value : r.value ≡ gives last.kind

-- an atom: a character with the registers that a replica keeps of it
pub record Atom : Type 0 where
  pub name : CharName
  pub key : Key
  pub font : Register (List ℕ)
  pub colour : Register ℕ
  pub offset : Register ℤ
  pub hidden : Register Bool

-- the key is that of the character's Insert, and the registers are the character's
pub record HasRegisters (ops : List Operation) (k : Atom) : Type 0 where
  pub key : (i : Operation) × IsInsertOf ops k.name i × (k.key ≡ key_of i)
  pub font : IsRegister (λ op. Sets op (λ s. s.font) k.name) (λ kind. (looks_by kind).font) ops k.font
  pub colour : IsRegister (λ op. Sets op (λ s. s.colour) k.name) (λ kind. (looks_by kind).colour) ops k.colour
  pub offset : IsRegister (λ op. Sets op (λ s. s.offset) k.name) (λ kind. (looks_by kind).offset) ops k.offset
  pub hidden : IsRegister (λ op. SetsHidden op k.name) is_delete ops k.hidden

-- the looks in the registers
abbrev pub atom_looks : Atom → Looks
atom_looks k = record { font = k.font.value; colour = k.colour.value; offset = k.offset.value }

-- all characters of the operations in order, each with its registers
pub record AreAtoms (ops : List Operation) (atoms : List Atom) : Type 0 where
  pub order : IsOrder ops (map (λ k. k.name) atoms)
  pub registers : All (HasRegisters ops) atoms

-- a value offered to a register under a key: the greater key stays, with its value
abbrev pub offered : {V : Type 0} → Register V → Key → V → Register V
offered r key value = if is_below r.key key then record { key = key; value = value } else r

-- a value offered, where it is selected
abbrev pub offered_if : {V : Type 0} → Bool → Register V → Key → V → Register V
offered_if selected r key value = if selected then offered r key value else r

-- a character of a Delete or a Restore: hidden or shown again
abbrev pub switched : Bool → Key → Atom → Atom
switched hidden key k = record k { hidden = offered k.hidden key hidden }

-- a character of a ChangeLooks: attribute by attribute
abbrev pub relooked : Selection → Looks → Key → Atom → Atom
relooked sel looks key k = record k {
  font = offered_if sel.font k.font key looks.font;
  colour = offered_if sel.colour k.colour key looks.colour;
  offset = offered_if sel.offset k.offset key looks.offset;
}

-- the character, changed if the set has its name
abbrev pub if_named : List Range → (Atom → Atom) → Atom → Atom
if_named names change k = if list_any (λ r. range_contains r k.name) names then change k else k

-- a character that was there, after one operation more of this key; an Insert changes none
abbrev pub atom_by : OpKind → Key → Atom → Atom
atom_by (insert cause at looks bytes) key k = k
atom_by (delete names) key k = if_named names (switched true key) k
atom_by (restore names) key k = if_named names (switched false key) k
atom_by (change_looks sel looks names) key k = if_named names (relooked sel looks key) k

-- the same after this operation
abbrev pub atom_after : Operation → Atom → Atom
atom_after op k = atom_by op.kind (key_of op) k
