-- The laws of registers: what they tell of a good set, and what one operation more makes of them.
use Rattle.std.specs.Prelude.{◌≡◌, ◌↔◌, false, not, List, [], ◌∷◌, ◌++◌, map, All, filter}
use Rattle.looks.specs.declared.looks.Looks.{Looks}
use Rattle.char_files.specs.CharName.{CharName}
use Rattle.char_files.specs.declared.character.Char.{Char}
use Rattle.operations.specs.Operation.{Operation, Inserts, key_of}
use Rattle.tree_order.specs.Tree.{HasByte}
use Rattle.tree_order.specs.Order.{IsOrder}
use Rattle.tree_order.specs.Looks.{looks_by, HasLooks}
use Rattle.tree_order.specs.Shown.{is_visible, IsShown}
use Rattle.tree_order.specs.Registers.{Atom, HasRegisters, AreAtoms, atom_looks, atom_after}

-- the registers tell whether the character is visible, and its looks
pub record FollowRegisters (ops : List Operation) (k : Atom) : Type 0 where
  pub visible : is_visible ops k.name ≡ not k.hidden.value
  pub looks : HasLooks ops k.name (atom_looks k)

-- a character with looks, without its byte
pub record Named : Type 0 where
  pub name : CharName
  pub looks : Looks

-- the atoms that aren't hidden, in their looks
abbrev pub shown_of_atoms : List Atom → List Named
shown_of_atoms atoms =
    map (λ k. record { name = k.name; looks = atom_looks k }) (filter (λ k. not k.hidden.value) atoms)

-- the shown characters without their bytes
abbrev pub without_bytes : List Char → List Named
without_bytes shown = map (λ s. record { name = s.name; looks = s.looks }) shown

-- what is shown are the atoms that aren't hidden, each with its byte
abbrev pub ShowsAtoms : List Operation → List Atom → Type 0
ShowsAtoms ops atoms = (shown : List Char) → IsShown ops shown
    ↔ ((without_bytes shown ≡ shown_of_atoms atoms) × All (λ s. HasByte ops s.name s.byte) shown)

-- there is one list of all characters with their registers, and no other
pub record HasOneAtoms (ops : List Operation) : Type 0 where
  pub atoms : List Atom
  pub is : AreAtoms ops atoms
  pub only : (other : List Atom) → AreAtoms ops other → other ≡ atoms

-- a Delete, a Restore or a ChangeLooks
abbrev pub InsertsNone : Operation → Type 0
InsertsNone op = (c : CharName) → Inserts op c → ⊥

-- one operation more that inserts nothing moves no character
abbrev pub MovesNoChar : List Operation → Operation → Type 0
MovesNoChar ops op = (order : List CharName) → IsOrder ops order → IsOrder (ops ++ op ∷ []) order

-- one operation more shows the character by its old registers, offered the operation's values under its key
pub record ShowsByOffers (ops : List Operation) (op : Operation) (k : Atom) : Type 0 where
  pub visible : is_visible (ops ++ op ∷ []) k.name ≡ not (atom_after op k).hidden.value
  pub looks : HasLooks (ops ++ op ∷ []) k.name (atom_looks (atom_after op k))

-- the list of all characters with one operation more is the old one, each register offered its value
abbrev pub AtomsAfter : List Operation → Operation → Type 0
AtomsAfter ops op = (atoms : List Atom) → AreAtoms ops atoms → AreAtoms (ops ++ op ∷ []) (map (atom_after op) atoms)

-- an atom as its Insert makes it: all under the Insert's key, and not hidden
abbrev pub first_atom : Operation → CharName → Atom
first_atom op c = record {
  name = c;
  key = key_of op;
  font = record { key = key_of op; value = (looks_by op.kind).font };
  colour = record { key = key_of op; value = (looks_by op.kind).colour };
  offset = record { key = key_of op; value = (looks_by op.kind).offset };
  hidden = record { key = key_of op; value = false };
}

-- with one operation more: an old character's registers are offered its values, and a new one has its own
pub record OffersItsValues (ops : List Operation) (op : Operation) : Type 0 where
  pub old : (k : Atom) → HasRegisters ops k → HasRegisters (ops ++ op ∷ []) (atom_after op k)
  pub new : (c : CharName) → Inserts op c → HasRegisters (ops ++ op ∷ []) (first_atom op c)
