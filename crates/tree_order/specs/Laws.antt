-- The laws of the order and of what is shown, over any list of operations that is good.
use Rattle.std.specs.Prelude.{◌≡◌, ℕ, ◌+◌, ◌⊎◌, ◌↔◌, true, not, List, Contains}
use Rattle.looks.specs.declared.looks.Looks.{Looks}
use Rattle.char_files.specs.CharName.{CharName}
use Rattle.char_files.specs.declared.character.Char.{Char}
use Rattle.char_files.specs.declared.name.Anchor.{Anchor}
use Rattle.operations.specs.Operation.{Operation, key_of}
use Rattle.tree_order.specs.Good.{Good}
use Rattle.tree_order.specs.Tree.{IsChar, IsInsertOf, IsDescendant, HasByte}
use Rattle.tree_order.specs.Looks.{HasLooks}
use Rattle.tree_order.specs.Order.{Before, IsBeforeIn, IsOrder}
use Rattle.tree_order.specs.Shown.{is_visible, SwitchesBy, IsLastToSwitch, is_delete, IsShown, IsPlace}

-- two operations have different keys
abbrev pub KeysDiffer : List Operation → Type 0
KeysDiffer ops = (a b : Operation) → Contains ops a → Contains ops b → key_of a ≡ key_of b → a ≡ b

-- before is a strict total order on the characters
pub record IsStrictTotalOrder (ops : List Operation) : Type 0 where
  pub irreflexive : (c : CharName) → Before ops c c → ⊥
  pub transitive : (c d e : CharName) → Before ops c d → Before ops d e → Before ops c e
  pub total : (c d : CharName) → IsChar ops c → IsChar ops d → (c ≡ d) ⊎ (Before ops c d ⊎ Before ops d c)

-- there is one list that is the order, and no other
pub record HasOneOrder (ops : List Operation) : Type 0 where
  pub order : List CharName
  pub is : IsOrder ops order
  pub only : (other : List CharName) → IsOrder ops other → other ≡ order

-- d is the next byte of the Insert that inserts c
pub record IsNextByte (ops : List Operation) (c d : CharName) : Type 0 where
  pub insert : Operation
  pub first : IsInsertOf ops c insert
  pub second : IsInsertOf ops d insert
  pub next : c.off + 1 ≡ d.off

-- what stands between two neighbouring bytes of one Insert are descendants of the former, not of the latter
abbrev pub RunsStayTogether : List Operation → Type 0
RunsStayTogether ops =
    (order : List CharName) (c d x : CharName) → IsOrder ops order → IsNextByte ops c d
    → IsBeforeIn order c x → IsBeforeIn order x d
    → IsDescendant ops c x × (IsDescendant ops d x → ⊥)

-- there is one list that is shown, and no other, and each anchor has one number as its place, and no other
pub record ShowsOneText (ops : List Operation) : Type 0 where
  pub shown : List Char
  pub is : IsShown ops shown
  pub only : (other : List Char) → IsShown ops other → other ≡ shown
  pub place : Anchor → ℕ
  pub is_place : (anchor : Anchor) → IsPlace ops anchor (place anchor)
  pub only_place : (anchor : Anchor) (n : ℕ) → IsPlace ops anchor n → n ≡ place anchor

-- of the Deletes and Restores that name c the one of the greatest key decides whether c is visible
pub record TheLastSwitchDecides (ops : List Operation) (c : CharName) : Type 0 where
  pub none : ((op : Operation) → Contains ops op → SwitchesBy op.kind c → ⊥) → is_visible ops c ≡ true
  pub last : (op : Operation) → IsLastToSwitch ops c op → is_visible ops c ≡ not (is_delete op.kind)

-- the same operations, in whatever order and however often
abbrev pub AreSameSet : List Operation → List Operation → Type 0
AreSameSet a b = (op : Operation) → Contains a op ↔ Contains b op

-- whatever the definitions say of one list they say of the other
pub record SaysTheSame (a b : List Operation) : Type 0 where
  pub good : Good b
  pub order : (order : List CharName) → IsOrder a order → IsOrder b order
  pub shown : (shown : List Char) → IsShown a shown → IsShown b shown
  pub bytes : (c : CharName) (byte : ℕ) → HasByte a c byte → HasByte b c byte
  pub looks : (c : CharName) (looks : Looks) → HasLooks a c looks → HasLooks b c looks
