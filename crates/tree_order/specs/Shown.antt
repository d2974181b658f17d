-- What a set of operations shows.
use Rattle.std.specs.Prelude.{◌≡◌, ℕ, Bool, true, false, ◌==◌, ◌&&◌, not, List, [], ◌∷◌, All, filter, map}
use Rattle.std.specs.Prelude.{count_by, if◌then◌else◌}
use Rattle.std.specs.List.{list_any}
use Rattle.looks.specs.Key.{is_below}
use Rattle.char_files.specs.CharName.{CharName}
use Rattle.char_files.specs.declared.character.Char.{Char}
use Rattle.char_files.specs.declared.name.Anchor.{Anchor}
use Rattle.char_files.specs.declared.name.Anchor.TheVariants.{Root, At}
use Rattle.operations.specs.NameSet.{IsAmong, range_contains}
use Rattle.operations.specs.Operation.{Operation, OpKind, insert, delete, restore, change_looks, key_of}
use Rattle.tree_order.specs.Last.{IsLast}
use Rattle.tree_order.specs.Tree.{HasByte}
use Rattle.tree_order.specs.Order.{IsOrder}
use Rattle.tree_order.specs.Looks.{HasLooks}

-- whether a Delete names c
abbrev pub deletes_by : OpKind → CharName → Bool
deletes_by (insert cause at looks bytes) c = false
deletes_by (delete names) c = list_any (λ r. range_contains r c) names
deletes_by (restore names) c = false
deletes_by (change_looks sel looks names) c = false

-- whether a Restore names c
abbrev pub restores_by : OpKind → CharName → Bool
restores_by (insert cause at looks bytes) c = false
restores_by (delete names) c = false
restores_by (restore names) c = list_any (λ r. range_contains r c) names
restores_by (change_looks sel looks names) c = false

-- whether the operation hides c: a Delete that names c does, unless a Restore of a greater key names c too
abbrev pub hides : List Operation → CharName → Operation → Bool
hides ops c op =
    deletes_by op.kind c && not (list_any (λ r. restores_by r.kind c && is_below (key_of op) (key_of r)) ops)

-- whether c is visible: no operation hides it
abbrev pub is_visible : List Operation → CharName → Bool
is_visible ops c = not (list_any (hides ops c) ops)

-- a Delete or a Restore names c
abbrev pub SwitchesBy : OpKind → CharName → Type 0
SwitchesBy (insert cause at looks bytes) c = ⊥
SwitchesBy (delete names) c = IsAmong names c
SwitchesBy (restore names) c = IsAmong names c
SwitchesBy (change_looks sel looks names) c = ⊥

-- of all Deletes and Restores that name c this one has the greatest key
abbrev pub IsLastToSwitch : List Operation → CharName → Operation → Type 0
IsLastToSwitch ops c op = IsLast (λ o. SwitchesBy o.kind c) ops op

-- whether it is a Delete
abbrev pub is_delete : OpKind → Bool
is_delete (insert cause at looks bytes) = false
is_delete (delete names) = true
is_delete (restore names) = false
is_delete (change_looks sel looks names) = false

-- the visible characters in their order, each with its byte and its looks
pub record IsShown (ops : List Operation) (shown : List Char) : Type 0 where
  pub order : List CharName
  pub in_order : IsOrder ops order
  pub visible : map (λ s. s.name) shown ≡ filter (is_visible ops) order
  pub bytes : All (λ s. HasByte ops s.name s.byte) shown
  pub looks : All (λ s. HasLooks ops s.name s.looks) shown

-- all characters of the operations in their order, hidden ones too, each with its byte and the looks that hold
pub record AreChars (ops : List Operation) (chars : List Char) : Type 0 where
  pub order : IsOrder ops (map (λ c. c.name) chars)
  pub bytes : All (λ c. HasByte ops c.name c.byte) chars
  pub looks : All (λ c. HasLooks ops c.name c.looks) chars

-- the list up to c, and with it
abbrev pub up_to : CharName → List CharName → List CharName
up_to c [] = []
up_to c (d ∷ order) = d ∷ (if d.site == c.site && d.off == c.off then [] else up_to c order)

-- how many visible characters of the list are the anchor or stand before it; the root stands before all
abbrev pub place : List Operation → List CharName → Anchor → ℕ
place ops order Root = 0
place ops order (At c) = count_by (is_visible ops) (up_to c order)

-- the place of the anchor in the order
abbrev pub IsPlace : List Operation → Anchor → ℕ → Type 0
IsPlace ops a n = (order : List CharName) × IsOrder ops order × (n ≡ place ops order a)
