-- What every replica is, as a fact of what is seen of it: its characters are those that its operations define.
use Rattle.std.specs.Prelude.{◌≡◌, ℕ, ◌≤◌, List, length, All}
use Rattle.char_files.specs.CharName.{CharName}
use Rattle.char_files.specs.declared.name.Anchor.{Anchor}
use Rattle.char_files.specs.declared.name.Anchor.TheVariants.{Root, At}
use Rattle.operations.specs.NameSet.{Range, IsAmong}
use Rattle.operations.specs.Operation.{Operation}
use Rattle.tree_order.specs.Good.{Good}
use Rattle.tree_order.specs.Shown.{AreChars}
use Rattle.tree_order.specs.Tree.{IsChar}
use Rattle.set_laws.specs.Sets.{AreIdentified, KeepsCauses}
use Rattle.waiting_room.specs.declared.room.TheConstants.{MAX_WAITING}
use Rattle.texts.specs.TextState.{TextState}

-- each name of the set is that of a character, which may be hidden
abbrev pub AreCharNames : List Operation → List Range → Type 0
AreCharNames ops names = (c : CharName) → IsAmong names c → IsChar ops c

-- those that wait are of this text, each has an identity of its own, and they are no more than there are places
pub record AreWaitingFor (text : ℕ) (room : List Operation) : Type 0 where
  pub of_text : All (λ op. op.text ≡ text) room
  pub identified : AreIdentified room
  pub few : length room ≤ MAX_WAITING

-- the operations taken in are good and of this text, each after its causes; seqs count from 1, the characters are
-- theirs, and so is what was cut last; and those that wait are a room's
pub record IsText (t : TextState) : Type 0 where
  pub good : Good t.operations
  pub in_order : KeepsCauses t.operations
  pub identified : AreIdentified t.operations
  pub of_text : All (λ op. op.text ≡ t.text) t.operations
  pub chars : AreChars t.operations t.order
  pub deleted : AreCharNames t.operations t.last_set
  pub waiting : AreWaitingFor t.text t.waiting_room

-- the anchor is the root or a character
abbrev pub IsAnchor : List Operation → Anchor → Type 0
IsAnchor ops Root = Unit {0}
IsAnchor ops (At c) = IsChar ops c
