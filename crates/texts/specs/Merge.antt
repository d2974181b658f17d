-- What a merge takes over of another replica's text.
use Rattle.std.specs.Prelude.{◌≡◌, ◌≢◌, ℕ, ◌<◌, List, ◌++◌, length, take, filter, Contains, Bool, nat_lt, Result, Ok, Err}
use Rattle.looks.specs.declared.refusal.Refusal.TheVariants.{Conflict, WrongText}
use Rattle.operations.specs.Operation.{Operation}
use Rattle.set_laws.specs.Fronts.{front_of}
use Rattle.set_laws.specs.Sets.{AreIdentified, IsInConflict}
use Rattle.tree_order.specs.Laws.{AreSameSet}
use Rattle.tree_order.specs.Shown.{IsShown}
use Rattle.texts.specs.Taking.{HasTakenAll}
use Rattle.texts.specs.TextState.{TextState, shown_of}
use Rattle.texts.specs.declared.merge_refusal.MergeRefusal.{MergeRefusal}
use Rattle.texts.specs.declared.merge_refusal.MergeRefusal.TheVariants.{Whole, Stopped}

-- whether an operation stands past the front of its site here
abbrev pub is_past_front : TextState → Operation → Bool
is_past_front t op = nat_lt (front_of t.operations op.site) op.seq

-- what of the other text's operations isn't held here, in its order
abbrev pub news : (t other : TextState) → List Operation
news t other = filter (is_past_front t) other.operations

-- an identity is held with two operations
abbrev pub AreInConflict : (t other : TextState) → Type 0
AreInConflict t other = (op : Operation) × Contains other.operations op × IsInConflict t.operations op

-- the texts are one, and no identity is held with two operations
pub record CanMerge (t other : TextState) : Type 0 where
  pub same_text : t.text ≡ other.text
  pub identified : AreIdentified (t.operations ++ other.operations)

-- What a merge answers, and the text afterwards, where memory is there: the other's operations that aren't held
-- here are taken in, in the other's order; or it is another text, or in conflict, and nothing changes.
abbrev pub Merges : (t other : TextState) → Result ℕ MergeRefusal → TextState → Type 0
Merges t other (Ok count) new =
    CanMerge t other × (count ≡ length (news t other)) × HasTakenAll t (news t other) new
Merges t other (Err (Whole WrongText)) new = (t.text ≢ other.text) × (new ≡ t)
Merges t other (Err (Whole Conflict)) new = (t.text ≡ other.text) × AreInConflict t other × (new ≡ t)
Merges t other (Err (Whole why)) new = ⊥
Merges t other (Err (Stopped done)) new = ⊥

-- The same where memory was refused: the first ones are taken in, and not all.
abbrev pub MergesShort : (t other : TextState) → Result ℕ MergeRefusal → TextState → Type 0
MergesShort t other (Err (Stopped done)) new =
    CanMerge t other × (done < length (news t other)) × HasTakenAll t (take done (news t other)) new
MergesShort t other result new = ⊥

-- the text holds the operations of both, and shows what the definition gives from these
pub record IsUnionOf (t other new : TextState) : Type 0 where
  pub operations : AreSameSet new.operations (t.operations ++ other.operations)
  pub shown : IsShown (t.operations ++ other.operations) (shown_of new)
