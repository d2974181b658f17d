-- What the parts of a verdict ask, and the verdict that the code gives.
use Rattle.std.specs.Prelude.{◌≡◌, ◌≢◌, ℕ, ◌+◌, ◌-◌, ◌<◌, List, Contains}
use Rattle.char_files.specs.CharName.{CharName}
use Rattle.operations.specs.NameSet.{Range}
use Rattle.operations.specs.Operation.{Operation, Mentions}
use Rattle.tree_order.specs.Good.{IsPredecessor}
use Rattle.tree_order.specs.Tree.{IsInsertOf}
use Rattle.set_laws.specs.Fronts.{IsHere}
use Rattle.set_laws.specs.Verdict as defined
use Rattle.waiting_room.specs.declared.judging.Verdict.{Verdict}
use Rattle.waiting_room.specs.declared.judging.Verdict.TheVariants.{Wait, Misfit, LowStamp, Ready}

-- a verdict of the code, as the definition has it
abbrev pub verdict_of : Verdict → defined.Verdict
verdict_of Wait = defined.wait
verdict_of Misfit = defined.misfit
verdict_of LowStamp = defined.low_stamp
verdict_of Ready = defined.ready

-- own names that are mentioned stand below this end of the site's file
abbrev pub HasOwnNamesBelow : Operation → ℕ → Type 0
HasOwnNamesBelow op end =
    (name : CharName) → Mentions op name → name.site ≡ op.site → name.off < end

-- the name is here, and an Insert of it has a lower stamp
abbrev pub HasLowerInsert : List Operation → ℕ → CharName → Type 0
HasLowerInsert ops stamp name =
    IsHere ops name × ((i : Operation) × IsInsertOf ops name i × (i.stamp < stamp))

-- so it is with each of these names
abbrev pub HaveLowerInserts : List Operation → ℕ → (CharName → Type 0) → Type 0
HaveLowerInserts ops stamp Names = (name : CharName) → Names name → HasLowerInsert ops stamp name

-- and with each name that is mentioned
abbrev pub IsAboveInserts : List Operation → Operation → Type 0
IsAboveInserts ops op = HaveLowerInserts ops op.stamp (Mentions op)

-- the operation is its site's first, or a predecessor of lower stamp is held
abbrev pub IsAbovePredecessor : List Operation → Operation → Type 0
IsAbovePredecessor ops op =
    1 < op.seq → (p : Operation) × Contains ops p × IsPredecessor p op × (p.stamp < op.stamp)

-- the last name of a range
abbrev pub last_of : Range → CharName
last_of r = record { site = r.site; off = r.at + (r.len - 1) }

-- the name is another site's, and isn't here
abbrev pub IsMissing : List Operation → ℕ → CharName → Type 0
IsMissing ops site name = (name.site ≢ site) × (¬ IsHere ops name)

-- of these names, those of other sites are here
abbrev pub AreForeignHere : List Operation → ℕ → (CharName → Type 0) → Type 0
AreForeignHere ops site Names = (name : CharName) → Names name → name.site ≢ site → IsHere ops name
