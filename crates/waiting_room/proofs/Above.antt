-- A stamp that is above all causes, and one that is above some Insert of each name.
use Rattle.std.proofs.Common.{inl, inr, List}
use Rattle.char_files.specs.CharName.{CharName}
use Rattle.operations.specs.Operation.{Operation, Mentions}
use Rattle.tree_order.specs.Tree.{IsChar}
use Rattle.set_laws.specs.Fronts.{IsHere}
use Rattle.set_laws.specs.Verdict.{FollowsOn, IsAboveCauses}
use Rattle.set_laws.specs.Growing.{HasLowerStamps}
use Rattle.waiting_room.specs.Judged.{IsAboveInserts, IsAbovePredecessor}

-- above the predecessor and an Insert of each name, it has lower stamps below it
pub lower_stamps : (ops : List Operation) (op : Operation) → IsAbovePredecessor ops op
    → IsAboveInserts ops op → HasLowerStamps ops op
lower_stamps ops op after inserts = record {
  predecessor = after;
  mentions = λ name m. (inserts name m).1;
}

-- above all causes, it is above the predecessor
pub above_predecessor : (ops : List Operation) (op : Operation) → FollowsOn ops op → IsAboveCauses ops op
    → IsAbovePredecessor ops op
above_predecessor ops op follows above later =
    let (p, held, is) = follows later in (p, held, is, above p held (inl is))

-- and above an Insert of each name
pub above_inserts : (ops : List Operation) (op : Operation)
    → ((name : CharName) → IsHere ops name → IsChar ops name)
    → ((name : CharName) → Mentions op name → IsHere ops name) → IsAboveCauses ops op
    → IsAboveInserts ops op
above_inserts ops op chars here above name m =
    let (i, is) = chars name (here name m) in
    (here name m, (i, is, above i is.held (inr (name, m, is.inserts))))
