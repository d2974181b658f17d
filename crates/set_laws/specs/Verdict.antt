-- The verdict on an operation that is handed in: whether a set may take it in.
use Rattle.std.specs.Prelude.{◌≡◌, ◌≢◌, ◌<◌, ◌⊎◌, List, Contains}
use Rattle.char_files.specs.CharName.{CharName}
use Rattle.operations.specs.Operation.{Operation, Mentions, Begins}
use Rattle.tree_order.specs.Good.{IsPredecessor, IsCauseOf}
use Rattle.set_laws.specs.Fronts.{file_len, IsHeld, IsHere}

-- the operation waits for a cause, is refused for what it says of its site's file, or for its stamp, or is
-- ready to be taken in
pub data Verdict : Type 0 where
  wait : Verdict
  misfit : Verdict
  low_stamp : Verdict
  ready : Verdict

-- a verdict is given on an operation whose identity isn't held; seqs are counted from 1
pub record IsNew (ops : List Operation) (op : Operation) : Type 0 where
  pub counted : 0 < op.seq
  pub unheld : IsHeld ops op.site op.seq → ⊥

-- its site's operation of the seq before is held, if there is one
abbrev pub FollowsOn : List Operation → Operation → Type 0
FollowsOn ops op = 1 < op.seq → (p : Operation) × Contains ops p × IsPredecessor p op

-- an Insert begins where its site's file ends, and names of its own site are here
pub record FitsFile (ops : List Operation) (op : Operation) : Type 0 where
  pub begins : Begins op.kind (file_len ops op.site)
  pub own : (name : CharName) → Mentions op name → name.site ≡ op.site → IsHere ops name

-- the names of other sites that it mentions are here
abbrev pub HasForeignNames : List Operation → Operation → Type 0
HasForeignNames ops op = (name : CharName) → Mentions op name → name.site ≢ op.site → IsHere ops name

-- its stamp is greater than those of its causes
abbrev pub IsAboveCauses : List Operation → Operation → Type 0
IsAboveCauses ops op = (p : Operation) → Contains ops p → IsCauseOf p op → p.stamp < op.stamp

-- The first of these that fails tells the verdict: it follows on, it is placed, its foreign names are here,
-- it stands above its causes. Where the first or the third fails it waits. Where none fails it is ready.
abbrev pub HasVerdict : List Operation → Operation → Verdict → Type 0
HasVerdict ops op wait =
    (¬ FollowsOn ops op) ⊎ (FollowsOn ops op × FitsFile ops op × (¬ HasForeignNames ops op))
HasVerdict ops op misfit = FollowsOn ops op × (¬ FitsFile ops op)
HasVerdict ops op low_stamp =
    FollowsOn ops op × FitsFile ops op × HasForeignNames ops op × (¬ IsAboveCauses ops op)
HasVerdict ops op ready =
    FollowsOn ops op × FitsFile ops op × HasForeignNames ops op × IsAboveCauses ops op
