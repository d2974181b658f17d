-- The closure of a set of operations: what of it can be taken in. And the laws of closures.
use Rattle.std.specs.Prelude.{◌⊎◌, List, [], ◌∷◌, ◌++◌, Contains}
use Rattle.operations.specs.Operation.{Operation}
use Rattle.tree_order.specs.Good.{Good}
use Rattle.tree_order.specs.Laws.{AreSameSet}
use Rattle.set_laws.specs.Sets.{IsPartOf}
use Rattle.set_laws.specs.Verdict.{wait, misfit, low_stamp, ready, HasVerdict, IsNew}

-- the set has the operation's causes, and it is good over them: some of the set are good, and so with it
pub record IsFreedBy (ops : List Operation) (op : Operation) : Type 0 where
  pub past : List Operation
  pub within : IsPartOf past ops
  pub good : Good past
  pub good_with : Good (past ++ op ∷ [])

-- the set holds each operation of all these that it frees
abbrev pub HoldsWhatItFrees : List Operation → List Operation → Type 0
HoldsWhatItFrees all set = (op : Operation) → Contains all op → IsFreedBy set op → Contains set op

-- the least set that holds these operations, and each one of all that it frees
pub record IsClosureFrom (these all set : List Operation) : Type 0 where
  pub holds_these : IsPartOf these set
  pub holds_freed : HoldsWhatItFrees all set
  pub least :
      (other : List Operation) → IsPartOf these other → HoldsWhatItFrees all other → IsPartOf set other

-- the closure of a set: the least that holds each operation of it which it frees
abbrev pub IsClosure : List Operation → List Operation → Type 0
IsClosure all set = IsClosureFrom [] all set

-- a set has a closure, and no other
pub record HasOneClosure (all : List Operation) : Type 0 where
  pub closure : List Operation
  pub is : IsClosure all closure
  pub only : (other : List Operation) → IsClosure all other → AreSameSet other closure

-- the set is a good part of all these, and has each other good part
pub record IsGreatestGoodPart (all set : List Operation) : Type 0 where
  pub within : IsPartOf set all
  pub good : Good set
  pub greatest : (other : List Operation) → IsPartOf other all → Good other → IsPartOf other set

-- what becomes of a set's closure with one operation more in the set: if it frees the operation, that comes
-- in, and what is freed then; if not, nothing does
pub record GrowsByWhatIsFreed (all set : List Operation) (op : Operation) (grown : List Operation)
    : Type 0 where
  pub freed : IsFreedBy set op → IsClosureFrom (set ++ op ∷ []) all grown
  pub not_freed : (IsFreedBy set op → ⊥) → AreSameSet grown set

-- no other operation of all these is ready
abbrev pub NoneIsReady : List Operation → List Operation → Type 0
NoneIsReady all set = (op : Operation) → Contains all op → IsNew set op → HasVerdict set op ready → ⊥

-- what is taken in and what waits are of all these, and what else is of them is refused
pub record IsKept (taken waiting all : List Operation) : Type 0 where
  pub taken_in : IsPartOf taken all
  pub kept_waiting : IsPartOf waiting all
  pub others : (op : Operation) → Contains all op → (Contains taken op ⊎ Contains waiting op)
      ⊎ (HasVerdict taken op misfit ⊎ HasVerdict taken op low_stamp)

-- each operation waits
abbrev pub AllWait : List Operation → List Operation → Type 0
AllWait taken waiting = (op : Operation) → Contains waiting op → HasVerdict taken op wait
