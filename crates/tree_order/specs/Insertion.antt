-- Where the run of one Insert more goes in the order.
use Rattle.std.specs.Prelude.{◌≡◌, ℕ, ◌+◌, true, false, List, [], ◌∷◌, ◌++◌, Some, length, slice_get, All}
use Rattle.std.specs.Prelude.{Contains}
use Rattle.looks.specs.Key.{is_below}
use Rattle.looks.specs.declared.key.Key.{Key}
use Rattle.char_files.specs.CharName.{CharName}
use Rattle.char_files.specs.declared.name.Anchor.{Anchor}
use Rattle.char_files.specs.declared.name.Anchor.TheVariants.{Root, At}
use Rattle.operations.specs.NameSet.{names_of}
use Rattle.operations.specs.Operation.{Operation, OpKind, insert, key_of}
use Rattle.tree_order.specs.Good.{Good}
use Rattle.tree_order.specs.Tree.{IsInsertOf}
use Rattle.tree_order.specs.Order.{IsOrder}

-- the names that an Insert of this site inserts, one after the other; the other kinds insert none
abbrev pub run_by : (site : ℕ) → OpKind → List CharName
run_by site (insert cause at looks bytes) = names_of (record { site = site; at = at; len = length bytes })
run_by site kind = []

-- the run of the operation
abbrev pub run_of : Operation → List CharName
run_of op = run_by op.site op.kind

-- an Insert has this cause
abbrev pub HasCauseBy : OpKind → Anchor → Type 0
HasCauseBy (insert cause at looks bytes) anchor = cause ≡ anchor
HasCauseBy kind anchor = ⊥

-- the operation is an Insert, and this is its cause
abbrev pub IsInsertAt : Operation → Anchor → Type 0
IsInsertAt op anchor = HasCauseBy op.kind anchor

-- ops are good, and good with i, which isn't one of them
pub record IsOneMore (ops : List Operation) (i : Operation) : Type 0 where
  pub good : Good ops
  pub larger : Good (ops ++ i ∷ [])
  pub new : Contains ops i → ⊥

-- this is the key of c, which is its Insert's
abbrev pub HasKey : List Operation → CharName → Key → Type 0
HasKey ops c key = (i : Operation) × IsInsertOf ops c i × (key ≡ key_of i)

-- the key of c is greater than this one
abbrev pub IsAbove : List Operation → Key → CharName → Type 0
IsAbove ops key c = (k : Key) × HasKey ops c k × (is_below key k ≡ true)

-- the key of c isn't greater than this one
abbrev pub IsNotAbove : List Operation → Key → CharName → Type 0
IsNotAbove ops key c = (k : Key) × HasKey ops c k × (is_below key k ≡ false)

-- the list is empty, or the key of its first character isn't greater than this one
abbrev pub BeginsNotAbove : List Operation → Key → List CharName → Type 0
BeginsNotAbove ops key [] = Unit {0}
BeginsNotAbove ops key (c ∷ after) = IsNotAbove ops key c

-- the anchor is the last of the list; the root is that of the empty one
abbrev pub EndsAt : List CharName → Anchor → Type 0
EndsAt before Root = before ≡ []
EndsAt before (At c) = (front : List CharName) × (before ≡ front ++ c ∷ [])

-- n is the index after the anchor in the list; that after the root is 0
abbrev pub IsJustAfter : List CharName → Anchor → ℕ → Type 0
IsJustAfter names Root n = n ≡ 0
IsJustAfter names (At c) n = (k : ℕ) × (slice_get names k ≡ Some c) × (n ≡ k + 1)

-- The gap for i's run, where before, skipped and after make up the order: skipped is the longest stretch of
-- characters of greater key that follows the cause.
pub record IsGap (ops : List Operation) (i : Operation) (before skipped after : List CharName) : Type 0 where
  pub cause : Anchor
  pub of_insert : IsInsertAt i cause
  pub at_cause : EndsAt before cause
  pub greater : All (IsAbove ops (key_of i)) skipped
  pub stops : BeginsNotAbove ops (key_of i) after

-- i's run put into its gap makes the order of the larger set
abbrev pub RunGoesIntoGap : Type 0
RunGoesIntoGap =
    (ops : List Operation) (i : Operation) (before skipped after : List CharName)
    → IsOneMore ops i → IsOrder ops (before ++ skipped ++ after) → IsGap ops i before skipped after
    → IsOrder (ops ++ i ∷ []) (before ++ skipped ++ run_of i ++ after)

-- the larger order is the order with i's run put into its gap, in one stretch
pub record GainsRun (ops : List Operation) (i : Operation) (order larger : List CharName) : Type 0 where
  pub before : List CharName
  pub skipped : List CharName
  pub after : List CharName
  pub gap : IsGap ops i before skipped after
  pub old : order ≡ before ++ skipped ++ after
  pub new : larger ≡ before ++ skipped ++ run_of i ++ after

-- one Insert more leaves the order as it was, but for its run in its gap
abbrev pub OrderGainsRun : Type 0
OrderGainsRun =
    (ops : List Operation) (i : Operation) (cause : Anchor) (order larger : List CharName)
    → IsOneMore ops i → IsInsertAt i cause → IsOrder ops order → IsOrder (ops ++ i ∷ []) larger
    → GainsRun ops i order larger
