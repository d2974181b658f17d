-- The laws of good sets with one operation more.
use Rattle.std.specs.Prelude.{◌≡◌, ℕ, ◌+◌, ◌-◌, ◌<◌, ◌≤◌, ◌⊎◌, ◌↔◌, List, [], ◌∷◌, ◌++◌, ◌==◌, max, Contains}
use Rattle.std.specs.Prelude.{if◌then◌else◌}
use Rattle.char_files.specs.CharName.{CharName}
use Rattle.operations.specs.Operation.{Operation, Mentions, appended_len, Begins}
use Rattle.tree_order.specs.Good.{Good, IsPredecessor, IsCauseOf}
use Rattle.tree_order.specs.Tree.{IsChar, IsInsertOf}
use Rattle.set_laws.specs.Fronts.{front_of, file_len, greatest_stamp, greatest_stamp_of}
use Rattle.set_laws.specs.Fronts.{IsHeld, IsHere}
use Rattle.set_laws.specs.Sets.{IsPartOf, AreIdentified}
use Rattle.set_laws.specs.Verdict.{Verdict, wait, misfit, low_stamp, ready, HasVerdict, FollowsOn}

-- there is one verdict, and no other
pub record HasOneVerdict (ops : List Operation) (op : Operation) : Type 0 where
  pub verdict : Verdict
  pub is : HasVerdict ops op verdict
  pub only : (other : Verdict) → HasVerdict ops op other → other ≡ verdict

-- the predecessor isn't held, or a name that is mentioned isn't a character
abbrev pub MissesACause : List Operation → Operation → Type 0
MissesACause ops op =
    ((1 < op.seq) × (IsHeld ops op.site (op.seq - 1) → ⊥)) ⊎ ((name : CharName) × Mentions op name
    × (IsChar ops name → ⊥))

-- whatever is added besides, a set that has these operations and this one isn't good
abbrev pub NeverMakesAGoodSet : List Operation → Operation → Type 0
NeverMakesAGoodSet ops op = (more : List Operation) → AreIdentified more → IsPartOf ops more
    → Contains more op → Good more → ⊥

-- the verdict says what the operation makes of a good set
pub record GrowsByVerdict (ops : List Operation) (op : Operation) : Type 0 where
  pub ready : HasVerdict ops op ready ↔ Good (ops ++ op ∷ [])
  pub misfit : HasVerdict ops op misfit → NeverMakesAGoodSet ops op
  pub low_stamp : HasVerdict ops op low_stamp → NeverMakesAGoodSet ops op
  pub wait : HasVerdict ops op wait → MissesACause ops op

-- what is refused is refused by each greater good set, until its identity is held there
abbrev pub RefusalsLast : List Operation → Operation → List Operation → Type 0
RefusalsLast ops op more = (verdict : Verdict) → (verdict ≡ misfit) ⊎ (verdict ≡ low_stamp)
    → HasVerdict ops op verdict → HasVerdict more op verdict

-- what counts tell of a new operation: which names are characters, whether it follows on, and the stamp of
-- its predecessor
pub record AreDeterminedByCounts (ops : List Operation) (op : Operation) : Type 0 where
  pub here : (name : CharName) → IsHere ops name ↔ IsChar ops name
  pub follows : FollowsOn ops op ↔ (op.seq ≤ front_of ops op.site + 1)
  pub predecessor : (p : Operation) → Contains ops p → IsPredecessor p op
      → p.stamp ≡ greatest_stamp_of ops op.site

-- below the operation stands the stamp of its predecessor, and of one Insert of each name that it mentions
pub record HasLowerStamps (ops : List Operation) (op : Operation) : Type 0 where
  pub predecessor :
      1 < op.seq → (p : Operation) × Contains ops p × IsPredecessor p op × (p.stamp < op.stamp)
  pub mentions :
      (name : CharName) → Mentions op name → (i : Operation) × IsInsertOf ops name i × (i.stamp < op.stamp)

-- the causes that the operation has among the others are held
abbrev pub HoldsCausesAmong : List Operation → List Operation → Operation → Type 0
HoldsCausesAmong ops others op = (p : Operation) → Contains others p → IsCauseOf p op → Contains ops p

-- fronts, lengths of files and greatest stamps with one operation more, which follows on
pub record AreCountedOn (ops : List Operation) (op : Operation) : Type 0 where
  pub front : (site : ℕ)
      → front_of (ops ++ op ∷ []) site ≡ (if op.site == site then op.seq else front_of ops site)
  pub file : (site : ℕ) → file_len (ops ++ op ∷ []) site
      ≡ (if op.site == site then file_len ops site + appended_len op.kind else file_len ops site)
  pub site_stamp : (site : ℕ) → greatest_stamp_of (ops ++ op ∷ []) site
      ≡ (if op.site == site then max op.stamp (greatest_stamp_of ops site) else greatest_stamp_of ops site)
  pub stamp : greatest_stamp (ops ++ op ∷ []) ≡ max op.stamp (greatest_stamp ops)

-- an operation that a site makes itself: its next seq, a stamp above all, at the end of its file, of names
-- that are here
pub record IsOwnNext (ops : List Operation) (op : Operation) : Type 0 where
  pub seq : op.seq ≡ front_of ops op.site + 1
  pub stamp : greatest_stamp ops < op.stamp
  pub begins : Begins op.kind (file_len ops op.site)
  pub mentions : (name : CharName) → Mentions op name → IsHere ops name
