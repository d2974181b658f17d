-- The chains of a note's messages: one of each number and text.
use Rattle.std.specs.Prelude.{◌≡◌, ℕ, ◌≤◌, ◌⊎◌, List, map, Contains}
use Rattle.operations.specs.Operation.{Operation}
use Rattle.tree_order.specs.Good.{IsPredecessor}
use Rattle.set_laws.specs.Verdict.{IsNew, FollowsOn}
use Rattle.note_laws.specs.Note.{Note, Entries, Saying, IsHolder}

-- the operations of messages
abbrev pub operations : List Saying → List Operation
operations said = map (λ s. s.op) said

-- one author said both to follow the same message of a number and a text
pub record AreBranches (a b : Saying) : Type 0 where
  pub author : a.author ≡ b.author
  pub text : a.op.text ≡ b.op.text
  pub site : a.op.site ≡ b.op.site
  pub seq : a.op.seq ≡ b.op.seq
  pub before : a.before ≡ b.before

-- of messages that follow the same one it has the least hash
pub record IsLeastBranch (said : List Saying) (s : Saying) : Type 0 where
  pub made : Contains said s
  pub least : (other : Saying) → Contains said other → AreBranches s other → s.hash ≤ other.hash

-- the number's holder said it, and it is the least branch
abbrev pub IsOfHolder : Note → Entries → Saying → Type 0
IsOfHolder note entries s = IsHolder note entries s.op.site s.author × IsLeastBranch entries.said s

-- a message that a chain can have: one of the base, or of the number's holder
abbrev pub HoldsItsPlace : Note → Entries → Saying → Type 0
HoldsItsPlace note entries s = Contains note.base s ⊎ IsOfHolder note entries s

-- the hash before it is that of its predecessor, and none for the first
pub record NamesTheOneBefore (admitted : List Saying) (s : Saying) : Type 0 where
  pub first : s.op.seq ≡ 1 → s.before ≡ 0
  pub later : (p : Saying) → Contains admitted p → IsPredecessor p.op s.op → s.before ≡ p.hash

-- it is the next message of a chain, of which all before it are admitted
pub record ComesNext (note : Note) (entries : Entries) (text : ℕ) (admitted : List Saying) (s : Saying) : Type 0 where
  pub of_text : s.op.text ≡ text
  pub new : IsNew (operations admitted) s.op
  pub follows : FollowsOn (operations admitted) s.op
  pub holds : HoldsItsPlace note entries s
  pub names : Contains note.base s ⊎ NamesTheOneBefore admitted s
