-- The operations that a replica has taken in: which sets of them are good. They are lists here, read as sets.
use Rattle.std.specs.Prelude.{◌≡◌, ℕ, zero, suc, ◌+◌, ◌<◌, ◌⊎◌, List, [], ◌∷◌, ◌==◌, ◌&&◌, if◌then◌else◌}
use Rattle.std.specs.Prelude.{Contains}
use Rattle.char_files.specs.CharName.{CharName}
use Rattle.operations.specs.Operation.{Operation, Begins, Inserts, Mentions, appended_len}

-- how many bytes the site's operation of this seq appends to its file, 0 where there is none
abbrev pub appended_len_at : List Operation → ℕ → ℕ → ℕ
appended_len_at [] site seq = 0
appended_len_at (op ∷ ops) site seq =
    if op.site == site && op.seq == seq then appended_len op.kind else appended_len_at ops site seq

-- how long a site's file is before its operation of this seq: what its Inserts of smaller seq have together
abbrev pub file_before : List Operation → ℕ → ℕ → ℕ
file_before ops site zero = 0
file_before ops site (suc seq) = file_before ops site seq + appended_len_at ops site seq

-- p is the operation of op's site of the seq before
abbrev pub IsPredecessor : Operation → Operation → Type 0
IsPredecessor p op = (p.site ≡ op.site) × (p.seq + 1 ≡ op.seq)

-- p is a cause of op: its predecessor, or the Insert of a name that it mentions
abbrev pub IsCauseOf : Operation → Operation → Type 0
IsCauseOf p op = IsPredecessor p op ⊎ ((name : CharName) × Mentions op name × Inserts p name)

-- what a replica can have taken in
pub record Good (ops : List Operation) : Type 0 where
  -- no two operations differ under one identity
  pub identities :
      (a b : Operation) → Contains ops a → Contains ops b → a.site ≡ b.site → a.seq ≡ b.seq → a ≡ b
  -- each operation's predecessor is held
  pub predecessors : (op : Operation) → Contains ops op → 1 < op.seq
      → (p : Operation) × Contains ops p × IsPredecessor p op
  -- the Insert of each name that is mentioned is held
  pub mentions : (op : Operation) (name : CharName) → Contains ops op → Mentions op name
      → (i : Operation) × Contains ops i × Inserts i name
  -- an Insert begins where its site's file ended before it
  pub begins : (op : Operation) → Contains ops op → Begins op.kind (file_before ops op.site op.seq)
  -- an own name that is mentioned stands in the site's file before the operation
  pub own : (op : Operation) (name : CharName) → Contains ops op → Mentions op name → name.site ≡ op.site
      → name.off < file_before ops op.site op.seq
  -- each stamp is greater than those of the operation's causes
  pub stamps : (op p : Operation) → Contains ops op → Contains ops p → IsCauseOf p op → p.stamp < op.stamp
