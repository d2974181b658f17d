-- The messages that are kept, and what a further one does to them.
use Rattle.std.specs.Prelude.{◌≡◌, ℕ, ◌/◌, ◌%◌, ◌^◌, ◌<◌, ◌⊎◌, ◌↔◌, nat_eq, Bool, ◌&&◌, List, Contains}
use Rattle.std.specs.declared.cmp.Ordering.{Ordering}
use Rattle.std.specs.Ordering.{eq_by_cmp, nat_cmp, ordering_then}
use Rattle.note_laws.specs.Note.{Saying}
use Rattle.note_laws.specs.Chains.{AreBranches}
use Rattle.note_entries.specs.declared.branches.Said.{Said}
use Rattle.note_entries.specs.declared.branches.Said.TheVariants.{Repeat, Greater, First, Lesser}

-- where in a chain a message stands: its author, its text and number, its seq, and the hash before it
pub record Place : Type 0 where
  pub author : ℕ
  pub text : ℕ
  pub site : ℕ
  pub seq : ℕ
  pub before : ℕ

-- whether two hashes are one, by their halves
abbrev pub is_same_hash : ℕ → ℕ → Bool
is_same_hash a b = nat_eq (a / 2 ^ 128) (b / 2 ^ 128) && nat_eq (a % 2 ^ 128) (b % 2 ^ 128)

-- the order of hashes, by their halves
abbrev pub hash_cmp : ℕ → ℕ → Ordering
hash_cmp a b = ordering_then (nat_cmp (a / 2 ^ 128) (b / 2 ^ 128)) (nat_cmp (a % 2 ^ 128) (b % 2 ^ 128))

-- the order of places, by one part after the other
abbrev pub place_cmp : Place → Place → Ordering
place_cmp a b = ordering_then (hash_cmp a.author b.author) (ordering_then (nat_cmp a.text b.text)
    (ordering_then (nat_cmp a.site b.site) (ordering_then (nat_cmp a.seq b.seq) (hash_cmp a.before b.before))))

-- whether two places are one
abbrev pub is_same_place : Place → Place → Bool
is_same_place = eq_by_cmp place_cmp

-- where a message stands
abbrev pub place_in_chain : Saying → Place
place_in_chain s = record { author = s.author; text = s.op.text; site = s.op.site; seq = s.op.seq; before = s.before }

-- the message is its place's, and each other place has what it had
abbrev pub IsPutSaying : (old : List Saying) → Saying → (new : List Saying) → Type 0
IsPutSaying old s new = (x : Saying) → Contains new x ↔ (Contains old x × (¬ AreBranches s x)) ⊎ (x ≡ s)

-- how a message stands to the one that is kept in its place, by their hashes
abbrev pub StandsBeside : (kept : Saying) → Saying → Said → Type 0
StandsBeside kept s Repeat = kept.hash ≡ s.hash
StandsBeside kept s Greater = kept.hash < s.hash
StandsBeside kept s First = ⊥
StandsBeside kept s Lesser = s.hash < kept.hash

-- so to one that is kept
abbrev pub IsBesideKept : List Saying → Saying → Said → Type 0
IsBesideKept old s r = (kept : Saying) × Contains old kept × AreBranches s kept × StandsBeside kept s r

-- the same where none may be kept there
abbrev pub StandsInPlace : List Saying → Saying → Said → Type 0
StandsInPlace old s First = (kept : Saying) → Contains old kept → ¬ AreBranches s kept
StandsInPlace old s Repeat = IsBesideKept old s Repeat
StandsInPlace old s Greater = IsBesideKept old s Greater
StandsInPlace old s Lesser = IsBesideKept old s Lesser

-- What a message does: it changes nothing where one of its hash or of a lesser one is kept in its place, and else it is
-- kept there.
abbrev pub Says : (old : List Saying) → Saying → Said → (new : List Saying) → Type 0
Says old s Repeat new = StandsInPlace old s Repeat × (new ≡ old)
Says old s Greater new = StandsInPlace old s Greater × (new ≡ old)
Says old s First new = StandsInPlace old s First × IsPutSaying old s new
Says old s Lesser new = StandsInPlace old s Lesser × IsPutSaying old s new

-- whose place it takes: that of the one that was kept there
abbrev pub TakesPlaceOf : Saying → Said → Saying → Type 0
TakesPlaceOf s Repeat other = ⊥
TakesPlaceOf s Greater other = ⊥
TakesPlaceOf s First other = ⊥
TakesPlaceOf s Lesser other = AreBranches s other
