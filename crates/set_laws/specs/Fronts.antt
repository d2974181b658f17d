-- Fronts, stamps and files of a set of operations, and which identities and names are here.
use Rattle.std.specs.Prelude.{◌≡◌, ℕ, suc, ◌<◌, ◌↔◌, List, [], ◌∷◌, ◌==◌, max, Contains, AllPairs, if◌then◌else◌}
use Rattle.char_files.specs.CharName.{CharName}
use Rattle.operations.specs.Operation.{Operation}
use Rattle.tree_order.specs.Good.{file_before}

-- the greatest number that f gives, 0 for none
abbrev pub greatest : (Operation → ℕ) → List Operation → ℕ
greatest f [] = 0
greatest f (op ∷ ops) = max (f op) (greatest f ops)

-- a number of the site's own operations, 0 for others
abbrev pub of_site : ℕ → (Operation → ℕ) → Operation → ℕ
of_site site f op = if op.site == site then f op else 0

-- the front of a site: the greatest seq of its operations, 0 for none
abbrev pub front_of : List Operation → ℕ → ℕ
front_of ops site = greatest (of_site site (λ op. op.seq)) ops

-- the greatest stamp, 0 for none
abbrev pub greatest_stamp : List Operation → ℕ
greatest_stamp ops = greatest (λ op. op.stamp) ops

-- the greatest stamp of a site's own operations, 0 for none
abbrev pub greatest_stamp_of : List Operation → ℕ → ℕ
greatest_stamp_of ops site = greatest (of_site site (λ op. op.stamp)) ops

-- the length of a site's file: what all its Inserts have together
abbrev pub file_len : List Operation → ℕ → ℕ
file_len ops site = file_before ops site (suc (front_of ops site))

-- an operation of this identity is held
abbrev pub IsHeld : List Operation → ℕ → ℕ → Type 0
IsHeld ops site seq = (op : Operation) × Contains ops op × (op.site ≡ site) × (op.seq ≡ seq)

-- a name is here where its offset is below the length of its site's file
abbrev pub IsHere : List Operation → CharName → Type 0
IsHere ops name = name.off < file_len ops name.site

-- the sites that have operations, ascending
pub record AreSites (ops : List Operation) (sites : List ℕ) : Type 0 where
  pub all : (site : ℕ) → Contains sites site ↔ (0 < front_of ops site)
  pub rising : AllPairs (λ a b. a < b) sites
