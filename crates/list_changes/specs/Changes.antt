-- What changes make of a list, over elements of any type and any relation of elements that are alike.
use Rattle.std.specs.Prelude.{◌≡◌, ℕ, ◌+◌, ◌<◌, List, [], ◌∷◌, ◌++◌, length}
use Rattle.list_changes.specs.declared.change.ChangeKind.{ChangeKind}
use Rattle.list_changes.specs.declared.change.ChangeKind.TheVariants.{Insert, Delete, Replace}
use Rattle.list_changes.specs.declared.change.Change.{Change}

-- the change is of this kind, and its stretch isn't empty
abbrev pub IsOfKind : ChangeKind → Change → Type 0
IsOfKind kind change = (change.kind ≡ kind) × (change.beg < change.end)

-- as many elements, each alike the one in its place
abbrev pub AreAlike : {X : Type 0} → (X → X → Type 0) → List X → List X → Type 0
AreAlike Alike [] [] = Unit {0}
AreAlike Alike [] (y ∷ ys) = ⊥
AreAlike Alike (x ∷ xs) [] = ⊥
AreAlike Alike (x ∷ xs) (y ∷ ys) = Alike x y × AreAlike Alike xs ys

-- what may go out for what comes in: nothing for a run, a run for nothing, or a run for one that is alike; the
-- run's length is that of the stretch
abbrev pub Trades : {X : Type 0} → (X → X → Type 0) → ChangeKind → ℕ → ℕ → List X → List X → Type 0
Trades Alike Insert beg end gone come = (gone ≡ []) × (beg + length come ≡ end)
Trades Alike Delete beg end gone come = (come ≡ []) × (beg + length gone ≡ end)
Trades Alike Replace beg end gone come = AreAlike Alike gone come × (beg + length gone ≡ end)

-- the change makes b of a: at its begin some elements go and others come, and the rest stays
pub record Makes {X : Type 0} (Alike : X → X → Type 0) (change : Change) (a b : List X) : Type 0 where
  pub front : List X
  pub gone : List X
  pub come : List X
  pub back : List X
  pub before : a ≡ front ++ (gone ++ back)
  pub after : b ≡ front ++ (come ++ back)
  pub at : length front ≡ change.beg
  pub trades : Trades Alike change.kind change.beg change.end gone come

-- the changes lead from a to b, one after the other, through the lists in between
abbrev pub Leads : {X : Type 0} → (X → X → Type 0) → List Change → List X → List X → Type 0
Leads Alike [] a b = b ≡ a
Leads {X} Alike (change ∷ changes) a b = (mid : List X) × Makes Alike change a mid × Leads Alike changes mid b
