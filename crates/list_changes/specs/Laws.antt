-- The laws of changes.
use Rattle.std.specs.Prelude.{◌≡◌, ℕ, suc, ◌+◌, ◌<◌, ◌≤◌, ◌⊎◌, ◌↔◌, All, List, [], ◌++◌, length, take, map, Bool, true}
use Rattle.std.specs.List.{AllPass}
use Rattle.list_changes.specs.declared.change.ChangeKind.{ChangeKind}
use Rattle.list_changes.specs.declared.change.ChangeKind.TheVariants.{Insert, Delete, Replace}
use Rattle.list_changes.specs.declared.change.Change.{Change}
use Rattle.list_changes.specs.Changes.{IsOfKind, Leads}
use Rattle.list_changes.specs.Quiet.{is_quiet}

-- the elements for which a test passes
abbrev pub passing : {X : Type 0} → (X → X → Bool) → X → X → Type 0
passing test x y = test x y ≡ true

-- there is a list to which the first changes lead, and from which the others lead on
abbrev pub AreComposed : {X : Type 0} → (X → X → Type 0) → List Change → List Change → List X → List X → Type 0
AreComposed {X} Alike first then a b =
    Leads Alike (first ++ then) a b ↔ ((mid : List X) × Leads Alike first a mid × Leads Alike then mid b)

-- the stretch lies in the new list or in the old one, and the lengths differ by it
abbrev pub IsInBounds : ChangeKind → ℕ → ℕ → ℕ → ℕ → Type 0
IsInBounds Insert beg end n m = (end ≤ m) × (m + beg ≡ n + end)
IsInBounds Delete beg end n m = (end ≤ n) × (m + end ≡ n + beg)
IsInBounds Replace beg end n m = (end ≤ n) × (m ≡ n)

pub record HasBounds {X : Type 0} (change : Change) (a b : List X) : Type 0 where
  pub rising : change.beg ≤ change.end
  pub begins : change.beg ≤ length a
  pub bounds : IsInBounds change.kind change.beg change.end (length a) (length b)

-- inserts alone, or deletes alone, that lead from a list to itself are none
abbrev pub LeadBackByNone : {X : Type 0} → (X → X → Type 0) → List Change → List X → Type 0
LeadBackByNone Alike changes a =
    All (IsOfKind Insert) changes ⊎ All (IsOfKind Delete) changes → Leads Alike changes a a → changes ≡ []

-- b reaches to this position too, and what f tells of the elements up to there is as before
pub record AreSameUpTo {X Y : Type 0} (f : X → Y) (last : ℕ) (a b : List X) : Type 0 where
  pub reaches : last < length b
  pub same : map f (take (suc last) b) ≡ map f (take (suc last) a)

-- where elements that are alike agree in f, quiet changes keep what f tells up to this position
abbrev pub KeepsUpTo : {X Y : Type 0} → (X → X → Type 0) → (X → Y) → List Change → ℕ → List X → List X → Type 0
KeepsUpTo {X} Alike f changes last a b = ((x y : X) → Alike x y → f y ≡ f x) → last < length a
    → AllPass (is_quiet last) changes → Leads Alike changes a b → AreSameUpTo f last a b
