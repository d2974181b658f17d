-- Changes that leave a list's beginning as it is.
use Rattle.std.specs.Prelude.{ℕ, Bool, true, nat_lt}
use Rattle.list_changes.specs.declared.change.ChangeKind.{ChangeKind}
use Rattle.list_changes.specs.declared.change.ChangeKind.TheVariants.{Insert, Delete, Replace}
use Rattle.list_changes.specs.declared.change.Change.{Change}

-- what is put in or cut lies after this position
abbrev pub is_change_after : ChangeKind → ℕ → ℕ → Bool
is_change_after Insert last beg = nat_lt last beg
is_change_after Delete last beg = nat_lt last beg
is_change_after Replace last beg = true

-- the change replaces, or begins after this position
abbrev pub is_quiet : ℕ → Change → Bool
is_quiet last change = is_change_after change.kind last change.beg
