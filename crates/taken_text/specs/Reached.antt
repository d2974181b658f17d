-- Ranges of names that overlap, or touch.
use Rattle.std.specs.Prelude.{◌≡◌, ◌+◌, ◌≤◌}
use Rattle.operations.specs.NameSet.{Range}

-- a range begins among the names of another, or where they end
abbrev pub Reaches : (r other : Range) → Type 0
Reaches r other = (r.site ≡ other.site) × (r.at ≤ other.at) × (other.at ≤ r.at + r.len)
