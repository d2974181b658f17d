-- What a selection marks.
use Rattle.std.specs.Prelude.{ℕ, Option, Some, None, nat_lt, if◌then◌else◌}
use Rattle.texts.specs.TextState.{TextState}
use Rattle.machine.specs.Windows.{Selected, stretch_in}

-- where what is shown of a selection begins and ends; nothing where none of it is shown
abbrev pub range_in : TextState → Selected → Option (ℕ × ℕ)
range_in t s = if nat_lt (stretch_in t s).0 (stretch_in t s).1 then Some (stretch_in t s) else None
