-- Which of some names are those of characters that are shown, or that are hidden.
use Rattle.std.specs.Prelude.{Bool, true, false, not, List, filter}
use Rattle.char_files.specs.CharName.{CharName}
use Rattle.operations.specs.NameSet.{Range, names_in, set_of}
use Rattle.operations.specs.Operation.{Operation}
use Rattle.tree_order.specs.Shown.{is_visible}

-- whether the character of this name is shown, or whether it is hidden
abbrev pub has_visibility : List Operation → (visible : Bool) → CharName → Bool
has_visibility ops true c = is_visible ops c
has_visibility ops false c = not (is_visible ops c)

-- those of the names whose characters are shown, or are hidden, as a set
abbrev pub names_with : List Operation → (visible : Bool) → List Range → List Range
names_with ops visible names = set_of (filter (has_visibility ops visible) (names_in names))
