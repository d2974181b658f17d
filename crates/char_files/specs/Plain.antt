use Rattle.std.specs.Prelude.{ℕ, List, map}
use Rattle.looks.specs.Looks.{plain_looks}
use Rattle.char_files.specs.Stretch.{Item}

-- bytes as characters in the default looks
abbrev pub plain_items : List ℕ → List Item
plain_items bytes = map (λ b. (b, plain_looks)) bytes
