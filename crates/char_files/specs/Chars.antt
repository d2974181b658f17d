-- What characters have.
use Rattle.std.specs.Prelude.{ℕ, List, map}
use Rattle.char_files.specs.declared.character.Char.{Char}

-- the bytes of these characters
abbrev pub char_bytes : List Char → List ℕ
char_bytes chars = map (λ c. c.byte) chars
