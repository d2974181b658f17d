-- The files of a shelf over memory.
use Rattle.std.specs.Prelude.{◌≡◌, ℕ, zero, suc, List, Option, Some, None, String, Vec}
use Rattle.std.specs.Option.{option_map}
use Rattle.std.specs.BTreeMap.{BTreeMap, get_by_text}
use Rattle.std.specs.Global.{Global}
use Rattle.shelf.specs.Files.{Files}

-- the tree of files by their names
abbrev pub Tree : Type 0
Tree = BTreeMap (String Global) (Vec ℕ Global)

-- the bytes that a tree has under each name
abbrev pub files_in : Tree → Files
files_in tree name = option_map (λ bytes. bytes.items) (get_by_text tree name)

-- there is no file
abbrev pub HasNoFile : Files → Type 0
HasNoFile files = (name : List ℕ) → files name ≡ None

-- how many calls go well before one fails, once a call was made; none where no call fails any more
abbrev pub calls_left : Option ℕ → Option ℕ
calls_left None = None
calls_left (Some zero) = None
calls_left (Some (suc calls)) = Some calls
