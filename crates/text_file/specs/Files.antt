-- Text files: which bytes stand for which characters with their looks.
use Rattle.std.specs.Prelude.{◌≡◌, ◌≢◌, ℕ, ◌≤◌, ◌⊎◌, ◌==◌, ◌&&◌, if◌then◌else◌, List, [], ◌∷◌, ◌++◌}
use Rattle.std.specs.Prelude.{length, map, take, codes}
use Rattle.std.specs.Int.{w32}
use Rattle.std.specs.List.{flat_map, AllByRecursion}
use Rattle.looks.specs.Looks.{IsLooks}
use Rattle.char_files.specs.Plain.{plain_items}
use Rattle.char_files.specs.Runs.{maximal_runs}
use Rattle.char_files.specs.Stretch.{Stretch, Item}
use Rattle.byte_fields.specs.Fields.{number_spelling}
use Rattle.operations.specs.Spelling.{looks_spelling}
use Rattle.text_file.specs.declared.TheConstants.{MAX_STORED}

-- what a formatted file begins with
abbrev pub text_tag : List ℕ
text_tag = codes "OTF1"

-- a run: its looks, and how many characters it has
abbrev pub run_spelling : Stretch → List ℕ
run_spelling r = looks_spelling r.looks ++ number_spelling w32 (length r.bytes)

-- the formatted file: the tag, how many runs there are, the runs, how many characters there are, the characters
unfoldable pub formatted : List Item → List ℕ
formatted items =
    text_tag ++ number_spelling w32 (length (maximal_runs items)) ++ flat_map run_spelling (maximal_runs items)
    ++ number_spelling w32 (length items) ++ map (λ c. c.0) items

-- a text that has a file: at most 2^20 characters, each in looks that there are
pub record HasFormattedFile (items : List Item) : Type 0 where
  pub few : length items ≤ MAX_STORED
  pub looks : AllByRecursion (λ c. IsLooks c.1) items

-- a line end of another system, 0AH, becomes 0DH
abbrev pub as_line_end : ℕ → ℕ
as_line_end b = if b == 10 then 13 else b

-- the bytes after a 0DH, to which a 0AH that follows it belongs
abbrev pub without_newline : List ℕ → List ℕ
without_newline [] = []
without_newline (b ∷ rest) = if b == 10 then rest else b ∷ rest

-- the characters of a plain file: 0DH and 0AH together become one 0DH, a lone 0AH becomes 0DH, all other bytes
-- stay
unfoldable pub plain_bytes : List ℕ → List ℕ
plain_bytes [] = []
plain_bytes (a ∷ []) = as_line_end a ∷ []
plain_bytes (a ∷ b ∷ rest) =
    if a == 13 && b == 10 then 13 ∷ plain_bytes rest else as_line_end a ∷ plain_bytes (b ∷ rest)

-- the formatted file of these characters
pub record IsFormatted (items : List Item) (file : List ℕ) : Type 0 where
  pub text : HasFormattedFile items
  pub spelled : file ≡ formatted items

-- a plain file, which doesn't begin with the tag, of these characters, in the default looks
pub record IsPlain (items : List Item) (file : List ℕ) : Type 0 where
  pub untagged : take 4 file ≢ text_tag
  pub few : length (plain_bytes file) ≤ MAX_STORED
  pub spelled : items ≡ plain_items (plain_bytes file)

-- a file of these characters
abbrev pub IsFileOf : List Item → List ℕ → Type 0
IsFileOf items file = IsFormatted items file ⊎ IsPlain items file

-- no text has this file
abbrev pub IsNoFile : List ℕ → Type 0
IsNoFile file = (items : List Item) → IsFileOf items file → ⊥

-- a file is of one text at most
abbrev pub OneText : Type 0
OneText = (a b : List Item) (file : List ℕ) → IsFileOf a file → IsFileOf b file → a ≡ b

-- no two texts share a formatted file
abbrev pub NoFileIsShared : Type 0
NoFileIsShared = (a b : List Item) → HasFormattedFile a → HasFormattedFile b → formatted a ≡ formatted b → a ≡ b

-- no formatted file begins another one
abbrev pub NoFileBeginsAnother : Type 0
NoFileBeginsAnother =
    (a b : List Item) (rest : List ℕ) → HasFormattedFile a → HasFormattedFile b → formatted b ≡ formatted a ++ rest → rest ≡ []
