-- What private functions read of a formatted file, before the characters are cut into runs.
use Rattle.std.specs.Prelude.{◌≡◌, ◌≢◌, ℕ, ◌+◌, ◌^◌, ◌<◌, ◌≤◌, List, [], ◌∷◌, ◌++◌, length, take, drop}
use Rattle.std.specs.Prelude.{Option, Some, None}
use Rattle.std.specs.Int.{w32}
use Rattle.std.specs.List.{flat_map}
use Rattle.looks.specs.declared.looks.Looks.{Looks}
use Rattle.looks.specs.Looks.{IsLooks}
use Rattle.char_files.specs.Stretch.{Stretch}
use Rattle.byte_fields.specs.Fields.{number_spelling}
use Rattle.operations.specs.Spelling.{looks_spelling}
use Rattle.text_file.specs.declared.TheConstants.{MAX_STORED}
use Rattle.text_file.specs.declared.loading.Head.{Head}

-- a run's looks and its length
abbrev pub head_spelling : Head → List ℕ
head_spelling h = looks_spelling h.looks ++ number_spelling w32 h.len

-- a run that there may be: it isn't empty
pub record IsHead (h : Head) : Type 0 where
  pub looks : IsLooks h.looks
  pub some : 0 < h.len
  pub fits : h.len < 2 ^ 32

-- runs that there may be after one of these looks, if there is one: neighbours differ in looks
abbrev pub AreHeads : Option Looks → List Head → Type 0
AreHeads last [] = Unit {0}
AreHeads last (h ∷ heads) = IsHead h × (last ≢ Some h.looks) × AreHeads (Some h.looks) heads

-- how many characters the runs have together
abbrev pub total_of : List Head → ℕ
total_of [] = 0
total_of (h ∷ heads) = h.len + total_of heads

-- the characters, cut into the runs
abbrev pub cut_into_runs : List Head → List ℕ → List Stretch
cut_into_runs [] chars = []
cut_into_runs (h ∷ heads) chars = record { looks = h.looks; bytes = take h.len chars } ∷ cut_into_runs heads (drop h.len chars)

-- the bytes are the spelling of these runs, which have so many characters
pub record AreSpelled (heads : List Head) (chars bytes : List ℕ) : Type 0 where
  pub valid : AreHeads None heads
  pub total : total_of heads ≡ length chars
  pub spelled : bytes ≡ flat_map head_spelling heads

-- what stands after the tag: how many runs there are, these runs, how many characters there are, these characters
pub record IsFormattedBody (heads : List Head) (chars bytes : List ℕ) : Type 0 where
  pub valid : AreHeads None heads
  pub total : total_of heads ≡ length chars
  pub few : length chars ≤ MAX_STORED
  pub parts :
      bytes
      ≡ number_spelling w32 (length heads)
      ++ (flat_map head_spelling heads ++ (number_spelling w32 (length chars) ++ chars))
