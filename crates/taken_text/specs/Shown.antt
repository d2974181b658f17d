-- What is left of the characters that are shown, run by run.
use Rattle.std.specs.Prelude.{◌+◌, ◌<◌, ◌≤◌, List, [], ◌∷◌, map, length, slice_index, All, Option, Some, None}
use Rattle.std.specs.List.{flat_map}
use Rattle.char_files.specs.CharFiles.{FilesBySite, bytes_of}
use Rattle.char_files.specs.declared.TheConstants.{MAX_FILE}
use Rattle.char_files.specs.declared.character.Char.{Char}
use Rattle.operations.specs.NameSet.{Range}
use Rattle.piece_list.specs.Shown.{Appearance, appearances_in}
use Rattle.piece_list.specs.declared.run.Run.{Run}

-- what is told of a character, with its byte
abbrev pub with_byte : FilesBySite → Appearance → Char
with_byte files a = record {
  name = a.name;
  byte = slice_index (bytes_of files a.name.site) a.name.off;
  looks = a.looks;
}

-- a run's characters, each with its byte
abbrev pub chars_of_run : FilesBySite → Run → List Char
chars_of_run files r = map (with_byte files) (appearances_in r)

-- the characters of runs, one run after the other
abbrev pub chars_of_runs : FilesBySite → List Run → List Char
chars_of_runs files runs = flat_map (chars_of_run files) runs

-- the run that is being read, and those after it; none where there is no such run
abbrev pub runs_left : Option Run → List Run → List Run
runs_left None rest = []
runs_left (Some r) rest = r ∷ rest

-- a run's names
abbrev pub range_of_run : Run → Range
range_of_run r = record { site = r.site; at = r.off; len = r.len }

-- a run isn't empty, and its site's file has its bytes
pub record IsInFile (files : FilesBySite) (r : Run) : Type 0 where
  pub some : 0 < r.len
  pub within : r.off + r.len ≤ MAX_FILE
  pub held : r.off + r.len ≤ length (bytes_of files r.site)

-- so it is with all of these
abbrev pub AreInFiles : FilesBySite → List Run → Type 0
AreInFiles files runs = All (IsInFile files) runs
