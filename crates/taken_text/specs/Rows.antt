-- What is shown, in rows of neighbouring bytes.
use Rattle.std.specs.Prelude.{ℕ, ◌+◌, List, [], ◌∷◌, slice_range}
use Rattle.std.specs.List.{flat_map}
use Rattle.looks.specs.declared.looks.Looks.{Looks}
use Rattle.char_files.specs.CharFiles.{FilesBySite, bytes_of}
use Rattle.char_files.specs.declared.character.Char.{Char}
use Rattle.piece_list.specs.declared.run.Run.{Run}

-- characters that stand one after the other in a site's file, from this offset on, and look alike
pub record RowSeen : Type 0 where
  pub site : ℕ
  pub off : ℕ
  pub bytes : List ℕ
  pub looks : Looks

-- the characters of these bytes
abbrev pub chars_from : (site off : ℕ) → Looks → (bytes : List ℕ) → List Char
chars_from site off looks [] = []
chars_from site off looks (byte ∷ bytes) =
    record { name = record { site = site; off = off }; byte = byte; looks = looks }
    ∷ chars_from site (off + 1) looks bytes

-- a row's characters
abbrev pub chars_of_row : RowSeen → List Char
chars_of_row r = chars_from r.site r.off r.looks r.bytes

-- the characters of rows, one row after the other
abbrev pub chars_of_rows : List RowSeen → List Char
chars_of_rows rows = flat_map chars_of_row rows

-- a run as a row, with its bytes
abbrev pub row_in : FilesBySite → Run → RowSeen
row_in files r = record {
  site = r.site;
  off = r.off;
  bytes = slice_range (bytes_of files r.site) r.off (r.off + r.len);
  looks = r.looks;
}
