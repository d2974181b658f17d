-- The characters of rows, their bytes, and their bytes with their looks.
use Rattle.std.proofs.Common.{◌≡◌, ℕ, zero, suc, ◌+◌, ◌-◌, ◌≤◌, List, [], ◌∷◌, ◌++◌, map, take, drop, length, refl, sym, ap, ◌∙◌, arith}
use Rattle.std.specs.Prelude.{slice_index, slice_range}
use Rattle.std.proofs.lemmas.List.{map-append}
use Rattle.std.proofs.lemmas.List.Elements.{All-head, All-tail}
use Rattle.std.proofs.Math.Seq.{drop-cons}
use Rattle.looks.specs.declared.looks.Looks.{Looks}
use Rattle.char_files.specs.CharFiles.{FilesBySite, bytes_of}
use Rattle.char_files.specs.CharName.{CharName}
use Rattle.char_files.specs.Stretch.{Item}
use Rattle.char_files.specs.declared.character.Char.{Char}
use Rattle.operations.specs.NameSet.{names_of}
use Rattle.piece_list.specs.Shown.{appearance_in}
use Rattle.piece_list.specs.declared.run.Run.{Run}
use Rattle.taken_text.specs.Rows.{RowSeen, chars_from, chars_of_row, chars_of_rows, row_in}
use Rattle.taken_text.specs.Shown.{AreInFiles, IsInFile, chars_of_run, chars_of_runs, with_byte}

-- a character outside the text
abbrev pub item_of : Char → Item
item_of c = (c.byte, c.looks)

items_from : (site off : ℕ) (looks : Looks) (bytes : List ℕ) → map item_of (chars_from site off looks bytes) ≡ map (λ b. (b, looks)) bytes
items_from site off looks [] = refl
items_from site off looks (b ∷ bytes) = ap (λ (l : List Item). (b, looks) ∷ l) (items_from site (off + 1) looks bytes)

bytes_from : (site off : ℕ) (looks : Looks) (bytes : List ℕ) → map (λ (c : Char). c.byte) (chars_from site off looks bytes) ≡ bytes
bytes_from site off looks [] = refl
bytes_from site off looks (b ∷ bytes) = ap (λ (l : List ℕ). b ∷ l) (bytes_from site (off + 1) looks bytes)

-- the items of a row's characters, and of those after it
pub items_next : (r : RowSeen) (rest : List RowSeen)
    → map item_of (chars_of_rows (r ∷ rest)) ≡ map (λ b. (b, r.looks)) r.bytes ++ map item_of (chars_of_rows rest)
items_next r rest =
    map-append item_of (chars_of_row r) (chars_of_rows rest)
    ∙ ap (λ (l : List Item). l ++ map item_of (chars_of_rows rest)) (items_from r.site r.off r.looks r.bytes)

-- and their bytes
pub bytes_next : (r : RowSeen) (rest : List RowSeen)
    → map (λ c. c.byte) (chars_of_rows (r ∷ rest)) ≡ r.bytes ++ map (λ c. c.byte) (chars_of_rows rest)
bytes_next r rest =
    map-append (λ (c : Char). c.byte) (chars_of_row r) (chars_of_rows rest)
    ∙ ap (λ (l : List ℕ). l ++ map (λ c. c.byte) (chars_of_rows rest)) (bytes_from r.site r.off r.looks r.bytes)

-- a character of a site's file in these looks
abbrev pub char_of : FilesBySite → Looks → CharName → Char
char_of files looks c = record { name = c; byte = slice_index (bytes_of files c.site) c.off; looks = looks }

from_names : (files : FilesBySite) (site : ℕ) (looks : Looks) (len off : ℕ) → off + len ≤ length (bytes_of files site)
    → chars_from site off looks (take len (drop off (bytes_of files site)))
    ≡ map (char_of files looks) (names_of (record { site = site; at = off; len = len }))
from_names files site looks zero off held = refl
from_names files site looks (suc n) off held =
    let next : suc off ≡ off + 1 = omega arith in
    ap (λ (l : List ℕ). chars_from site off looks (take (suc n) l)) (drop-cons (bytes_of files site) off 0 (omega (arith, held)))
    ∙ ap (λ (k : ℕ). char_of files looks (record { site = site; off = off }) ∷ chars_from site (off + 1) looks (take n (drop k (bytes_of files site)))) next
    ∙ ap (λ (l : List Char). char_of files looks (record { site = site; off = off }) ∷ l) (from_names files site looks n (off + 1) (omega (arith, held)))

-- the characters of a stretch of a site's file are those of its names
pub chars_of_stretch : (files : FilesBySite) (site off len : ℕ) (looks : Looks) → off + len ≤ length (bytes_of files site)
    → chars_from site off looks (slice_range (bytes_of files site) off (off + len))
    ≡ map (char_of files looks) (names_of (record { site = site; at = off; len = len }))
chars_of_stretch files site off len looks held =
    let long : (off + len) - off ≡ len = omega arith in
    ap (λ (n : ℕ). chars_from site off looks (take n (drop off (bytes_of files site)))) long
    ∙ from_names files site looks len off held

told_in : (files : FilesBySite) (r : Run) (cs : List CharName)
    → map (with_byte files) (map (appearance_in r) cs) ≡ map (char_of files r.looks) cs
told_in files r [] = refl
told_in files r (c ∷ cs) = ap (λ (l : List Char). char_of files r.looks c ∷ l) (told_in files r cs)

-- so the characters of runs are those of their rows
pub rows_of_runs : (files : FilesBySite) (runs : List Run) → AreInFiles files runs
    → chars_of_rows (map (row_in files) runs) ≡ chars_of_runs files runs
rows_of_runs files [] all = refl
rows_of_runs files (r ∷ runs) all =
    let here : IsInFile files r = All-head (IsInFile files) r runs all in
    ap (λ (l : List Char). l ++ chars_of_rows (map (row_in files) runs))
    (chars_of_stretch files r.site r.off r.len r.looks here.held
    ∙ sym (told_in files r (names_of (record { site = r.site; at = r.off; len = r.len }))))
    ∙ ap (λ (l : List Char). chars_of_run files r ++ l) (rows_of_runs files runs (All-tail (IsInFile files) r runs all))
