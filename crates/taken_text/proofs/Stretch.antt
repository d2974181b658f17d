-- What is shown between two positions: of the pieces, of the text, and its names.
use Rattle.std.proofs.Common.{◌≡◌, ℕ, ◌+◌, ◌-◌, ◌<◌, ◌≤◌, not, List, [], ◌∷◌, ◌++◌, map, drop, take, All}
use Rattle.std.proofs.Common.{refl, sym, ap, ◌∙◌}
use Rattle.std.specs.Prelude.{slice_range}
use Rattle.std.specs.List.{flat_map}
use Rattle.std.proofs.lemmas.List.{map-append, take-map, drop-map}
use Rattle.std.proofs.lemmas.List.Elements.{All-filter, All-take, All-drop, All-tail}
use Rattle.char_files.specs.CharFiles.{FilesBySite}
use Rattle.char_files.specs.CharName.{CharName}
use Rattle.char_files.specs.declared.TheConstants.{MAX_FILE}
use Rattle.char_files.specs.declared.character.Char.{Char}
use Rattle.operations.specs.NameSet.{names_of, names_in, set_of}
use Rattle.operations.specs.Operation.{Operation}
use Rattle.tree_order.specs.Registers.{Atom}
use Rattle.piece_list.specs.RunSplits.{AreWithin}
use Rattle.piece_list.specs.Shown.{Appearance, appearance_of, appearance_in, appearances_in}
use Rattle.piece_list.specs.Spelled.{spelled, shown_chars}
use Rattle.piece_list.specs.Piece.{Piece}
use Rattle.piece_list.specs.declared.run.Run.{Run}
use Rattle.taken_text.specs.Shown.{range_of_run}
use Rattle.taken_text.specs.Taken.{TakenSeen, IsTaken, char_in, seen_in, shown_of_taken, names_between}
use Rattle.taken_text.proofs.Counted.{HasByteIn, have_bytes, shown_now}

-- a stretch of what a function gives
pub range_map : {X Y : Type 0} (f : X → Y) (xs : List X) (beg end : ℕ)
    → slice_range (map f xs) beg end ≡ map f (slice_range xs beg end)
range_map f xs beg end = ap (take (end - beg)) (drop-map f beg xs) ∙ take-map f (end - beg) (drop beg xs)

-- the names that are told of runs' characters
names_of_appearances : (r : Run) (cs : List CharName) → map (λ (a : Appearance). a.name) (map (appearance_in r) cs) ≡ cs
names_of_appearances r [] = refl
names_of_appearances r (c ∷ cs) = ap (λ (l : List CharName). c ∷ l) (names_of_appearances r cs)

names_told : (runs : List Run)
    → names_in (map range_of_run runs) ≡ map (λ (a : Appearance). a.name) (flat_map appearances_in runs)
names_told [] = refl
names_told (r ∷ runs) =
    ap (λ (l : List CharName). l ++ names_in (map range_of_run runs)) (sym (names_of_appearances r (names_of (range_of_run r))))
    ∙ ap (λ (l : List CharName). map (λ (a : Appearance). a.name) (appearances_in r) ++ l) (names_told runs)
    ∙ sym (map-append (λ (a : Appearance). a.name) (appearances_in r) (flat_map appearances_in runs))

names_of_all : (files : FilesBySite) (atoms : List Atom)
    → map (λ (a : Appearance). a.name) (map appearance_of atoms) ≡ map (λ (c : Char). c.name) (map (char_in files) atoms)
names_of_all files [] = refl
names_of_all files (k ∷ atoms) = ap (λ (l : List CharName). k.name ∷ l) (names_of_all files atoms)

-- of pieces and what is told of them between two positions
module _ (ops : List Operation) (items : List (ℕ × Piece)) (files : FilesBySite) (asked : ℕ) (now : TakenSeen)
    (seen : seen_in ops items files asked ≡ now) (t : IsTaken ops items files) (beg end : ℕ) where
  -- the atoms that are shown there
  abbrev pub part : List Atom
  part = slice_range (shown_chars (spelled items)) beg end

  pub part_shown : slice_range (shown_of_taken now) beg end ≡ map (char_in files) part
  part_shown =
      ap (λ (cs : List Char). slice_range cs beg end) (shown_now ops items files asked now seen t)
      ∙ range_map (char_in files) (shown_chars (spelled items)) beg end

  pub part_has_bytes : All (λ k. HasByteIn files k.name) part
  part_has_bytes =
      let Has : Atom → Type 0 = λ (k : Atom). HasByteIn files k.name in
      All-take Has (end - beg) (drop beg (shown_chars (spelled items)))
      (All-drop Has beg (shown_chars (spelled items))
      (All-filter (λ (k : Atom). not k.hidden.value) Has (spelled items) (have_bytes ops items files t)))

  module _ (runs : List Run) (walked : flat_map appearances_in runs ≡ slice_range (map appearance_of (shown_chars (spelled items))) beg end) where
    pub part_told : flat_map appearances_in runs ≡ map appearance_of part
    part_told = walked ∙ range_map appearance_of (shown_chars (spelled items)) beg end

    -- so the runs' names are the set's
    pub names_are : set_of (names_in (map range_of_run runs)) ≡ names_between now beg end
    names_are =
        ap set_of (names_told runs ∙ ap (map (λ (a : Appearance). a.name)) part_told ∙ names_of_all files part
        ∙ ap (map (λ (c : Char). c.name)) (sym part_shown))

-- the runs after the first
pub rest_within : (r : Run) (runs : List Run) → AreWithin (r ∷ runs) → AreWithin runs
rest_within r runs all = All-tail (λ (run : Run). (0 < run.len) × (run.off + run.len ≤ MAX_FILE)) r runs all
