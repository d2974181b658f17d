-- The runs that are shown have their bytes, and their characters are what is shown.
use Rattle.std.proofs.Common.{◌≡◌, ℕ, ◌+◌, ◌-◌, ◌<◌, ◌≤◌, List, [], ◌∷◌, ◌++◌, zero, suc, length, get_or, map, All, ◌⊎◌, inl, inr}
use Rattle.std.proofs.Common.{Option, Some, None, refl, sym, ap, subst, ◌∙◌, arith}
use Rattle.std.specs.Iterator.{YieldsFirst}
use Rattle.std.specs.List.{flat_map}
use Rattle.std.proofs.lemmas.List.{map-append, length-map, get_or-map}
use Rattle.std.proofs.lemmas.List.Elements.{All-map, All-head, All-tail, All-cons, All-nil}
use Rattle.std.proofs.lemmas.List.FromFn.{length-map-range_with_len, get_or-map-range_with_len}
use Rattle.char_files.specs.CharFiles.{FilesBySite, bytes_of}
use Rattle.char_files.specs.CharName.{CharName}
use Rattle.char_files.specs.declared.TheConstants.{MAX_FILE}
use Rattle.char_files.specs.declared.character.Char.{Char}
use Rattle.operations.specs.NameSet.{names_of}
use Rattle.tree_order.specs.Registers.{Atom}
use Rattle.piece_list.specs.Shown.{Appearance, appearance_of, appearance_in, appearances_in}
use Rattle.piece_list.specs.declared.run.Run.{Run}
use Rattle.taken_text.specs.Shown.{with_byte, chars_of_run, chars_of_runs, runs_left, IsInFile, AreInFiles}
use Rattle.taken_text.specs.Taken.{char_in}
use Rattle.piece_list.proofs.Gap.{all_left, all_right}
use Rattle.taken_text.proofs.Counted.{HasByteIn}

-- the characters of runs are those that the runs tell of
chars_told : (files : FilesBySite) (runs : List Run) → chars_of_runs files runs ≡ map (with_byte files) (flat_map appearances_in runs)
chars_told files [] = refl
chars_told files (r ∷ runs) =
    ap (λ (cs : List Char). chars_of_run files r ++ cs) (chars_told files runs)
    ∙ sym (map-append (with_byte files) (appearances_in r) (flat_map appearances_in runs))

atoms_with_bytes : (files : FilesBySite) (atoms : List Atom) → map (with_byte files) (map appearance_of atoms) ≡ map (char_in files) atoms
atoms_with_bytes files [] = refl
atoms_with_bytes files (k ∷ atoms) = ap (λ (cs : List Char). char_in files k ∷ cs) (atoms_with_bytes files atoms)

-- so they are the characters that are told of
pub chars_of_walk : (files : FilesBySite) (atoms : List Atom) (runs : List Run) → flat_map appearances_in runs ≡ map appearance_of atoms
    → chars_of_runs files runs ≡ map (char_in files) atoms
chars_of_walk files atoms runs told = chars_told files runs ∙ ap (map (with_byte files)) told ∙ atoms_with_bytes files atoms

-- keys aside, a run with other names tells the same of a character
tells_on : (files : FilesBySite) (r : Run) (off len : ℕ) (cs : List CharName)
    → map (with_byte files) (map (appearance_in (record r { off = off; len = len })) cs)
    ≡ map (with_byte files) (map (appearance_in r) cs)
tells_on files r off len [] = refl
tells_on files r off len (c ∷ cs) =
    ap (λ (l : List Char). with_byte files (appearance_in r c) ∷ l) (tells_on files r off len cs)

-- a run's first character
chars_first : (files : FilesBySite) (r : Run) → 0 < r.len
    → chars_of_run files r ≡ with_byte files (appearance_in r (record { site = r.site; off = r.off }))
    ∷ chars_of_run files (record r { off = r.off + 1; len = r.len - 1 })
chars_first files r some =
    go r.len some
    ∙ ap (λ (l : List Char). with_byte files (appearance_in r (record { site = r.site; off = r.off })) ∷ l)
    (sym (tells_on files r (r.off + 1) (r.len - 1) (names_of (record { site = r.site; at = r.off + 1; len = r.len - 1 }))))
  where
    chars : ℕ → ℕ → List Char
    chars off n = map (with_byte files) (map (appearance_in r) (names_of (record { site = r.site; at = off; len = n })))

    go : (n : ℕ) → 0 < n → chars r.off n ≡ with_byte files (appearance_in r (record { site = r.site; off = r.off })) ∷ chars (r.off + 1) (n - 1)
    go zero lt = absurd (omega arith)
    go (suc n) lt =
        let less : n ≡ suc n - 1 = omega arith in
        ap (λ (m : ℕ). with_byte files (appearance_in r (record { site = r.site; off = r.off })) ∷ chars (r.off + 1) m) less

-- a run's last character has its byte, so they all do
last_byte : (files : FilesBySite) (r : Run) → 0 < r.len → All (λ (a : Appearance). HasByteIn files a.name) (appearances_in r)
    → r.off + r.len ≤ length (bytes_of files r.site)
last_byte files r some all =
    let name : ℕ → CharName = λ (off : ℕ). record { site = r.site; off = off } in
    let names : List CharName = names_of (record { site = r.site; at = r.off; len = r.len }) in
    let long : length names ≡ r.len = length-map-range_with_len name r.off r.len in
    let i : ℕ = r.len - 1 in
    let off : ℕ = r.off + i in
    let d : Appearance = appearance_in r (name off) in
    let at : get_or (appearances_in r) i d ≡ d =
    get_or-map (appearance_in r) names i (name off) d (omega arith)
    ∙ ap (appearance_in r) (get_or-map-range_with_len name r.off r.len i off (name off) (omega arith) refl) in
    let has : HasByteIn files (name off) =
    subst (λ (a : Appearance). HasByteIn files a.name) at (all i d (omega (arith, length-map names (appearance_in r)))) in
    omega (arith, has)

in_files : (files : FilesBySite) (runs : List Run) → All (λ run. 0 < run.len) runs → All (λ run. run.off + run.len ≤ MAX_FILE) runs
    → All (λ a. HasByteIn files a.name) (flat_map appearances_in runs) → AreInFiles files runs
in_files files [] some within all = All-nil (IsInFile files)
in_files files (r ∷ runs) some within all =
    let Has : Appearance → Type 0 = λ (a : Appearance). HasByteIn files a.name in
    let Some' : Run → Type 0 = λ (run : Run). 0 < run.len in
    let Within : Run → Type 0 = λ (run : Run). run.off + run.len ≤ MAX_FILE in
    let here : 0 < r.len = All-head Some' r runs some in
    All-cons (IsInFile files) r runs
    (record {
      some = here;
      within = All-head Within r runs within;
      held = last_byte files r here (all_left Has (appearances_in r) (flat_map appearances_in runs) all);
    })
    (in_files files runs (All-tail Some' r runs some) (All-tail Within r runs within)
    (all_right Has (appearances_in r) (flat_map appearances_in runs) all))

-- the runs of a walk are in the files
pub walk_in_files : (files : FilesBySite) (atoms : List Atom) → All (λ k. HasByteIn files k.name) atoms
    → (runs : List Run) → All (λ run. 0 < run.len) runs → All (λ run. run.off + run.len ≤ MAX_FILE) runs
    → flat_map appearances_in runs ≡ map appearance_of atoms → AreInFiles files runs
walk_in_files files atoms have runs some within told =
    let Has : Appearance → Type 0 = λ (a : Appearance). HasByteIn files a.name in
    in_files files runs some within (subst (All Has) (sym told) (All-map Has appearance_of atoms have))

-- a run without its first character
abbrev pub without_first : Run → Run
without_first r = record r { off = r.off + 1; len = r.len - 1 }

-- a run was read on by one character: the rest of it is read next, or the run after it
abbrev pub ReadsOn : Run → List Run → Option Run → List Run → Type 0
ReadsOn r rest next after =
    ((0 < r.len - 1) × (next ≡ Some (without_first r)) × (after ≡ rest))
    ⊎ ((r.len - 1 ≡ 0) × YieldsFirst (λ (runs : List Run). runs) rest next after)

none_left : (files : FilesBySite) (r : Run) → r.len - 1 ≡ 0 → chars_of_run files (without_first r) ≡ []
none_left files r none =
    tells_on files r (r.off + 1) (r.len - 1) (names_of (record { site = r.site; at = r.off + 1; len = r.len - 1 }))
    ∙ ap (λ (n : ℕ). map (with_byte files) (map (appearance_in r) (names_of (record { site = r.site; at = r.off + 1; len = n })))) none

next_left : (files : FilesBySite) (rest : List Run) (next : Option Run) (after : List Run) → YieldsFirst (λ (runs : List Run). runs) rest next after
    → chars_of_runs files rest ≡ chars_of_runs files (runs_left next after)
next_left files rest None after is = ap (chars_of_runs files) is.0
next_left files rest (Some r) after is = ap (chars_of_runs files) is

chars_left : (files : FilesBySite) (r : Run) (rest : List Run) (next : Option Run) (after : List Run) → ReadsOn r rest next after
    → chars_of_run files (without_first r) ++ chars_of_runs files rest ≡ chars_of_runs files (runs_left next after)
chars_left files r rest next after (inl (some, is, same)) =
    ap (λ (runs : List Run). chars_of_run files (without_first r) ++ chars_of_runs files runs) (sym same)
    ∙ ap (λ (o : Option Run). chars_of_runs files (runs_left o after)) (sym is)
chars_left files r rest next after (inr (none, is)) =
    ap (λ (cs : List Char). cs ++ chars_of_runs files rest) (none_left files r none) ∙ next_left files rest next after is

-- so its first character comes, and then what is left
pub first_and_rest : (files : FilesBySite) (r : Run) (rest : List Run) (next : Option Run) (after : List Run) → 0 < r.len → ReadsOn r rest next after
    → chars_of_runs files (r ∷ rest) ≡ with_byte files (appearance_in r (record { site = r.site; off = r.off })) ∷ chars_of_runs files (runs_left next after)
first_and_rest files r rest next after some on =
    ap (λ (cs : List Char). cs ++ chars_of_runs files rest) (chars_first files r some)
    ∙ ap (λ (cs : List Char). with_byte files (appearance_in r (record { site = r.site; off = r.off })) ∷ cs) (chars_left files r rest next after on)

next_in_files : (files : FilesBySite) (rest : List Run) (next : Option Run) (after : List Run) → YieldsFirst (λ (runs : List Run). runs) rest next after
    → AreInFiles files rest → AreInFiles files (runs_left next after)
next_in_files files rest None after is all = All-nil (IsInFile files)
next_in_files files rest (Some r) after is all = subst (AreInFiles files) is all

-- which is in the files
pub left_in_files : (files : FilesBySite) (r : Run) (rest : List Run) (next : Option Run) (after : List Run) → ReadsOn r rest next after
    → AreInFiles files (r ∷ rest) → AreInFiles files (runs_left next after)
left_in_files files r rest next after (inl (some, is, same)) all =
    let here : IsInFile files r = All-head (IsInFile files) r rest all in
    subst (λ (o : Option Run). AreInFiles files (runs_left o after)) (sym is)
    (All-cons (IsInFile files) (without_first r) after
    (record { some = some; within = omega (arith, here.within, here.some); held = omega (arith, here.held, here.some) })
    (subst (AreInFiles files) (sym same) (All-tail (IsInFile files) r rest all)))
left_in_files files r rest next after (inr (none, is)) all =
    next_in_files files rest next after is (All-tail (IsInFile files) r rest all)
