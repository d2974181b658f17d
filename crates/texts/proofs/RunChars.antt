-- The characters of an Insert are those of its run of names.
use Rattle.std.proofs.Common.{◌≡◌, ℕ, ◌+◌, ◌-◌, ◌<◌, ◌≤◌, List, [], ◌∷◌, get_or, length, drop, map, refl, ap}
use Rattle.std.proofs.Common.{◌∙◌, zero, suc, length-drop, arith}
use Rattle.std.proofs.lemmas.List.{drop_more}
use Rattle.std.specs.Prelude.{All, slice_index}
use Rattle.std.proofs.lemmas.List.Elements.{All-cons, All-nil}
use Rattle.looks.specs.declared.looks.Looks.{Looks}
use Rattle.char_files.specs.CharName.{CharName}
use Rattle.char_files.specs.declared.character.Char.{Char}
use Rattle.char_files.specs.declared.name.Anchor.{Anchor}
use Rattle.operations.specs.NameSet.{IsIn, names_of}
use Rattle.operations.specs.Operation.{insert}
use Rattle.tree_order.specs.Sequential.{char_by}
use Rattle.taken_text.specs.Rows.{chars_from}

module _ (site : ℕ) (looks : Looks) where
  -- the names from an offset on
  abbrev pub names_from : ℕ → ℕ → List CharName
  names_from off len = names_of (record { site = site; at = off; len = len })

  -- the character of this byte there
  abbrev made : ℕ → ℕ → Char
  made off byte = record { name = record { site = site; off = off }; byte = byte; looks = looks }

  pub names_of_chars : (at : ℕ) (bytes : List ℕ)
      → map (λ c. c.name) (chars_from site at looks bytes) ≡ names_from at (length bytes)
  names_of_chars at [] = refl
  names_of_chars at (b ∷ bytes) =
      ap (λ (names : List CharName). record { site = site; off = at } ∷ names) (names_of_chars (at + 1) bytes)

  module _ (cause : Anchor) (at : ℕ) (all : List ℕ) where
    -- those from an offset on have the bytes from there on
    are_chars : (k off : ℕ) (bytes : List ℕ) → off ≡ at + k → drop k all ≡ bytes
        → map (char_by (insert cause at looks all)) (names_from off (length bytes))
        ≡ chars_from site off looks bytes
    are_chars k off [] is rest = refl
    are_chars k off (b ∷ bytes) is rest =
        let within : k < length all = omega (arith, ap (length {A = ℕ}) rest, length-drop k all) in
        let more : drop k all ≡ get_or all k 0 ∷ drop (k + 1) all = drop_more all k 0 within in
        let same : off - at ≡ k = omega arith in
        let byte : slice_index all (off - at) ≡ b = ap (slice_index all) same ∙ cc in
        let after : drop (k + 1) all ≡ bytes = cc in
        let by : CharName → Char = char_by (insert cause at looks all) in
        let first : by (record { site = site; off = off }) ≡ made off b = ap (λ (n : ℕ). made off n) byte in
        let others = are_chars (k + 1) (off + 1) bytes (omega arith) after in
        ap (λ (c : Char). c ∷ map by (names_from (off + 1) (length bytes))) first
        ∙ ap (λ (cs : List Char). made off b ∷ cs) others

    pub run_is_chars :
        map (char_by (insert cause at looks all)) (names_from at (length all)) ≡ chars_from site at looks all
    run_is_chars = are_chars 0 at all (omega arith) refl

    -- each name is in the run
    in_run : (off len : ℕ) → at ≤ off → off + len ≤ at + length all
        → All (IsIn (record { site = site; at = at; len = length all })) (names_from off len)
    in_run off zero le fits = All-nil (IsIn (record { site = site; at = at; len = length all }))
    in_run off (suc len) le fits =
        All-cons (IsIn (record { site = site; at = at; len = length all })) (record { site = site; off = off })
        (names_from (off + 1) len) (refl, omega arith, omega arith)
        (in_run (off + 1) len (omega arith) (omega arith))

    pub names_in_run :
        All (IsIn (record { site = site; at = at; len = length all })) (names_from at (length all))
    names_in_run = in_run at (length all) (omega arith) (omega arith)
