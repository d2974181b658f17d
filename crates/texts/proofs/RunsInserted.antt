-- The pieces of a stretch have its characters, and runs that are put in one after the other are one run.
use Rattle.std.proofs.Common.{◌≡◌, ℕ, suc, ◌+◌, ◌≤◌, Bool, true, false, cond, List, [], ◌∷◌, ◌++◌, length}
use Rattle.std.proofs.Common.{take, drop, map, refl, sym, ap, ◌∙◌, append_assoc, append-nil, arith}
use Rattle.std.specs.List.{flat_map}
use Rattle.std.specs.Prelude.{◌==◌}
use Rattle.std.proofs.lemmas.Grind.{flat_map-append}
use Rattle.std.proofs.lemmas.List.{length-append, length-drop, length-take-le, map-append, take-append-drop}
use Rattle.std.proofs.Math.Seq.{drop-append_seam, take-append_seam}
use Rattle.looks.specs.declared.looks.Looks.{Looks}
use Rattle.char_files.specs.Runs.{maximal_runs}
use Rattle.char_files.specs.Stretch.{Item, Stretch, items_of, items_of_run}
use Rattle.char_files.specs.declared.character.Char.{Char}
use Rattle.operations.specs.declared.kind.TheConstants.{MAX_INSERT}
use Rattle.texts.specs.Edit.{parts_from, parts_of, pieces_of}
use Rattle.texts.specs.Order.{item_chars, with_inserted}
use Rattle.taken_text.specs.Rows.{chars_from}
use Rattle.char_files.proofs.MaximalRuns.{maximal_items}

-- ---- the parts of a run have its characters

module _ (looks : Looks) where
  abbrev whole_run : List ℕ → Stretch
  whole_run bytes = record { looks = looks; bytes = bytes }

  abbrev items : List ℕ → List Item
  items bytes = items_of_run (whole_run bytes)

  abbrev items_in : List (List ℕ) → List Item
  items_in parts = items_of (map whole_run parts)

  items_of_last : (part : List ℕ) → items_in (parts_from part []) ≡ items (part ++ [])
  items_of_last [] = refl
  items_of_last (b ∷ part) = append-nil (items (b ∷ part)) ∙ ap items (sym (append-nil (b ∷ part)))

  -- a part that is full, or is not
  one_part : (full : Bool) (part bytes : List ℕ) (fresh longer : List (List ℕ)) (b : ℕ)
      → items_in fresh ≡ items (b ∷ bytes) → items_in longer ≡ items ((part ++ b ∷ []) ++ bytes)
      → items_in (cond full (part ∷ fresh) longer) ≡ items (part ++ b ∷ bytes)
  one_part true part bytes fresh longer b is is' =
      ap (λ (more : List Item). items part ++ more) is ∙ sym (map-append (λ (b : ℕ). (b, looks)) part (b ∷ bytes))
  one_part false part bytes fresh longer b is is' = is' ∙ ap items (append_assoc part (b ∷ []) bytes)

  items_of_parts : (part bytes : List ℕ) → items_in (parts_from part bytes) ≡ items (part ++ bytes)
  items_of_parts part [] = items_of_last part
  items_of_parts part (b ∷ bytes) =
      one_part (length part == MAX_INSERT) part bytes (parts_from (b ∷ []) bytes)
      (parts_from (part ++ b ∷ []) bytes) b (items_of_parts (b ∷ []) bytes) (items_of_parts (part ++ b ∷ []) bytes)

items_of_all_parts : (runs : List Stretch) → items_of (flat_map parts_of runs) ≡ items_of runs
items_of_all_parts [] = refl
items_of_all_parts (r ∷ runs) =
    flat_map-append items_of_run (parts_of r) (flat_map parts_of runs)
    ∙ ap (λ (more : List Item). more ++ items_of (flat_map parts_of runs)) (items_of_parts r.looks [] r.bytes)
    ∙ ap (λ (more : List Item). items_of_run r ++ more) (items_of_all_parts runs)

pub items_of_pieces : (items : List Item) → items_of (pieces_of items) ≡ items
items_of_pieces items = items_of_all_parts (maximal_runs items) ∙ maximal_items items

-- ---- characters of runs, one after the other in the site's file

pub length-chars_of : (site at : ℕ) (looks : Looks) (bytes : List ℕ)
    → length (chars_from site at looks bytes) ≡ length bytes
length-chars_of site at looks [] = refl
length-chars_of site at looks (b ∷ bytes) = ap suc (length-chars_of site (at + 1) looks bytes)

pub chars_from_run : (site at : ℕ) (looks : Looks) (bytes : List ℕ) (more : List Item)
    → item_chars site at (items_of_run (record { looks = looks; bytes = bytes }) ++ more)
    ≡ chars_from site at looks bytes ++ item_chars site (at + length bytes) more
chars_from_run site at looks [] more =
    let same : at ≡ at + 0 = omega arith in
    ap (λ (n : ℕ). item_chars site n more) same
chars_from_run site at looks (b ∷ bytes) more =
    let same : at + 1 + length bytes ≡ at + suc (length bytes) = omega arith in
    ap (λ (cs : List Char). record { name = record { site = site; off = at }; byte = b; looks = looks } ∷ cs)
    (chars_from_run site (at + 1) looks bytes more
    ∙ ap (λ (n : ℕ). chars_from site (at + 1) looks bytes ++ item_chars site n more) same)

-- ---- runs put in

pub put_none : (xs : List Char) (pos : ℕ) → with_inserted xs pos [] ≡ xs
put_none xs pos =
    ap (λ (front : List Char). front ++ drop pos xs) (append-nil (take pos xs)) ∙ take-append-drop pos xs

pub length-insert_at : (xs : List Char) (pos : ℕ) (run : List Char) → pos ≤ length xs
    → length (with_inserted xs pos run) ≡ length xs + length run
length-insert_at xs pos run within =
    let front : length (take pos xs) ≡ pos = length-take-le pos xs within in
    let back : length (drop pos xs) + pos ≡ length xs = omega (arith, length-drop pos xs) in
    let parts : length (with_inserted xs pos run) ≡ length (take pos xs) + length run + length (drop pos xs) =
    length-append (take pos xs ++ run) (drop pos xs)
    ∙ ap (λ (n : ℕ). n + length (drop pos xs)) (length-append (take pos xs) run) in
    omega arith

-- what is put at the end of what was put
pub put_after : (xs : List Char) (pos : ℕ) (run more : List Char) → pos ≤ length xs
    → with_inserted (with_inserted xs pos run) (pos + length run) more ≡ with_inserted xs pos (run ++ more)
put_after xs pos run more within =
    let front : List Char = take pos xs in
    let back : List Char = drop pos xs in
    let long : length (front ++ run) ≡ pos + length run =
    length-append front run ∙ ap (λ (n : ℕ). n + length run) (length-take-le pos xs within) in
    let cut : with_inserted ((front ++ run) ++ back) (length (front ++ run)) more ≡ ((front ++ run) ++ more) ++ back =
    ap (λ (ys : List Char). (ys ++ more) ++ drop (length (front ++ run)) ((front ++ run) ++ back))
    (take-append_seam (front ++ run) back)
    ∙ ap (λ (ys : List Char). ((front ++ run) ++ more) ++ ys) (drop-append_seam (front ++ run) back) in
    ap (λ (n : ℕ). with_inserted ((front ++ run) ++ back) n more) (sym long) ∙ cut
    ∙ ap (λ (ys : List Char). ys ++ back) (append_assoc front run more)
