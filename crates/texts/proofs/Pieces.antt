-- The pieces of runs, found one after the other.
use Rattle.std.proofs.Common.{◌≡◌, ◌≢◌, ℕ, ◌+◌, ◌<◌, ◌≤◌, false, eqb, inl, inr, List, []}
use Rattle.std.proofs.Common.{◌∷◌, ◌++◌, length, take, drop, map, refl, sym, ap, subst, ◌∙◌, append_assoc, append-nil}
use Rattle.std.proofs.Common.{eq-eqb, arith}
use Rattle.std.specs.List.{flat_map}
use Rattle.std.proofs.lemmas.Bool.{cases_Bool, cond-false, cond-true, eqb-true, false_from_ne_true}
use Rattle.std.proofs.lemmas.List.{drop-drop, length-append, length-drop, length-map, length-take-le}
use Rattle.std.proofs.lemmas.List.{take-append-drop}
use Rattle.looks.specs.declared.looks.Looks.{Looks}
use Rattle.char_files.specs.Stretch.{AreRuns, Stretch, items_of, items_of_run}
use Rattle.operations.specs.declared.kind.TheConstants.{MAX_INSERT}
use Rattle.texts.specs.Edit.{parts_from, parts_of}
use Rattle.texts.specs.Pieces.{AreUnread, pieces_left}

isnt_full : (part : List ℕ) → length part ≢ MAX_INSERT → eqb (length part) MAX_INSERT ≡ false
isnt_full part other = false_from_ne_true (eqb (length part) MAX_INSERT) (λ e. other (eqb-true _ _ e))

-- one more byte for a part that isn't full
goes_on : (part : List ℕ) (b : ℕ) (bytes : List ℕ) → length part ≢ MAX_INSERT
    → parts_from part (b ∷ bytes) ≡ parts_from (part ++ b ∷ []) bytes
goes_on part b bytes other = cond-false _ _ _ (isnt_full part other)

-- bytes that fill a part
fills : (p : ℕ) (ps xs ys : List ℕ) → length (p ∷ ps) + length xs ≡ MAX_INSERT
    → parts_from (p ∷ ps) (xs ++ ys) ≡ ((p ∷ ps) ++ xs) ∷ parts_from [] ys
fills p ps [] [] long = ap (λ (part : List ℕ). part ∷ []) (sym (append-nil (p ∷ ps)))
fills p ps [] (y ∷ ys) long =
    cond-true _ _ _ (eq-eqb (length (p ∷ ps)) MAX_INSERT (omega (arith, long)))
    ∙ ap (λ (part : List ℕ). part ∷ parts_from (y ∷ []) ys) (sym (append-nil (p ∷ ps)))
fills p ps (x ∷ xs) ys long =
    let more = length-append ps (x ∷ []) in
    goes_on (p ∷ ps) x (xs ++ ys) (λ e. omega (arith, long, e))
    ∙ fills p (ps ++ x ∷ []) xs ys (omega (arith, long, more))
    ∙ ap (λ (part : List ℕ). part ∷ parts_from [] ys) (append_assoc (p ∷ ps) (x ∷ []) xs)

-- bytes that a part has room for are its last ones
fits : (p : ℕ) (ps xs : List ℕ) → length (p ∷ ps) + length xs ≤ MAX_INSERT
    → parts_from (p ∷ ps) xs ≡ ((p ∷ ps) ++ xs) ∷ []
fits p ps [] long = ap (λ (part : List ℕ). part ∷ []) (sym (append-nil (p ∷ ps)))
fits p ps (x ∷ xs) long =
    let more = length-append ps (x ∷ []) in
    goes_on (p ∷ ps) x xs (λ e. omega (arith, long, e))
    ∙ fits p (ps ++ x ∷ []) xs (omega (arith, long, more))
    ∙ ap (λ (part : List ℕ). part ∷ []) (append_assoc (p ∷ ps) (x ∷ []) xs)

-- the first part of many bytes, and of few
first_full : (xs ys : List ℕ) → length xs ≡ MAX_INSERT → parts_from [] (xs ++ ys) ≡ xs ∷ parts_from [] ys
first_full [] ys long = absurd (omega (arith, long))
first_full (x ∷ xs) ys long = fills x [] xs ys (omega (arith, long))

only_one : (xs : List ℕ) → 0 < length xs → length xs ≤ MAX_INSERT → parts_from [] xs ≡ xs ∷ []
only_one [] some few = absurd (omega (arith, some))
only_one (x ∷ xs) some few = fits x [] xs (omega (arith, few))

-- of no run a byte is read
pub all_left : (runs : List Stretch) → pieces_left runs 0 ≡ flat_map parts_of runs
all_left [] = refl
all_left (r ∷ runs) = refl

abbrev piece : Stretch → List ℕ → Stretch
piece r part = record { looks = r.looks; bytes = part }

-- the rest of a run that is one piece
pub last_piece : (r : Stretch) (runs : List Stretch) (read : ℕ) → read < length r.bytes
    → length (drop read r.bytes) ≤ MAX_INSERT
    → pieces_left (r ∷ runs) read ≡ piece r (drop read r.bytes) ∷ pieces_left runs 0
last_piece r runs read some few =
    let long = length-drop read r.bytes in
    ap (λ (parts : List (List ℕ)). map (piece r) parts ++ flat_map parts_of runs)
    (only_one (drop read r.bytes) (omega (arith, long, some)) few)
    ∙ ap (λ (ps : List Stretch). piece r (drop read r.bytes) ∷ ps) (sym (all_left runs))

-- a piece of a run that goes on after it
pub full_piece : (r : Stretch) (runs : List Stretch) (read : ℕ) → MAX_INSERT < length (drop read r.bytes)
    → pieces_left (r ∷ runs) read
    ≡ piece r (take MAX_INSERT (drop read r.bytes)) ∷ pieces_left (r ∷ runs) (read + MAX_INSERT)
full_piece r runs read many =
    let left = drop read r.bytes in
    let cut : parts_from [] left ≡ take MAX_INSERT left ∷ parts_from [] (drop MAX_INSERT left) =
    ap (parts_from []) (sym (take-append-drop MAX_INSERT left))
    ∙ first_full (take MAX_INSERT left) (drop MAX_INSERT left)
    (length-take-le MAX_INSERT left (omega (arith, many))) in
    ap (λ (parts : List (List ℕ)). map (piece r) parts ++ flat_map parts_of runs) cut
    ∙ ap (λ (bytes : List ℕ). piece r (take MAX_INSERT left) ∷ (map (piece r) (parts_from [] bytes) ++ flat_map parts_of runs))
    (drop-drop MAX_INSERT read r.bytes)

has_bytes : (bytes : List ℕ) → bytes ≢ [] → 0 < length bytes
has_bytes [] some = absurd (some refl)
has_bytes (b ∷ bytes) some = omega arith

-- runs that can't be joined have bytes
pub are_unread : (runs : List Stretch) → AreRuns runs → AreUnread runs 0
are_unread [] are = tt
are_unread (r ∷ []) are = (has_bytes r.bytes are, tt)
are_unread (r ∷ s ∷ runs) are = (has_bytes r.bytes are.0, are_unread (s ∷ runs) are.2)

-- parts are no more than their bytes
count_parts : (part bytes : List ℕ) → length (parts_from part bytes) ≤ length part + length bytes
count_parts [] [] = omega arith
count_parts (p ∷ ps) [] = omega arith
count_parts part (b ∷ bytes) =
    let more = length-append part (b ∷ []) in
    elim (cases_Bool (eqb (length part) MAX_INSERT)) [
      | inl e ↦
          let is = cond-true _ (part ∷ parts_from (b ∷ []) bytes) (parts_from (part ++ b ∷ []) bytes) e in
          omega (arith, ap (length {A = List ℕ}) is, count_parts (b ∷ []) bytes, eqb-true _ _ e)
      | inr e ↦
          let is = cond-false _ (part ∷ parts_from (b ∷ []) bytes) (parts_from (part ++ b ∷ []) bytes) e in
          omega (arith, ap (length {A = List ℕ}) is, count_parts (part ++ b ∷ []) bytes, more)
    ]

-- and pieces no more than their characters
pub count_pieces : (runs : List Stretch) → length (flat_map parts_of runs) ≤ length (items_of runs)
count_pieces [] = omega arith
count_pieces (r ∷ runs) =
    let pieces = length-append (parts_of r) (flat_map parts_of runs) in
    let items = length-append (items_of_run r) (items_of runs) in
    let of_parts : length (parts_of r) ≡ length (parts_from [] r.bytes) = length-map (parts_from [] r.bytes) (piece r) in
    let of_items : length (items_of_run r) ≡ length r.bytes = length-map r.bytes (λ b. (b, r.looks)) in
    omega (arith, pieces, items, of_parts, of_items, count_parts [] r.bytes, count_pieces runs)

-- what a reader of runs gives: all that is left of a run, or the next piece of it
module _ (runs : List Stretch) (read : ℕ) (r : Stretch) (after : List Stretch) (first : runs ≡ r ∷ after)
    (looks : Looks) (bytes : List ℕ) (same_looks : looks ≡ r.looks) where
  abbrev gives : Stretch
  gives = record { looks = looks; bytes = bytes }

  is_piece : (part : List ℕ) → bytes ≡ part → piece r part ≡ gives
  is_piece part same =
      ap (λ (l : Looks). record { looks = l; bytes = part }) (sym same_looks)
      ∙ ap (λ (bs : List ℕ). record { looks = looks; bytes = bs }) (sym same)

  pub reads_last : AreUnread runs read → bytes ≡ drop read r.bytes → length bytes ≤ MAX_INSERT
      → pieces_left runs read ≡ gives ∷ pieces_left after 0
  reads_last unread same few =
      let at : AreUnread (r ∷ after) read = subst (λ (rs : List Stretch). AreUnread rs read) first unread in
      ap (λ (rs : List Stretch). pieces_left rs read) first
      ∙ last_piece r after read at.0 (omega (arith, few, ap (length {A = ℕ}) same))
      ∙ ap (λ (p : Stretch). p ∷ pieces_left after 0) (is_piece (drop read r.bytes) same)

  pub reads_part : MAX_INSERT < length (drop read r.bytes) → bytes ≡ take MAX_INSERT (drop read r.bytes)
      → pieces_left runs read ≡ gives ∷ pieces_left runs (read + MAX_INSERT)
  reads_part many same =
      ap (λ (rs : List Stretch). pieces_left rs read) first
      ∙ full_piece r after read many
      ∙ ap (λ (p : Stretch). p ∷ pieces_left (r ∷ after) (read + MAX_INSERT))
      (is_piece (take MAX_INSERT (drop read r.bytes)) same)
      ∙ ap (λ (rs : List Stretch). gives ∷ pieces_left rs (read + MAX_INSERT)) (sym first)
