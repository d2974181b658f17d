-- How many of the characters up to one of them are shown.
use Rattle.std.proofs.Common.{◌≡◌, ◌≢◌, ℕ, ◌+◌, ◌<◌, ◌≤◌, cond, inl, inr, List, [], ◌∷◌, ◌++◌}
use Rattle.std.proofs.Common.{length, get_or, take, AllPairs, refl, sym, ap, ◌∙◌, arith, append_assoc}
use Rattle.std.proofs.lemmas.Bool.{cases_lt}
use Rattle.std.proofs.lemmas.List.{length-append, length-map, get_or-append-add, get_or_append_left}
use Rattle.std.proofs.lemmas.List.FromFn.{length-map-range_with_len, get_or-map-range_with_len}
use Rattle.std.proofs.lemmas.Grind.{flat_map-append}
use Rattle.std.proofs.lemmas.Option.{slice_get_within, get_or_from_slice_get}
use Rattle.std.proofs.Math.Seq.{take-append_seam}
use Rattle.char_files.specs.CharName.{CharName}
use Rattle.operations.specs.NameSet.{names_of}
use Rattle.tree_order.specs.Registers.{Atom}
use Rattle.piece_list.specs.Piece.{Piece}
use Rattle.piece_list.specs.Pieces.{range_of, chars_of, piece_front, rest_of}
use Rattle.piece_list.specs.Shown.{AreShownTo}
use Rattle.piece_list.specs.Spelled.{spelled, names_of_atoms, shown_chars}
use Rattle.piece_list.proofs.Split.{split_spells_the_same}
use Rattle.piece_list.proofs.Gap.{name_only, names_around}
use Rattle.piece_list.proofs.Shown.{count_chars, count_more}

abbrev Items : Type 0
Items = List (ℕ × Piece)

abbrev chars : ℕ × Piece → List Atom
chars m = chars_of m.1

-- the index of a piece's name
pub name_at : (xs ys : Items) (tag : ℕ) (p : Piece) (c : CharName) (i : ℕ) → i < p.len → c.site ≡ p.site
    → c.off ≡ p.off + i → (d : CharName)
    → get_or (names_of_atoms (spelled (xs ++ (tag, p) ∷ ys))) (length (spelled xs) + i) d ≡ c
name_at xs ys tag p c i lt site off d =
    let name : ℕ → ℕ → CharName = λ (s o : ℕ). record { site = s; off = o } in
    let own : List CharName = names_of (range_of p) in
    let before : List CharName = names_of_atoms (spelled xs) in
    let after : List CharName = names_of_atoms (spelled ys) in
    let len : length (spelled xs) ≡ length before = sym (length-map (spelled xs) name_only) in
    let few : i < length own = omega (arith, length-map-range_with_len (name p.site) p.off p.len) in
    ap (λ (cs : List CharName). get_or cs (length (spelled xs) + i) d) (names_around xs ys tag p)
    ∙ ap (λ (n : ℕ). get_or (before ++ (own ++ after)) (n + i) d) len
    ∙ get_or-append-add before (own ++ after) i d
    ∙ get_or_append_left own after d i few
    ∙ get_or-map-range_with_len (name p.site) p.off p.len i c.off d lt (sym off)
    ∙ ap (λ (s : ℕ). name s c.off) (sym site)

-- and there is no other one
one_index : (names : List CharName) → AllPairs (λ c d. c ≢ d) names → (c : CharName) (i j : ℕ)
    → i < length names → j < length names → get_or names i c ≡ c → get_or names j c ≡ c → i ≡ j
one_index names once c i j li lj at_i at_j =
    elim (cases_lt i j) [
      | inl lt ↦ absurd (once i j c lt lj (at_i ∙ sym at_j))
      | inr le ↦ elim (cases_lt j i) [
        | inl lt ↦ absurd (once j i c lt li (at_j ∙ sym at_i))
        | inr ge ↦ omega arith
      ]
    ]

-- the characters up to it
pub up_to : (xs ys : Items) (tag : ℕ) (p : Piece) (i : ℕ) → i < p.len
    → take (length (spelled xs) + i + 1) (spelled (xs ++ (tag, p) ∷ ys))
    ≡ spelled (xs ++ (tag, piece_front (i + 1) p) ∷ [])
up_to xs ys tag p i lt =
    let le : i + 1 ≤ p.len = omega arith in
    let front : ℕ × Piece = (tag, piece_front (i + 1) p) in
    let rest : ℕ × Piece = (tag, rest_of (i + 1) p) in
    let before : Items = xs ++ front ∷ [] in
    let after : Items = rest ∷ ys in
    let parts : spelled (xs ++ (tag, p) ∷ ys) ≡ spelled before ++ spelled after =
    sym (split_spells_the_same xs ys tag tag (i + 1) p le)
    ∙ ap spelled (sym (append_assoc xs (front ∷ []) after))
    ∙ flat_map-append chars before after in
    let none : length (spelled []) ≡ 0 = refl in
    let own : length (spelled (front ∷ [])) ≡ i + 1 =
    length-append (chars_of (piece_front (i + 1) p)) (spelled [])
    ∙ omega (arith, count_chars (piece_front (i + 1) p)) in
    let len : length (spelled xs) + i + 1 ≡ length (spelled before) =
    omega (
      arith,
      ap length (flat_map-append chars xs (front ∷ [])),
      length-append (spelled xs)
          (spelled (front ∷ [])),
    ) in
    ap (λ (n : ℕ). take n (spelled (xs ++ (tag, p) ∷ ys))) len
    ∙ ap (take (length (spelled before))) parts
    ∙ take-append_seam (spelled before) (spelled after)

pub shown_up_to : (items xs ys : Items) (tag : ℕ) (p : Piece) (c : CharName) (i n : ℕ)
    → items ≡ xs ++ (tag, p) ∷ ys → AllPairs (λ a b. a ≢ b) (names_of_atoms (spelled items))
    → i < p.len → c.site ≡ p.site → c.off ≡ p.off + i
    → n ≡ length (shown_chars (spelled xs)) + cond p.hidden.value 0 (i + 1)
    → AreShownTo (spelled items) c n
shown_up_to items xs ys tag p c i n is once lt site off count = λ k found.
    let names : List CharName = names_of_atoms (spelled items) in
    let at : get_or names (length (spelled xs) + i) c ≡ c =
    ap (λ (l : Items). get_or (names_of_atoms (spelled l)) (length (spelled xs) + i) c) is
    ∙ name_at xs ys tag p c i lt site off c in
    let total : length names ≡ length (spelled (xs ++ (tag, p) ∷ ys)) =
    length-map (spelled items) name_only ∙ ap (λ (l : Items). length (spelled l)) is in
    let within : length (spelled xs) + i < length names =
    omega (
      arith,
      total,
      ap length (flat_map-append chars xs ((tag, p) ∷ ys)),
      length-append (spelled xs) (spelled ((tag, p) ∷ ys)),
      length-append (chars_of p) (spelled ys),
      count_chars p,
    ) in
    let same : k ≡ length (spelled xs) + i =
    one_index names once c k (length (spelled xs) + i) (slice_get_within names k c found) within
    (get_or_from_slice_get names k c c found) at in
    let front : shown_chars (take (k + 1) (spelled items))
    ≡ shown_chars (spelled (xs ++ (tag, piece_front (i + 1) p) ∷ [])) =
    ap (λ (j : ℕ). shown_chars (take (j + 1) (spelled items))) same
    ∙ ap (λ (l : Items). shown_chars (take (length (spelled xs) + i + 1) (spelled l))) is
    ∙ ap shown_chars (up_to xs ys tag p i lt) in
    count ∙ sym (ap length front ∙ count_more xs (tag, piece_front (i + 1) p))
