-- What the pieces of a list show.
use Rattle.std.proofs.Common.{◌≡◌, ℕ, ◌+◌, ◌<◌, ◌≤◌, Bool, true, false, cond, not, List, [], ◌∷◌, ◌++◌}
use Rattle.std.proofs.Common.{Option, Some, length, get_or, map, All, refl, sym, ap, subst, ◌∙◌, arith}
use Rattle.std.specs.Prelude.{IfSome, slice_get}
use Rattle.std.specs.List.{filter, flat_map}
use Rattle.std.proofs.lemmas.List.{map-append, length-append, length-map, get_or-append-add}
use Rattle.std.proofs.lemmas.List.{get_or_append_left, get_or-map}
use Rattle.std.proofs.lemmas.List.Elements.{filter-append, All-head, All-tail, All-cons, All-nil}
use Rattle.std.proofs.lemmas.List.FromFn.{length-map-range_with_len, get_or-map-range_with_len}
use Rattle.std.proofs.lemmas.Grind.{flat_map-append}
use Rattle.std.proofs.lemmas.Option.{slice_get-get_or}
use Rattle.char_files.specs.CharName.{CharName}
use Rattle.operations.specs.NameSet.{names_of}
use Rattle.tree_order.specs.Registers.{Atom}
use Rattle.piece_list.specs.Piece.{Piece}
use Rattle.piece_list.specs.declared.spot.Spot.{Spot}
use Rattle.piece_list.specs.declared.run.Run.{Run}
use Rattle.piece_list.specs.Held.{IsSpotOf}
use Rattle.piece_list.specs.Pieces.{range_of, char_of, chars_of, IsPiece}
use Rattle.piece_list.specs.Shown.{Appearance, appearance_of, appearance_in, appearances_in, piece_run}
use Rattle.piece_list.specs.Shown.{shown_runs}
use Rattle.piece_list.specs.Spelled.{spelled, shown_chars, ArePieces}

abbrev Items : Type 0
Items = List (ℕ × Piece)

abbrev chars : ℕ × Piece → List Atom
chars m = chars_of m.1

abbrev visible : Atom → Bool
visible k = not k.hidden.value

-- a piece's characters, if they are shown
abbrev pub shown_by : Piece → List Atom
shown_by p = cond p.hidden.value [] (chars_of p)

-- a piece shows all of its characters, or none
all_or_none : (p : Piece) (cs : List CharName) (hidden : Bool) → p.hidden.value ≡ hidden
    → shown_chars (map (char_of p) cs) ≡ cond hidden [] (map (char_of p) cs)
all_or_none p [] true e = refl
all_or_none p [] false e = refl
all_or_none p (c ∷ cs) true e =
    ap (λ (b : Bool). cond (not b) (char_of p c ∷ shown_chars (map (char_of p) cs))
    (shown_chars (map (char_of p) cs))) e
    ∙ all_or_none p cs true e
all_or_none p (c ∷ cs) false e =
    ap (λ (b : Bool). cond (not b) (char_of p c ∷ shown_chars (map (char_of p) cs))
    (shown_chars (map (char_of p) cs))) e
    ∙ ap (λ (ks : List Atom). char_of p c ∷ ks) (all_or_none p cs false e)

pub shown_of_piece : (p : Piece) → shown_chars (chars_of p) ≡ shown_by p
shown_of_piece p = all_or_none p (names_of (range_of p)) p.hidden.value refl

-- a list shows what its pieces show
pub shown_cons : (m : ℕ × Piece) (items : Items)
    → shown_chars (spelled (m ∷ items)) ≡ shown_by m.1 ++ shown_chars (spelled items)
shown_cons m items =
    filter-append visible (chars m) (spelled items)
    ∙ ap (λ (ks : List Atom). ks ++ shown_chars (spelled items)) (shown_of_piece m.1)

pub shown_both : (xs ys : Items)
    → shown_chars (spelled (xs ++ ys)) ≡ shown_chars (spelled xs) ++ shown_chars (spelled ys)
shown_both xs ys =
    ap shown_chars (flat_map-append chars xs ys) ∙ filter-append visible (spelled xs) (spelled ys)

-- how many they are
pub count_chars : (p : Piece) → length (chars_of p) ≡ p.len
count_chars p =
    length-map (names_of (range_of p)) (char_of p)
    ∙ length-map-range_with_len (λ (off : ℕ). record { site = p.site; off = off }) p.off p.len

count_by : (p : Piece) (hidden : Bool) → length (cond hidden [] (chars_of p)) ≡ cond hidden 0 p.len
count_by p true = refl
count_by p false = count_chars p

pub count_cons : (m : ℕ × Piece) (items : Items)
    → length (shown_chars (spelled (m ∷ items)))
    ≡ cond m.1.hidden.value 0 m.1.len + length (shown_chars (spelled items))
count_cons m items =
    ap length (shown_cons m items)
    ∙ length-append (shown_by m.1) (shown_chars (spelled items))
    ∙ ap (λ (n : ℕ). n + length (shown_chars (spelled items))) (count_by m.1 m.1.hidden.value)

pub count_both : (xs ys : Items)
    → length (shown_chars (spelled (xs ++ ys)))
    ≡ length (shown_chars (spelled xs)) + length (shown_chars (spelled ys))
count_both xs ys =
    ap length (shown_both xs ys) ∙ length-append (shown_chars (spelled xs)) (shown_chars (spelled ys))

-- one piece more is counted
pub count_more : (xs : Items) (m : ℕ × Piece)
    → length (shown_chars (spelled (xs ++ m ∷ [])))
    ≡ length (shown_chars (spelled xs)) + cond m.1.hidden.value 0 m.1.len
count_more xs m =
    let none : length (shown_chars (spelled [])) ≡ 0 = refl in
    omega (arith, count_both xs (m ∷ []), count_cons m [])

-- not more are shown than there are
shown_few : (ks : List Atom) → length (shown_chars ks) ≤ length ks
shown_few [] = omega arith
shown_few (k ∷ ks) = kept_or_not (visible k) (shown_few ks)
  where
    kept_or_not : (b : Bool) → length (shown_chars ks) ≤ length ks
        → length (cond b (k ∷ shown_chars ks) (shown_chars ks)) ≤ length (k ∷ ks)
    kept_or_not true le = omega arith
    kept_or_not false le = omega arith

pub shown_at_most : (items : Items) → length (shown_chars (spelled items)) ≤ length (spelled items)
shown_at_most items = shown_few (spelled items)

-- the character of a piece at an index
pub char_at : (p : Piece) (i : ℕ) (d : Atom) → i < p.len
    → get_or (chars_of p) i d ≡ char_of p (record { site = p.site; off = p.off + i })
char_at p i d lt =
    let name : ℕ → CharName = λ (off : ℕ). record { site = p.site; off = off } in
    let names : List CharName = names_of (range_of p) in
    let few : i < length names = omega (arith, length-map-range_with_len name p.off p.len) in
    get_or-map (char_of p) names i d.name d few
    ∙ ap (char_of p) (get_or-map-range_with_len name p.off p.len i (p.off + i) d.name lt refl)

-- a character of a piece that is shown, by its position
pub shown_at : (xs ys : Items) (tag : ℕ) (p : Piece) (i : ℕ) → p.hidden.value ≡ false → i < p.len
    → slice_get (shown_chars (spelled (xs ++ (tag, p) ∷ ys))) (length (shown_chars (spelled xs)) + i)
    ≡ Some (char_of p (record { site = p.site; off = p.off + i }))
shown_at xs ys tag p i shown lt =
    let m : ℕ × Piece = (tag, p) in
    let k : Atom = char_of p (record { site = p.site; off = p.off + i }) in
    let whole : List Atom = shown_chars (spelled (xs ++ m ∷ ys)) in
    let before : List Atom = shown_chars (spelled xs) in
    let after : List Atom = shown_chars (spelled ys) in
    let own : shown_by p ≡ chars_of p = ap (λ (b : Bool). cond b [] (chars_of p)) shown in
    let parts : whole ≡ before ++ (chars_of p ++ after) =
    shown_both xs (m ∷ ys) ∙ ap (λ (ks : List Atom). before ++ ks) (shown_cons m ys
    ∙ ap (λ (ks : List Atom). ks ++ after) own) in
    let few : i < length (chars_of p) = omega (arith, count_chars p) in
    let within : length before + i < length whole =
    omega (
      arith,
      ap length parts,
      length-append before (chars_of p ++ after),
      length-append
          (chars_of p) after,
    ) in
    slice_get-get_or whole (length before + i) k within
    ∙ ap (λ (o : Atom). Some o) (ap (λ (ks : List Atom). get_or ks (length before + i) k) parts
    ∙ get_or-append-add before (chars_of p ++ after) i k
    ∙ get_or_append_left (chars_of p) after k i few
    ∙ char_at p i k lt)

-- and so its spot is known
pub spot_at : (items xs ys : Items) (tag : ℕ) (p : Piece) (pos i : ℕ) → items ≡ xs ++ (tag, p) ∷ ys
    → length (shown_chars (spelled xs)) + i ≡ pos → p.hidden.value ≡ false → i < p.len
    → IfSome (slice_get (shown_chars (spelled items)) pos)
    (λ k. IsSpotOf items (record { piece = tag; within = i }) k.name)
spot_at items xs ys tag p pos i is at shown lt =
    let spot : Spot = record { piece = tag; within = i } in
    let k : Atom = char_of p (record { site = p.site; off = p.off + i }) in
    let found : slice_get (shown_chars (spelled items)) pos ≡ Some k =
    ap (λ (l : Items). slice_get (shown_chars (spelled l)) pos) is
    ∙ ap (λ (n : ℕ). slice_get (shown_chars (spelled (xs ++ (tag, p) ∷ ys))) n) (sym at)
    ∙ shown_at xs ys tag p i shown lt in
    subst (λ (o : Option Atom). IfSome o (λ (c : Atom). IsSpotOf items spot c.name)) (sym found)
    (p, (xs, ys, is), lt, refl, refl)

-- the runs of a list tell of the characters that it shows
pub told : (p : Piece) (cs : List CharName)
    → map (appearance_in (piece_run p)) cs ≡ map appearance_of (map (char_of p) cs)
told p [] = refl
told p (c ∷ cs) = ap (λ (l : List Appearance). appearance_of (char_of p c) ∷ l) (told p cs)

runs_with : (m : ℕ × Piece) (items : Items) (hidden : Bool)
    → flat_map appearances_in (shown_runs items) ≡ map appearance_of (shown_chars (spelled items))
    → flat_map appearances_in (map (λ (n : ℕ × Piece). piece_run n.1)
    (cond (not hidden) (m ∷ filter (λ (n : ℕ × Piece). not n.1.hidden.value) items)
    (filter (λ (n : ℕ × Piece). not n.1.hidden.value) items)))
    ≡ map appearance_of (cond hidden [] (chars m) ++ shown_chars (spelled items))
runs_with m items true rest = rest
runs_with m items false rest =
    ap (λ (l : List Appearance). appearances_in (piece_run m.1) ++ l) rest
    ∙ ap (λ (l : List Appearance). l ++ map appearance_of (shown_chars (spelled items)))
    (told m.1 (names_of (range_of m.1)))
    ∙ sym (map-append appearance_of (chars m) (shown_chars (spelled items)))

pub runs_tell : (items : Items)
    → flat_map appearances_in (shown_runs items) ≡ map appearance_of (shown_chars (spelled items))
runs_tell [] = refl
runs_tell (m ∷ items) =
    runs_with m items m.1.hidden.value (runs_tell items)
    ∙ sym (ap (map appearance_of) (shown_cons m items))

-- what holds of each piece as a run holds of each of them
pub runs_are : (P : Run → Type 0) → ((p : Piece) → IsPiece p → P (piece_run p)) → (items : Items)
    → ArePieces items → All P (shown_runs items)
runs_are P holds [] pieces = All-nil P
runs_are P holds (m ∷ items) pieces =
    let Is : ℕ × Piece → Type 0 = λ (n : ℕ × Piece). IsPiece n.1 in
    go m.1.hidden.value (holds m.1 (All-head Is m items pieces))
    (runs_are P holds items (All-tail Is m items pieces))
  where
    go : (hidden : Bool) → P (piece_run m.1) → All P (shown_runs items)
        → All P (map (λ (n : ℕ × Piece). piece_run n.1)
        (cond (not hidden) (m ∷ filter (λ (n : ℕ × Piece). not n.1.hidden.value) items)
        (filter (λ (n : ℕ × Piece). not n.1.hidden.value) items)))
    go true here rest = rest
    go false here rest = All-cons P (piece_run m.1) (shown_runs items) here rest
