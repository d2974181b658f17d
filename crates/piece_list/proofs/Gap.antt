-- A piece inserted after its cause and the pieces of greater key goes where the insertion law inserts its run.
use Rattle.std.proofs.Common.{◌≡◌, ℕ, suc, ◌+◌, ◌-◌, ◌<◌, ◌≤◌, Bool, true, false, List, [], ◌∷◌, ◌++◌, Some, length}
use Rattle.std.proofs.Common.{get_or, take, drop, map, All, refl, sym, ap, subst, ◌∙◌, arith, append_assoc}
use Rattle.std.specs.List.{range_with_len}
use Rattle.std.proofs.lemmas.Bool.Decides.{nat_tests}
use Rattle.std.proofs.lemmas.List.{map-append, length-append, length-map, get_or_append_left}
use Rattle.std.proofs.lemmas.List.{get_or-append-add}
use Rattle.std.proofs.lemmas.List.{get_or-append_right}
use Rattle.std.proofs.lemmas.List.Elements.{All-append, All-head, All-tail, All-cons, All-nil}
use Rattle.std.proofs.lemmas.List.FromFn.{length-map-range_with_len, get_or-map-range_with_len}
use Rattle.std.proofs.lemmas.Option.{slice_get-get_or}
use Rattle.std.proofs.lemmas.Grind.{flat_map-append}
use Rattle.std.proofs.Math.Seq.{take-append_seam, drop-append_seam, get_or-append_seam}
use Rattle.looks.specs.Key.{is_below}
use Rattle.looks.specs.declared.key.Key.{Key}
use Rattle.char_files.specs.CharName.{CharName}
use Rattle.char_files.specs.declared.name.Anchor.{Anchor}
use Rattle.char_files.specs.declared.name.Anchor.TheVariants.{Root, At}
use Rattle.operations.specs.NameSet.{IsIn, names_of}
use Rattle.tree_order.specs.Insertion.{IsJustAfter}
use Rattle.tree_order.specs.AtomInsertion.{IsLongest}
use Rattle.tree_order.specs.Registers.{Atom}
use Rattle.piece_list.specs.Piece.{Piece}
use Rattle.piece_list.specs.Pieces.{range_of, char_of, chars_of, key_from, IsPiece}
use Rattle.piece_list.specs.Spelled.{spelled, names_of_atoms, ArePieces}
use Rattle.piece_list.specs.Laws.{EndAt, BeginNotAbove, PieceGoesIntoGap}
use Rattle.piece_list.proofs.Changes.{in_range}

abbrev Above : Key → Atom → Type 0
Above key c = is_below key c.key ≡ true

abbrev chars : ℕ × Piece → List Atom
chars m = chars_of m.1

abbrev pub name_only : Atom → CharName
name_only k = k.name

-- what holds of all of two lists holds of all of each
pub all_left : {X : Type 0} (P : X → Type 0) (xs ys : List X) → All P (xs ++ ys) → All P xs
all_left P xs ys all = λ i d lt.
    subst P (get_or_append_left xs ys d i lt) (all i d (omega (arith, length-append xs ys)))

pub all_right : {X : Type 0} (P : X → Type 0) (xs ys : List X) → All P (xs ++ ys) → All P ys
all_right P xs ys all = λ i d lt.
    subst P (get_or-append-add xs ys i d) (all (length xs + i) d (omega (arith, length-append xs ys)))

-- a piece's characters have its names
pub names_of_chars : (p : Piece) (cs : List CharName) → names_of_atoms (map (char_of p) cs) ≡ cs
names_of_chars p [] = refl
names_of_chars p (c ∷ cs) = ap (λ (xs : List CharName). c ∷ xs) (names_of_chars p cs)

-- the names with a piece among the others
pub names_around : (front more : List (ℕ × Piece)) (tag : ℕ) (p : Piece)
    → names_of_atoms (spelled (front ++ (tag, p) ∷ more))
    ≡ names_of_atoms (spelled front) ++ (names_of (range_of p) ++ names_of_atoms (spelled more))
names_around front more tag p =
    let earlier : List CharName = names_of_atoms (spelled front) in
    let later : List CharName = names_of_atoms (spelled more) in
    ap names_of_atoms (flat_map-append chars front ((tag, p) ∷ more))
    ∙ map-append name_only (spelled front) (chars_of p ++ spelled more)
    ∙ ap (λ (cs : List CharName). earlier ++ cs) (map-append name_only (chars_of p) (spelled more)
    ∙ ap (λ (cs : List CharName). cs ++ later) (names_of_chars p (names_of (range_of p))))

-- keys that rise from a greater one are greater
key_above : (rising : Bool) (key own : Key) (off : ℕ) (c : CharName) → is_below key own ≡ true → off ≤ c.off
    → is_below key (key_from rising own off c) ≡ true
key_above false key own off c above le = above
key_above true key own off c above le =
    let more : own.stamp ≤ own.stamp + c.off - off = omega arith in
    grind (arith, nat_tests, above, more)

-- pieces of greater key have characters of greater key
piece_above : (key : Key) (p : Piece) (cs : List CharName) → is_below key p.key ≡ true → All (IsIn (range_of p)) cs
    → All (Above key) (map (char_of p) cs)
piece_above key p [] above is = All-nil (Above key)
piece_above key p (c ∷ cs) above is =
    let here : IsIn (range_of p) c = All-head (IsIn (range_of p)) c cs is in
    All-cons (Above key) (char_of p c) (map (char_of p) cs) (key_above p.rising key p.key p.off c above here.1)
    (piece_above key p cs above (All-tail (IsIn (range_of p)) c cs is))

pieces_above : (key : Key) (items : List (ℕ × Piece)) → All (λ m. is_below key m.1.key ≡ true) items
    → All (Above key) (spelled items)
pieces_above key [] all = All-nil (Above key)
pieces_above key (m ∷ items) all =
    let P : ℕ × Piece → Type 0 = λ (n : ℕ × Piece). is_below key n.1.key ≡ true in
    All-append (Above key) (chars m) (spelled items)
    (piece_above key m.1 (names_of (range_of m.1)) (All-head P m items all) (in_range m.1))
    (pieces_above key items (All-tail P m items all))

-- keys begin with the first one
pub key_begins : (rising : Bool) (key : Key) (site off : ℕ) → key_from rising key off (record { site = site; off = off }) ≡ key
key_begins false key site off = refl
key_begins true key site off =
    let same : key.stamp + off - off ≡ key.stamp = omega arith in
    let made : ℕ → Key = λ (stamp : ℕ). record { stamp = stamp; site = key.site } in
    ap made same

-- a piece begins with a character of its key
begins : (p : Piece) → 0 < p.len → (more : List Atom) (d : Atom)
    → (get_or (chars_of p ++ more) 0 d).key ≡ p.key
begins p some more d =
    let name : ℕ → CharName = λ (off : ℕ). record { site = p.site; off = off } in
    let P : ℕ → Type 0 = λ (len : ℕ).
    (get_or (map (char_of p) (map name (range_with_len p.off len)) ++ more) 0 d).key ≡ p.key in
    let at : suc (p.len - 1) ≡ p.len = omega arith in
    subst P at (key_begins p.rising p.key p.site p.off)

not_above : (key : Key) (items : List (ℕ × Piece)) → ArePieces items → BeginNotAbove key items
    → (d : Atom) → 0 < length (spelled items) → is_below key (get_or (spelled items) 0 d).key ≡ false
not_above key [] pieces stops d some = absurd (omega arith)
not_above key (m ∷ items) pieces stops d some =
    let is : IsPiece m.1 = All-head (λ (n : ℕ × Piece). IsPiece n.1) m items pieces in
    ap (is_below key) (begins m.1 is.0 (spelled items) d) ∙ stops

-- b is the longest stretch of greater key after a
longest_stretch : (key : Key) (a b c : List Atom) → All (Above key) b
    → ((d : Atom) → 0 < length c → is_below key (get_or c 0 d).key ≡ false)
    → IsLongest key (a ++ b ++ c) (length a) (length b)
longest_stretch key a b c greater stops = record {
  within = omega (arith, length-append (a ++ b) c, length-append a b);
  greater = λ k d from to.
      let inside : k < length (a ++ b) = omega (arith, length-append a b) in
      let at : get_or (a ++ b ++ c) k d ≡ get_or b (k - length a) d =
      get_or_append_left (a ++ b) c d k inside ∙ get_or-append_right a b (length a) k d refl from in
      subst (Above key) (sym at) (greater (k - length a) d (omega arith));
  stops = λ more d.
      let len : length (a ++ b) ≡ length a + length b = length-append a b in
      let none : length a + length b - (length a + length b) ≡ 0 = omega arith in
      let some : 0 < length c = omega (arith, length-append (a ++ b) c) in
      let at : get_or (a ++ b ++ c) (length a + length b) d ≡ get_or c 0 d =
      get_or-append_right (a ++ b) c (length a + length b) (length a + length b) d len (omega arith)
      ∙ ap (λ (i : ℕ). get_or c i d) none in
      ap (λ (x : Atom). is_below key x.key) at ∙ stops d some;
}

-- the last piece isn't empty
last_some : (front : List (ℕ × Piece)) (tag : ℕ) (p : Piece) → ArePieces (front ++ (tag, p) ∷ []) → 0 < p.len
last_some front tag p pieces =
    let m : ℕ × Piece = (tag, p) in
    let at : get_or (front ++ m ∷ []) (length front) m ≡ m = get_or-append_seam front m [] m in
    let in_last : length front < length (front ++ m ∷ []) = omega (arith, length-append front (m ∷ [])) in
    (subst (λ (n : ℕ × Piece). IsPiece n.1) at (pieces (length front) m in_last)).0

-- the last name of a piece
last_name : (p : Piece) (c : CharName) → 0 < p.len → c.site ≡ p.site → c.off + 1 ≡ p.off + p.len
    → (d : CharName) → get_or (names_of (range_of p)) (p.len - 1) d ≡ c
last_name p c some site off d =
    let name : ℕ → ℕ → CharName = λ (s o : ℕ). record { site = s; off = o } in
    let at : p.off + (p.len - 1) ≡ c.off = omega arith in
    get_or-map-range_with_len (name p.site) p.off p.len (p.len - 1) c.off d (omega arith) at
    ∙ ap (λ (s : ℕ). name s c.off) (sym site)

-- the characters of the pieces up to the cause end after it
after_last : (front more : List (ℕ × Piece)) (tag : ℕ) (p : Piece) (c : CharName) → 0 < p.len
    → c.site ≡ p.site → c.off + 1 ≡ p.off + p.len
    → IsJustAfter (names_of_atoms (spelled (front ++ (tag, p) ∷ more))) (At c)
    (length (spelled (front ++ (tag, p) ∷ [])))
after_last front more tag p c some site off =
    let earlier : List CharName = names_of_atoms (spelled front) in
    let own : List CharName = names_of (range_of p) in
    let k : ℕ = length earlier + (p.len - 1) in
    let all : List CharName = names_of_atoms (spelled (front ++ (tag, p) ∷ more)) in
    let len : length own ≡ p.len =
    length-map-range_with_len (λ (o : ℕ). record { site = p.site; off = o }) p.off p.len in
    let count : (xs : List (ℕ × Piece)) → length (names_of_atoms (spelled (front ++ (tag, p) ∷ xs)))
    ≡ length earlier + (length own + length (names_of_atoms (spelled xs))) =
    λ xs. ap length (names_around front xs tag p) ∙ length-append earlier (own ++ names_of_atoms (spelled xs))
    ∙ ap (λ (n : ℕ). length earlier + n) (length-append own (names_of_atoms (spelled xs))) in
    let same : length (names_of_atoms (spelled (front ++ (tag, p) ∷ [])))
    ≡ length (spelled (front ++ (tag, p) ∷ [])) =
    length-map (spelled (front ++ (tag, p) ∷ [])) name_only in
    let none : length (names_of_atoms (spelled [])) ≡ 0 = refl in
    let inside : k < length all = omega (arith, count more) in
    let at : get_or all k c ≡ c =
    ap (λ (xs : List CharName). get_or xs k c) (names_around front more tag p)
    ∙ get_or-append-add earlier (own ++ names_of_atoms (spelled more)) (p.len - 1) c
    ∙ get_or_append_left own (names_of_atoms (spelled more)) c (p.len - 1) (omega arith)
    ∙ last_name p c some site off c in
    (k, slice_get-get_or all k c inside ∙ ap Some at, omega (arith, count []))

is_after : (earlier more : List (ℕ × Piece)) (cause : Anchor) → ArePieces earlier → EndAt earlier cause
    → IsJustAfter (names_of_atoms (spelled (earlier ++ more))) cause (length (spelled earlier))
is_after earlier more Root pieces none = ap (λ (xs : List (ℕ × Piece)). length (spelled xs)) none
is_after earlier more (At c) pieces (front, tag, p, is, site, off) =
    let some : 0 < p.len = last_some front tag p (subst ArePieces is pieces) in
    let joined : front ++ (tag, p) ∷ more ≡ earlier ++ more =
    sym (append_assoc front ((tag, p) ∷ []) more) ∙ ap (λ (xs : List (ℕ × Piece)). xs ++ more) (sym is) in
    subst (λ (xs : List (ℕ × Piece)). IsJustAfter (names_of_atoms (spelled xs)) (At c) (length
    (spelled earlier))) joined
    (subst (λ (xs : List (ℕ × Piece)). IsJustAfter (names_of_atoms (spelled (front ++ (tag, p) ∷ more))) (At c)
    (length (spelled xs))) (sym is) (after_last front more tag p c some site off))

pub into_gap : PieceGoesIntoGap
into_gap earlier skipped later cause tag p pieces gap =
    let a : List Atom = spelled earlier in
    let b : List Atom = spelled skipped in
    let c : List Atom = spelled later in
    let whole : List Atom = spelled (earlier ++ skipped ++ later) in
    let n : ℕ = length a + length b in
    let is : ℕ × Piece → Type 0 = λ (m : ℕ × Piece). IsPiece m.1 in
    let parts : (xs : List (ℕ × Piece)) → spelled (earlier ++ skipped ++ xs) ≡ a ++ b ++ spelled xs =
    λ xs. flat_map-append chars (earlier ++ skipped) xs
    ∙ ap (λ (ks : List Atom). ks ++ spelled xs) (flat_map-append chars earlier skipped) in
    let len : n ≡ length (a ++ b) = sym (length-append a b) in
    let front : take n whole ≡ a ++ b =
    ap (λ (i : ℕ). take i whole) len ∙ ap (take (length (a ++ b))) (parts later)
    ∙ take-append_seam (a ++ b) c in
    let back : drop n whole ≡ c =
    ap (λ (i : ℕ). drop i whole) len ∙ ap (drop (length (a ++ b))) (parts later)
    ∙ drop-append_seam (a ++ b) c in
    record {
      before = length a;
      skipped = length b;
      after = subst (λ (xs : List (ℕ × Piece)). IsJustAfter (names_of_atoms (spelled xs)) cause (length a))
          (sym (append_assoc earlier skipped later))
          (is_after earlier (skipped ++ later) cause
          (all_left is earlier skipped (all_left is (earlier ++ skipped) later pieces)) gap.at_cause);
      longest = subst (λ (xs : List Atom). IsLongest p.key xs (length a) (length b)) (sym (parts later))
          (longest_stretch p.key a b c (pieces_above p.key skipped gap.greater)
          (not_above p.key later (all_right is (earlier ++ skipped) later pieces) gap.stops));
      placed = parts ((tag, p) ∷ later) ∙ sym (append_assoc (a ++ b) (chars_of p) c)
          ∙ ap (λ (ks : List Atom). ks ++ chars_of p ++ c) (sym front)
          ∙ ap (λ (ks : List Atom). take n whole ++ chars_of p ++ ks) (sym back);
    }
