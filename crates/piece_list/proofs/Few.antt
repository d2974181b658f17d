-- A list has few characters: each has a name of its own, and names are below 2^40 in number.
use Rattle.std.proofs.Common.{◌≡◌, ◌≢◌, ℕ, suc, ◌+◌, ◌*◌, ◌^◌, ◌<◌, ◌≤◌, ◌==◌, List, [], ◌∷◌, ◌++◌}
use Rattle.std.proofs.Common.{Some, length, get_or, map, All, AllPairs, Contains, refl, sym, ap, subst, ◌∙◌, arith}
use Rattle.std.proofs.lemmas.Bool.{eqb-true}
use Rattle.std.proofs.lemmas.Bool.Decides.{Decides-eqb}
use Rattle.std.proofs.lemmas.List.{map-append, length-map, get_or-map, get_or_default}
use Rattle.std.proofs.lemmas.List.Elements.{All-head, All-tail, All-append}
use Rattle.std.proofs.lemmas.List.FromFn.{length-map-range_with_len, get_or-map-range_with_len}
use Rattle.std.proofs.lemmas.List.Kept.{AllPairs-cons}
use Rattle.std.proofs.lemmas.Map.Made.{IsDistinct-from_AllPairs}
use Rattle.std.proofs.lemmas.Map.Steps.{length-le_from_distinct_below}
use Rattle.std.proofs.lemmas.Map.Views.{Contains-from_any}
use Rattle.char_files.specs.CharName.{CharName}
use Rattle.operations.specs.NameSet.{Range, IsIn, names_of}
use Rattle.piece_raw.specs.Ring.{AreTags}
use Rattle.piece_list.specs.Piece.{Piece}
use Rattle.piece_list.specs.Pieces.{range_of, chars_of, IsPiece}
use Rattle.piece_list.specs.Spelled.{spelled, names_of_atoms, ArePieces}
use Rattle.piece_list.specs.Held.{AreEntered}
use Rattle.piece_list.specs.Tables.{Tables, tag_at}
use Rattle.tree_order.proofs.RunNames.{in_names}
use Rattle.piece_list.proofs.Found.{apart, member_at, name_has_spot}
use Rattle.piece_list.proofs.Gap.{name_only, names_of_chars}

abbrev Items : Type 0
Items = List (ℕ × Piece)

-- pairs of a list, and of two lists
module _ {X : Type 0} (R : X → X → Type 0) where
  pairs_head : (x : X) (xs : List X) → AllPairs R (x ∷ xs) → All (R x) xs
  pairs_head x xs pairs = λ k d lt. pairs 0 (suc k) d (omega arith) (omega arith)

  pub pairs_tail : (x : X) (xs : List X) → AllPairs R (x ∷ xs) → AllPairs R xs
  pairs_tail x xs pairs = λ i j d lt within. pairs (suc i) (suc j) d (omega arith) (omega arith)

  pairs_both : (xs ys : List X) → AllPairs R xs → AllPairs R ys → ((x : X) → Contains xs x → All (R x) ys)
      → AllPairs R (xs ++ ys)
  pairs_both [] ys a b across = b
  pairs_both (x ∷ xs) ys a b across =
      AllPairs-cons R x (xs ++ ys)
      (All-append (R x) xs ys (pairs_head x xs a) (across x (0, omega arith, refl)))
      (pairs_both xs ys (pairs_tail x xs a) b (λ z (k, lt, e). across z (suc k, omega arith, e)))

-- a range has each name once
range_once : (r : Range) → AllPairs (λ c d. c ≢ d) (names_of r)
range_once r = λ i j d lt within same.
    let name : ℕ → CharName = λ (off : ℕ). record { site = r.site; off = off } in
    let few : j < r.len = omega (arith, length-map-range_with_len name r.at r.len) in
    let is : name (r.at + i) ≡ name (r.at + j) =
    sym (get_or-map-range_with_len name r.at r.len i (r.at + i) d (omega arith) refl) ∙ same
    ∙ get_or-map-range_with_len name r.at r.len j (r.at + j) d few refl in
    let off : r.at + i ≡ r.at + j = ap (λ (c : CharName). c.off) is in
    absurd (omega arith)

abbrev Entered : Tables → ℕ × Piece → Type 0
Entered tables m = (c : CharName) → IsIn (range_of m.1) c → tag_at tables c ≡ Some m.0

-- a list whose pieces are entered has each name once
once_by : (tables : Tables) (items : Items) → AllPairs (λ m n. m.0 ≢ n.0) items → All (Entered tables) items
    → AllPairs (λ c d. c ≢ d) (names_of_atoms (spelled items))
once_by tables [] numbers entered = λ i j d lt within. absurd (omega arith)
once_by tables (m ∷ items) numbers entered =
    let own : List CharName = names_of (range_of m.1) in
    let rest : List CharName = names_of_atoms (spelled items) in
    let R : CharName → CharName → Type 0 = λ (c d : CharName). c ≢ d in
    let parts : names_of_atoms (spelled (m ∷ items)) ≡ own ++ rest =
    map-append name_only (chars_of m.1) (spelled items)
    ∙ ap (λ (cs : List CharName). cs ++ rest) (names_of_chars m.1 own) in
    let across : (c : CharName) → Contains own c → All (R c) rest = λ c has k d lt same.
    let mine : tag_at tables c ≡ Some m.0 =
    All-head (Entered tables) m items entered c (in_names (range_of m.1) c has) in
    let there : Contains rest c = (k, lt, get_or_default rest k c d lt ∙ sym same) in
    let (spot, (p, is, within, site, off)) = name_has_spot items c there in
    let (j, lt_j, at) = member_at items spot.piece p is in
    let n : ℕ × Piece = (spot.piece, p) in
    let theirs : tag_at tables c ≡ Some spot.piece =
    subst (λ (o : ℕ × Piece). Entered tables o) (at n) (All-tail (Entered tables) m items entered j n lt_j) c
    (site, omega arith, omega arith) in
    let one : m.0 ≡ spot.piece = cc in
    pairs_head (λ (a b : ℕ × Piece). a.0 ≢ b.0) m items numbers j n lt_j
    (one ∙ sym (ap (λ (o : ℕ × Piece). o.0) (at n))) in
    subst (AllPairs R) (sym parts)
    (pairs_both R own rest (range_once (range_of m.1))
    (once_by tables items (pairs_tail (λ (a b : ℕ × Piece). a.0 ≢ b.0) m items numbers)
    (All-tail (Entered tables) m items entered)) across)

pub names_once : (items : Items) (tables : Tables) → AreTags items → AreEntered items tables
    → AllPairs (λ c d. c ≢ d) (names_of_atoms (spelled items))
names_once items tables are entered = once_by tables items (apart items are) entered.entered

-- names as numbers
abbrev number_of : CharName → ℕ
number_of c = c.site * 16777216 + c.off

abbrev Fits : CharName → Type 0
Fits c = (c.site < 2 ^ 16) × (c.off < 16777216)

same_number : (s o t q : ℕ) → o < 16777216 → q < 16777216 → s * 16777216 + o ≡ t * 16777216 + q
    → (s ≡ t) × (o ≡ q)
same_number s o t q lo lq e = (omega arith, omega arith)

small_number : (s o : ℕ) → s < 2 ^ 16 → o < 16777216 → s * 16777216 + o < 2 ^ 40
small_number s o ls lo = omega arith

-- a list's names fit
fit : (items : Items) → ArePieces items → All Fits (names_of_atoms (spelled items))
fit items pieces = λ k d lt.
    let names : List CharName = names_of_atoms (spelled items) in
    let c : CharName = get_or names k d in
    let (spot, (p, is, within, site, off)) =
    name_has_spot items c (k, lt, get_or_default names k c d lt) in
    let (j, lt_j, at) = member_at items spot.piece p is in
    let n : ℕ × Piece = (spot.piece, p) in
    let piece : IsPiece p = subst (λ (o : ℕ × Piece). IsPiece o.1) (at n) (pieces j n lt_j) in
    let small : p.site < 2 ^ 16 = piece.3 in
    let end : p.off + p.len ≤ 16777216 = piece.2 in
    (omega arith, omega arith)

few_numbers : (names : List CharName) → AllPairs (λ c d. c ≢ d) names → All Fits names
    → length names ≤ 2 ^ 40
few_numbers names once fits =
    let numbers : List ℕ = map number_of names in
    let none : CharName = record { site = 0; off = 0 } in
    let name : ℕ → ℕ → CharName = λ (s o : ℕ). record { site = s; off = o } in
    let len : length numbers ≡ length names = length-map names number_of in
    let at : (i n : ℕ) → i < length names → get_or numbers i n ≡ number_of (get_or names i none) =
    λ i n lt. get_or-map number_of names i none n lt in
    let apart' : AllPairs (λ a b. a ≢ b) numbers = λ i j n lt within same.
    let all : j < length names = omega arith in
    let c : CharName = get_or names i none in
    let d : CharName = get_or names j none in
    let e : number_of c ≡ number_of d = sym (at i n (omega arith)) ∙ same ∙ at j n all in
    let (site, off) = same_number c.site c.off d.site d.off (fits i none (omega arith)).1
    (fits j none all).1 e in
    once i j none lt all (ap (λ (s : ℕ). name s c.off) site ∙ ap (λ (o : ℕ). name d.site o) off) in
    let below : (q : ℕ) → Contains numbers q → q < 2 ^ 40 = λ q (k, lt, is).
    let within : k < length names = omega arith in
    let c : CharName = get_or names k none in
    subst (λ (n : ℕ). n < 2 ^ 40) (sym (at k q within) ∙ is)
    (small_number c.site c.off (fits k none within).0 (fits k none within).1) in
    let few : length numbers ≤ 2 ^ 40 =
    length-le_from_distinct_below numbers (2 ^ 40)
    (IsDistinct-from_AllPairs {eq = ◌==◌} Decides-eqb numbers apart')
    (λ q any. below q (Contains-from_any {eq = ◌==◌} eqb-true q numbers any)) in
    omega arith

pub few : (items : Items) (tables : Tables) → AreTags items → AreEntered items tables
    → length (spelled items) ≤ 2 ^ 40
few items tables are entered =
    let small : length (names_of_atoms (spelled items)) ≤ 2 ^ 40 =
    few_numbers (names_of_atoms (spelled items)) (names_once items tables are entered)
    (fit items entered.pieces) in
    omega (arith, length-map (spelled items) name_only)
