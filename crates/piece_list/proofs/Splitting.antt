-- A piece of a list is split in two: the ring's steps, and the tables after them.
use Rattle.std.proofs.Common.{◌≡◌, ◌≢◌, ℕ, ◌+◌, ◌<◌, ◌==◌, Bool, false, cond, inl, inr}
use Rattle.std.proofs.Common.{List, [], ◌∷◌, ◌++◌}
use Rattle.std.proofs.Common.{Some, length, get_or, take, drop, map, All, refl, sym, ap, subst}
use Rattle.std.proofs.Common.{◌∙◌, arith, append_assoc}
use Rattle.std.proofs.Common.{ne_eqb, eq-eqb}
use Rattle.std.specs.List.{AllByRecursion, IsDistinct}
use Rattle.std.proofs.lemmas.Bool.{cases_lt}
use Rattle.std.proofs.lemmas.List.{map-append, length-append, length-map, get_or_append_left, get_or-append-add}
use Rattle.std.proofs.lemmas.List.Elements.{All-head, All-tail}
use Rattle.std.proofs.Math.Seq.{get_or-append_seam, take-append_seam, drop-append_seam}
use Rattle.piece_raw.specs.Ring.{AreTags, IsPushed, last_tag, tags, with_value}
use Rattle.piece_list.specs.Piece.{Piece}
use Rattle.piece_list.proofs.Found.{apart}

abbrev Items : Type 0
Items = List (ℕ × Piece)

-- the other members have other numbers
pub before_others : (xs ys : Items) (tag : ℕ) (p : Piece) → AreTags (xs ++ (tag, p) ∷ ys)
    → All (λ m. m.0 ≢ tag) xs
before_others xs ys tag p are = λ i d lt same.
    let m : ℕ × Piece = (tag, p) in
    let all : length xs < length (xs ++ m ∷ ys) = omega (arith, length-append xs (m ∷ ys)) in
    apart (xs ++ m ∷ ys) are i (length xs) d lt all
    (ap (λ (n : ℕ × Piece). n.0) (get_or_append_left xs (m ∷ ys) d i lt) ∙ same
    ∙ sym (ap (λ (n : ℕ × Piece). n.0) (get_or-append_seam xs m ys d)))

pub after_others : (xs ys : Items) (tag : ℕ) (p : Piece) → AreTags (xs ++ (tag, p) ∷ ys)
    → All (λ m. m.0 ≢ tag) ys
after_others xs ys tag p are = λ i d lt same.
    let m : ℕ × Piece = (tag, p) in
    let joined : xs ++ m ∷ [] ++ ys ≡ xs ++ m ∷ ys = append_assoc xs (m ∷ []) ys in
    let len : length (xs ++ m ∷ []) ≡ length xs + 1 = omega (arith, length-append xs (m ∷ [])) in
    let at : get_or (xs ++ m ∷ ys) (length xs + 1 + i) d ≡ get_or ys i d =
    ap (λ (l : Items). get_or l (length xs + 1 + i) d) (sym joined)
    ∙ ap (λ (k : ℕ). get_or (xs ++ m ∷ [] ++ ys) (k + i) d) (sym len)
    ∙ get_or-append-add (xs ++ m ∷ []) ys i d in
    let within : length xs + 1 + i < length (xs ++ m ∷ ys) = omega (arith, length-append xs (m ∷ ys)) in
    apart (xs ++ m ∷ ys) are (length xs) (length xs + 1 + i) d (omega arith) within
    (ap (λ (n : ℕ × Piece). n.0) (get_or-append_seam xs m ys d) ∙ sym same
    ∙ sym (ap (λ (n : ℕ × Piece). n.0) at))

-- a write to a member changes no other one
others_stay : (tag : ℕ) (w : Piece) (xs : Items) → All (λ m. m.0 ≢ tag) xs → with_value tag w xs ≡ xs
others_stay tag w [] others = refl
others_stay tag w (m ∷ xs) others =
    let P : ℕ × Piece → Type 0 = λ (n : ℕ × Piece). n.0 ≢ tag in
    let out : (m.0 == tag) ≡ false = ne_eqb m.0 tag (All-head P m xs others) in
    ap (λ (b : Bool). (m.0, cond b w m.1) ∷ with_value tag w xs) out
    ∙ ap (λ (l : Items). m ∷ l) (others_stay tag w xs (All-tail P m xs others))

pub written : (xs ys : Items) (tag : ℕ) (p w : Piece) → AreTags (xs ++ (tag, p) ∷ ys)
    → with_value tag w (xs ++ (tag, p) ∷ ys) ≡ xs ++ (tag, w) ∷ ys
written xs ys tag p w are =
    let insert : ℕ × Piece → ℕ × Piece = λ (m : ℕ × Piece). (m.0, cond (m.0 == tag) w m.1) in
    map-append insert xs ((tag, p) ∷ ys)
    ∙ ap (λ (l : Items). l ++ insert (tag, p) ∷ map insert ys) (others_stay tag w xs (before_others xs ys tag p are))
    ∙ ap (λ (l : Items). xs ++ insert (tag, p) ∷ l) (others_stay tag w ys (after_others xs ys tag p are))
    ∙ ap (λ (b : Bool). xs ++ (tag, cond b w p) ∷ ys) (eq-eqb tag tag refl)

-- a write inserts no piece, and keeps the numbers
pub as_many : (tag : ℕ) (w : Piece) (items : Items) → length (with_value tag w items) ≡ length items
as_many tag w items = length-map items (λ m. (m.0, cond (m.0 == tag) w m.1))

tags_stay : (tag : ℕ) (w : Piece) (items : Items) → tags (with_value tag w items) ≡ tags items
tags_stay tag w [] = refl
tags_stay tag w (m ∷ items) = ap (λ (l : List ℕ). m.0 ∷ l) (tags_stay tag w items)

pub written_tags : (tag : ℕ) (w : Piece) (items : Items) → AreTags items → AreTags (with_value tag w items)
written_tags tag w items are =
    subst (λ (n : ℕ). IsDistinct ◌==◌ (tags (with_value tag w items))
    × AllByRecursion (λ t. t < n) (tags (with_value tag w items))) (sym (as_many tag w items))
    (subst (λ (ts : List ℕ). IsDistinct ◌==◌ ts × AllByRecursion (λ t. t < length items) ts)
    (sym (tags_stay tag w items)) are)

-- one number has one index
one_index : (items : Items) → AreTags items → (i j : ℕ) (d : ℕ × Piece) → i < length items → j < length items
    → (get_or items i d).0 ≡ (get_or items j d).0 → i ≡ j
one_index items are i j d li lj same =
    elim (cases_lt i j) [
      | inl lt ↦ absurd (apart items are i j d lt lj same)
      | inr le ↦ elim (cases_lt j i) [
        | inl lt ↦ absurd (apart items are j i d lt li (sym same))
        | inr ge ↦ omega arith
      ]
    ]

-- the list that ends with a number
pub ends_with : (xs : Items) (tag : ℕ) → last_tag xs ≡ Some tag
    → (f : Items) × (q : Piece) × (xs ≡ f ++ (tag, q) ∷ [])
ends_with [] tag e = absurd cc
ends_with (m ∷ []) tag e =
    let same : m.0 ≡ tag = cc in
    ([], m.1, ap (λ (k : ℕ). (k, m.1) ∷ []) same)
ends_with (m ∷ n ∷ xs) tag e =
    let (f, q, is) = ends_with (n ∷ xs) tag e in
    (m ∷ f, q, ap (λ (l : Items). m ∷ l) is)

-- a member that is inserted after another one
pub pushed : (xs ys : Items) (tag u : ℕ) (w v : Piece) (new : Items) → AreTags (xs ++ (tag, w) ∷ ys)
    → IsPushed (xs ++ (tag, w) ∷ ys) (Some tag) u v new → new ≡ xs ++ (tag, w) ∷ (u, v) ∷ ys
pushed xs ys tag u w v new are (before, after, old, last, is) =
    let m : ℕ × Piece = (tag, w) in
    let whole : Items = xs ++ m ∷ ys in
    let (f, q, ends) = ends_with before tag last in
    let joined : xs ++ m ∷ [] ++ ys ≡ whole = append_assoc xs (m ∷ []) ys in
    let again : whole ≡ f ++ (tag, q) ∷ after =
    old ∙ ap (λ (l : Items). l ++ after) ends ∙ append_assoc f ((tag, q) ∷ []) after in
    let at_f : get_or whole (length f) m ≡ (tag, q) =
    ap (λ (l : Items). get_or l (length f) m) again ∙ get_or-append_seam f (tag, q) after m in
    let same : length f ≡ length xs =
    one_index whole are (length f) (length xs) m
    (omega (arith, ap length again, length-append f ((tag, q) ∷ after)))
    (omega (arith, length-append xs (m ∷ ys)))
    (ap (λ (n : ℕ × Piece). n.0) at_f ∙ sym (ap (λ (n : ℕ × Piece). n.0) (get_or-append_seam xs m ys m))) in
    let len : length before ≡ length (xs ++ m ∷ []) =
    omega (arith, ap length ends, length-append f ((tag, q) ∷ []), length-append xs (m ∷ [])) in
    let front : before ≡ xs ++ m ∷ [] =
    sym (take-append_seam before after) ∙ ap (take (length before)) (sym old ∙ sym joined)
    ∙ ap (λ (k : ℕ). take k (xs ++ m ∷ [] ++ ys)) len ∙ take-append_seam (xs ++ m ∷ []) ys in
    let back : after ≡ ys =
    sym (drop-append_seam before after) ∙ ap (drop (length before)) (sym old ∙ sym joined)
    ∙ ap (λ (k : ℕ). drop k (xs ++ m ∷ [] ++ ys)) len ∙ drop-append_seam (xs ++ m ∷ []) ys in
    is ∙ ap (λ (l : Items). l ++ (u, v) ∷ after) front ∙ ap (λ (l : Items). xs ++ m ∷ [] ++ (u, v) ∷ l) back
    ∙ append_assoc xs (m ∷ []) ((u, v) ∷ ys)
