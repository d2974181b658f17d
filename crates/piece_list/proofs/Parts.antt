-- What follows a piece, and how the pieces are parted after it.
use Rattle.std.proofs.Common.{◌≡◌, ◌≢◌, ℕ, ◌==◌, Bool, true, false, cond, List, [], ◌∷◌, ◌++◌, Option, Some}
use Rattle.std.proofs.Common.{None, IfSome, length, All, refl, sym, ap, subst, ◌∙◌, append_assoc}
use Rattle.std.proofs.Common.{ne_eqb, eq-eqb}
use Rattle.std.specs.List.{AllByRecursion, IsDistinct}
use Rattle.std.proofs.lemmas.List.Elements.{All-head, All-tail}
use Rattle.piece_raw.specs.Ring.{AreTags, HasTag, tags, last_tag}
use Rattle.piece_list.specs.Piece.{Piece}
use Rattle.piece_list.specs.Placing.{IsParted, HasPart}
use Rattle.piece_list.proofs.Splitting.{before_others, ends_with}

abbrev Items : Type 0
Items = List (ℕ × Piece)

-- the last number, where c stands before the pieces
abbrev tag_from : Option ℕ → Items → Option ℕ
tag_from c [] = c
tag_from c (m ∷ ms) = tag_from (Some m.0) ms

tag_from-last : (before : Items) → last_tag before ≡ tag_from None before
tag_from-last [] = refl
tag_from-last (m ∷ []) = refl
tag_from-last (m ∷ n ∷ ms) = tag_from-last (n ∷ ms)

-- c is none of the numbers
abbrev NoTag : Option ℕ → Items → Type 0
NoTag c [] = Unit {0}
NoTag c (m ∷ ms) = (Some m.0 ≡ c → ⊥) × NoTag c ms

-- c and the numbers all differ
abbrev Apart : Option ℕ → Items → Type 0
Apart c [] = Unit {0}
Apart c (m ∷ ms) = NoTag c (m ∷ ms) × Apart (Some m.0) ms

not_none : (items : Items) → NoTag None items
not_none [] = tt
not_none (m ∷ ms) = ((λ (e : Some m.0 ≡ None). absurd cc), not_none ms)

not_tag : (t : ℕ) (items : Items) → AllByRecursion (λ k. (t == k) ≡ false) (tags items) → NoTag (Some t) items
not_tag t [] all = tt
not_tag t (m ∷ ms) (out, all) =
    let differs : Some m.0 ≡ Some t → ⊥ = λ (e : Some m.0 ≡ Some t).
    let same : t ≡ m.0 = cc in
    let yes : (t == m.0) ≡ true = eq-eqb t m.0 same in
    absurd cc in
    (differs, not_tag t ms all)

apart_of : (c : Option ℕ) (items : Items) → NoTag c items → IsDistinct ◌==◌ (tags items) → Apart c items
unfolding IsDistinct
apart_of c [] free distinct = tt
apart_of c (m ∷ ms) free (out, distinct) = (free, apart_of (Some m.0) ms (not_tag m.0 ms out) distinct)

no_tag : (c : Option ℕ) (items : Items) → Apart c items → NoTag c items
no_tag c [] apart = tt
no_tag c (m ∷ ms) (free, apart) = free

all_apart : (items : Items) → AreTags items → Apart None items
all_apart items are = apart_of None items (not_none items) are.0

-- the last number isn't one that isn't there
other : (c a : Option ℕ) (before after : Items) → (a ≡ c → ⊥) → NoTag c (before ++ after)
    → tag_from a before ≡ c → ⊥
other c a [] after free frees e = free e
other c a (m ∷ before) after free (differs, frees) e = other c (Some m.0) before after differs frees e

-- the pieces are parted after a number in one way
same_parts : (c : Option ℕ) (a b a' b' : Items) → Apart c (a ++ b) → a ++ b ≡ a' ++ b'
    → tag_from c a ≡ tag_from c a' → (a ≡ a') × (b ≡ b')
same_parts c [] b [] b' apart e s = (refl, e)
same_parts c [] b (m ∷ a') b' apart e s =
    let (free, frees) = subst (NoTag c) e (no_tag c b apart) in
    absurd (other c (Some m.0) a' b' free frees (sym s))
same_parts c (m ∷ a) b [] b' ((free, frees), apart) e s = absurd (other c (Some m.0) a b free frees s)
same_parts c (m ∷ a) b (n ∷ a') b' (free, apart) e s =
    let same : m ≡ n = cc in
    let rest : a ++ b ≡ a' ++ b' = cc in
    let last : tag_from (Some m.0) a ≡ tag_from (Some m.0) a' =
    s ∙ ap (λ (k : ℕ × Piece). tag_from (Some k.0) a') (sym same) in
    let (front, back) = same_parts (Some m.0) a b a' b' apart rest last in
    let whole : m ∷ a ≡ n ∷ a' = cc in
    (whole, back)

pub one_part : (items : Items) → AreTags items → (c : Option ℕ) (a b a' b' : Items) → IsParted items c a b
    → IsParted items c a' b' → (a ≡ a') × (b ≡ b')
one_part items are c a b a' b' (is, last) (is', last') =
    same_parts None a b a' b' (all_apart (a ++ b) (subst AreTags is are)) (sym is ∙ is')
    (sym (tag_from-last a) ∙ last ∙ sym last' ∙ tag_from-last a')

-- where the pieces are parted after a number, a piece has it
pub part_has_tag : (items : Items) (t : ℕ) → HasPart items (Some t) → HasTag items t
part_has_tag items t (before, after, (is, last)) =
    let (f, q, ends) = ends_with before t last in
    (q, (f, after, is ∙ ap (λ (l : Items). l ++ after) ends ∙ append_assoc f ((t, q) ∷ []) after))

pub part_has_tag_if : (items : Items) (last : Option ℕ) → HasPart items last → IfSome last (HasTag items)
part_has_tag_if items None part = tt
part_has_tag_if items (Some t) part = part_has_tag items t part

pub last_tag-push : (before : Items) (m : ℕ × Piece) → last_tag (before ++ m ∷ []) ≡ Some m.0
last_tag-push [] m = refl
last_tag-push (n ∷ []) m = refl
last_tag-push (n ∷ k ∷ before) m = last_tag-push (k ∷ before) m

-- how many pieces stand after a number
abbrev after_tag : ℕ → Items → ℕ
after_tag t [] = 0
after_tag t (m ∷ ms) = cond (m.0 == t) (length ms) (after_tag t ms)

abbrev pub count_after : Option ℕ → Items → ℕ
count_after None items = length items
count_after (Some t) items = after_tag t items

after_at : (t : ℕ) (f after : Items) (q : Piece) → All (λ m. m.0 ≢ t) f
    → after_tag t (f ++ (t, q) ∷ after) ≡ length after
after_at t [] after q others =
    ap (λ (b : Bool). cond b (length after) (after_tag t after)) (eq-eqb t t refl)
after_at t (m ∷ f) after q others =
    let P : ℕ × Piece → Type 0 = λ (n : ℕ × Piece). n.0 ≢ t in
    let all : Items = f ++ (t, q) ∷ after in
    ap (λ (b : Bool). cond b (length all) (after_tag t all)) (ne_eqb m.0 t (All-head P m f others))
    ∙ after_at t f after q (All-tail P m f others)

no_before : (before : Items) → last_tag before ≡ None → before ≡ []
no_before [] e = refl
no_before (m ∷ []) e = absurd cc
no_before (m ∷ n ∷ ms) e = let none : n ∷ ms ≡ [] = no_before (n ∷ ms) e in absurd cc

pub count_part : (items : Items) → AreTags items → (c : Option ℕ) (before after : Items)
    → IsParted items c before after → count_after c items ≡ length after
count_part items are None before after (is, last) =
    ap length (is ∙ ap (λ (l : Items). l ++ after) (no_before before last))
count_part items are (Some t) before after (is, last) =
    let (f, q, ends) = ends_with before t last in
    let whole : items ≡ f ++ (t, q) ∷ after =
    is ∙ ap (λ (l : Items). l ++ after) ends ∙ append_assoc f ((t, q) ∷ []) after in
    ap (after_tag t) whole
    ∙ after_at t f after q (before_others f after t q (subst AreTags whole are))
