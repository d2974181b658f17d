-- Members found by their tags, of which no two are the same.
use Rattle.std.proofs.Common.{◌≡◌, ℕ, ◌+◌, ◌<◌, ◌==◌, false, cond, List, [], ◌∷◌, ◌++◌, length, ◌⊎◌, inl, inr, Option}
use Rattle.std.proofs.Common.{refl, sym, ap, subst, ◌∙◌, arith, append_assoc, length-append}
use Rattle.std.specs.List.{AllByRecursion, IsDistinct}
use Rattle.std.proofs.lemmas.Bool.{eqb-false, ne_eqb}
use Rattle.piece_raw.specs.Ring.{HasTag, AreTags, IsPushed, tags, with_value}

abbrev pub Members : Type 0
Members = List (ℕ × ℕ)

pub HasTag-nil : (tag : ℕ) → HasTag {T = ℕ} [] tag → ⊥
HasTag-nil tag (v, ([], ys, e)) = cc
HasTag-nil tag (v, (x ∷ xs, ys, e)) = cc

pub HasTag-first : (m : ℕ × ℕ) (xs : Members) (tag : ℕ) → m.0 ≡ tag → HasTag (m ∷ xs) tag
HasTag-first m xs tag e =
    let same : ℕ → Members = λ (k : ℕ). (k, m.1) ∷ xs in
    (m.1, ([], xs, ap same e))

pub HasTag-left : (xs ys : Members) (tag : ℕ) → HasTag xs tag → HasTag (xs ++ ys) tag
HasTag-left xs ys tag (v, (us, vs, e)) =
    (v, (us, vs ++ ys, ap (λ (l : Members). l ++ ys) e ∙ append_assoc us ((tag, v) ∷ vs) ys))

pub HasTag-right : (xs ys : Members) (tag : ℕ) → HasTag ys tag → HasTag (xs ++ ys) tag
HasTag-right xs ys tag (v, (us, vs, e)) =
    (v, (xs ++ us, vs, ap (λ (l : Members). xs ++ l) e ∙ sym (append_assoc xs us ((tag, v) ∷ vs))))

pub HasTag-cons : (m : ℕ × ℕ) (xs : Members) (tag : ℕ) → HasTag (m ∷ xs) tag → (m.0 ≡ tag) ⊎ HasTag xs tag
HasTag-cons m xs tag (v, ([], vs, e)) =
    let same : m ≡ (tag, v) = cc in
    inl (ap (λ (n : ℕ × ℕ). n.0) same)
HasTag-cons m xs tag (v, (u ∷ us, vs, e)) =
    let rest : xs ≡ us ++ (tag, v) ∷ vs = cc in
    inr (v, (us, vs, rest))

pub HasTag-append : (xs ys : Members) (tag : ℕ) → HasTag (xs ++ ys) tag → HasTag xs tag ⊎ HasTag ys tag
HasTag-append [] ys tag h = inr h
HasTag-append (x ∷ xs) ys tag h = elim (HasTag-cons x (xs ++ ys) tag h) [
  | inl e ↦ inl (HasTag-first x xs tag e)
  | inr rest ↦ elim (HasTag-append xs ys tag rest) [
    | inl l ↦ inl (HasTag-right (x ∷ []) xs tag l)
    | inr r ↦ inr r
  ]
]

-- what holds of each tag
module _ (P : ℕ → Type 0) where
  of_tag : (xs : Members) (tag : ℕ) → AllByRecursion P (tags xs) → HasTag xs tag → P tag
  of_tag [] tag all h = absurd (HasTag-nil tag h)
  of_tag (x ∷ xs) tag all h = elim (HasTag-cons x xs tag h) [
    | inl e ↦ subst P e all.0
    | inr rest ↦ of_tag xs tag all.1 rest
  ]

  of_left : (xs ys : Members) → AllByRecursion P (tags (xs ++ ys)) → AllByRecursion P (tags xs)
  of_left [] ys all = tt
  of_left (x ∷ xs) ys all = (all.0, of_left xs ys all.1)

of_each : (P Q : ℕ → Type 0) → ((tag : ℕ) → P tag → Q tag) → (ks : List ℕ) → AllByRecursion P ks
    → AllByRecursion Q ks
of_each P Q f [] all = tt
of_each P Q f (k ∷ ks) all = (f k all.0, of_each P Q f ks all.1)

abbrev pub AreApart : Members → Type 0
AreApart xs = IsDistinct ◌==◌ (tags xs)

pub apart_left : (xs ys : Members) → AreApart (xs ++ ys) → AreApart xs
unfolding IsDistinct
apart_left [] ys d = tt
apart_left (x ∷ xs) ys d = (of_left (λ (k : ℕ). (x.0 == k) ≡ false) xs ys d.0, apart_left xs ys d.1)

pub apart_right : (xs ys : Members) → AreApart (xs ++ ys) → AreApart ys
unfolding IsDistinct
apart_right [] ys d = d
apart_right (x ∷ xs) ys d = apart_right xs ys d.1

pub no_tag_twice : (xs ys : Members) (tag : ℕ) → AreApart (xs ++ ys) → HasTag xs tag → HasTag ys tag → ⊥
unfolding IsDistinct
no_tag_twice [] ys tag d h g = HasTag-nil tag h
no_tag_twice (x ∷ xs) ys tag d h g = elim (HasTag-cons x xs tag h) [
  | inl e ↦
      let other : (x.0 == tag) ≡ false =
      of_tag (λ (k : ℕ). (x.0 == k) ≡ false) (xs ++ ys) tag d.0 (HasTag-right xs ys tag g) in
      eqb-false x.0 tag other e
  | inr rest ↦ no_tag_twice xs ys tag d.1 rest g
]

-- of members with values of any type, one of which is put in
module _ {T : Type 0} where
  of_one_more : (P : ℕ → Type 0) (xs ys : List (ℕ × T)) (tag : ℕ) (w : T) → P tag
      → AllByRecursion P (tags (xs ++ ys)) → AllByRecursion P (tags (xs ++ (tag, w) ∷ ys))
  of_one_more P [] ys tag w p all = (p, all)
  of_one_more P (x ∷ xs) ys tag w p all = (all.0, of_one_more P xs ys tag w p all.1)

  apart_with : (xs ys : List (ℕ × T)) (tag : ℕ) (w : T) → AllByRecursion (λ k. k < tag) (tags (xs ++ ys))
      → IsDistinct ◌==◌ (tags (xs ++ ys)) → IsDistinct ◌==◌ (tags (xs ++ (tag, w) ∷ ys))
  unfolding IsDistinct
  apart_with [] ys tag w below d =
      let P : ℕ → Type 0 = λ (k : ℕ). k < tag in
      let Q : ℕ → Type 0 = λ (k : ℕ). (tag == k) ≡ false in
      (of_each P Q (λ (k : ℕ) (lt : P k). ne_eqb tag k (λ (e : tag ≡ k). omega arith)) (tags ys) below, d)
  apart_with (x ∷ xs) ys tag w below d =
      let lt : x.0 < tag = below.0 in (
        of_one_more (λ (k : ℕ). (x.0 == k) ≡ false) xs ys tag w (ne_eqb x.0 tag (λ (e : x.0 ≡ tag). omega arith)) d.0,
        apart_with xs ys tag w below.1 d.1,
      )

  -- a member whose tag is the next one
  pub tags_pushed : (old new : List (ℕ × T)) (after : Option ℕ) (tag : ℕ) (w : T) → AreTags old
      → tag ≡ length old → IsPushed old after tag w new → AreTags new
  tags_pushed old new after tag w are next (xs, ys, was, last, is) =
      let one_more : length new ≡ length old + 1 = omega (
        arith,
        ap length is,
        ap length was,
        length-append xs ((tag, w) ∷ ys),
        length-append xs ys,
      ) in
      let P : ℕ → Type 0 = λ (k : ℕ). k < length old in
      let Q : ℕ → Type 0 = λ (k : ℕ). k < tag in
      let R : ℕ → Type 0 = λ (k : ℕ). k < length new in
      let Apart : List (ℕ × T) → Type 0 = λ (l : List (ℕ × T)). IsDistinct ◌==◌ (tags l) in
      let below : AllByRecursion P (tags (xs ++ ys)) =
      subst (λ (l : List (ℕ × T)). AllByRecursion P (tags l)) was are.1 in
      let apart : Apart (xs ++ ys) = subst Apart was are.0 in (
        subst Apart (sym is) (apart_with xs ys tag w
            (of_each P Q (λ (k : ℕ) (lt : P k). omega arith) (tags (xs ++ ys)) below) apart),
        subst (λ (l : List (ℕ × T)). AllByRecursion R (tags l)) (sym is) (of_one_more R xs ys tag w (omega arith)
            (of_each P R (λ (k : ℕ) (lt : P k). omega arith) (tags (xs ++ ys)) below)),
      )

pub with_value-elsewhere : (tag w : ℕ) (xs : Members) → (HasTag xs tag → ⊥) → with_value tag w xs ≡ xs
with_value-elsewhere tag w [] absent = refl
with_value-elsewhere tag w (x ∷ xs) absent =
    let other : (x.0 == tag) ≡ false = ne_eqb x.0 tag (λ (e : x.0 ≡ tag). absent (HasTag-first x xs tag e)) in
    let rest : with_value tag w xs ≡ xs =
    with_value-elsewhere tag w xs (λ (h : HasTag xs tag). absent (HasTag-right (x ∷ []) xs tag h)) in
    λ i. (x.0, cond (other i) w x.1) ∷ rest i
