-- Lists that are cut at one element.
use Rattle.std.proofs.Common.{◌≡◌, Bool, true, false, List, [], ◌∷◌, ◌++◌, map, refl, sym, ap, ◌∙◌, subst}
use Rattle.std.proofs.Common.{true≢false}
use Rattle.std.specs.List.{AllByRecursion, IsDistinct}
use Rattle.piece_raw.specs.Linked.{last_from}

module _ {X : Type 0} where
  head_or : X → List X → X
  head_or d [] = d
  head_or d (x ∷ xs) = x

  tail_of : List X → List X
  tail_of [] = []
  tail_of (x ∷ xs) = xs

  pub cons_head : (x y : X) (xs ys : List X) → x ∷ xs ≡ y ∷ ys → x ≡ y
  unfolding head_or
  cons_head x y xs ys e = ap (head_or x) e

  pub cons_tail : (x y : X) (xs ys : List X) → x ∷ xs ≡ y ∷ ys → xs ≡ ys
  unfolding tail_of
  cons_tail x y xs ys e = ap tail_of e

  pub nil_ne_split : (xs : List X) (x : X) (ys : List X) → [] ≡ xs ++ x ∷ ys → ⊥
  nil_ne_split [] x ys e = cc
  nil_ne_split (z ∷ xs) x ys e = cc

  pub last_from-push : (a : X) (xs : List X) (x : X) → last_from a (xs ++ x ∷ []) ≡ x
  last_from-push a [] x = refl
  last_from-push a (z ∷ xs) x = last_from-push z xs x

  pub split_last : (a : X) (xs : List X) → (us : List X) × (a ∷ xs ≡ us ++ last_from a xs ∷ [])
  split_last a [] = ([], refl)
  split_last a (x ∷ xs) = let on = split_last x xs in (a ∷ on.0, ap (λ l. a ∷ l) on.1)

  -- a list with something at its end has a first element
  pub first_of_push : (xs : List X) (t : X) → (y : X) × (ys : List X) × (xs ++ t ∷ [] ≡ y ∷ ys)
  first_of_push [] t = (t, [], refl)
  first_of_push (x ∷ xs) t = (x, xs ++ t ∷ [], refl)

  module _ (P : X → Type 0) where
    pub all_left : (xs ys : List X) → AllByRecursion P (xs ++ ys) → AllByRecursion P xs
    all_left [] ys h = tt
    all_left (x ∷ xs) ys h = (h.0, all_left xs ys h.1)

    pub all_right : (xs ys : List X) → AllByRecursion P (xs ++ ys) → AllByRecursion P ys
    all_right [] ys h = h
    all_right (x ∷ xs) ys h = all_right xs ys h.1

    pub all_both : (xs ys : List X) → AllByRecursion P xs → AllByRecursion P ys → AllByRecursion P (xs ++ ys)
    all_both [] ys g h = h
    all_both (x ∷ xs) ys g h = (g.0, all_both xs ys g.1 h)

module _ {X Y : Type 0} (f : X → Y) where
  pub all_map : (P : Y → Type 0) (xs : List X) → AllByRecursion (λ x. P (f x)) xs →
      AllByRecursion P (map f xs)
  all_map P [] h = tt
  all_map P (x ∷ xs) h = (h.0, all_map P xs h.1)

  pub all_unmap : (P : Y → Type 0) (xs : List X) → AllByRecursion P (map f xs) →
      AllByRecursion (λ x. P (f x)) xs
  all_unmap P [] h = tt
  all_unmap P (x ∷ xs) h = (h.0, all_unmap P xs h.1)

  module _ (eq : Y → Y → Bool) where
    abbrev pub Differs : X → List X → Type 0
    Differs x = AllByRecursion (λ y. eq (f x) (f y) ≡ false)

    pub distinct_without : (xs : List X) (x : X) (ys : List X) → IsDistinct eq (map f (xs ++ x ∷ ys)) →
        IsDistinct eq (map f (xs ++ ys))
    unfolding IsDistinct
    distinct_without [] x ys d = d.1
    distinct_without (z ∷ xs) x ys d =
        let P : X → Type 0 = λ y. eq (f z) (f y) ≡ false in
        let all = all_unmap (λ y. eq (f z) y ≡ false) (xs ++ x ∷ ys) d.0 in (
          all_map (λ y. eq (f z) y ≡ false) (xs ++ ys) (all_both P xs ys (all_left P xs (x ∷ ys) all)
              (all_right P xs (x ∷ ys) all).1),
          distinct_without xs x ys d.1,
        )

    module _ (flips : (a b : Y) → eq a b ≡ eq b a) where
      pub distinct_differs : (xs : List X) (x : X) (ys : List X) → IsDistinct eq (map f (xs ++ x ∷ ys)) →
          Differs x (xs ++ ys)
      unfolding IsDistinct
      distinct_differs [] x ys d = all_unmap (λ y. eq (f x) y ≡ false) ys d.0
      distinct_differs (z ∷ xs) x ys d =
          let all = all_unmap (λ y. eq (f z) y ≡ false) (xs ++ x ∷ ys) d.0 in (
            flips (f x) (f z) ∙ (all_right (λ y. eq (f z) (f y) ≡ false) xs (x ∷ ys)
                all).0,
            distinct_differs xs x ys d.1,
          )

      pub distinct_with : (xs : List X) (x : X) (ys : List X) → Differs x (xs ++ ys) →
          IsDistinct eq (map f (xs ++ ys)) → IsDistinct eq (map f (xs ++ x ∷ ys))
      unfolding IsDistinct
      distinct_with [] x ys h d = (all_map (λ y. eq (f x) y ≡ false) ys h, d)
      distinct_with (z ∷ xs) x ys h d =
          let P : X → Type 0 = λ y. eq (f z) (f y) ≡ false in
          let all = all_unmap (λ y. eq (f z) y ≡ false) (xs ++ ys) d.0 in (
            all_map (λ y. eq (f z) y ≡ false) (xs ++ x ∷ ys) (all_both P xs (x ∷ ys) (all_left P xs ys all)
                (flips (f z) (f x) ∙ h.0, all_right P xs ys all)),
            distinct_with xs x ys h.1 d.1,
          )

      clash : (x y : X) (us vs : List X) → eq (f x) (f y) ≡ true →
          AllByRecursion (λ w. eq (f x) w ≡ false) (map f (us ++ y ∷ vs)) → ⊥
      clash x y us vs e all =
          true≢false (sym e ∙ (all_right (λ w. eq (f x) (f w) ≡ false) us (y ∷ vs) (all_unmap (λ w. eq (f x)
          w ≡ false) (us ++ y ∷ vs) all)).0)

      -- two cuts at elements that are alike under f are the same cut
      pub alike_split : (xs : List X) (x : X) (ys us : List X) (y : X) (vs : List X) →
          IsDistinct eq (map f (xs ++ x ∷ ys)) → xs ++ x ∷ ys ≡ us ++ y ∷ vs → eq (f x) (f y) ≡ true
          → (xs ≡ us) × (x ≡ y) × (ys ≡ vs)
      unfolding IsDistinct
      alike_split [] x ys [] y vs d e at = (refl, cons_head x y ys vs e, cons_tail x y ys vs e)
      alike_split [] x ys (u ∷ us) y vs d e at =
          absurd (clash x y us vs at (subst (λ l. AllByRecursion (λ w. eq (f x) w ≡ false) (map f l))
          (cons_tail x u ys (us ++ y ∷ vs) e) d.0))
      alike_split (z ∷ xs) x ys [] y vs d e at =
          absurd (clash z x xs ys (ap (λ w. eq (f w) (f x)) (cons_head z y (xs ++ x ∷ ys) vs e) ∙
          flips (f y) (f x) ∙ at) d.0)
      alike_split (z ∷ xs) x ys (u ∷ us) y vs d e at =
          let on = alike_split xs x ys us y vs d.1 (cons_tail z u (xs ++ x ∷ ys) (us ++ y ∷ vs) e) at in
          let first = cons_head z u (xs ++ x ∷ ys) (us ++ y ∷ vs) e in
          (λ i. first i ∷ on.0 i, on.1, on.2)

module _ {X : Type 0} where
  -- two lists with one more element each are the same where the longer ones are
  pub unpush : (xs ys : List X) (x y : X) → xs ++ x ∷ [] ≡ ys ++ y ∷ [] → (xs ≡ ys) × (x ≡ y)
  unpush [] [] x y e = (refl, cons_head x y [] [] e)
  unpush [] (z ∷ []) x y e = absurd (nil_ne_split [] y [] (cons_tail x z [] (y ∷ []) e))
  unpush [] (z ∷ w ∷ ys) x y e = absurd (nil_ne_split (w ∷ ys) y [] (cons_tail x z [] ((w ∷ ys) ++ y ∷ []) e))
  unpush (z ∷ xs) [] x y e = absurd (nil_ne_split xs x [] (sym (cons_tail z y (xs ++ x ∷ []) [] e)))
  unpush (z ∷ xs) (w ∷ ys) x y e =
      let on = unpush xs ys x y (cons_tail z w (xs ++ x ∷ []) (ys ++ y ∷ []) e) in
      (λ i. cons_head z w (xs ++ x ∷ []) (ys ++ y ∷ []) e i ∷ on.0 i, on.1)
