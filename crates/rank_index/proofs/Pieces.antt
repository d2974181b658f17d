-- Lists that are cut at one element.
use Rattle.std.proofs.Common.{◌≡◌, ℕ, zero, suc, ◌+◌, ◌<◌, List, [], ◌∷◌, ◌++◌, length, get_or, take, drop}
use Rattle.std.proofs.Common.{Some, refl, sym, ap, subst, ◌∙◌, arith}
use Rattle.std.proofs.Common.{slice_get, All, drop-cons}
use Rattle.std.specs.List.{insert}
use Rattle.std.proofs.Math.ListN.{set}
use Rattle.std.proofs.Math.Seq.{set-append_seam}
use Rattle.std.proofs.lemmas.List.{take-append-drop}
use Rattle.std.proofs.lemmas.List.Elements.{All-append, All-cons, All-head, All-tail, All-nil}
use Rattle.std.proofs.lemmas.Option.{same_Some, slice_get_read, get_or_from_slice_get}

module _ {X : Type 0} where
  pub split_across : (xs : List X) (k : ℕ) (x : X) → slice_get xs k ≡ Some x
      → (before : List X) × (after : List X) × (xs ≡ before ++ x ∷ after) × (k ≡ length before)
  split_across [] k x e = absurd cc
  split_across (y ∷ xs) zero x e =
      let same : y ≡ x = same_Some y x e in
      ([], xs, ap (λ (z : X). z ∷ xs) same, refl)
  split_across (y ∷ xs) (suc k) x e =
      let (before, after, cut, at) = split_across xs k x e in
      let more : length (y ∷ before) ≡ suc (length before) = omega arith in
      (y ∷ before, after, ap (λ (l : List X). y ∷ l) cut, ap suc at ∙ sym more)

  pub get-seam : (before : List X) (x : X) (after : List X)
      → slice_get (before ++ x ∷ after) (length before) ≡ Some x
  get-seam [] x after = refl
  get-seam (y ∷ before) x after =
      let more : length (y ∷ before) ≡ suc (length before) = omega arith in
      ap (slice_get (y ∷ before ++ x ∷ after)) more ∙ get-seam before x after

  pub get-left : (xs ys : List X) (k : ℕ) (x : X) → slice_get xs k ≡ Some x → slice_get (xs ++ ys) k ≡ Some x
  get-left [] ys k x e = absurd cc
  get-left (z ∷ xs) ys zero x e = e
  get-left (z ∷ xs) ys (suc k) x e = get-left xs ys k x e

  -- the element that the code reads at a slot
  pub is_read : (xs : List X) (k : ℕ) (x r : X) → slice_get xs k ≡ Some x → r ≡ get_or xs k r → r ≡ x
  is_read xs k x r e is = is ∙ get_or_from_slice_get xs k x r e

  pub insert-after : (before : List X) (x y : X) (after : List X)
      → insert (before ++ x ∷ after) (length before + 1) y ≡ before ++ x ∷ y ∷ after
  insert-after [] x y after = refl
  insert-after (z ∷ before) x y after =
      let more : length (z ∷ before) + 1 ≡ suc (length before + 1) = omega arith in
      ap (λ (n : ℕ). insert (z ∷ before ++ x ∷ after) n y) more
      ∙ ap (λ (l : List X). z ∷ l) (insert-after before x y after)

  -- a list is what stands before an index, the element there, and the rest
  pub cut_read : (xs : List X) (k : ℕ) (x : X) → k < length xs → x ≡ get_or xs k x
      → xs ≡ take k xs ++ x ∷ drop (suc k) xs
  cut_read xs k x lt is =
      sym (take-append-drop k xs) ∙ ap (λ (l : List X). take k xs ++ l) (drop-cons xs k x lt)
      ∙ ap (λ (y : X). take k xs ++ y ∷ drop (suc k) xs) (sym is)

  -- and the same with another element there
  pub seam_at : (xs : List X) (k : ℕ) (x : X) → k < length xs → x ≡ get_or xs k x
      → (before : List X) × (after : List X) × (xs ≡ before ++ x ∷ after) × (k ≡ length before)
      × ((y : X) → set xs k y ≡ before ++ y ∷ after)
  seam_at xs k x lt is =
      let (before, after, cut, at) = split_across xs k x (slice_get_read xs (length xs) k x refl lt is) in (
        before,
        after,
        cut,
        at,
        λ (y : X). (λ i. set (cut i) (at i) y) ∙ set-append_seam before x after y,
      )

  module _ (P : X → Type 0) where
    pub all_parts : (xs : List X) (x : X) (ys : List X) → All P (xs ++ x ∷ ys) → All P xs × P x × All P ys
    all_parts [] x ys all = (All-nil P, All-head P x ys all, All-tail P x ys all)
    all_parts (z ∷ xs) x ys all =
        let (left, here, right) = all_parts xs x ys (All-tail P z (xs ++ x ∷ ys) all) in
        (All-cons P z xs (All-head P z (xs ++ x ∷ ys) all) left, here, right)

    pub all_whole : (xs : List X) (x : X) (ys : List X) → All P xs → P x → All P ys → All P (xs ++ x ∷ ys)
    all_whole xs x ys left here right = All-append P xs (x ∷ ys) left (All-cons P x ys here right)

    pub all_at : (xs : List X) (k : ℕ) (x : X) → All P xs → slice_get xs k ≡ Some x → P x
    all_at xs k x all e =
        let (before, after, cut, at) = split_across xs k x e in
        (all_parts before x after (subst (All P) cut all)).1
