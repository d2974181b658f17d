-- What is done with each text in turn.
use Rattle.std.proofs.Common.{◌≡◌, ◌≢◌, ℕ, ◌+◌, ◌<◌, ◌≤◌, List, [], ◌∷◌, ◌++◌, length, slice_index_or, slice_set, inl, inr, sym, subst, ◌∙◌, arith, below_more}
use Rattle.std.proofs.lemmas.Bool.{cases_eq, cases_lt}
use Rattle.std.proofs.lemmas.List.{get_or-set_other, get_or-set_same, get_or_append_left, get_or_at, get_or_default, length-set, length_push}

module _ {C : Type 0} (R : C → C → Type 0) (old now : List C) (many : length now ≡ length old) where
  -- the first so many are so, one with the other, and the others are as they were
  abbrev pub IsDone : ℕ → Type 0
  IsDone i = (k : ℕ) (d : C) → k < i → R (slice_index_or old k d) (slice_index_or now k d)

  abbrev pub IsLeft : ℕ → Type 0
  IsLeft i = (k : ℕ) (d : C) → i ≤ k → slice_index_or now k d ≡ slice_index_or old k d

  module _ (i : ℕ) (w x : C) (lt : i < length now) (left : IsLeft i) (one : R (slice_index_or now i w) x) where
    pub one_more : IsDone i → (k : ℕ) → k < i + 1 → (d : C) → R (slice_index_or old k d) (slice_index_or (slice_set now i x) k d)
    one_more told =
        below_more (λ (k : ℕ). (d : C) → R (slice_index_or old k d) (slice_index_or (slice_set now i x) k d)) i
        (λ k less d.
        let ne : k ≢ i = omega arith in
        subst (R (slice_index_or old k d)) (sym (get_or-set_other now i k x d ne)) (told k d less))
        (λ d.
        let was : slice_index_or now i w ≡ slice_index_or old i d = get_or_default now i w d lt ∙ left i d (omega arith) in
        subst (R (slice_index_or old i d)) (sym (get_or-set_same now i x d lt))
        (subst (λ (y : C). R y x) was one))

    pub still_left : (k : ℕ) (d : C) → i + 1 ≤ k → slice_index_or (slice_set now i x) k d ≡ slice_index_or old k d
    still_left k d le =
        let ne : k ≢ i = omega arith in
        get_or-set_other now i k x d ne ∙ left k d (omega arith)

    -- where it ends there, all are so, if what is left is so with itself
    pub ended : IsDone i → ((c : C) → R c c) → (k : ℕ) (d : C) → k < length old
        → R (slice_index_or old k d) (slice_index_or (slice_set now i x) k d)
    ended told same k d within = elim (cases_lt k (i + 1)) [
      | inl less ↦ one_more told k less d
      | inr past ↦ subst (R (slice_index_or old k d)) (sym (still_left k d past)) (same (slice_index_or old k d))
    ]

-- so is each of the first, with one more
module _ {C : Type 0} (P : C → Type 0) (now : List C) (i : ℕ) (x : C) (lt : i < length now) (one : P x) where
  pub each_more : ((k : ℕ) (d : C) → k < i → P (slice_index_or now k d))
      → (k : ℕ) → k < i + 1 → (d : C) → P (slice_index_or (slice_set now i x) k d)
  each_more so =
      below_more (λ (k : ℕ). (d : C) → P (slice_index_or (slice_set now i x) k d)) i
      (λ k less d.
      let ne : k ≢ i = omega arith in
      subst P (sym (get_or-set_other now i k x d ne)) (so k d less))
      (λ d. subst P (sym (get_or-set_same now i x d lt)) one)

-- each element is so, with its place
module _ {C : Type 0} (P : ℕ → C → Type 0) where
  abbrev pub AreSo : List C → Type 0
  AreSo xs = (k : ℕ) (d : C) → k < length xs → P k (slice_index_or xs k d)

  -- with one more
  pub pushed : (xs : List C) (x : C) → AreSo xs → P (length xs) x → AreSo (xs ++ x ∷ [])
  pushed xs x so one k d lt =
      let many = length_push xs x in
      elim (cases_lt k (length xs)) [
        | inl less ↦ subst (P k) (sym (get_or_append_left xs (x ∷ []) d k less)) (so k d less)
        | inr past ↦
            let last : k ≡ length xs = omega arith in
            subst (P k) (sym (get_or_at xs x [] d k (sym last))) (subst (λ (n : ℕ). P n x) (sym last) one)
      ]

  -- with another in one's place
  pub set_so : (xs : List C) (i : ℕ) (x : C) → AreSo xs → P i x → AreSo (slice_set xs i x)
  set_so xs i x so one k d lt =
      let many = length-set xs i x in
      let within : k < length xs = omega arith in
      elim (cases_eq k i) [
        | inl same ↦
            let lt_i : i < length xs = omega arith in
            subst (λ (n : ℕ). P n (slice_index_or (slice_set xs i x) n d)) (sym same)
            (subst (P i) (sym (get_or-set_same xs i x d lt_i)) one)
        | inr other ↦ subst (P k) (sym (get_or-set_other xs i k x d other)) (so k d within)
      ]
