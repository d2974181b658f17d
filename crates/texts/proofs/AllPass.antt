-- Whether all names of a set pass a test.
use Rattle.std.proofs.Common.{◌≡◌, ℕ, zero, suc, ◌+◌, ◌<◌, ◌≤◌, inl, inr, ◌⊎◌, Bool, true, ◌&&◌, eqb, List, [], ◌∷◌, map, refl, subst, sym, ◌∙◌, arith}
use Rattle.std.specs.List.{list_all, range_with_len}
use Rattle.std.proofs.lemmas.Bool.{and_parts, cases_Bool, eqb-false, eqb-true}
use Rattle.std.proofs.lemmas.List.Folds.{list_all-append}
use Rattle.char_files.specs.CharName.{CharName}
use Rattle.operations.specs.NameSet.{Range, IsAmong, IsIn, names_in, names_of}

abbrev name : ℕ → ℕ → CharName
name site off = record { site = site; off = off }

first_or_later : (at off : ℕ) → at ≤ off → (at ≡ off) ⊎ (at + 1 ≤ off)
first_or_later at off from = elim (cases_Bool (eqb at off)) [
  | inl e ↦ inl (eqb-true at off e)
  | inr e ↦ inr (omega (arith, from, eqb-false at off e))
]

after : (r : Range) (ranges : List Range) (c : CharName) → IsAmong ranges c → IsAmong (r ∷ ranges) c
after r ranges c (k, s, lt, is, within) = (suc k, s, omega (arith, lt), is, within)

module _ (p : CharName → Bool) where
  all_within : (site at len : ℕ) → ((off : ℕ) → at ≤ off → off < at + len → p (name site off) ≡ true)
      → list_all p (map (name site) (range_with_len at len)) ≡ true
  all_within site at zero each = refl
  all_within site at (suc len) each =
      rw (each at (omega arith) (omega arith))
      (all_within site (at + 1) len (λ off from to. each off (omega (arith, from)) (omega (arith, to))))

  each_within : (site at len : ℕ) → list_all p (map (name site) (range_with_len at len)) ≡ true → (off : ℕ)
      → at ≤ off → off < at + len → p (name site off) ≡ true
  each_within site at zero all off from to = absurd (omega (arith, from, to))
  each_within site at (suc len) all off from to =
      let (first, others) = and_parts (p (name site at)) (list_all p (map (name site) (range_with_len (at + 1) len))) all in
      elim (first_or_later at off from) [
        | inl is ↦ subst (λ (o : ℕ). p (name site o) ≡ true) is first
        | inr later ↦ each_within site (at + 1) len others off later (omega (arith, to))
      ]

  both : (a b : Bool) → a ≡ true → b ≡ true → (a && b) ≡ true
  both a b x y = rw (x, y) refl

  -- each name of a set passes exactly where all of the list do
  pub all_pass : (ranges : List Range) → ((c : CharName) → IsAmong ranges c → p c ≡ true)
      → list_all p (names_in ranges) ≡ true
  all_pass [] each = refl
  all_pass (r ∷ ranges) each =
      list_all-append p (names_of r) (names_in ranges)
      ∙ both _ _ (all_within r.site r.at r.len (λ off from to. each (name r.site off) (0, r, omega arith, refl, (refl, from, to))))
      (all_pass ranges (λ c among. each c (after r ranges c among)))

  pub each_passes : (ranges : List Range) → list_all p (names_in ranges) ≡ true → (c : CharName)
      → IsAmong ranges c → p c ≡ true
  each_passes [] all c (k, s, lt, is, within) = absurd (omega (arith, lt))
  each_passes (r ∷ ranges) all c (zero, s, lt, is, within) =
      let (here, others) = and_parts _ _ (sym (list_all-append p (names_of r) (names_in ranges)) ∙ all) in
      let h : IsIn r c = subst (λ (x : Range). IsIn x c) (sym is) within in
      subst (λ (site : ℕ). p (name site c.off) ≡ true) (sym h.0) (each_within r.site r.at r.len here c.off h.1 h.2)
  each_passes (r ∷ ranges) all c (suc k, s, lt, is, within) =
      let (here, others) = and_parts _ _ (sym (list_all-append p (names_of r) (names_in ranges)) ∙ all) in
      each_passes ranges others c (k, s, omega (arith, lt), is, within)
