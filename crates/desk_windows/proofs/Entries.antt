-- What a viewer shows where another shows something else.
use Rattle.std.proofs.Common.{◌≡◌, ℕ, suc, ◌+◌, ◌⊎◌, List, [], ◌∷◌, Bool, true, false, cond, eqb, eqb-true, eq-eqb, true≢false, refl, sym, ap, ◌∙◌, inl, inr, arith, Some}
use Rattle.std.proofs.lemmas.Option.{same_Some}
use Rattle.viewers.specs.Viewers.{AreRising, content_of, numbers, times, with_entry}
use Rattle.viewers.proofs.Numbers.{none_lower}
use Rattle.desk_windows.specs.Windows.{WindowSeen, seen_window, windows_of}

-- two numbers that a test tells apart
pub apart_at : (v u : ℕ) → eqb v u ≡ false → v ≡ u → ⊥
apart_at v u is same = true≢false (sym (eq-eqb v u same) ∙ is)

module _ {C : Type 0} where
  -- what a viewer shows then is the new content, or what it showed
  pub content_with : (contents : List (ℕ × C)) (v u : ℕ) (c w : C) → content_of (with_entry contents v c) u ≡ Some w
      → ((u ≡ v) × (w ≡ c)) ⊎ ((u ≡ v → ⊥) × (content_of contents u ≡ Some w))
  content_with [] v u c w e = cc
  content_with (entry ∷ rest) v u c w e =
      by_tests (content_with rest v u c w) (eqb entry.0 v) (eqb v u) (eqb entry.0 u) refl refl refl e
    where
      by_tests : (content_of (with_entry rest v c) u ≡ Some w
          → ((u ≡ v) × (w ≡ c)) ⊎ ((u ≡ v → ⊥) × (content_of rest u ≡ Some w)))
          → (a b d : Bool) → eqb entry.0 v ≡ a → eqb v u ≡ b → eqb entry.0 u ≡ d
          → cond (eqb (cond a (v, c) entry).0 u) (Some (cond a (v, c) entry).1) (content_of (with_entry rest v c) u) ≡ Some w
          → ((u ≡ v) × (w ≡ c)) ⊎ ((u ≡ v → ⊥) × (cond (eqb entry.0 u) (Some entry.1) (content_of rest u) ≡ Some w))
      by_tests more true true d first second third e =
          let h : Some c ≡ Some w = rw second at e in inl (sym (eqb-true v u second), sym (same_Some c w h))
      by_tests more true false true first second third e =
          absurd (apart_at v u second (sym (eqb-true entry.0 v first) ∙ eqb-true entry.0 u third))
      by_tests more true false false first second third e =
          let h : content_of (with_entry rest v c) u ≡ Some w = rw second at e in
          elim (more h) [ inl there ↦ inl there | inr kept ↦ inr (kept.0, rw third kept.1) ]
      by_tests more false b true first second third e =
          let h : Some entry.1 ≡ Some w = rw third at e in
          inr (λ same. apart_at entry.0 v first (eqb-true entry.0 u third ∙ same), rw third h)
      by_tests more false b false first second third e =
          let h : content_of (with_entry rest v c) u ≡ Some w = rw third at e in
          elim (more h) [ inl there ↦ inl there | inr kept ↦ inr (kept.0, rw third kept.1) ]

  -- a number that isn't there has nothing to be set
  none_with : (contents : List (ℕ × C)) (v : ℕ) (c : C) → times v (numbers contents) ≡ 0 → with_entry contents v c ≡ contents
  none_with [] v c none = refl
  none_with (entry ∷ rest) v c none = by_test (none_with rest v c) (eqb entry.0 v) none
    where
      by_test : (times v (numbers rest) ≡ 0 → with_entry rest v c ≡ rest) → (b : Bool)
          → cond b 1 0 + times v (numbers rest) ≡ 0 → cond b (v, c) entry ∷ with_entry rest v c ≡ entry ∷ rest
      by_test more true none = absurd (omega (arith, none))
      by_test more false none = ap (λ l. entry ∷ l) (more (omega (arith, none)))

-- the same text from the same line on leaves all windows the same
pub windows_with : (from below v : ℕ) (contents : List (ℕ × WindowSeen)) (w c : WindowSeen)
    → AreRising from (numbers contents) below → content_of contents v ≡ Some w → seen_window c ≡ seen_window w
    → windows_of (with_entry contents v c) ≡ windows_of contents
windows_with from below v [] w c rising is same = refl
windows_with from below v (entry ∷ rest) w c rising is same =
    by_test (λ h. windows_with (suc entry.0) below v rest w c rising.1 h same) (eqb entry.0 v) refl is
  where
    by_test : (content_of rest v ≡ Some w → windows_of (with_entry rest v c) ≡ windows_of rest) → (b : Bool)
        → eqb entry.0 v ≡ b → cond b (Some entry.1) (content_of rest v) ≡ Some w
        → windows_of (cond b (v, c) entry ∷ with_entry rest v c) ≡ windows_of (entry ∷ rest)
    by_test more true at is =
        let k = eqb-true entry.0 v at in
        let first = same_Some entry.1 w is in
        let left = none_with rest v c (none_lower (suc entry.0) below v (numbers rest) rising.1 (omega (arith, k))) in
        let window = same ∙ ap seen_window (sym first) in
        λ i. (sym k i, window i) ∷ windows_of (left i)
    by_test more false at is = ap (λ l. (entry.0, seen_window entry.1) ∷ l) (more is)
