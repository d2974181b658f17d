-- Names that are shown one after the other, as one stretch.
use Rattle.std.proofs.Common.{◌≡◌, ℕ, zero, suc, ◌+◌, ◌<◌, ◌≤◌, ◌==◌, ◌&&◌, List, [], ◌∷◌, Option, Some, None, Bool, true, false}
use Rattle.std.specs.Option.{option_map_or}
use Rattle.std.proofs.Common.{if◌then◌else◌, ne_eqb, refl, sym, ap, subst, ◌∙◌, arith}
use Rattle.char_files.specs.declared.character.Char.{Char}
use Rattle.operations.specs.NameSet.{names_of}
use Rattle.machine.specs.WhereShown.{ShownRange, shown_at, shown_ranges, with_shown}

-- the first of these stretches doesn't begin with this name at this position
abbrev pub Apart : (off pos : ℕ) → List ShownRange → Type 0
Apart off pos [] = Unit {0}
Apart off pos (s ∷ others) = (s.at == off && s.pos == pos) ≡ false

-- the first of these stretches begins with this name, or one after it
abbrev AllLater : (off : ℕ) → List ShownRange → Type 0
AllLater off [] = Unit {0}
AllLater off (s ∷ others) = off ≤ s.at

alone : (off pos : ℕ) (others : List ShownRange) → Apart (off + 1) (pos + 1) others
    → with_shown off pos others ≡ record { at = off; pos = pos; len = 1 } ∷ others
alone off pos [] apart = refl
alone off pos (s ∷ others) apart = rw apart refl

grown : (off pos len : ℕ) (others : List ShownRange)
    → with_shown off pos (record { at = off + 1; pos = pos + 1; len = len } ∷ others)
    ≡ record { at = off; pos = pos; len = len + 1 } ∷ others
grown off pos len others =
    let same : (off + 1 == off + 1 && pos + 1 == pos + 1) ≡ true = grind arith in rw same refl

begins : (off pos : ℕ) (others : List ShownRange)
    → (len : ℕ) × (left : List ShownRange) × (with_shown off pos others ≡ record { at = off; pos = pos; len = len } ∷ left)
begins off pos [] = (1, [], refl)
begins off pos (s ∷ others) = go (s.at == off + 1 && s.pos == pos + 1)
  where
    go : (b : Bool) → (len : ℕ) × (left : List ShownRange)
        × ((if b then record { at = off; pos = pos; len = s.len + 1 } ∷ others
        else record { at = off; pos = pos; len = 1 } ∷ s ∷ others) ≡ record { at = off; pos = pos; len = len } ∷ left)
    go true = (s.len + 1, others, refl)
    go false = (1, s ∷ others, refl)

weaker : (off : ℕ) (others : List ShownRange) → AllLater (off + 1) others → AllLater off others
weaker off [] h = tt
weaker off (s ∷ others) h = omega (arith, h)

not_here : (off pos : ℕ) (others : List ShownRange) → AllLater (off + 1) others → Apart off pos others
not_here off pos [] h = tt
not_here off pos (s ∷ others) h =
    let other : (s.at == off) ≡ false = ne_eqb s.at off (λ e. absurd (omega (arith, e, h))) in rw other refl

not_there : (off p pos : ℕ) → (p ≡ pos → ⊥) → (off == off && p == pos) ≡ false
not_there off p pos differ =
    let other : (p == pos) ≡ false = ne_eqb p pos differ in grind arith

-- of a site's names
module _ (chars : List Char) (site : ℕ) where
  abbrev seen : ℕ → Option ℕ
  seen off = shown_at chars (record { site = site; off = off })

  abbrev stands_from : (at n : ℕ) → List ShownRange
  stands_from at n = shown_ranges chars (names_of (record { site = site; at = at; len = n }))

  after : (at n : ℕ) → AllLater at (stands_from at n)
  after at zero = tt
  after at (suc n) = go (seen at) (after (at + 1) n)
    where
      go : (o : Option ℕ) → AllLater (at + 1) (stands_from (at + 1) n)
          → AllLater at (option_map_or (λ pos. with_shown at pos (stands_from (at + 1) n)) o (stands_from (at + 1) n))
      go None rest = weaker at (stands_from (at + 1) n) rest
      go (Some pos) rest =
          let (len, left, is) = begins at pos (stands_from (at + 1) n) in
          subst (AllLater at) (sym is) (omega arith)

  -- where the next name isn't shown at the next position, no stretch goes on there
  pub apart : (at n pos : ℕ) → (seen at ≡ Some pos → ⊥) → Apart at pos (stands_from at n)
  apart at zero pos other = tt
  apart at (suc n) pos other = go (seen at) other
    where
      go : (o : Option ℕ) → (o ≡ Some pos → ⊥)
          → Apart at pos (option_map_or (λ p. with_shown at p (stands_from (at + 1) n)) o (stands_from (at + 1) n))
      go None differ = not_here at pos (stands_from (at + 1) n) (after (at + 1) n)
      go (Some p) differ =
          let (len, left, is) = begins at p (stands_from (at + 1) n) in
          subst (Apart at pos) (sym is) (not_there at p pos (λ e. differ (ap (λ (k : ℕ). Some k) e)))

  -- a name that is shown, in front of the others
  in_front : (at n pos : ℕ) → seen at ≡ Some pos → stands_from at (suc n) ≡ with_shown at pos (stands_from (at + 1) n)
  in_front at n pos is =
      ap (λ (o : Option ℕ). option_map_or (λ p. with_shown at p (stands_from (at + 1) n)) o (stands_from (at + 1) n)) is

  first : (m at pos : ℕ) → ((k : ℕ) → k < suc m → seen (at + k) ≡ Some (pos + k)) → seen at ≡ Some pos
  first m at pos shown =
      let off : at ≡ at + 0 = omega arith in
      let there : pos + 0 ≡ pos = omega arith in
      ap (λ (a : ℕ). seen a) off ∙ shown 0 (omega arith) ∙ ap (λ (p : ℕ). Some p) there

  -- names that are shown one after the other, with none that goes on, are one stretch
  pub one_stretch : (m at pos n : ℕ) → ((k : ℕ) → k < suc m → seen (at + k) ≡ Some (pos + k))
      → Apart (at + suc m) (pos + suc m) (stands_from (at + suc m) n)
      → stands_from at (suc m + n) ≡ record { at = at; pos = pos; len = suc m } ∷ stands_from (at + suc m) n
  one_stretch zero at pos n shown ends =
      let more : suc zero + n ≡ suc n = omega arith in
      ap (λ (l : ℕ). stands_from at l) more ∙ in_front at n pos (first zero at pos shown) ∙ alone at pos (stands_from (at + 1) n) ends
  one_stretch (suc m) at pos n shown ends =
      let off : at + suc (suc m) ≡ (at + 1) + suc m = omega arith in
      let there : pos + suc (suc m) ≡ (pos + 1) + suc m = omega arith in
      let len : suc m + 1 ≡ suc (suc m) = omega arith in
      let after_it : stands_from (at + 1) (suc m + n)
      ≡ record { at = at + 1; pos = pos + 1; len = suc m } ∷ stands_from ((at + 1) + suc m) n =
      one_stretch m (at + 1) (pos + 1) n (λ k lt.
      let one : (at + 1) + k ≡ at + suc k = omega arith in
      let other : pos + suc k ≡ (pos + 1) + k = omega arith in
      ap (λ (a : ℕ). seen a) one ∙ shown (suc k) (omega (arith, lt)) ∙ ap (λ (p : ℕ). Some p) other)
      (subst (λ (a : ℕ). Apart a ((pos + 1) + suc m) (stands_from a n)) off
      (subst (λ (p : ℕ). Apart (at + suc (suc m)) p (stands_from (at + suc (suc m)) n)) there ends)) in
      let more : suc (suc m) + n ≡ suc (suc m + n) = omega arith in
      ap (λ (l : ℕ). stands_from at l) more ∙ in_front at (suc m + n) pos (first (suc m) at pos shown) ∙ ap (with_shown at pos) after_it
      ∙ grown at pos (suc m) (stands_from ((at + 1) + suc m) n)
      ∙ ap (λ (l : ℕ). record { at = at; pos = pos; len = l } ∷ stands_from ((at + 1) + suc m) n) len
      ∙ ap (λ (a : ℕ). record { at = at; pos = pos; len = suc (suc m) } ∷ stands_from a n) (sym off)
