-- A stretch of names that are shown one after the other, as long as it goes.
use Rattle.std.proofs.Common.{◌≡◌, ℕ, zero, suc, ◌+◌, ◌-◌, ◌<◌, ◌≤◌, List, [], ◌∷◌, length, take, drop, slice_get, Some, inl, inr, sym, ap, subst, ◌∙◌, arith}
use Rattle.std.proofs.lemmas.Bool.{cases_lt}
use Rattle.std.proofs.lemmas.Option.{same_Some, slice_get_within}
use Rattle.std.proofs.lemmas.List.{length-drop, length-take}
use Rattle.char_files.specs.CharName.{CharName}
use Rattle.char_files.specs.declared.character.Char.{Char}
use Rattle.operations.specs.NameSet.{Range, names_of}
use Rattle.texts.specs.Text.{IsText}
use Rattle.texts.specs.TextState.{TextState, shown_of}
use Rattle.texts.proofs.Walking.{next_at}
use Rattle.machine.specs.WhereShown.{shown_at, shown_ranges}
use Rattle.desk_texts.proofs.Standing.{StandsAt, found, told}
use Rattle.desk_texts.proofs.Stands.{Apart, apart, one_stretch}

-- so many names of a site
abbrev names_from : (site at len : ℕ) → List CharName
names_from site at len = names_of (record { site = site; at = at; len = len })

-- the first so many of a range's names are shown one after the other
abbrev pub AreShown : List Char → Range → (pos len : ℕ) → Type 0
AreShown shown names pos len =
    (k : ℕ) → k < len → StandsAt shown (record { site = names.site; off = names.at + k }) (pos + k)

-- they are within the text
pub shown_within : (shown : List Char) (names : Range) (pos len : ℕ)
    → shown_at shown (record { site = names.site; off = names.at }) ≡ Some pos → AreShown shown names pos len
    → pos + len ≤ length shown
shown_within shown names pos zero first are =
    let here : StandsAt shown (record { site = names.site; off = names.at }) pos =
    found shown (record { site = names.site; off = names.at }) pos first in
    omega (arith, slice_get_within shown pos here.char here.at)
shown_within shown names pos (suc len) first are =
    let last : StandsAt shown (record { site = names.site; off = names.at + len }) (pos + len) = are len (omega arith) in
    omega (arith, slice_get_within shown (pos + len) last.char last.at)

-- with none that goes on after them they are one stretch
pub longest : (t : TextState) → IsText t → (names : Range) (pos len : ℕ) → AreShown (shown_of t) names pos len → 0 < len
    → len ≤ names.len
    → (len < names.len
    → StandsAt (shown_of t) (record { site = names.site; off = names.at + len }) (pos + len) → ⊥)
    → shown_ranges (shown_of t) (names_of names) ≡ record { at = names.at; pos = pos; len = len } ∷ shown_ranges (shown_of t)
    (names_of (record { site = names.site; at = names.at + len; len = names.len - len }))
longest t is names pos zero are some few ends = absurd (omega (arith, some))
longest t is names pos (suc len) are some few ends =
    let whole : names.len ≡ suc len + (names.len - suc len) = omega (arith, few) in
    ap (λ (n : ℕ). shown_ranges (shown_of t) (names_from names.site names.at n)) whole
    ∙ one_stretch (shown_of t) names.site len names.at pos (names.len - suc len)
    (λ k lt. told t is (record { site = names.site; off = names.at + k }) (pos + k) (are k lt))
    (parted (names.len - suc len) (λ more. ends (omega (arith, more))))
  where
    parted : (n : ℕ)
        → (0 < n → StandsAt (shown_of t) (record { site = names.site; off = names.at + suc len }) (pos + suc len) → ⊥)
        → Apart (names.at + suc len) (pos + suc len)
        (shown_ranges (shown_of t) (names_from names.site (names.at + suc len) n))
    parted zero last = tt
    parted (suc n) last =
        apart (shown_of t) names.site (names.at + suc len) (suc n) (pos + suc len)
        (λ there. last (omega arith) (found (shown_of t) (record { site = names.site; off = names.at + suc len }) (pos + suc len) there))

-- what stands in a part of a list stands in the list
pub of_front : {X : Type 0} (n k : ℕ) (xs : List X) (x : X) → slice_get (take n xs) k ≡ Some x → slice_get xs k ≡ Some x
of_front zero k xs x at = absurd cc
of_front (suc n) k [] x at = at
of_front (suc n) zero (y ∷ xs) x at = at
of_front (suc n) (suc k) (y ∷ xs) x at = of_front n k xs x at

pub of_back : {X : Type 0} (n k : ℕ) (xs : List X) (x : X) → slice_get (drop n xs) k ≡ Some x → slice_get xs (n + k) ≡ Some x
of_back {X = X} zero k xs x at =
    let here : k ≡ 0 + k = omega arith in subst (λ (i : ℕ). slice_get xs i ≡ Some x) here at
of_back (suc n) k [] x at = absurd cc
of_back {X = X} (suc n) k (y ∷ xs) x at =
    let next : suc (n + k) ≡ suc n + k = omega arith in
    subst (λ (i : ℕ). slice_get (y ∷ xs) i ≡ Some x) next (of_back n k xs x at)

-- a part of a list has more where both go on
goes_on : {X : Type 0} (n k : ℕ) (xs : List X) → k < n → k < length xs → drop k (take n xs) ≡ [] → ⊥
goes_on zero k xs lt within none = absurd (omega (arith, lt))
goes_on (suc n) k [] lt within none = absurd (omega (arith, within))
goes_on (suc n) zero (x ∷ xs) lt within none = absurd cc
goes_on (suc n) (suc k) (x ∷ xs) lt within none = goes_on n k xs (omega (arith, lt)) (omega (arith, within)) none

-- of a walk over so many characters from a position on, which has passed the first ones
module _ (shown : List Char) (names : Range) (pos most len : ℕ) where
  abbrev name_after : CharName
  name_after = record { site = names.site; off = names.at + len }

  walk_at : (c : Char) (rest : List Char) → drop len (take most (drop pos shown)) ≡ c ∷ rest
      → slice_get shown (pos + len) ≡ Some c
  walk_at c rest at =
      of_back pos len shown c (of_front most len (drop pos shown) c (next_at len (take most (drop pos shown)) rest c at).0)

  -- it hasn't passed all of them where it has one more
  pub walk_within : (c : Char) (rest : List Char) → drop len (take most (drop pos shown)) ≡ c ∷ rest → len < most
  walk_within c rest at =
      omega (
        arith,
        slice_get_within (take most (drop pos shown)) len c (next_at len (take most (drop pos shown)) rest c at).0,
        length-take most (drop pos shown),
      )

  -- another character there than that of the next name ends the stretch
  pub ends_at_another : (c : Char) (rest : List Char) → drop len (take most (drop pos shown)) ≡ c ∷ rest
      → (c.name ≡ record { site = names.site; off = names.at + len } → ⊥)
      → StandsAt shown (record { site = names.site; off = names.at + len }) (pos + len) → ⊥
  ends_at_another c rest at other here =
      other (ap (λ (x : Char). x.name) (same_Some c here.char (sym (walk_at c rest at) ∙ here.at)) ∙ here.named)

  -- and so does the text's end
  pub ends_at_the_end : drop len (take most (drop pos shown)) ≡ []
      → (len < names.len → pos + len < length shown → len < most) → len < names.len
      → StandsAt shown (record { site = names.site; off = names.at + len }) (pos + len) → ⊥
  ends_at_the_end none enough more here =
      let within : pos + len < length shown = slice_get_within shown (pos + len) here.char here.at in
      goes_on most len (drop pos shown) (enough more within) (omega (arith, within, length-drop pos shown)) none

  -- a stretch that has ended where its first name isn't has begun
  pub has_begun : 0 < names.len → shown_at shown (record { site = names.site; off = names.at }) ≡ Some pos
      → (len < names.len → StandsAt shown (record { site = names.site; off = names.at + len }) (pos + len) → ⊥) → 0 < len
  has_begun some_name first ends = elim (cases_lt 0 len) [
    | inl some ↦ some
    | inr none ↦
        let off : names.at ≡ names.at + len = omega (arith, none) in
        let there : pos ≡ pos + len = omega (arith, none) in
        absurd (ends (omega (arith, none, some_name)) (subst (λ (q : ℕ). StandsAt shown name_after q) there
        (subst (λ (o : ℕ). StandsAt shown (record { site = names.site; off = o }) pos) off
        (found shown (record { site = names.site; off = names.at }) pos first))))
  ]

  -- one name more
  pub one_more : AreShown shown names pos len → (c : Char) (rest : List Char)
      → drop len (take most (drop pos shown)) ≡ c ∷ rest
      → c.name ≡ record { site = names.site; off = names.at + len } → AreShown shown names pos (len + 1)
  one_more are c rest at same k lt = elim (cases_lt k len) [
    | inl before ↦ are k before
    | inr last ↦
        let here : k ≡ len = omega (arith, lt, last) in
        subst (λ (j : ℕ). StandsAt shown (record { site = names.site; off = names.at + j }) (pos + j)) (sym here)
        (record { char = c; at = walk_at c rest at; named = same })
  ]

  -- what is left then
  pub left_after : (c : Char) (rest : List Char) → drop len (take most (drop pos shown)) ≡ c ∷ rest
      → rest ≡ drop (len + 1) (take most (drop pos shown))
  left_after c rest at = sym (next_at len (take most (drop pos shown)) rest c at).1
