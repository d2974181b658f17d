-- A set of names is told by its names, and `set_of` makes the set that has them.
use Rattle.std.proofs.Common.{◌≡◌, ℕ, ◌+◌, ◌<◌, ◌≤◌, ◌⊎◌, ◌↔◌, inl, inr, List, [], ◌∷◌, refl, ap, ◌∙◌}
use Rattle.std.proofs.Common.{sym, subst, suc, Contains, arith}
use Rattle.std.specs.List.{All}
use Rattle.std.proofs.lemmas.Bool.{cases_lt}
use Rattle.char_files.specs.CharName.{CharName}
use Rattle.operations.specs.NameSet.{Range, IsIn, IsAmong, IsRange, IsBefore, IsSet, IsFileName, set_of}
use Rattle.operations.proofs.NamesOf.{Has, has, contains}
use Rattle.operations.proofs.WithName.{IsRising, Among, among, is_among, rising}
use Rattle.operations.proofs.WithName.{IsSet-with_name, IsAmong-with_name}

-- the name at an offset
abbrev name_at : ℕ → ℕ → CharName
name_at site off = record { site = site; off = off }

abbrev range_at : ℕ → ℕ → ℕ → Range
range_at site at len = record { site = site; at = at; len = len }

-- the names after the first range leave a gap to it
beyond : (r : Range) (ranges : List Range) (m : CharName) → IsRising (r ∷ ranges) → Among ranges m
    → (r.site < m.site) ⊎ ((r.site ≡ m.site) × (r.at + r.len < m.off))
beyond r [] m up h = absurd h
beyond r (s ∷ ranges) m up (inl h) = let before : IsBefore r s = up.1 in grind arith
beyond r (s ∷ ranges) m up (inr h) =
    let before : IsBefore r s = up.1 in
    let past : (s.site < m.site) ⊎ ((s.site ≡ m.site) × (s.at + s.len < m.off)) =
    beyond s ranges m up.2 h in
    grind arith

not_in_first : (r : Range) (ranges : List Range) (m : CharName) → IsRising (r ∷ ranges) → Among ranges m
    → ¬ IsIn r m
not_in_first r ranges m up h inside =
    let past : (r.site < m.site) ⊎ ((r.site ≡ m.site) × (r.at + r.len < m.off)) =
    beyond r ranges m up h in
    absurd (grind arith)

-- the name where the first range ends is none of the set's
end_is_out : (r : Range) (ranges : List Range) → IsRising (r ∷ ranges)
    → ¬ Among (r ∷ ranges) (name_at r.site (r.at + r.len))
end_is_out r ranges up (inl h) = absurd (omega arith)
end_is_out r ranges up (inr h) =
    let past : (r.site < r.site) ⊎ ((r.site ≡ r.site) × (r.at + r.len < r.at + r.len)) =
    beyond r ranges (name_at r.site (r.at + r.len)) up h in
    absurd (grind arith)

-- no name stands before the first range's first
none_earlier : (r : Range) (ranges : List Range) (m : CharName) → IsRising (r ∷ ranges)
    → Among (r ∷ ranges) m → (r.site < m.site) ⊎ ((r.site ≡ m.site) × (r.at ≤ m.off))
none_earlier r ranges m up (inl h) = grind arith
none_earlier r ranges m up (inr h) =
    let past : (r.site < m.site) ⊎ ((r.site ≡ m.site) × (r.at + r.len < m.off)) =
    beyond r ranges m up h in
    grind arith

first_name : (r : Range) → IsRange r → IsIn r (name_at r.site r.at)
first_name r range = (refl, omega arith, omega arith)

same_range : (r s : Range) → r.site ≡ s.site → r.at ≡ s.at → r.len ≡ s.len → r ≡ s
same_range r s e f g =
    ap (λ (n : ℕ). range_at n r.at r.len) e ∙ ap (λ (n : ℕ). range_at s.site n r.len) f
    ∙ ap (λ (n : ℕ). range_at s.site s.at n) g

-- the first range is no longer than that of a set with the same names
no_longer : (r s : Range) (ranges ranges' : List Range) → IsRising (s ∷ ranges')
    → ((c : CharName) → Among (r ∷ ranges) c → Among (s ∷ ranges') c) → r.site ≡ s.site → r.at ≡ s.at
    → r.len ≤ s.len
no_longer r s ranges ranges' up goes e f =
    elim (cases_lt s.len r.len) [
      | inl longer ↦ absurd (end_is_out s ranges' up (goes (name_at s.site (s.at + s.len))
          (inl (sym e, omega arith, omega arith))))
      | inr le ↦ le
    ]

same_first : (r s : Range) (ranges ranges' : List Range) → IsRising (r ∷ ranges) → IsRising (s ∷ ranges')
    → ((c : CharName) → Among (r ∷ ranges) c ↔ Among (s ∷ ranges') c) → r ≡ s
same_first r s ranges ranges' up up' is =
    let late : (s.site < r.site) ⊎ ((s.site ≡ r.site) × (s.at ≤ r.at)) =
    none_earlier s ranges' (name_at r.site r.at) up'
    ((is (name_at r.site r.at)).0 (inl (first_name r up.0))) in
    let early : (r.site < s.site) ⊎ ((r.site ≡ s.site) × (r.at ≤ s.at)) =
    none_earlier r ranges (name_at s.site s.at) up
    ((is (name_at s.site s.at)).1 (inl (first_name s up'.0))) in
    let site : r.site ≡ s.site = grind arith in
    let at : r.at ≡ s.at = grind arith in
    let le : r.len ≤ s.len = no_longer r s ranges ranges' up' (λ c. (is c).0) site at in
    let ge : s.len ≤ r.len = no_longer s r ranges' ranges up (λ c. (is c).1) (sym site) (sym at) in
    same_range r s site at (omega arith)

-- what is after equal first ranges has the same names too
rest_goes : (r s : Range) (ranges ranges' : List Range) (c : CharName) → IsRising (r ∷ ranges) → r ≡ s
    → (Among (r ∷ ranges) c → Among (s ∷ ranges') c) → Among ranges c → Among ranges' c
rest_goes r s ranges ranges' c up e goes h =
    elim (goes (inr h)) [
      | inl inside ↦ absurd (not_in_first r ranges c up h (subst (λ (x : Range). IsIn x c) (sym e) inside))
      | inr after ↦ after
    ]

same_ranges : (xs ys : List Range) → IsRising xs → IsRising ys
    → ((c : CharName) → Among xs c ↔ Among ys c) → xs ≡ ys
same_ranges [] [] up up' is = refl
same_ranges [] (s ∷ ys) up up' is =
    absurd ((is (name_at s.site s.at)).1 (inl (first_name s up'.0)))
same_ranges (r ∷ xs) [] up up' is =
    absurd ((is (name_at r.site r.at)).0 (inl (first_name r up.0)))
same_ranges (r ∷ xs) (s ∷ ys) up up' is =
    let e : r ≡ s = same_first r s xs ys up up' is in
    let rest : xs ≡ ys = same_ranges xs ys up.2 up'.2 (λ c. (
      rest_goes r s xs ys c up e (is c).0,
      rest_goes s r ys xs c up' (sym e) (is c).1,
    )) in
    ap (λ (x : Range). x ∷ xs) e ∙ ap (λ (zs : List Range). s ∷ zs) rest

pub names_determine_the_set : (xs ys : List Range) → IsSet xs → IsSet ys
    → ((c : CharName) → IsAmong xs c ↔ IsAmong ys c) → xs ≡ ys
names_determine_the_set xs ys set set' is =
    same_ranges xs ys (rising xs set.ranges set.rising) (rising ys set'.ranges set'.rising) (λ c. (
      λ h. among ys c ((is c).0 (is_among xs c h)),
      λ h. among xs c ((is c).1 (is_among ys c h)),
    ))

-- `set_of`

pub IsSet-set_of : (names : List CharName) → All IsFileName names → IsSet (set_of names)
IsSet-set_of [] all = record { ranges = λ k d l. absurd (omega arith); rising = λ i j d lt l. absurd (omega arith) }
IsSet-set_of (name ∷ names) all =
    let one : IsFileName name = all 0 name (omega arith) in
    IsSet-with_name (set_of names) name (one.0, one.1, omega arith, omega arith)
    (IsSet-set_of names (λ k d l. all (suc k) d (omega arith)))

set_of-names : (names : List CharName) (c : CharName) → IsAmong (set_of names) c ↔ Has names c
set_of-names [] c = (λ h. among [] c h, λ h. absurd h)
set_of-names (name ∷ names) c =
    let is : IsAmong (set_of (name ∷ names)) c ↔ (IsAmong (set_of names) c ⊎ (c ≡ name)) =
    IsAmong-with_name (set_of names) name c in
    let rest : IsAmong (set_of names) c ↔ Has names c = set_of-names names c in (
      λ h. elim (is.0 h) [ inl a ↦ inr (rest.0 a) | inr e ↦ inl (sym e) ],
      λ h. is.1 (elim h [ inl e ↦ inr (sym e) | inr a ↦ inl (rest.1 a) ]),
    )

pub IsAmong-set_of : (names : List CharName) (c : CharName) → IsAmong (set_of names) c ↔ Contains names c
IsAmong-set_of names c = (
  λ h. contains names c ((set_of-names names c).0 h),
  λ h. (set_of-names names c).1 (has names c h),
)
