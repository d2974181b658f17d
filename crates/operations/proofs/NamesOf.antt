-- The names of the ranges of a set, each once.
use Rattle.std.proofs.Common.{◌≡◌, ◌≢◌, ℕ, ◌+◌, ◌⊎◌, ◌↔◌, inl, inr, List, [], ◌∷◌, ◌++◌, get_or, refl, sym}
use Rattle.std.proofs.Common.{ap, ◌∙◌, suc, zero, AllPairs, Contains, arith}
use Rattle.std.proofs.lemmas.Bool.{cases_eq}
use Rattle.std.proofs.lemmas.List.{get_or_default}
use Rattle.std.proofs.lemmas.List.Kept.{AllPairs-cons}
use Rattle.char_files.specs.CharName.{CharName}
use Rattle.operations.specs.NameSet.{Range, IsIn, IsAmong, IsBefore, IsSet, names_of, names_in}
use Rattle.operations.proofs.WithName.{Among, among, is_among, same_name}

-- lists of names by recursion

abbrev pub Has : List CharName → CharName → Type 0
Has [] name = ⊥
Has (m ∷ names) name = (m ≡ name) ⊎ Has names name

pub has : (names : List CharName) (name : CharName) → Contains names name → Has names name
has [] name (k, lt, is) = absurd (omega arith)
has (m ∷ names) name (zero, lt, is) = inl is
has (m ∷ names) name (suc k, lt, is) = inr (has names name (k, omega arith, is))

pub contains : (names : List CharName) (name : CharName) → Has names name → Contains names name
contains [] name h = absurd h
contains (m ∷ names) name (inl e) = (0, omega arith, e)
contains (m ∷ names) name (inr h) = let at : Contains names name = contains names name h in
    (suc at.0, omega arith, at.2)

has_part : (xs ys : List CharName) (name : CharName) → Has (xs ++ ys) name → Has xs name ⊎ Has ys name
has_part [] ys name h = inr h
has_part (x ∷ xs) ys name (inl e) = inl (inl e)
has_part (x ∷ xs) ys name (inr h) = elim (has_part xs ys name h) [ inl a ↦ inl (inr a) | inr b ↦ inr b ]

has_whole : (xs ys : List CharName) (name : CharName) → Has xs name ⊎ Has ys name → Has (xs ++ ys) name
has_whole [] ys name (inl h) = absurd h
has_whole [] ys name (inr h) = h
has_whole (x ∷ xs) ys name (inl (inl e)) = inl e
has_whole (x ∷ xs) ys name (inl (inr h)) = inr (has_whole xs ys name (inl h))
has_whole (x ∷ xs) ys name (inr h) = inr (has_whole xs ys name (inr h))

abbrev IsOnceEach : List CharName → Type 0
IsOnceEach [] = Unit {0}
IsOnceEach (name ∷ names) = (¬ Has names name) × IsOnceEach names

once_both : (xs ys : List CharName) → IsOnceEach xs → IsOnceEach ys → ((name : CharName) → Has xs name
    → ¬ Has ys name) → IsOnceEach (xs ++ ys)
once_both [] ys once once' apart = once'
once_both (x ∷ xs) ys once once' apart = (
  λ h. elim (has_part xs ys x h) [ inl a ↦ once.0 a | inr b ↦ apart x (inl refl) b ],
  once_both xs ys
      once.1 once' (λ name h. apart name (inr h)),
)

pairs_apart : (names : List CharName) → IsOnceEach names → AllPairs (λ a b. a ≢ b) names
pairs_apart [] once = λ i j d lt l. absurd (omega arith)
pairs_apart (name ∷ names) once =
    AllPairs-cons (λ a b. a ≢ b) name names
    (λ k d l e. once.0 (has names name (k, l, get_or_default names k name d l ∙ sym e)))
    (pairs_apart names once.1)

-- one range's names

of_range : (site at len : ℕ) (name : CharName) → Has (names_of (record { site = site; at = at; len = len }))
    name → IsIn (record { site = site; at = at; len = len }) name
of_range site at zero name h = absurd h
of_range site at (suc len) name (inl e) =
    let same_site : site ≡ name.site = ap (λ (n : CharName). n.site) e in
    let same_off : at ≡ name.off = ap (λ (n : CharName). n.off) e in
    (sym same_site, omega arith, omega arith)
of_range site at (suc len) name (inr h) =
    let there : IsIn (record { site = site; at = at + 1; len = len }) name =
    of_range site (at + 1) len name h in
    (there.0, omega arith, omega arith)

range_has : (site at len : ℕ) (name : CharName) → IsIn (record { site = site; at = at; len = len }) name
    → Has (names_of (record { site = site; at = at; len = len })) name
range_has site at zero name h = absurd (omega arith)
range_has site at (suc len) name h =
    elim (cases_eq at name.off) [
      | inl e ↦ inl (same_name (record { site = site; off = at }) name (sym h.0) e)
      | inr apart ↦ inr (range_has site (at + 1) len name (h.0, omega arith, omega arith))
    ]

once_of : (site at len : ℕ) → IsOnceEach (names_of (record { site = site; at = at; len = len }))
once_of site at zero = tt
once_of site at (suc len) = (
  λ h. let there : IsIn (record { site = site; at = at + 1; len = len }) (record {
    site = site;
    off =
        at;
  }) = of_range site (at + 1) len (record { site = site; off = at }) h in
      absurd (omega arith),
  once_of site (at + 1) len,
)

-- all ranges' names

in_ranges : (ranges : List Range) (name : CharName) → Has (names_in ranges) name → Among ranges name
in_ranges [] name h = absurd h
in_ranges (r ∷ ranges) name h =
    elim (has_part (names_of r) (names_in ranges) name h) [
      | inl a ↦ inl (of_range r.site r.at r.len name a)
      | inr b ↦ inr (in_ranges ranges name b)
    ]

ranges_have : (ranges : List Range) (name : CharName) → Among ranges name → Has (names_in ranges) name
ranges_have [] name h = absurd h
ranges_have (r ∷ ranges) name (inl a) =
    has_whole (names_of r) (names_in ranges) name (inl (range_has r.site r.at r.len name a))
ranges_have (r ∷ ranges) name (inr b) =
    has_whole (names_of r) (names_in ranges) name (inr (ranges_have ranges name b))

pub Contains-names_in : (ranges : List Range) (name : CharName)
    → Contains (names_in ranges) name ↔ IsAmong ranges name
Contains-names_in ranges name = (
  λ h. is_among ranges name (in_ranges ranges name (has (names_in ranges) name h)),
  λ h. contains
      (names_in ranges) name (ranges_have ranges name (among ranges name h)),
)

-- a range before all others has none of their names
none_after : (r : Range) (ranges : List Range) (name : CharName) → AllPairs IsBefore (r ∷ ranges)
    → IsIn r name → ¬ IsAmong ranges name
none_after r ranges name up h (k, s, lt, is, h') =
    let before : IsBefore r (get_or ranges k s) = up 0 (suc k) s (omega arith) (omega arith) in
    let before' : IsBefore r s = rw is at before in
    absurd (grind arith)

once_in : (ranges : List Range) → AllPairs IsBefore ranges → IsOnceEach (names_in ranges)
once_in [] up = tt
once_in (r ∷ ranges) up =
    once_both (names_of r) (names_in ranges) (once_of r.site r.at r.len)
    (once_in ranges (λ i j d lt l. up (suc i) (suc j) d (omega arith) (omega arith)))
    (λ name a b. none_after r ranges name up (of_range r.site r.at r.len name a)
    (is_among ranges name (in_ranges ranges name b)))

pub AllPairs-names_in : (ranges : List Range) → IsSet ranges → AllPairs (λ a b. a ≢ b) (names_in ranges)
AllPairs-names_in ranges set = pairs_apart (names_in ranges) (once_in ranges set.rising)
