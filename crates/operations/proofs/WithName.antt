-- What one more name does to the ranges of a set of names.
use Rattle.std.proofs.Common.{◌≡◌, ℕ, ◌+◌, ◌<◌, ◌≤◌, ◌⊎◌, ◌↔◌, inl, inr, Bool, true, false, List, [], ◌∷◌}
use Rattle.std.proofs.Common.{◌++◌, length, get_or, set, take, drop, append_assoc, refl, sym, ap, subst}
use Rattle.std.proofs.Common.{◌∙◌, suc, zero, add-one, length-append, length-drop, Result, Ok, Err, arith}
use Rattle.std.specs.Prelude.{OnOk, OnErr, IsErrOf}
use Rattle.looks.specs.declared.refusal.Refusal.{Refusal}
use Rattle.looks.specs.declared.refusal.Refusal.TheVariants.{Scattered}
use Rattle.std.specs.List.{All, AllPairs, remove}
use Rattle.std.specs.List.Sorted.{IsPartitionedBy}
use Rattle.std.proofs.lemmas.Bool.{cond_both, cond-true, cond-false, cases_lt, cases_eq, cases_order}
use Rattle.std.proofs.lemmas.Bool.{false_from_ne_true, both_ways}
use Rattle.std.proofs.lemmas.List.{get_or_read, get_or_default, drop_more, drop_all, take_more, set_split}
use Rattle.std.proofs.lemmas.List.{set_at, length-take-le, take-append-drop}
use Rattle.std.proofs.lemmas.Bool.Decides.{nat_tests}
use Rattle.char_files.specs.CharName.{CharName}
use Rattle.operations.specs.declared.name_set.TheConstants.{MAX_RANGES}
use Rattle.operations.specs.NameSet.{Range, IsIn, IsAmong, IsRange, IsBefore, IsSet, IsInsertionPoint}
use Rattle.operations.specs.NameSet.{of_name, comes_before, touches, range_contains, with_first, with_range_at}
use Rattle.operations.specs.NameSet.{with_other_at, with_name}

-- what the tests say

pub before : (r s : Range) → comes_before r s ≡ true → IsBefore r s
before r s e = grind (arith, nat_tests)

pub is_before_true : (r s : Range) → IsBefore r s → comes_before r s ≡ true
is_before_true r s h = grind (arith, nat_tests)

touching : (r s : Range) → touches r s ≡ true → (r.site ≡ s.site) × (r.at + r.len ≡ s.at)
touching r s e = grind (arith, nat_tests)

-- r ends at s, or before it
abbrev Leads : Range → Range → Type 0
Leads r s = (r.site < s.site) ⊎ ((r.site ≡ s.site) × (r.at + r.len ≤ s.at))

before_next : (r s : Range) → touches r s ≡ false → Leads r s → IsBefore r s
before_next r s e leads = grind (arith, nat_tests)

in_front : (r : Range) (name : CharName) → comes_before r (of_name name) ≡ false → touches r (of_name name)
    ≡ false → range_contains r name ≡ false → Leads (of_name name) r
in_front r name e f g = grind (arith, nat_tests)

range_contains-in : (r : Range) (name : CharName) → IsIn r name → range_contains r name ≡ true
range_contains-in r name h = grind (arith, nat_tests)

in-range_contains : (r : Range) (name : CharName) → range_contains r name ≡ true → IsIn r name
in-range_contains r name e = grind (arith, nat_tests)

-- sets by recursion

-- the relation to the first range, where there is one
abbrev pub First : (Range → Type 0) → List Range → Type 0
First P [] = Unit {0}
First P (r ∷ ranges) = P r

abbrev pub IsRising : List Range → Type 0
IsRising [] = Unit {0}
IsRising (r ∷ ranges) = IsRange r × First (IsBefore r) ranges × IsRising ranges

First-weaker : (P Q : Range → Type 0) → ((r : Range) → P r → Q r) → (ranges : List Range) → First P ranges
    → First Q ranges
First-weaker P Q f [] h = tt
First-weaker P Q f (r ∷ ranges) h = f r h

First-with_first : (q r : Range) (ranges : List Range) → IsBefore q r → First (IsBefore q) (with_first r ranges)
First-with_first q r [] h = h
First-with_first q r (s ∷ ranges) h = cond_both (touches r s) _ _ (First (IsBefore q)) (λ e. h) (λ e. h)

first_with_name : (q : Range) (ranges : List Range) (name : CharName) → IsBefore q (of_name name)
    → First (IsBefore q) ranges → First (IsBefore q) (with_name ranges name)
first_with_name q [] name h first = h
first_with_name q (r ∷ ranges) name h first =
    cond_both (comes_before r (of_name name)) _ _ (First (IsBefore q)) (λ e. first)
    (λ e. cond_both (touches r (of_name name)) _ _ (First (IsBefore q))
    (λ f. First-with_first q (record r { len = r.len + 1 }) ranges first)
    (λ f. cond_both (range_contains r name) _ _ (First (IsBefore q)) (λ g. first)
    (λ g. First-with_first q (of_name name) (r ∷ ranges) h)))

with_first-rising : (r : Range) (ranges : List Range) → IsRange r → First (Leads r) ranges → IsRising ranges
    → IsRising (with_first r ranges)
with_first-rising r [] range leads rising = (range, tt, tt)
with_first-rising r (s ∷ ranges) range leads rising =
    cond_both (touches r s) _ _ IsRising
    (λ e.
    let t : (r.site ≡ s.site) × (r.at + r.len ≡ s.at) = touching r s e in
    let both : Range = record r { len = r.len + s.len } in
    let next : (q : Range) → IsBefore s q → IsBefore both q = λ q h. grind arith in (
      (omega arith, omega arith, omega arith, omega arith),
      First-weaker (IsBefore s) (IsBefore both) next
          ranges rising.1,
      rising.2,
    ))
    (λ e. (range, before_next r s e leads, rising))

with_name-rising : (ranges : List Range) (name : CharName) → IsRange (of_name name) → IsRising ranges
    → IsRising (with_name ranges name)
with_name-rising [] name one rising = (one, tt, tt)
with_name-rising (r ∷ ranges) name one rising =
    cond_both (comes_before r (of_name name)) _ _ IsRising
    (λ e. (
      rising.0,
      first_with_name r ranges name (before r (of_name name) e) rising.1,
      with_name-rising
          ranges name one rising.2,
    ))
    (λ e. cond_both (touches r (of_name name)) _ _ IsRising
    (λ f.
    let t : (r.site ≡ name.site) × (r.at + r.len ≡ name.off) = touching r (of_name name) f in
    let longer : Range = record r { len = r.len + 1 } in
    let next : (q : Range) → IsBefore r q → Leads longer q = λ q h. grind arith in
    with_first-rising longer ranges (omega arith, omega arith, omega arith, omega arith)
    (First-weaker (IsBefore r) (Leads longer) next ranges rising.1) rising.2)
    (λ f. cond_both (range_contains r name) _ _ IsRising (λ g. rising)
    (λ g. with_first-rising (of_name name) (r ∷ ranges) one (in_front r name e f g) rising)))

-- names by recursion

abbrev pub Among : List Range → CharName → Type 0
Among [] name = ⊥
Among (r ∷ ranges) name = IsIn r name ⊎ Among ranges name

pub same_name : (m n : CharName) → m.site ≡ n.site → m.off ≡ n.off → m ≡ n
same_name m n e f =
    let name_at : ℕ → ℕ → CharName = λ a b. record { site = a; off = b } in
    ap (λ (a : ℕ). name_at a m.off) e ∙ ap (λ (b : ℕ). name_at n.site b) f

-- the names of two ranges that touch
in_both : (r s : Range) (m : CharName) → r.site ≡ s.site → r.at + r.len ≡ s.at → IsIn (record r {
  len =
      r.len + s.len;
}) m → IsIn r m ⊎ IsIn s m
in_both r s m e f h =
    elim (cases_lt m.off s.at) [
      | inl lt ↦ inl (omega arith, omega arith, omega arith)
      | inr ge ↦ inr (omega arith, omega arith, omega arith)
    ]

from_both : (r s : Range) (m : CharName) → r.site ≡ s.site → r.at + r.len ≡ s.at → IsIn r m ⊎ IsIn s m
    → IsIn (record r { len = r.len + s.len }) m
from_both r s m e f (inl h) = (omega arith, omega arith, omega arith)
from_both r s m e f (inr h) = (omega arith, omega arith, omega arith)

in_one : (m name : CharName) → IsIn (of_name name) m → m ≡ name
in_one m name h = same_name m name (omega arith) (omega arith)

from_one : (m name : CharName) → m ≡ name → IsIn (of_name name) m
from_one m name e = rw e (refl, omega arith, omega arith)

with_first-names : (r : Range) (ranges : List Range) (m : CharName)
    → Among (with_first r ranges) m ↔ (IsIn r m ⊎ Among ranges m)
with_first-names r [] m = (λ h. h, λ h. h)
with_first-names r (s ∷ ranges) m =
    cond_both (touches r s) _ _ (λ xs. Among xs m ↔ (IsIn r m ⊎ Among (s ∷ ranges) m))
    (λ e.
    let t : (r.site ≡ s.site) × (r.at + r.len ≡ s.at) = touching r s e in (
      λ h. elim h [
        | inl x ↦ elim (in_both r s m t.0 t.1 x) [ inl y ↦ inl y | inr y ↦ inr (inl y) ]
        | inr x ↦
            inr (inr x)
      ],
      λ h. elim h [
        | inl x ↦ inl (from_both r s m t.0 t.1 (inl x))
        | inr x ↦ elim x [ inl y ↦ inl (from_both r s m t.0 t.1 (inr y)) | inr y ↦ inr y ]
      ],
    ))
    (λ e. (λ h. h, λ h. h))

swap : {A B C : Type 0} → A ⊎ (B ⊎ C) → (A ⊎ B) ⊎ C
swap (inl a) = inl (inl a)
swap (inr (inl b)) = inl (inr b)
swap (inr (inr c)) = inr c

swap_back : {A B C : Type 0} → (A ⊎ B) ⊎ C → A ⊎ (B ⊎ C)
swap_back (inl (inl a)) = inl a
swap_back (inl (inr b)) = inr (inl b)
swap_back (inr c) = inr (inr c)

with_name-names : (ranges : List Range) (name m : CharName)
    → Among (with_name ranges name) m ↔ (Among ranges m ⊎ (m ≡ name))
with_name-names [] name m = (
  λ h. elim h [ inl x ↦ inr (in_one m name x) | inr x ↦ inl x ],
  λ h. elim h
      [ inl x ↦ inr x | inr e ↦ inl (from_one m name e) ],
)
with_name-names (r ∷ ranges) name m =
    cond_both (comes_before r (of_name name)) _ _ (λ xs. Among xs m ↔ (Among (r ∷ ranges) m ⊎ (m ≡ name)))
    (λ e.
    let rest : Among (with_name ranges name) m ↔ (Among ranges m ⊎ (m ≡ name)) =
    with_name-names ranges name m in (
      λ h. elim h [ inl x ↦ inl (inl x) | inr x ↦ swap (inr (rest.0 x)) ],
      λ h. elim (swap_back h) [ inl x ↦ inl x | inr x ↦ inr (rest.1 x) ],
    ))
    (λ e. cond_both (touches r (of_name name)) _ _ (λ xs. Among xs m ↔ (Among (r ∷ ranges) m ⊎ (m ≡ name)))
    (λ f.
    let t : (r.site ≡ name.site) × (r.at + r.len ≡ name.off) = touching r (of_name name) f in
    let is : Among (with_first (record r { len = r.len + 1 }) ranges) m ↔ (IsIn (record r {
      len =
          r.len + 1;
    }) m ⊎ Among ranges m) = with_first-names (record r { len = r.len + 1 }) ranges m in (
      λ h. elim (is.0 h) [
        | inl x ↦ elim (in_both r (of_name name) m t.0 t.1 x) [
          | inl y ↦ inl (inl y)
          | inr y ↦ inr
              (in_one m name y)
        ]
        | inr x ↦ inl (inr x)
      ],
      λ h. is.1 (elim h [
        | inl x ↦ elim x [ inl y ↦ inl (from_both r (of_name name) m t.0 t.1 (inl y)) | inr y ↦ inr y ]
        | inr x ↦ inl (from_both r (of_name name) m t.0 t.1 (inr (from_one m name x)))
      ]),
    ))
    (λ f. cond_both (range_contains r name) _ _ (λ xs. Among xs m ↔ (Among (r ∷ ranges) m ⊎ (m ≡ name)))
    (λ g. (λ h. inl h, λ h. elim h [ inl x ↦ x | inr x ↦ inl (rw x (in-range_contains r name g)) ]))
    (λ g.
    let is : Among (with_first (of_name name) (r ∷ ranges)) m ↔ (IsIn (of_name name) m
    ⊎ Among (r ∷ ranges) m) = with_first-names (of_name name) (r ∷ ranges) m in (
      λ h. elim (is.0 h) [ inl x ↦ inr (in_one m name x) | inr x ↦ inl x ],
      λ h. is.1 (elim h [ inl x ↦ inr x | inr x ↦ inl (from_one m name x) ]),
    ))))

-- from the definitions to the recursions, and back

pub among : (ranges : List Range) (m : CharName) → IsAmong ranges m → Among ranges m
among [] m (k, r, lt, is, h) = absurd (omega arith)
among (x ∷ ranges) m (zero, r, lt, is, h) = inl (rw is h)
among (x ∷ ranges) m (suc k, r, lt, is, h) = inr (among ranges m (k, r, omega arith, is, h))

pub is_among : (ranges : List Range) (m : CharName) → Among ranges m → IsAmong ranges m
is_among [] m h = absurd h
is_among (x ∷ ranges) m (inl h) = (0, x, omega arith, refl, h)
is_among (x ∷ ranges) m (inr h) = let at : IsAmong ranges m = is_among ranges m h in
    (suc at.0, at.1, omega arith, at.3, at.4)

pub rising : (ranges : List Range) → All IsRange ranges → AllPairs IsBefore ranges → IsRising ranges
rising [] all up = tt
rising (r ∷ []) all up = (all 0 r (omega arith), tt, tt)
rising (r ∷ s ∷ ranges) all up = (
  all 0 r (omega arith),
  up 0 1 r (omega arith) (omega arith),
  rising (s ∷ ranges)
      (λ k d h. all (suc k) d (omega arith)) (λ i j d h l. up (suc i) (suc j) d (omega arith)
      (omega arith)),
)

pub ranges_of : (ranges : List Range) → IsRising ranges → All IsRange ranges
ranges_of [] h k d l = absurd (omega arith)
ranges_of (r ∷ ranges) h zero d l = h.0
ranges_of (r ∷ ranges) h (suc k) d l = ranges_of ranges h.2 k d (omega arith)

pub IsBefore-trans : (r s t : Range) → IsBefore r s → IsBefore s t → IsBefore r t
IsBefore-trans r s t a b = grind arith

before_all : (q : Range) (ranges : List Range) → First (IsBefore q) ranges → IsRising ranges
    → All (IsBefore q) ranges
before_all q [] first h k d l = absurd (omega arith)
before_all q (r ∷ ranges) first h zero d l = first
before_all q (r ∷ ranges) first h (suc k) d l =
    before_all q ranges (First-weaker (IsBefore r) (IsBefore q) (λ s a. IsBefore-trans q r s first a) ranges
    h.1) h.2 k d (omega arith)

pub pairs_of : (ranges : List Range) → IsRising ranges → AllPairs IsBefore ranges
pairs_of [] h i j d lt l = absurd (omega arith)
pairs_of (r ∷ ranges) h zero zero d lt l = absurd (omega arith)
pairs_of (r ∷ ranges) h zero (suc j) d lt l = before_all r ranges h.1 h.2 j d (omega arith)
pairs_of (r ∷ ranges) h (suc i) zero d lt l = absurd (omega arith)
pairs_of (r ∷ ranges) h (suc i) (suc j) d lt l = pairs_of ranges h.2 i j d (omega arith) (omega arith)

pub IsSet-with_name : (ranges : List Range) (name : CharName) → IsRange (of_name name) → IsSet ranges
    → IsSet (with_name ranges name)
IsSet-with_name ranges name one set =
    let up : IsRising (with_name ranges name) =
    with_name-rising ranges name one (rising ranges set.ranges set.rising) in
    record { ranges = ranges_of (with_name ranges name) up; rising = pairs_of (with_name ranges name) up }

pub IsAmong-with_name : (ranges : List Range) (name m : CharName)
    → IsAmong (with_name ranges name) m ↔ (IsAmong ranges m ⊎ (m ≡ name))
IsAmong-with_name ranges name m =
    let is : Among (with_name ranges name) m ↔ (Among ranges m ⊎ (m ≡ name)) =
    with_name-names ranges name m in (
      λ h. elim (is.0 (among (with_name ranges name) m h)) [
        | inl x ↦ inl (is_among ranges m x)
        | inr x ↦ inr
            x
      ],
      λ h. is_among (with_name ranges name) m
          (is.1 (elim h [ inl x ↦ inl (among ranges m x) | inr x ↦ inr x ])),
    )

-- the ranges before the name stay
pub with_name-after : (ranges : List Range) (at : ℕ) (name : CharName) → at ≤ length ranges
    → ((k : ℕ) (d : Range) → k < at → IsBefore (get_or ranges k d) (of_name name)) → with_name ranges name
    ≡ take at ranges ++ with_name (drop at ranges) name
with_name-after ranges zero name le h = refl
with_name-after [] (suc at) name le h = absurd (omega arith)
with_name-after (r ∷ ranges) (suc at) name le h =
    cond-true (comes_before r (of_name name)) _ _ (is_before_true r (of_name name) (h 0 r (omega arith)))
    ∙ ap (λ (xs : List Range). r ∷ xs) (with_name-after ranges at name (omega arith)
    (λ k d l. h (suc k) d (omega arith)))

-- what the steps of an insertion leave

abbrev pub Touch : Range → Range → Type 0
Touch r s = (r.site ≡ s.site) × (r.at + r.len ≡ s.at)

abbrev pub both : Range → Range → Range
both r s = record r { len = r.len + s.len }

set_parts : (ranges : List Range) (at : ℕ) (r : Range) → at < length ranges → set ranges at r
    ≡ take at ranges ++ r ∷ drop (at + 1) ranges
set_parts ranges at r lt =
    set_split ranges at r lt ∙ ap (λ (n : ℕ). take at ranges ++ r ∷ drop n ranges) (sym (add-one at))

touches_true : (r s : Range) → Touch r s → touches r s ≡ true
touches_true r s h = grind (arith, nat_tests)

touches_false : (r s : Range) → ¬ Touch r s → touches r s ≡ false
touches_false r s h = false_from_ne_true (touches r s) (λ e. h (touching r s e))

with_first-touching : (ranges : List Range) (at : ℕ) (r s : Range) → at < length ranges
    → s ≡ get_or ranges at s → Touch r s → with_first r (drop at ranges) ≡ both r s ∷ drop (at + 1) ranges
with_first-touching ranges at r s lt is t =
    ap (with_first r) (drop_more ranges at s lt ∙ ap (λ (x : Range). x ∷ drop (at + 1) ranges) (sym is))
    ∙ cond-true (touches r s) _ _ (touches_true r s t)

with_first-apart : (ranges : List Range) (at : ℕ) (r s : Range) → at < length ranges
    → s ≡ get_or ranges at s → ¬ Touch r s → with_first r (drop at ranges) ≡ r ∷ drop at ranges
with_first-apart ranges at r s lt is t =
    let split : drop at ranges ≡ s ∷ drop (at + 1) ranges =
    drop_more ranges at s lt ∙ ap (λ (x : Range). x ∷ drop (at + 1) ranges) (sym is) in
    ap (with_first r) split ∙ cond-false (touches r s) _ _ (touches_false r s t)
    ∙ ap (λ (xs : List Range). r ∷ xs) (sym split)

with_first-past : (ranges : List Range) (at : ℕ) (r : Range)
    → length ranges ≤ at → with_first r (drop at ranges) ≡ r ∷ drop at ranges
with_first-past ranges at r le = let past : drop at ranges ≡ [] = drop_all at ranges le in rw past refl

-- two reads of one point
same_read : (ranges : List Range) (at : ℕ) (s q : Range) → at < length ranges → s ≡ get_or ranges at s
    → q ≡ get_or ranges at q → s ≡ q
same_read ranges at s q lt is is' = get_or_read ranges at s lt is q ∙ sym is'

pub with_range_at-touching : (ranges : List Range) (at : ℕ) (r s q : Range) → at < length ranges
    → s ≡ get_or ranges at s → q ≡ get_or ranges at q → Touch r s → set ranges at (both r q)
    ≡ with_range_at ranges at r
with_range_at-touching ranges at r s q lt is is' t =
    let t' : Touch r q = subst (λ (x : Range). Touch r x) (same_read ranges at s q lt is is') t in
    set_parts ranges at (both r q) lt ∙ ap (λ (xs : List Range). take at ranges
    ++ xs) (sym (with_first-touching ranges at r q lt is' t'))

pub with_other_at-touching : (ranges : List Range) (at : ℕ) (r s q : Range) → at + 1 < length ranges
    → s ≡ get_or ranges (at + 1) s → q ≡ get_or ranges (at + 1) q → Touch r s
    → set (remove ranges (at + 1)) at (both r q) ≡ with_other_at ranges at r
with_other_at-touching ranges at r s q lt is is' t =
    let t' : Touch r q = subst (λ (x : Range). Touch r x) (same_read ranges (at + 1) s q lt is is') t in
    let rest : List Range = drop (at + 1 + 1) ranges in
    let front : remove ranges (at + 1) ≡ take at ranges ++ (get_or ranges at s ∷ rest) =
    ap (λ (n : ℕ). take (at + 1) ranges ++ drop n ranges) (sym (add-one (at + 1)))
    ∙ ap (λ (xs : List Range). xs ++ rest) (take_more ranges at s (omega arith))
    ∙ append_assoc (take at ranges) (get_or ranges at s ∷ []) rest in
    ap (λ (xs : List Range). set xs at (both r q)) front
    ∙ set_at (take at ranges) (get_or ranges at s) rest (both r q) at (length-take-le at ranges (omega arith))
    ∙ ap (λ (xs : List Range). take at ranges ++ xs) (sym (with_first-touching ranges (at + 1) r q lt is' t'))

pub with_other_at-apart : (ranges : List Range) (at : ℕ) (r s : Range) → at + 1 < length ranges
    → s ≡ get_or ranges (at + 1) s → ¬ Touch r s → set ranges at r ≡ with_other_at ranges at r
with_other_at-apart ranges at r s lt is t =
    set_parts ranges at r (omega arith) ∙ ap (λ (xs : List Range). take at ranges
    ++ xs) (sym (with_first-apart ranges (at + 1) r s lt is t))

pub with_other_at-end : (ranges : List Range) (at : ℕ) (r : Range) → at < length ranges
    → length ranges ≤ at + 1 → set ranges at r ≡ with_other_at ranges at r
with_other_at-end ranges at r lt le =
    set_parts ranges at r lt ∙ ap (λ (xs : List Range). take at ranges ++ xs)
    (sym (with_first-past ranges (at + 1) r le))

-- where the ranges before one end
pub IsPartitionedBy-before : (ranges : List Range) (q : Range) → IsSet ranges
    → IsPartitionedBy (λ r. comes_before r q) ranges
IsPartitionedBy-before ranges q set i j d le lt e =
    elim (cases_eq i j) [
      | inl same ↦ rw same e
      | inr apart ↦ is_before_true (get_or ranges i d) q (IsBefore-trans (get_or ranges i d)
          (get_or ranges j d) q (set.rising i j d (omega arith) lt) (before (get_or ranges j d) q e))
    ]

pub before_only : (r q : Range) → comes_before r q ≡ false → ¬ IsBefore r q
before_only r q e h = both_ways (comes_before r q) e (is_before_true r q h)

length-with_first : (r : Range) (ranges : List Range) → length (with_first r ranges) ≤ length ranges + 1
length-with_first r [] = omega arith
length-with_first r (s ∷ ranges) =
    cond_both (touches r s) _ _ (λ xs. length xs ≤ length (s ∷ ranges) + 1) (λ e. omega arith)
    (λ e. omega arith)

-- one more range at most
pub length-with_range_at : (ranges : List Range) (at : ℕ) (r : Range) → at ≤ length ranges
    → length (with_range_at ranges at r) ≤ length ranges + 1
length-with_range_at ranges at r le =
    omega (
      arith,
      length-append (take at ranges) (with_first r (drop at ranges)),
      length-with_first r (drop at ranges),
      length-drop at ranges,
      length-take-le at ranges le,
    )

pub length-with_other_at : (ranges : List Range) (at : ℕ) (r : Range) → at < length ranges
    → length (with_other_at ranges at r) ≤ length ranges
length-with_other_at ranges at r lt =
    omega (
      arith,
      length-append (take at ranges) (with_first r (drop (at + 1) ranges)),
      length-with_first r
          (drop (at + 1) ranges),
      length-drop (at + 1) ranges,
      length-take-le at ranges (omega arith),
    )

pub not_scattered : (xs ys : List Range) → xs ≡ ys → length ys ≤ MAX_RANGES → IsErrOf {T = Unit {0}} {E =
    Refusal} (Ok tt) Scattered ↔ (MAX_RANGES < length xs)
not_scattered xs ys e few = (λ h. absurd (cc), λ more. absurd (omega (arith, ap length e)))

-- an insertion leaves a set of at most 1,024 ranges
pub set_after : (result : Result (Unit {0}) Refusal) (old new : List Range) (name : CharName)
    → IsRange (of_name name) → IsSet old → length old ≤ MAX_RANGES → OnOk result (new ≡ with_name old name)
    → (IsErrOf result Scattered ↔ (MAX_RANGES < length (with_name old name))) → OnErr result (new ≡ old)
    → IsSet new × (length new ≤ MAX_RANGES)
set_after (Ok done) old new name one set few ok scattered err =
    elim (cases_lt MAX_RANGES (length (with_name old name))) [
      | inl more ↦ let e : ◌≡◌ {A = Result (Unit {0}) Refusal} (Ok done) (Err Scattered) =
          scattered.1 more in absurd cc
      | inr le ↦ rw ok (IsSet-with_name old name one set, le)
    ]
set_after (Err e) old new name one set few ok scattered err = rw err (set, few)

-- a name of the set is in the range at its point
in_at_point : (ranges : List Range) (at : ℕ) (name : CharName) → IsSet ranges
    → IsInsertionPoint ranges at (of_name name) → IsAmong ranges name → (d : Range) → (at < length ranges)
    × IsIn (get_or ranges at d) name
in_at_point ranges at name set point (k, r, lt, is, h) d =
    let here : get_or ranges k d ≡ r = get_or_default ranges k d r lt ∙ is in
    let inside : IsIn (get_or ranges k d) name = rw here h in
    elim (cases_order k at) [
      | inl same ↦ subst (λ (n : ℕ). (n < length ranges) × IsIn (get_or ranges n d) name) same (lt, inside)
      | inr apart ↦ elim apart [
        | inl below ↦ let past : IsBefore (get_or ranges k d) (of_name name) =
            point.0 k d (omega arith) below in absurd (grind arith)
        | inr above ↦
            let past : IsBefore (get_or ranges at d) (get_or ranges k d) = set.rising at k d above lt in
            absurd (point.1 at d (omega arith) (omega arith) (grind arith))
      ]
    ]

pub among_at_point : (ranges : List Range) (at : ℕ) (name : CharName) (r : Range) (b : Bool) → IsSet ranges
    → IsInsertionPoint ranges at (of_name name) → at < length ranges → r ≡ get_or ranges at r
    → (b ≡ true) ↔ IsIn r name → (b ≡ true) ↔ IsAmong ranges name
among_at_point ranges at name r b set point lt is h = (
  λ e. (at, r, lt, sym is, h.0 e),
  λ among. h.1 (subst (λ (x : Range). IsIn x name) (sym is)
      (in_at_point ranges at name set point among r).1),
)

pub not_among : (ranges : List Range) (at : ℕ) (name : CharName) (r : Range) → IsSet ranges
    → IsInsertionPoint ranges at (of_name name) → r ≡ get_or ranges at r → ¬ IsIn r name
    → ¬ IsAmong ranges name
not_among ranges at name r set point is h among =
    h (subst (λ (x : Range). IsIn x name) (sym is) (in_at_point ranges at name set point among r).1)

pub none_past : (ranges : List Range) (at : ℕ) (name : CharName) → IsSet ranges
    → IsInsertionPoint ranges at (of_name name) → length ranges ≤ at → ¬ IsAmong ranges name
none_past ranges at name set point past among =
    let within : at < length ranges = (in_at_point ranges at name set point among (of_name name)).0 in
    absurd (omega arith)

-- what an insertion does at its point
module _ (ranges : List Range) (at : ℕ) (name : CharName) (le : at ≤ length ranges)
    (point : IsInsertionPoint ranges at (of_name name)) where
  after : with_name ranges name ≡ take at ranges ++ with_name (drop at ranges) name
  after = with_name-after ranges at name le (λ k d lt. point.0 k d (omega arith) lt)

  pub with_name-past : length ranges ≤ at → with_name ranges name ≡ with_range_at ranges at (of_name name)
  with_name-past past = let rest : drop at ranges ≡ [] = drop_all at ranges past in after ∙ rw rest refl

  module _ (r : Range) (lt : at < length ranges) (is : r ≡ get_or ranges at r) where
    split : drop at ranges ≡ r ∷ drop (at + 1) ranges
    split = drop_more ranges at r lt ∙ ap (λ (x : Range). x ∷ drop (at + 1) ranges) (sym is)

    not_earlier : comes_before r (of_name name) ≡ false
    not_earlier =
        false_from_ne_true (comes_before r (of_name name)) (λ e. point.1 at r (omega arith) lt
        (rw (sym is) (before r (of_name name) e)))

    step : with_name ranges name ≡ take at ranges ++ with_name (r ∷ drop (at + 1) ranges) name
    step = after ∙ ap (λ (xs : List Range). take at ranges ++ with_name xs name) split

    pub with_name-touching : Touch r (of_name name) → with_name ranges name
        ≡ with_other_at ranges at (both r (of_name name))
    with_name-touching t =
        step ∙ ap (λ (xs : List Range). take at ranges ++ xs)
        (cond-false (comes_before r (of_name name)) _ _ not_earlier ∙ cond-true (touches r (of_name name)) _ _
        (touches_true r (of_name name) t))

    pub with_name-held : IsIn r name → with_name ranges name ≡ ranges
    with_name-held h =
        let apart : touches r (of_name name) ≡ false =
        touches_false r (of_name name) (λ t. absurd (omega arith)) in
        step ∙ ap (λ (xs : List Range). take at ranges ++ xs)
        (cond-false (comes_before r (of_name name)) _ _ not_earlier ∙ cond-false (touches r (of_name name)) _ _
        apart ∙ cond-true (range_contains r name) _ _ (range_contains-in r name h) ∙ sym split)
        ∙ take-append-drop at ranges

    pub with_name-apart : ¬ Touch r (of_name name) → ¬ IsIn r name → with_name ranges name
        ≡ with_range_at ranges at (of_name name)
    with_name-apart t h =
        let out : range_contains r name ≡ false =
        false_from_ne_true (range_contains r name) (λ e. h (in-range_contains r name e)) in
        step ∙ ap (λ (xs : List Range). take at ranges ++ xs)
        (cond-false (comes_before r (of_name name)) _ _ not_earlier ∙ cond-false (touches r (of_name name)) _ _
        (touches_false r (of_name name) t) ∙ cond-false (range_contains r name) _ _ out
        ∙ ap (with_first (of_name name)) (sym split))
