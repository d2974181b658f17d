-- Ranges in any order, made the ranges of a set.
use Rattle.std.proofs.Common.{◌≡◌, ℕ, ◌+◌, ◌-◌, ◌<◌, ◌≤◌, ◌⊎◌, ◌↔◌, inl, inr, List, [], ◌∷◌, ◌++◌, refl, ap}
use Rattle.std.proofs.Common.{sym, subst, ◌∙◌, length, Contains, take, drop, set, get_or, arith}
use Rattle.std.proofs.Common.{Some, false, Ordering, length-append, length-drop, IsPermutation}
use Rattle.std.specs.List.{All, AllPairs}
use Rattle.std.specs.List.Sorted.{IsSortedByKey}
use Rattle.std.specs.Ordering.{nat_cmp, ordering_then, is_lt}
use Rattle.std.specs.Cmp.{IsTotalOrder}
use Rattle.std.proofs.lemmas.Bool.{cases_lt, cases_eq}
use Rattle.std.proofs.lemmas.Bool.Decides.{nat_tests}
use Rattle.std.proofs.lemmas.Cmp.{then_total, on_total, nat_cmp_total}
use Rattle.std.proofs.lemmas.List.{get_or-take, get_or_append_left, take_more, take_more_set, drop-drop}
use Rattle.std.proofs.lemmas.List.{drop_more, length-take-le, get_or_default, get_or-drop, take_all}
use Rattle.std.proofs.lemmas.List.Elements.{All-push, All-same, All-head, All-pop}
use Rattle.std.proofs.Math.Seq.{get_or-append_seam}
use Rattle.std.proofs.lemmas.List.Quantifiers.{all_pairs_push}
use Rattle.std.proofs.lemmas.List.Sorted.{sorted_far, ranks_by, Contains-permutation, IsPermutation-sym}
use Rattle.std.proofs.lemmas.Grind.{take-set_at}
use Rattle.char_files.specs.CharName.{CharName}
use Rattle.operations.specs.NameSet.{Range, IsIn, IsAmong, IsRange, IsBefore, IsSet, IsFileName, StartsNoLater}
use Rattle.operations.specs.NameSet.{names_in, set_of}
use Rattle.operations.proofs.NamesOf.{Contains-names_in}
use Rattle.operations.proofs.SetOf.{names_determine_the_set, IsSet-set_of, IsAmong-set_of}
use Rattle.operations.proofs.WithName.{Among, among, is_among, IsBefore-trans}

-- what a sort by site and first offset leaves

abbrev pub start_of : Range → ℕ × ℕ
start_of r = (r.site, r.at)

abbrev pub start_cmp : ℕ × ℕ → ℕ × ℕ → Ordering
start_cmp x y = ordering_then (nat_cmp x.0 y.0) (nat_cmp x.1 y.1)

start_total : IsTotalOrder start_cmp
start_total =
    then_total (on_total (λ (x : ℕ × ℕ). x.0) nat_cmp_total) (on_total (λ (x : ℕ × ℕ). x.1) nat_cmp_total)

no_later : (r s : Range) → is_lt (start_cmp (start_of s) (start_of r)) ≡ false → StartsNoLater r s
no_later r s e = grind (arith, nat_tests)

pub starts_rise : (ranges : List Range) → IsSortedByKey start_of start_cmp ranges → AllPairs StartsNoLater ranges
starts_rise ranges up i j d lt l =
    no_later (get_or ranges i d) (get_or ranges j d)
    (sorted_far (λ r s. is_lt (start_cmp (start_of r) (start_of s))) (ranks_by start_total start_of) ranges
    up i j d (omega arith) l)

StartsNoLater-trans : (r s t : Range) → StartsNoLater r s → StartsNoLater s t → StartsNoLater r t
StartsNoLater-trans r s t a b = grind arith

-- q goes on to where r starts
abbrev pub Reaches : Range → Range → Type 0
Reaches q r = (q.site ≡ r.site) × (r.at ≤ q.at + q.len)

not_reached : (q r : Range) → StartsNoLater q r → ¬ Reaches q r → IsBefore q r
not_reached q r (inl before) apart = inl before
not_reached q r (inr start) apart =
    elim (cases_lt (q.at + q.len) r.at) [
      | inl lt ↦ inr (start.0, lt)
      | inr le ↦ absurd (apart (start.0, le))
    ]

-- one range more after a set

among_push : (ranges : List Range) (r : Range) (c : CharName)
    → Among (ranges ++ r ∷ []) c ↔ (Among ranges c ⊎ IsIn r c)
among_push [] r c = (
  λ h. elim h [ inl a ↦ inr a | inr b ↦ absurd b ],
  λ h. elim h [ inl a ↦ absurd a | inr b ↦ inl b ],
)
among_push (s ∷ ranges) r c =
    let rest : Among (ranges ++ r ∷ []) c ↔ (Among ranges c ⊎ IsIn r c) = among_push ranges r c in (
      λ h. elim h [
        | inl a ↦ inl (inl a)
        | inr b ↦ elim (rest.0 b) [ inl x ↦ inl (inr x) | inr x ↦ inr x ]
      ],
      λ h. elim h [
        | inl a ↦ elim a [ inl x ↦ inl x | inr x ↦ inr (rest.1 (inl x)) ]
        | inr b ↦ inr (rest.1 (inr b))
      ],
    )

IsAmong-push : (ranges : List Range) (r : Range) (c : CharName)
    → IsAmong (ranges ++ r ∷ []) c ↔ (IsAmong ranges c ⊎ IsIn r c)
IsAmong-push ranges r c =
    let is : Among (ranges ++ r ∷ []) c ↔ (Among ranges c ⊎ IsIn r c) = among_push ranges r c in (
      λ h. elim (is.0 (among (ranges ++ r ∷ []) c h)) [ inl a ↦ inl (is_among ranges c a) | inr b ↦ inr b ],
      λ h. is_among (ranges ++ r ∷ []) c
          (is.1 (elim h [ inl a ↦ inl (among ranges c a) | inr b ↦ inr b ])),
    )

IsSet-push : (ranges : List Range) (r : Range) → IsSet ranges → IsRange r → All (λ q. IsBefore q r) ranges
    → IsSet (ranges ++ r ∷ [])
IsSet-push ranges r set range earlier =
    record {
      ranges = All-push IsRange ranges r set.ranges range;
      rising = all_pairs_push IsBefore ranges r set.rising (λ k d l. earlier k d l);
    }

-- the set before its last range
front : (ranges : List Range) (q : Range) → IsSet (ranges ++ q ∷ [])
    → IsSet ranges × All (λ p. IsBefore p q) ranges
front ranges q set =
    let long : length (ranges ++ q ∷ []) ≡ length ranges + 1 = length-append ranges (q ∷ []) in
    let same : (k : ℕ) (d : Range) → k < length ranges → get_or (ranges ++ q ∷ []) k d ≡ get_or ranges k d =
    λ k d l. get_or_append_left ranges (q ∷ []) d k l in
    let last : (d : Range) → get_or (ranges ++ q ∷ []) (length ranges) d ≡ q =
    λ d. get_or-append_seam ranges q [] d in (
      record {
        ranges = λ k d l. subst IsRange (same k d l) (set.ranges k d (omega arith));
        rising = λ i j d lt l. subst (λ (x : Range). IsBefore x (get_or ranges j d)) (same i d (omega arith))
            (subst (λ (x : Range). IsBefore (get_or (ranges ++ q ∷ []) i d) x) (same j d l)
            (set.rising i j d lt (omega arith)));
      },
      λ k d l. subst (λ (x : Range). IsBefore x q) (same k d l)
          (subst (λ (x : Range). IsBefore (get_or (ranges ++ q ∷ []) k d) x) (last d)
          (set.rising k (length ranges) d l (omega arith))),
    )

-- a range goes after the kept ones

module _ (ranges : List Range) (kept : ℕ) (r : Range) (lt : kept < length ranges) where
  after : take (kept + 1) (set ranges kept r) ≡ take kept ranges ++ r ∷ []
  after = take_more_set ranges kept r lt

  kept_length : length (take kept ranges) ≡ kept
  kept_length = length-take-le kept ranges (omega arith)

  -- where the last one doesn't reach r, or there is none, all stand before
  pub all_before : IsSet (take kept ranges) → All (λ q. StartsNoLater q r) (take kept ranges)
      → (kept ≡ 0) ⊎ ((q : Range) × (0 < kept) × (q ≡ get_or ranges (kept - 1) q) × ¬ Reaches q r)
      → All (λ q. IsBefore q r) (take kept ranges)
  all_before set starts (inl e) k d l = absurd (omega (arith, kept_length))
  all_before set starts (inr (q, some, is, apart)) k d l =
      let here : get_or (take kept ranges) (kept - 1) d ≡ q =
      get_or-take kept ranges (kept - 1) d (omega arith)
      ∙ get_or_default ranges (kept - 1) d q (omega arith) ∙ sym is in
      let start : StartsNoLater q r =
      subst (λ (x : Range). StartsNoLater x r) here (starts (kept - 1) d (omega (arith, kept_length))) in
      let earlier : IsBefore q r = not_reached q r start apart in
      elim (cases_eq k (kept - 1)) [
        | inl e ↦ rw e (rw here earlier)
        | inr apart ↦ IsBefore-trans (get_or (take kept ranges) k d) q r
            (subst (λ (x : Range). IsBefore (get_or (take kept ranges) k d) x) here
            (set.rising k (kept - 1) d (omega (arith, kept_length)) (omega (arith, kept_length)))) earlier
      ]

  pub appended_set : IsSet (take kept ranges) → IsRange r → All (λ q. IsBefore q r) (take kept ranges)
      → IsSet (take (kept + 1) (set ranges kept r))
  appended_set set range earlier = rw after (IsSet-push (take kept ranges) r set range earlier)

  pub appended_starts : All (λ q. StartsNoLater q r) (take kept ranges)
      → All (λ q. StartsNoLater q r) (take (kept + 1) (set ranges kept r))
  appended_starts starts =
      All-same (λ q. StartsNoLater q r) (take (kept + 1) (set ranges kept r)) (take kept ranges ++ r ∷ []) after
      (All-push (λ q. StartsNoLater q r) (take kept ranges) r starts (inr (refl, omega arith)))

  pub appended_names : (c : CharName) → IsAmong (take (kept + 1) (set ranges kept r)) c
      ↔ (IsAmong (take kept ranges) c ⊎ IsIn r c)
  appended_names c =
      subst (λ (xs : List Range). IsAmong xs c ↔ (IsAmong (take kept ranges) c ⊎ IsIn r c)) (sym after)
      (IsAmong-push (take kept ranges) r c)

-- the last of the kept ones makes room for a longer one that starts where it does

module _ (ranges : List Range) (kept : ℕ) (q h r : Range) (some : 0 < kept) (le : kept ≤ length ranges)
    (is : q ≡ get_or ranges (kept - 1) q) (start : (h.site ≡ q.site) × (h.at ≡ q.at)) where
  before : take kept ranges ≡ take (kept - 1) ranges ++ q ∷ []
  before =
      let one : kept ≡ (kept - 1) + 1 = omega arith in
      ap (λ (n : ℕ). take n ranges) one ∙ take_more ranges (kept - 1) q (omega arith)
      ∙ ap (λ (x : Range). take (kept - 1) ranges ++ x ∷ []) (sym is)

  afterwards : take kept (set ranges (kept - 1) h) ≡ take (kept - 1) ranges ++ h ∷ []
  afterwards = take-set_at ranges (kept - 1) kept h (omega arith) (omega arith)

  pub joined_set : IsSet (take kept ranges) → IsRange h → IsSet (take kept (set ranges (kept - 1) h))
  joined_set set range =
      let parts : IsSet (take (kept - 1) ranges) × All (λ p. IsBefore p q) (take (kept - 1) ranges) =
      front (take (kept - 1) ranges) q (subst IsSet before set) in
      let earlier : (p : Range) → IsBefore p q → IsBefore p h = λ p a. grind arith in
      rw afterwards (IsSet-push (take (kept - 1) ranges) h parts.0 range
      (λ k d l. earlier (get_or (take (kept - 1) ranges) k d) (parts.1 k d l)))

  pub joined_starts : All (λ p. StartsNoLater p r) (take kept ranges)
      → All (λ p. StartsNoLater p r) (take kept (set ranges (kept - 1) h))
  joined_starts starts =
      let parts : All (λ p. StartsNoLater p r) (take (kept - 1) ranges) × StartsNoLater q r =
      All-pop (λ p. StartsNoLater p r) (take kept ranges) (take (kept - 1) ranges) (Some q) before starts in
      let last : StartsNoLater q r = parts.1 in
      All-same (λ p. StartsNoLater p r) (take kept (set ranges (kept - 1) h))
      (take (kept - 1) ranges ++ h ∷ []) afterwards
      (All-push (λ p. StartsNoLater p r) (take (kept - 1) ranges) h parts.0 (grind arith))

  pub joined_names : ((c : CharName) → IsIn h c ↔ (IsIn q c ⊎ IsIn r c)) → (c : CharName)
      → IsAmong (take kept (set ranges (kept - 1) h)) c ↔ (IsAmong (take kept ranges) c ⊎ IsIn r c)
  joined_names both c =
      let new : IsAmong (take (kept - 1) ranges ++ h ∷ []) c ↔ (IsAmong (take (kept - 1) ranges) c ⊎ IsIn h c) =
      IsAmong-push (take (kept - 1) ranges) h c in
      let old : IsAmong (take (kept - 1) ranges ++ q ∷ []) c ↔ (IsAmong (take (kept - 1) ranges) c ⊎ IsIn q c) =
      IsAmong-push (take (kept - 1) ranges) q c in
      rw afterwards (rw before (
        λ x. elim (new.0 x) [
          | inl a ↦ inl (old.1 (inl a))
          | inr b ↦ elim ((both c).0 b) [ inl y ↦ inl (old.1 (inr y)) | inr y ↦ inr y ]
        ],
        λ x. elim x [
          | inl a ↦ elim (old.0 a) [ inl y ↦ new.1 (inl y) | inr y ↦ new.1 (inr ((both c).1 (inl y))) ]
          | inr b ↦ new.1 (inr ((both c).1 (inr b)))
        ],
      ))

-- a pass over all ranges

-- the first i of the old ranges are joined in the kept ones, and the others are as they were
pub record IsJoined (old ranges : List Range) (kept i : ℕ) : Type 0 where
  pub within : (kept ≤ i) × (i ≤ length old)
  pub len : length ranges ≡ length old
  pub rest : drop i ranges ≡ drop i old
  pub set : IsSet (take kept ranges)
  pub rising : All (λ q. All (λ r. StartsNoLater q r) (drop i old)) (take kept ranges)
  pub names : (c : CharName) → IsAmong (take kept ranges) c ↔ IsAmong (take i old) c

pub none_joined : (old : List Range) → IsJoined old old 0 0
none_joined old =
    record {
      within = (omega arith, omega arith);
      len = refl;
      rest = refl;
      set = record {
        ranges = λ k d l. absurd (omega arith);
        rising = λ i j d lt l. absurd (omega arith);
      };
      rising = λ k d l. absurd (omega arith);
      names = λ c. (λ h. h, λ h. h);
    }

module _ (old ranges : List Range) (kept i : ℕ) (r : Range) (lt : i < length old)
    (is : r ≡ get_or ranges i r) (so_far : IsJoined old ranges kept i) where
  here : drop i old ≡ r ∷ drop (i + 1) old
  here =
      let split : drop i ranges ≡ get_or ranges i r ∷ drop (i + 1) ranges =
      drop_more ranges i r (omega (arith, so_far.len)) in
      let split' : drop i old ≡ get_or old i r ∷ drop (i + 1) old = drop_more old i r lt in
      let same : get_or ranges i r ∷ drop (i + 1) ranges ≡ get_or old i r ∷ drop (i + 1) old =
      sym split ∙ so_far.rest ∙ split' in
      let first : get_or ranges i r ≡ get_or old i r = ap (λ (xs : List Range). get_or xs 0 r) same in
      split' ∙ ap (λ (x : Range). x ∷ drop (i + 1) old) (sym (is ∙ first))

  pub starts_to_here : All (λ q. StartsNoLater q r) (take kept ranges)
  starts_to_here k d l = All-head (λ x. StartsNoLater (get_or (take kept ranges) k d) x) r (drop (i + 1) old)
      (subst (All (λ x. StartsNoLater (get_or (take kept ranges) k d) x)) here (so_far.rising k d l))

  pub one_more_joined : (new : List Range) (kept' : ℕ) → AllPairs StartsNoLater old → kept' ≤ kept + 1
      → length new ≡ length ranges → drop (kept + 1) new ≡ drop (kept + 1) ranges → IsSet (take kept' new)
      → All (λ q. StartsNoLater q r) (take kept' new)
      → ((c : CharName) → IsAmong (take kept' new) c ↔ (IsAmong (take kept ranges) c ⊎ IsIn r c))
      → IsJoined old new kept' (i + 1)
  one_more_joined new kept' up le len rest set starts names =
      let dropped_on : (xs : List Range) → drop (i + 1) xs ≡ drop (i - kept) (drop (kept + 1) xs) =
      λ xs. let e : i + 1 ≡ (kept + 1) + (i - kept) = omega (arith, so_far.within) in
      ap (λ (n : ℕ). drop n xs) e ∙ sym (drop-drop (i - kept) (kept + 1) xs) in
      let here_old : r ≡ get_or old i r = sym (ap (λ (xs : List Range). get_or xs 0 r) (sym (drop_more old i r lt) ∙ here)) in
      let later : All (λ x. StartsNoLater r x) (drop (i + 1) old) =
      λ k d l.
      let far : StartsNoLater (get_or old i d) (get_or old ((i + 1) + k) d) =
      up i ((i + 1) + k) d (omega arith) (omega (arith, length-drop (i + 1) old)) in
      let from : get_or old i d ≡ r = get_or_default old i d r lt ∙ sym here_old in
      subst (λ (x : Range). StartsNoLater r x) (sym (get_or-drop (i + 1) old k d))
      (subst (λ (x : Range). StartsNoLater x (get_or old ((i + 1) + k) d)) from far) in
      let upto : take (i + 1) old ≡ take i old ++ r ∷ [] =
      take_more old i r lt ∙ ap (λ (x : Range). take i old ++ x ∷ []) (sym here_old) in
      record {
        within = (omega (arith, so_far.within), omega arith);
        len = len ∙ so_far.len;
        rest = dropped_on new ∙ ap (drop (i - kept)) rest ∙ sym (dropped_on ranges)
            ∙ sym (drop-drop 1 i ranges) ∙ ap (drop 1) so_far.rest ∙ drop-drop 1 i old;
        set = set;
        rising = λ k d l k' d' l'. StartsNoLater-trans (get_or (take kept' new) k d) r
            (get_or (drop (i + 1) old) k' d') (starts k d l) (later k' d' l');
        names = λ c. let push : IsAmong (take i old ++ r ∷ []) c ↔ (IsAmong (take i old) c ⊎ IsIn r c) =
            IsAmong-push (take i old) r c in
            rw upto (
              λ h. push.1 (elim ((names c).0 h) [ inl a ↦ inl ((so_far.names c).0 a) | inr b ↦ inr b ]),
              λ h. (names c).1 (elim (push.0 h) [ inl a ↦ inl ((so_far.names c).1 a) | inr b ↦ inr b ]),
            );
      }

-- after all of them
module _ (old ranges : List Range) (kept i : ℕ) (past : length old ≤ i) (done : IsJoined old ranges kept i) where
  pub all_joined : (c : CharName) → IsAmong (take kept ranges) c ↔ IsAmong old c
  all_joined c = subst (λ (xs : List Range). IsAmong (take kept ranges) c ↔ IsAmong xs c)
      (take_all i old past) (done.names c)

-- the whole

permuted : (xs ys : List Range) (c : CharName) → IsPermutation xs ys → IsAmong xs c → IsAmong ys c
permuted xs ys c moved (k, r, lt, is, h) =
    let there : Contains ys r = Contains-permutation xs ys r moved (k, lt, is) in
    (there.0, r, there.1, there.2, h)

file_name : (r : Range) (c : CharName) → IsRange r → IsIn r c → IsFileName c
file_name r c range h = (omega arith, omega arith, omega arith)

-- a set with the names of ranges that were moved about is the one that `set_of` makes of them
pub is_set_of : (old sorted new : List Range) → IsPermutation old sorted → IsSet new
    → ((c : CharName) → IsAmong new c ↔ IsAmong sorted c) → new ≡ set_of (names_in old)
is_set_of old sorted new moved set is =
    let names : (c : CharName) → IsAmong new c ↔ Contains (names_in old) c =
    λ c. (
      λ h. (Contains-names_in old c).1
          (permuted sorted old c (IsPermutation-sym old sorted moved) ((is c).0 h)),
      λ h. (is c).1 (permuted old sorted c moved ((Contains-names_in old c).0 h)),
    ) in
    let of_files : All IsFileName (names_in old) =
    λ k d l.
    let among : IsAmong new (get_or (names_in old) k d) =
    (names (get_or (names_in old) k d)).1 (k, l, get_or_default (names_in old) k (get_or (names_in old) k d) d l) in
    file_name among.1 (get_or (names_in old) k d)
    (subst IsRange among.3 (set.ranges among.0 among.1 among.2)) among.4 in
    names_determine_the_set new (set_of (names_in old)) set (IsSet-set_of (names_in old) of_files)
    (λ c. (
      λ h. (IsAmong-set_of (names_in old) c).1 ((names c).0 h),
      λ h. (names c).1 ((IsAmong-set_of (names_in old) c).0 h),
    ))
