-- Lists in which each element stands before the later ones.
use Rattle.std.proofs.Common.{◌≡◌, ◌⊎◌, ◌↔◌, ℕ, zero, suc, ◌+◌, ◌-◌, ◌<◌, ◌≤◌, inl, inr, List, [], ◌∷◌}
use Rattle.std.proofs.Common.{◌++◌, length, get_or, refl, sym, subst, ◌∙◌, All, AllPairs, Contains, insert}
use Rattle.std.proofs.Common.{arith}
use Rattle.std.proofs.lemmas.Bool.{cases_lt, cases_order}
use Rattle.std.proofs.lemmas.List.Edits.{length-insert, get_or-insert_below, get_or-insert_at}
use Rattle.std.proofs.lemmas.List.Edits.{get_or-insert_above}
use Rattle.std.proofs.lemmas.List.Elements.{All-contains, Contains-append_cases, Contains-append_left}
use Rattle.std.proofs.lemmas.List.Elements.{Contains-append_right, Contains-get_or}
use Rattle.std.proofs.lemmas.List.Kept.{AllPairs-cons}
use Rattle.std.proofs.lemmas.List.Sorted.{IsPermutation-insert, IsPermutation-sym, Contains-permutation}

-- members of a list with a first element

pub Contains-head : {X : Type 0} (x : X) (xs : List X) → Contains (x ∷ xs) x
Contains-head x xs = (0, omega arith, refl)

pub Contains-tail : {X : Type 0} (y : X) (xs : List X) (x : X) → Contains xs x → Contains (y ∷ xs) x
Contains-tail y xs x (k, lt, e) = (suc k, omega arith, e)

pub Contains-cons_cases : {X : Type 0} (y : X) (xs : List X) (x : X) → Contains (y ∷ xs) x
    → (x ≡ y) ⊎ Contains xs x
Contains-cons_cases y xs x (zero, lt, e) = inl (sym e)
Contains-cons_cases y xs x (suc k, lt, e) = inr (k, omega arith, e)

Contains-cons : {X : Type 0} (y : X) (xs : List X) (x : X) → (x ≡ y) ⊎ Contains xs x → Contains (y ∷ xs) x
Contains-cons y xs x (inl e) = rw e (Contains-head y xs)
Contains-cons y xs x (inr h) = Contains-tail y xs x h

-- the members of the list with one more element
pub Contains-insert : {X : Type 0} (xs : List X) (i : ℕ) (y x : X)
    → Contains (insert xs i y) x ↔ (Contains xs x ⊎ (x ≡ y))
Contains-insert xs i y x = (
  λ h. elim (Contains-cons_cases y xs x
      (Contains-permutation _ _ x (IsPermutation-sym _ _ (IsPermutation-insert xs i y)) h))
      [ inl e ↦ inr e | inr k ↦ inl k ],
  λ h. Contains-permutation _ _ x (IsPermutation-insert xs i y)
      (Contains-cons y xs x (elim h [ inl k ↦ inr k | inr e ↦ inl e ])),
)

module _ {X : Type 0} (R : X → X → Type 0) where
  -- a sorted list without its head, and its head
  pub AllPairs-head : (x : X) (xs : List X) → AllPairs R (x ∷ xs) → All (R x) xs
  AllPairs-head x xs up k d lt = up 0 (suc k) d (omega arith) (omega arith)

  pub AllPairs-tail : (x : X) (xs : List X) → AllPairs R (x ∷ xs) → AllPairs R xs
  AllPairs-tail x xs up i j d lt within = up (suc i) (suc j) d (omega arith) (omega arith)

  -- the head stands before each other member
  pub before_members : (x : X) (xs : List X) → AllPairs R (x ∷ xs) → (y : X) → Contains xs y → R x y
  before_members x xs up y h = All-contains (R x) xs y (AllPairs-head x xs up) h

  pub cons_sorted : (x : X) (xs : List X) → ((y : X) → Contains xs y → R x y) → AllPairs R xs
      → AllPairs R (x ∷ xs)
  cons_sorted x xs before up =
      AllPairs-cons R x xs (λ k d lt. before (get_or xs k d) (Contains-get_or xs k d lt)) up

  -- each member of the front of a sorted list stands before each one after it
  pub AllPairs-across : (xs ys : List X) → AllPairs R (xs ++ ys) → (x y : X) → Contains xs x → Contains ys y
      → R x y
  AllPairs-across [] ys up x y h k = absurd (omega arith)
  AllPairs-across (z ∷ xs) ys up x y h k =
      elim (Contains-cons_cases z xs x h) [
        | inl e ↦ rw e (before_members z (xs ++ ys) up y (Contains-append_right xs ys y k))
        | inr later ↦ AllPairs-across xs ys (AllPairs-tail z (xs ++ ys) up) x y later k
      ]

  -- one more element, between what stands before it and what it stands before
  pub AllPairs-between : (xs ys : List X) (d : X) → AllPairs R (xs ++ ys)
      → ((x : X) → Contains xs x → R x d) → ((y : X) → Contains ys y → R d y) → AllPairs R (xs ++ d ∷ ys)
  AllPairs-between [] ys d up below above = cons_sorted d ys above up
  AllPairs-between (x ∷ xs) ys d up below above =
      cons_sorted x (xs ++ d ∷ ys) (λ y h. elim (Contains-append_cases xs (d ∷ ys) y h) [
        | inl k ↦ before_members x (xs ++ ys) up y (Contains-append_left xs ys y k)
        | inr k ↦ elim (Contains-cons_cases d ys y k) [
          | inl e ↦ rw e (below x (Contains-head x xs))
          | inr m ↦ before_members x (xs ++ ys) up y (Contains-append_right xs ys y m)
        ]
      ]) (AllPairs-between xs ys d (AllPairs-tail x (xs ++ ys) up)
      (λ y h. below y (Contains-tail x xs y h)) above)

  -- y put at i, between what stands before it and what it stands before
  pub AllPairs-insert : (xs : List X) (i : ℕ) (y : X) → i ≤ length xs → AllPairs R xs
      → ((k : ℕ) (d : X) → k < i → R (get_or xs k d) y) → ((k : ℕ) (d : X) → i ≤ k → k < length xs
      → R y (get_or xs k d)) → AllPairs R (insert xs i y)
  AllPairs-insert xs i y within up below above j k d lt inside =
      let long = length-insert xs i y within in
      elim (cases_order k i) [
        | inl at ↦ rw (get_or-insert_below xs i y d j (omega arith) within)
            (subst (λ (n : ℕ). R (get_or xs j d) (get_or (insert xs i y) n d)) (sym at)
            (rw (get_or-insert_at xs i y d within) (below j d (omega arith))))
        | inr other ↦ elim other [
          | inl low ↦ rw (
            get_or-insert_below xs i y d j (omega arith) within,
            get_or-insert_below xs i y d
                k low within,
          ) (up j k d lt (omega arith))
          | inr high ↦ rw (past k high) (elim (cases_order j i) [
            | inl at ↦ subst (λ (n : ℕ). R (get_or (insert xs i y) n d) (get_or xs (k - 1) d)) (sym at)
                (rw (get_or-insert_at xs i y d within) (above (k - 1) d (omega arith) (omega arith)))
            | inr other' ↦ elim other' [
              | inl low' ↦ rw (get_or-insert_below xs i y d j low' within) (up j (k - 1) d (omega arith)
                  (omega arith))
              | inr high' ↦ rw (past j high') (up (j - 1) (k - 1) d (omega arith) (omega arith))
            ]
          ])
        ]
      ]
    where
      past : (n : ℕ) → i < n → get_or (insert xs i y) n d ≡ get_or xs (n - 1) d
      past n l =
          let same : n - 1 + 1 ≡ n = omega arith in
          subst (λ (m : ℕ). get_or (insert xs i y) m d ≡ get_or xs (n - 1) d) same
          (get_or-insert_above xs i y d (n - 1) (omega arith) within)

  module _ (irreflexive : (x : X) → R x x → ⊥) (transitive : (x y z : X) → R x y → R y z → R x z) where
    -- two sorted lists with the same members begin with the same one
    same_head : (x y : X) (xs ys : List X) → AllPairs R (x ∷ xs) → AllPairs R (y ∷ ys) → Contains (y ∷ ys) x
        → Contains (x ∷ xs) y → x ≡ y
    same_head x y xs ys up uq hx hy =
        elim (Contains-cons_cases y ys x hx) [
          | inl e ↦ e
          | inr h ↦ elim (Contains-cons_cases x xs y hy) [
            | inl e ↦ sym e
            | inr k ↦ absurd
                (irreflexive x (transitive x y x (before_members x xs up y k) (before_members y ys uq x h)))
          ]
        ]

    -- without the common head
    rest_members : (x : X) (xs ys : List X) → AllPairs R (x ∷ xs) → ((z : X) → Contains (x ∷ xs) z
        → Contains (x ∷ ys) z) → (z : X) → Contains xs z → Contains ys z
    rest_members x xs ys up same z h =
        elim (Contains-cons_cases x ys z (same z (Contains-tail x xs z h))) [
          | inl e ↦ absurd (irreflexive x (subst (λ (w : X). R x w) e (before_members x xs up z h)))
          | inr k ↦ k
        ]

    -- two lists with the same members are equal
    pub same_sorted : (xs ys : List X) → AllPairs R xs → AllPairs R ys
        → ((x : X) → Contains xs x → Contains ys x) → ((x : X) → Contains ys x → Contains xs x) → xs ≡ ys
    same_sorted [] [] up uq to from = refl
    same_sorted [] (y ∷ ys) up uq to from = let h : Contains [] y = from y (Contains-head y ys) in
        absurd (omega arith)
    same_sorted (x ∷ xs) [] up uq to from = let h : Contains [] x = to x (Contains-head x xs) in
        absurd (omega arith)
    same_sorted (x ∷ xs) (y ∷ ys) up uq to from =
        let e : x ≡ y = same_head x y xs ys up uq (to x (Contains-head x xs)) (from y (Contains-head y ys)) in
        let uq' : AllPairs R (x ∷ ys) = subst (λ (w : X). AllPairs R (w ∷ ys)) (sym e) uq in
        let to' : (z : X) → Contains (x ∷ xs) z → Contains (x ∷ ys) z =
        λ z h. subst (λ (w : X). Contains (w ∷ ys) z) (sym e) (to z h) in
        let from' : (z : X) → Contains (x ∷ ys) z → Contains (x ∷ xs) z =
        λ z h. from z (subst (λ (w : X). Contains (w ∷ ys) z) e h) in
        let rest : xs ≡ ys =
        same_sorted xs ys (AllPairs-tail x xs up) (AllPairs-tail y ys uq) (rest_members x xs ys up to')
        (rest_members x ys xs uq' from') in
        cc

  module _ (transitive : (x y z : X) → R x y → R y z → R x z) where
    -- y put before the first element that it stands before
    pub AllPairs-insert_first : (xs : List X) (i : ℕ) (y : X) → i ≤ length xs → AllPairs R xs
        → ((k : ℕ) (d : X) → k < i → R (get_or xs k d) y) → ((d : X) → i < length xs → R y (get_or xs i d))
        → AllPairs R (insert xs i y)
    AllPairs-insert_first xs i y within up below at = AllPairs-insert xs i y within up below (λ k d le lt.
        elim (cases_lt i k) [
          | inl less ↦ transitive y (get_or xs i d) (get_or xs k d) (at d (omega arith)) (up i k d less lt)
          | inr ge ↦ let same : i ≡ k = omega arith in
              subst (λ (n : ℕ). R y (get_or xs n d)) same (at d (omega arith))
        ])

    module _ (P : X → Type 0) (total : (x y : X) → P x → P y → (x ≡ y) ⊎ (R x y ⊎ R y x)) where
      -- the sorted list with one more member, unless it is one already
      put : (c : X) → P c → (ys : List X) → ((x : X) → Contains ys x → P x) → AllPairs R ys
          → (zs : List X) × AllPairs R zs × ((x : X) → Contains zs x ↔ ((x ≡ c) ⊎ Contains ys x))
      put c p [] all up = (
        c ∷ [],
        (λ i j d lt within. absurd (omega arith)),
        λ x.
            (Contains-cons_cases c [] x, Contains-cons c [] x),
      )
      put c p (y ∷ ys) all up =
          elim (total c y p (all y (Contains-head y ys))) [
            | inl e ↦ (
              y ∷ ys,
              up,
              λ x. (
                λ h. inr h,
                λ h. elim h [
                  | inl f ↦ Contains-cons y ys x (inl (f ∙ e))
                  | inr k ↦ k
                ],
              ),
            )
            | inr other ↦ elim other [
              | inl before ↦ (
                c ∷ y ∷ ys,
                cons_sorted c (y ∷ ys) (λ x h. elim (Contains-cons_cases y ys x h)
                    [ inl e ↦ rw e before | inr k ↦ transitive c y x before (before_members y ys up x k) ])
                    up,
                λ x. (Contains-cons_cases c (y ∷ ys) x, Contains-cons c (y ∷ ys) x),
              )
              | inr after ↦
                  let (zs, uq, same) =
                  put c p ys (λ x h. all x (Contains-tail y ys x h)) (AllPairs-tail y ys up) in (
                    y ∷ zs,
                    cons_sorted y zs
                        (λ x h. elim ((same x).0 h) [
                          | inl e ↦ rw e after
                          | inr k ↦ before_members y ys up x
                              k
                        ]) uq,
                    λ x. (
                      λ h. elim (Contains-cons_cases y zs x h) [
                        | inl e ↦ inr (Contains-cons y ys x (inl e))
                        | inr k ↦ elim ((same x).0 k) [ inl e ↦ inl e | inr m ↦ inr (Contains-tail y ys x m) ]
                      ],
                      λ h. Contains-cons y zs x (elim h [
                        | inl e ↦ inr ((same x).1 (inl e))
                        | inr k ↦ elim (Contains-cons_cases y ys x k) [
                          | inl e ↦ inl e
                          | inr m ↦ inr
                              ((same x).1 (inr m))
                        ]
                      ]),
                    ),
                  )
            ]
          ]

      -- the members of a list in a sorted one
      pub sorted_list : (xs : List X) → ((x : X) → Contains xs x → P x) → (zs : List X) × AllPairs R zs
          × ((x : X) → Contains zs x ↔ Contains xs x)
      sorted_list [] all = ([], (λ i j d lt within. absurd (omega arith)), λ x. (λ h. h, λ h. h))
      sorted_list (c ∷ xs) all =
          let (ys, up, same) = sorted_list xs (λ x h. all x (Contains-tail c xs x h)) in
          let (zs, uq, more) =
          put c (all c (Contains-head c xs)) ys (λ x h. all x (Contains-tail c xs x ((same x).0 h)))
          up in (
            zs,
            uq,
            λ x. (
              λ h. Contains-cons c xs x (elim ((more x).0 h) [ inl e ↦ inl e | inr k ↦ inr ((same x).0 k) ]),
              λ h. (more x).1 (elim (Contains-cons_cases c xs x h)
                  [ inl e ↦ inl e | inr k ↦ inr ((same x).1 k) ]),
            ),
          )
