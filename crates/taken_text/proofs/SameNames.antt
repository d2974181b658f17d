-- Ranges of the same names as others, of which a filter keeps the same.
use Rattle.std.proofs.Common.{◌≡◌, ◌↔◌, ◌⊎◌, ℕ, ◌+◌, ◌<◌, ◌++◌, inl, inr, List, [], ◌∷◌, Bool, true, length, take, get_or, sym, ap, subst, ◌∙◌, append_assoc, arith}
use Rattle.std.specs.Prelude.{filter, All, Contains}
use Rattle.std.proofs.lemmas.Bool.{cases_Bool, cond-true, cond-false}
use Rattle.std.proofs.lemmas.List.{get_or_default, take_more}
use Rattle.std.proofs.lemmas.List.Elements.{Contains-append_left, Contains-push, Contains-push_cases}
use Rattle.std.proofs.lemmas.List.Sorted.{Contains-permutation}
use Rattle.std.specs.List.Sorted.{IsPermutation}
use Rattle.char_files.specs.CharName.{CharName}
use Rattle.operations.specs.NameSet.{Range, IsAmong, IsFileName, IsIn, IsRange, names_in, names_of, set_of}
use Rattle.operations.proofs.NamesOf.{Contains-names_in, Has, contains, has}
use Rattle.operations.proofs.SetOf.{IsAmong-set_of, IsSet-set_of, names_determine_the_set}
use Rattle.taken_text.proofs.Alike.{names_cut, names_more, range}

-- the names of ranges, and of one more

pub among_more : (ranges : List Range) (r : Range) (c : CharName) → IsAmong (ranges ++ r ∷ []) c ↔ (IsAmong ranges c ⊎ IsIn r c)
among_more ranges r c = (
  λ (k, s, lt, is, held). elim (Contains-push_cases ranges r s (k, lt, is)) [
    | inl (n, within, at) ↦ inl (n, s, within, at, held)
    | inr e ↦ inr (subst (λ (x : Range). IsIn x c) (sym e) held)
  ],
  λ h. elim h [
    | inl (k, s, lt, is, held) ↦
        let there : Contains (ranges ++ r ∷ []) s = Contains-append_left ranges (r ∷ []) s (k, lt, is) in
        (there.0, s, there.1, there.2, held)
    | inr held ↦
        let there : Contains (ranges ++ r ∷ []) r = Contains-push ranges r in
        (there.0, r, there.1, there.2, held)
  ],
)

-- one that was put in the place of the last, and has its names and those of another
pub among_longer : (ranges : List Range) (last r longer : Range) → ((c : CharName) → IsIn longer c ↔ (IsIn last c ⊎ IsIn r c))
    → (c : CharName) → IsAmong (ranges ++ longer ∷ []) c ↔ (IsAmong (ranges ++ last ∷ []) c ⊎ IsIn r c)
among_longer ranges last r longer both c =
    let new : IsAmong (ranges ++ longer ∷ []) c ↔ (IsAmong ranges c ⊎ IsIn longer c) = among_more ranges longer c in
    let old : IsAmong (ranges ++ last ∷ []) c ↔ (IsAmong ranges c ⊎ IsIn last c) = among_more ranges last c in (
      λ h. elim (new.0 h) [
        | inl a ↦ inl (old.1 (inl a))
        | inr b ↦ elim ((both c).0 b) [ inl x ↦ inl (old.1 (inr x)) | inr x ↦ inr x ]
      ],
      λ h. elim h [
        | inl a ↦ elim (old.0 a) [ inl x ↦ new.1 (inl x) | inr x ↦ new.1 (inr ((both c).1 (inl x))) ]
        | inr b ↦ new.1 (inr ((both c).1 (inr b)))
      ],
    )

-- the names of the first i ranges, and of one more
pub among_next : (ranges : List Range) (i : ℕ) (r : Range) → i < length ranges → r ≡ get_or ranges i r → (found found' : List Range)
    → ((c : CharName) → IsAmong found c ↔ IsAmong (take i ranges) c)
    → ((c : CharName) → IsAmong found' c ↔ (IsAmong found c ⊎ IsIn r c))
    → (c : CharName) → IsAmong found' c ↔ IsAmong (take (i + 1) ranges) c
among_next ranges i r within is found found' before more c =
    let next : take (i + 1) ranges ≡ take i ranges ++ r ∷ [] =
    take_more ranges i r within ∙ ap (λ (x : Range). take i ranges ++ x ∷ []) (sym is) in
    let both : IsAmong (take i ranges ++ r ∷ []) c ↔ (IsAmong (take i ranges) c ⊎ IsIn r c) = among_more (take i ranges) r c in
    subst (λ (xs : List Range). IsAmong found' c ↔ IsAmong xs c) (sym next) (
      λ h. elim ((more c).0 h) [ inl a ↦ both.1 (inl ((before c).0 a)) | inr b ↦ both.1 (inr b) ],
      λ h. elim (both.0 h) [ inl a ↦ (more c).1 (inl ((before c).1 a)) | inr b ↦ (more c).1 (inr b) ],
    )

-- ranges in another order
pub among_moved : (xs ys : List Range) → IsPermutation xs ys → (c : CharName) → IsAmong xs c → IsAmong ys c
among_moved xs ys moved c (k, r, lt, is, held) =
    let there : Contains ys r = Contains-permutation xs ys r moved (k, lt, is) in
    (there.0, r, there.1, there.2, held)

-- the list of names goes on where the last range becomes as much longer
pub names_longer : (ranges : List Range) (last r longer : Range) → last.site ≡ r.site → last.at + last.len ≡ r.at
    → longer ≡ range last.site last.at (last.len + r.len)
    → names_in (ranges ++ longer ∷ []) ≡ names_in (ranges ++ last ∷ []) ++ names_of r
names_longer ranges last r longer site at is =
    names_more ranges longer
    ∙ ap (λ (names : List CharName). names_in ranges ++ names)
    (ap names_of is ∙ names_cut last.site last.at last.len r.len
    ∙ (λ k. names_of last ++ names_of (range (site k) (at k) r.len)))
    ∙ sym (append_assoc (names_in ranges) (names_of last) (names_of r))
    ∙ ap (λ (names : List CharName). names ++ names_of r) (sym (names_more ranges last))

-- what a filter keeps

kept : (p : CharName → Bool) (names : List CharName) (c : CharName) → Has (filter p names) c ↔ (Has names c × (p c ≡ true))
kept p [] c = (λ h. absurd h, λ h. absurd h.0)
kept p (n ∷ names) c =
    let rest : Has (filter p names) c ↔ (Has names c × (p c ≡ true)) = kept p names c in
    elim (cases_Bool (p n)) [
      | inl passes ↦
          subst (λ (found : List CharName). Has found c ↔ (((n ≡ c) ⊎ Has names c) × (p c ≡ true)))
          (sym (cond-true (p n) (n ∷ filter p names) (filter p names) passes)) (
            λ h. elim h [
              | inl e ↦ (inl e, subst (λ (x : CharName). p x ≡ true) e passes)
              | inr later ↦ (inr (rest.0 later).0, (rest.0 later).1)
            ],
            λ h. elim h.0 [ inl e ↦ inl e | inr later ↦ inr (rest.1 (later, h.1)) ],
          )
      | inr fails ↦
          subst (λ (found : List CharName). Has found c ↔ (((n ≡ c) ⊎ Has names c) × (p c ≡ true)))
          (sym (cond-false (p n) (n ∷ filter p names) (filter p names) fails)) (
            λ h. (inr (rest.0 h).0, (rest.0 h).1),
            λ h. elim h.0 [
              | inl e ↦ absurd (let passes : p n ≡ true = ap p e ∙ h.1 in cc)
              | inr later ↦ rest.1 (later, h.1)
            ],
          )
    ]

module _ (xs ys : List Range) (same : (c : CharName) → IsAmong xs c ↔ IsAmong ys c) where
  names_alike : (c : CharName) → Has (names_in xs) c → Has (names_in ys) c
  names_alike c h =
      has (names_in ys) c ((Contains-names_in ys c).1 ((same c).0 ((Contains-names_in xs c).0 (contains (names_in xs) c h))))

module _ (p : CharName → Bool) where
  kept_alike : (xs ys : List Range) → ((c : CharName) → IsAmong xs c ↔ IsAmong ys c) → (c : CharName)
      → Has (filter p (names_in xs)) c → Has (filter p (names_in ys)) c
  kept_alike xs ys same c h =
      let is : Has (names_in xs) c × (p c ≡ true) = (kept p (names_in xs) c).0 h in
      (kept p (names_in ys) c).1 (names_alike xs ys same c is.0, is.1)

back : (xs ys : List Range) → ((c : CharName) → IsAmong xs c ↔ IsAmong ys c) → (c : CharName) → IsAmong ys c ↔ IsAmong xs c
back xs ys same c = ((same c).1, (same c).0)

file_name : (ranges : List Range) → All IsRange ranges → (c : CharName) → Has (names_in ranges) c → IsFileName c
file_name ranges within c h =
    let (k, r, lt, is, held) = (Contains-names_in ranges c).0 (contains (names_in ranges) c h) in
    let inside : IsRange r = subst IsRange is (within k r lt) in
    (omega arith, omega arith, omega arith)

-- a filter keeps the same set of the same names
pub same_set : (p : CharName → Bool) (xs ys : List Range) → All IsRange xs → ((c : CharName) → IsAmong xs c ↔ IsAmong ys c)
    → set_of (filter p (names_in xs)) ≡ set_of (filter p (names_in ys))
same_set p xs ys within same =
    let of_xs : List CharName = filter p (names_in xs) in
    let of_ys : List CharName = filter p (names_in ys) in
    let there : (c : CharName) → Has of_xs c → IsFileName c = λ c h. file_name xs within c ((kept p (names_in xs) c).0 h).0 in
    names_determine_the_set (set_of of_xs) (set_of of_ys)
    (IsSet-set_of of_xs (λ k d lt. there (get_or of_xs k d) (has of_xs (get_or of_xs k d) (k, lt, get_or_default of_xs k (get_or of_xs k d) d lt))))
    (IsSet-set_of of_ys (λ k d lt. there (get_or of_ys k d)
    (kept_alike p ys xs (back xs ys same) (get_or of_ys k d)
    (has of_ys (get_or of_ys k d) (k, lt, get_or_default of_ys k (get_or of_ys k d) d lt)))))
    (λ c. (
      λ h. (IsAmong-set_of of_ys c).1
          (contains of_ys c (kept_alike p xs ys same c (has of_xs c ((IsAmong-set_of of_xs c).0 h)))),
      λ h. (IsAmong-set_of of_xs c).1
          (contains of_xs c (kept_alike p ys xs (back xs ys same) c (has of_ys c ((IsAmong-set_of of_ys c).0 h)))),
    ))
