-- What is visible, and how many visible characters stand up to one.
use Rattle.std.proofs.Common.{◌≡◌, ◌↔◌, ℕ, ◌+◌, ◌<◌, ◌≤◌, Bool, true, false, cond, eqb, ◌&&◌, List, []}
use Rattle.std.proofs.Common.{◌∷◌, ◌++◌, get_or, length, take, drop, refl, sym, ap, ◌∙◌, arith}
use Rattle.std.specs.List.{list_any, filter, count_by}
use Rattle.std.proofs.lemmas.Bool.Decides.{nat_tests}
use Rattle.std.proofs.lemmas.List.{append-nil, drop_all, drop_more}
use Rattle.std.proofs.lemmas.List.Elements.{filter_more}
use Rattle.std.proofs.lemmas.List.Folds.{Any-from_list_any, list_any-from_Any}
use Rattle.char_files.specs.CharName.{CharName}
use Rattle.operations.specs.NameSet.{Range, IsIn, IsAmong, range_contains}
use Rattle.tree_order.specs.Shown.{up_to}

-- what the tests of a range and of a set tell
pub range_contains_is : (r : Range) (c : CharName) → (range_contains r c ≡ true) ↔ IsIn r c
range_contains_is r c = (λ e. grind (arith, nat_tests), λ h. grind (arith, nat_tests))

pub among_is : (names : List Range) (c : CharName)
    → (list_any (λ r. range_contains r c) names ≡ true) ↔ IsAmong names c
among_is names c = (
  λ e. let (k, r, lt, at, h) = Any-from_list_any (λ r. range_contains r c) names e in
      (k, r, lt, at, (range_contains_is r c).0 h),
  λ (k, r, lt, at, is). list_any-from_Any (λ r. range_contains r c) names (k, r, lt, at, (range_contains_is r c).1 is),
)

-- two tests that agree on each element find alike
pub any_agree : {X : Type 0} (p q : X → Bool) → ((x : X) → p x ≡ q x) → (xs : List X)
    → list_any p xs ≡ list_any q xs
any_agree p q same [] = refl
any_agree p q same (x ∷ xs) = rw (same x, any_agree p q same xs) refl

-- one more name that passes the test
pub filter_more_yes : (p : CharName → Bool) (order : List CharName) (n : ℕ) (name : CharName)
    → n < length order → name ≡ get_or order n name → p name ≡ true → filter p (take (n + 1) order)
    ≡ filter p (take n order) ++ name ∷ []
filter_more_yes p order n name lt is passes =
    filter_more p order n name lt ∙ ap (λ (x : CharName). filter p (take n order) ++ cond (p x) (x ∷ []) [])
    (sym is)
    ∙ ap (λ (b : Bool). filter p (take n order) ++ cond b (name ∷ []) []) passes

-- one more name that doesn't
pub filter_more_no : (p : CharName → Bool) (order : List CharName) (n : ℕ) (name : CharName)
    → n < length order → name ≡ get_or order n name → p name ≡ false → filter p (take (n + 1) order)
    ≡ filter p (take n order)
filter_more_no p order n name lt is fails =
    filter_more p order n name lt ∙ ap (λ (x : CharName). filter p (take n order) ++ cond (p x) (x ∷ []) [])
    (sym is)
    ∙ ap (λ (b : Bool). filter p (take n order) ++ cond b (name ∷ []) []) fails
    ∙ append-nil (filter p (take n order))

-- how many of the names up to c pass the test, from the n-th on
abbrev pub count_from : (CharName → Bool) → CharName → List CharName → ℕ → ℕ
count_from p c order n = count_by p (up_to c (drop n order))

-- where n names are all of them, as many are counted as pass the test up to c
pub counted_all : (p : CharName → Bool) (c : CharName) (order : List CharName) (n count : ℕ)
    → length order ≤ n → count + count_from p c order n ≡ count_from p c order 0
    → count ≡ count_by p (up_to c order)
counted_all p c order n count all counted =
    let none : count_from p c order n ≡ 0 = ap (λ (xs : List CharName). count_by p (up_to c xs))
    (drop_all n order all) in
    omega (arith, none, counted)

-- where the next name is c, as many are counted with it as pass the test up to c
pub counted_here : (p : CharName → Bool) (c d : CharName) (order : List CharName) (n count : ℕ)
    (passes : Bool) → n < length order → d ≡ get_or order n d
    → (eqb d.site c.site && eqb d.off c.off) ≡ true → p d ≡ passes
    → count + count_from p c order n ≡ count_from p c order 0
    → count + cond passes 1 0 ≡ count_by p (up_to c order)
counted_here p c d order n count passes lt is same result counted =
    let front : drop n order ≡ d ∷ drop (n + 1) order = drop_more order n d lt
    ∙ ap (λ (x : CharName). x ∷ drop (n + 1) order) (sym is) in
    let one : count_from p c order n ≡ cond passes 1 0 = ap (λ (xs : List CharName). count_by p (up_to c xs))
    front ∙ rw (same, result) (omega arith) in
    sym (ap (λ (k : ℕ). count + k) one) ∙ counted
