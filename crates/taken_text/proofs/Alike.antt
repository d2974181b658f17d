-- The names of a range: the first ones, whose characters are alike, and those after them.
use Rattle.std.proofs.Common.{◌≡◌, ℕ, zero, suc, ◌+◌, ◌-◌, ◌<◌, List, [], ◌∷◌, ◌++◌, length, drop, get_or, drop-cons, add-one, append_assoc, append-nil, Bool, true, false, not, refl, sym, ap, ◌∙◌, arith}
use Rattle.std.specs.Prelude.{filter, ◌||◌}
use Rattle.std.specs.List.{list_any}
use Rattle.std.proofs.Math.Bool.{beq}
use Rattle.std.proofs.lemmas.Grind.{flat_map-append}
use Rattle.std.proofs.lemmas.List.Elements.{filter-append}
use Rattle.std.proofs.lemmas.List.Folds.{list_any-append}
use Rattle.char_files.specs.CharName.{CharName}
use Rattle.operations.specs.NameSet.{Range, IsAmong, IsIn, names_in, names_of}
use Rattle.operations.specs.Operation.{Operation}
use Rattle.tree_order.specs.Shown.{is_visible}
use Rattle.taken_text.specs.Named.{has_visibility}

-- so many names of a site
abbrev pub range : (site at len : ℕ) → Range
range site at len = record { site = site; at = at; len = len }

abbrev name : (site off : ℕ) → CharName
name site off = record { site = site; off = off }

-- n + m names are n of them and m of them
pub names_cut : (site at n m : ℕ) → names_of (range site at (n + m)) ≡ names_of (range site at n) ++ names_of (range site (at + n) m)
names_cut site at zero m = (λ k. names_of (range site (at_is k) (len_is k)))
  where
    at_is : at ≡ at + zero
    at_is = omega arith

    len_is : zero + m ≡ m
    len_is = omega arith
names_cut site at (suc n) m =
    let more : suc n + m ≡ suc (n + m) = omega arith in
    let next : at + 1 + n ≡ at + suc n = omega arith in
    ap (λ (len : ℕ). names_of (range site at len)) more
    ∙ ap (λ (names : List CharName). name site at ∷ names) (names_cut site (at + 1) n m
    ∙ ap (λ (off : ℕ). names_of (range site (at + 1) n) ++ names_of (range site off m)) next)

-- all pass, or none does
all_alike : (p : CharName → Bool) (passed : Bool) (site at n : ℕ) → ((c : CharName) → IsIn (range site at n) c → p c ≡ passed)
    → filter p (names_of (range site at n)) ≡ (elim passed as (λ _. List CharName) [ true ↦ names_of (range site at n) | false ↦ [] ])
all_alike p true site at zero alike = refl
all_alike p false site at zero alike = refl
all_alike p true site at (suc n) alike =
    let first : p (name site at) ≡ true = alike (name site at) (refl, omega arith, omega arith) in
    rw first (ap (λ (names : List CharName). name site at ∷ names)
    (all_alike p true site (at + 1) n (λ c is. alike c (is.0, omega (arith, is.1), omega (arith, is.2)))))
all_alike p false site at (suc n) alike =
    let first : p (name site at) ≡ false = alike (name site at) (refl, omega arith, omega arith) in
    rw first (all_alike p false site (at + 1) n (λ c is. alike c (is.0, omega (arith, is.1), omega (arith, is.2))))

any_alike : (p : CharName → Bool) (passed : Bool) (site at n : ℕ) → 0 < n
    → ((c : CharName) → IsIn (range site at n) c → p c ≡ passed) → list_any p (names_of (range site at n)) ≡ passed
any_alike p passed site at zero some alike = absurd (omega (arith, some))
any_alike p true site at (suc n) some alike =
    let first : p (name site at) ≡ true = alike (name site at) (refl, omega arith, omega arith) in
    rw first refl
any_alike p false site at (suc zero) some alike =
    let first : p (name site at) ≡ false = alike (name site at) (refl, omega arith, omega arith) in
    rw first refl
any_alike p false site at (suc (suc n)) some alike =
    let first : p (name site at) ≡ false = alike (name site at) (refl, omega arith, omega arith) in
    rw first (any_alike p false site (at + 1) (suc n) (omega arith) (λ c is. alike c (is.0, omega (arith, is.1), omega (arith, is.2))))

-- whether a character is as asked, where it is known to be shown or hidden
as_asked : (ops : List Operation) (visible shown : Bool) (c : CharName) → is_visible ops c ≡ shown → beq shown visible ≡ true
    → has_visibility ops visible c ≡ true
as_asked ops true true c is same = is
as_asked ops true false c is same = absurd cc
as_asked ops false true c is same = absurd cc
as_asked ops false false c is same = ap not is

not_as_asked : (ops : List Operation) (visible shown : Bool) (c : CharName) → is_visible ops c ≡ shown → beq shown visible ≡ false
    → has_visibility ops visible c ≡ false
not_as_asked ops true true c is other = absurd cc
not_as_asked ops true false c is other = is
not_as_asked ops false true c is other = ap not is
not_as_asked ops false false c is other = absurd cc

-- the first n of n + m names are alike
module _ (ops : List Operation) (visible shown : Bool) (site at n m : ℕ)
    (alike : (c : CharName) → IsIn (range site at n) c → is_visible ops c ≡ shown) where
  abbrev test : CharName → Bool
  test = has_visibility ops visible

  abbrev first : List CharName
  first = names_of (range site at n)

  abbrev rest : List CharName
  rest = names_of (range site (at + n) m)

  kept : filter test (names_of (range site at (n + m))) ≡ filter test first ++ filter test rest
  kept = ap (filter test) (names_cut site at n m) ∙ filter-append test first rest

  any : list_any test (names_of (range site at (n + m))) ≡ (list_any test first || list_any test rest)
  any = ap (list_any test) (names_cut site at n m) ∙ list_any-append test first rest

  -- and as asked
  pub kept_here : beq shown visible ≡ true → filter test (names_of (range site at (n + m))) ≡ first ++ filter test rest
  kept_here same =
      kept ∙ ap (λ (names : List CharName). names ++ filter test rest)
      (all_alike test true site at n (λ c is. as_asked ops visible shown c (alike c is) same))

  pub any_here : 0 < n → beq shown visible ≡ true → list_any test (names_of (range site at (n + m))) ≡ true
  any_here some same =
      any ∙ ap (λ (b : Bool). b || list_any test rest)
      (any_alike test true site at n some (λ c is. as_asked ops visible shown c (alike c is) same))

  -- and not as asked
  pub kept_later : beq shown visible ≡ false → filter test (names_of (range site at (n + m))) ≡ filter test rest
  kept_later other =
      kept ∙ ap (λ (names : List CharName). names ++ filter test rest)
      (all_alike test false site at n (λ c is. not_as_asked ops visible shown c (alike c is) other))

  pub any_later : 0 < n → beq shown visible ≡ false → list_any test (names_of (range site at (n + m))) ≡ list_any test rest
  any_later some other =
      any ∙ ap (λ (b : Bool). b || list_any test rest)
      (any_alike test false site at n some (λ c is. not_as_asked ops visible shown c (alike c is) other))

-- the range at an index, and those after it
ranges_from : (ranges : List Range) (i : ℕ) (r : Range) → i < length ranges → r ≡ get_or ranges i r
    → names_in (drop i ranges) ≡ names_of r ++ names_in (drop (i + 1) ranges)
ranges_from ranges i r within is =
    rw add-one (ap names_in (drop-cons ranges i r within) ∙ ap (λ (s : Range). names_of s ++ names_in (drop (suc i) ranges)) (sym is))

-- its names are among those of all
pub among : (ranges : List Range) (i : ℕ) (r : Range) → i < length ranges → r ≡ get_or ranges i r → (c : CharName) → IsIn r c
    → IsAmong ranges c
among ranges i r within is c held = (i, r, within, sym is, held)

module _ (test : CharName → Bool) (ranges : List Range) (i : ℕ) (r : Range) (within : i < length ranges) (is : r ≡ get_or ranges i r) where
  any_from : list_any test (names_in (drop i ranges)) ≡ (list_any test (names_of r) || list_any test (names_in (drop (i + 1) ranges)))
  any_from =
      ap (list_any test) (ranges_from ranges i r within is)
      ∙ list_any-append test (names_of r) (names_in (drop (i + 1) ranges))

  -- one of its names passes the test, or it depends on those after it
  pub any_found : (found : Bool) → found ≡ list_any test (names_of r) → found ≡ true → list_any test (names_in (drop i ranges)) ≡ true
  any_found found tells passes =
      any_from ∙ ap (λ (b : Bool). b || list_any test (names_in (drop (i + 1) ranges))) (sym tells ∙ passes)

  pub any_passed : (found : Bool) → found ≡ list_any test (names_of r) → found ≡ false
      → list_any test (names_in (drop i ranges)) ≡ list_any test (names_in (drop (i + 1) ranges))
  any_passed found tells fails =
      any_from ∙ ap (λ (b : Bool). b || list_any test (names_in (drop (i + 1) ranges))) (sym tells ∙ fails)

  -- those of its names that pass the test were gathered
  pub gathered : (found found' whole : List CharName) → found' ≡ found ++ filter test (names_of r)
      → found ++ filter test (names_in (drop i ranges)) ≡ whole → found' ++ filter test (names_in (drop (i + 1) ranges)) ≡ whole
  gathered found found' whole more left =
      let rest = names_in (drop (i + 1) ranges) in
      ap (λ (names : List CharName). names ++ filter test rest) more
      ∙ append_assoc found (filter test (names_of r)) (filter test rest)
      ∙ ap (λ (names : List CharName). found ++ names)
      (sym (ap (filter test) (ranges_from ranges i r within is) ∙ filter-append test (names_of r) rest))
      ∙ left

-- the names of ranges, and of one more
pub names_more : (ranges : List Range) (r : Range) → names_in (ranges ++ r ∷ []) ≡ names_in ranges ++ names_of r
names_more ranges r =
    flat_map-append names_of ranges (r ∷ []) ∙ ap (λ (names : List CharName). names_in ranges ++ names) (append-nil (names_of r))

-- a range, by where it begins and ends
pub same_len : (r : Range) (at end : ℕ) → at ≡ r.at → end ≡ r.at + r.len → names_of r ≡ names_of (range r.site at (end - at))
same_len r at end first last = (λ k. names_of (range r.site (first_is k) (len_is k)))
  where
    first_is : r.at ≡ at
    first_is = sym first

    len_is : r.len ≡ end - at
    len_is = omega (arith, first, last)

-- no name is left where it begins no earlier than it ends
pub none_left : (site at len : ℕ) → len ≡ 0 → names_of (range site at len) ≡ []
none_left site at len none = rw none refl
