-- The place of an anchor among the characters shown.
use Rattle.std.proofs.Common.{◌≡◌, ℕ, zero, suc, ◌+◌, ◌<◌, ◌≤◌, ◌==◌, ◌&&◌, List, [], ◌∷◌, ◌++◌, length, map, take}
use Rattle.std.proofs.Common.{Some, Bool, true, false, cond, eqb, inl, inr, ◌⊎◌, Contains, slice_get, refl, sym, ap, subst, ◌∙◌, arith}
use Rattle.std.proofs.Common.{length-append, append_assoc}
use Rattle.std.specs.List.{filter, count_by}
use Rattle.std.proofs.lemmas.Bool.{and_parts, cases_lt, eqb-true}
use Rattle.std.proofs.lemmas.List.{length-map}
use Rattle.std.proofs.lemmas.List.Elements.{All-contains, All-contains_itself, All-filter, Contains-push, Contains-push_cases, filter-append}
use Rattle.std.proofs.lemmas.List.Sums.{length-filter}
use Rattle.std.proofs.lemmas.Option.{get_or_from_slice_get, same_Some, slice_get_within}
use Rattle.op_log.proofs.Lists.{Contains-slice_get, slice_get-some, slice_get-append_left}
use Rattle.char_files.specs.CharName.{CharName}
use Rattle.char_files.specs.declared.character.Char.{Char}
use Rattle.char_files.specs.declared.name.Anchor.{Anchor}
use Rattle.char_files.specs.declared.name.Anchor.TheVariants.{Root, At}
use Rattle.operations.proofs.WithName.{same_name}
use Rattle.tree_order.specs.Laws.{HasOneOrder}
use Rattle.tree_order.specs.Order.{IsBeforeIn}
use Rattle.tree_order.specs.Shown.{IsPlace, IsShown, is_visible, place, up_to}
use Rattle.tree_order.specs.Tree.{IsChar}
use Rattle.tree_order.proofs.Before.{has_order, Before-irreflexive, Before-transitive}
use Rattle.tree_order.proofs.Sorted.{Contains-cons_cases}
use Rattle.tree_order.proofs.Turns.{names_differ}
use Rattle.texts.specs.Laws.{KeepsTheOrder}
use Rattle.texts.specs.Text.{IsAnchor, IsText}
use Rattle.texts.specs.TextState.{TextState, shown_of}
use Rattle.texts.proofs.Chars.{shows_the_definition}
use Rattle.machine.specs.Windows.{place_in}

-- the names of all characters of a text, and of those that are shown
abbrev pub names_of : TextState → List CharName
names_of t = map (λ c. c.name) t.order

abbrev pub names_shown : TextState → List CharName
names_shown t = map (λ c. c.name) (shown_of t)

-- the place that was told is the one in the text's order
pub place_told : (t : TextState) → IsText t → (anchor : Anchor) (n : ℕ) → IsPlace t.operations anchor n
    → n ≡ place_in t anchor
place_told t is anchor n (order, in_order, at) =
    let one : HasOneOrder t.operations = has_order t.operations is.good in
    at
    ∙ ap (λ (names : List CharName). place t.operations names anchor)
    (one.only order in_order ∙ sym (one.only (names_of t) is.chars.order))

-- a list at a name that is in it
parts_here : (b : Bool) (c d : CharName) (order rest : List CharName) → (b ≡ true → d ≡ c)
    → (b ≡ false → (p : List CharName × List CharName) × (order ≡ p.0 ++ c ∷ p.1) × (rest ≡ p.0 ++ c ∷ []))
    → (p : List CharName × List CharName) × (d ∷ order ≡ p.0 ++ c ∷ p.1) × (d ∷ cond b [] rest ≡ p.0 ++ c ∷ [])
parts_here true c d order rest here later =
    (([], order), ap (λ (x : CharName). x ∷ order) (here refl), ap (λ (x : CharName). x ∷ []) (here refl))
parts_here false c d order rest here later =
    let (p, whole, upto) = later refl in
    ((d ∷ p.0, p.1), ap (λ (l : List CharName). d ∷ l) whole, ap (λ (l : List CharName). d ∷ l) upto)

parts_of : (c : CharName) (order : List CharName) → Contains order c
    → (p : List CharName × List CharName) × (order ≡ p.0 ++ c ∷ p.1) × (up_to c order ≡ p.0 ++ c ∷ [])
parts_of c [] h = absurd (omega arith)
parts_of c (d ∷ order) h =
    parts_here (d.site == c.site && d.off == c.off) c d order (up_to c order)
    (λ e.
    let both = and_parts (eqb d.site c.site) (eqb d.off c.off) e in
    same_name d c (eqb-true _ _ both.0) (eqb-true _ _ both.1))
    (λ e. elim (Contains-cons_cases d order c h) [
      | inl same ↦ absurd (names_differ d c e (sym same))
      | inr later ↦ parts_of c order later
    ])

-- What stands before the place, or at it, and what stands after it, of the names that pass.
pub record Splits (passes : CharName → Bool) (c : CharName) (order : List CharName) (n : ℕ) : Type 0 where
  pub front : List CharName
  pub back : List CharName
  pub whole : order ≡ front ++ c ∷ back
  pub passed : filter passes order ≡ filter passes (front ++ c ∷ []) ++ filter passes back
  pub count : n ≡ length (filter passes (front ++ c ∷ []))

splits : (passes : CharName → Bool) (c : CharName) (order : List CharName) → Contains order c
    → Splits passes c order (count_by passes (up_to c order))
splits passes c order has =
    let (p, whole, upto) = parts_of c order has in
    record {
      front = p.0;
      back = p.1;
      whole = whole;
      passed =
          ap (filter passes) (whole ∙ sym (append_assoc p.0 (c ∷ []) p.1))
          ∙ filter-append passes (p.0 ++ c ∷ []) p.1;
      count = sym (length-filter passes (up_to c order)) ∙ ap (λ (l : List CharName). length (filter passes l)) upto;
    }

found : (xs : List CharName) (d : CharName) → Contains xs d → (k : ℕ) × (slice_get xs k ≡ Some d)
found xs d (k, lt, e) =
    let (x, at) = slice_get-some xs k lt in
    (k, at ∙ ap (λ (y : CharName). Some y) (sym (get_or_from_slice_get xs k x d at) ∙ e))

slice_get-right : (xs ys : List CharName) (n k : ℕ) (x : CharName) → n ≡ length xs + k → slice_get ys k ≡ Some x
    → slice_get (xs ++ ys) n ≡ Some x
slice_get-right [] ys n k x is at =
    let same : n ≡ k = omega (arith, is) in
    ap (slice_get ys) same ∙ at
slice_get-right (y ∷ xs) ys zero k x is at = absurd (omega (arith, is))
slice_get-right (y ∷ xs) ys (suc n) k x is at = slice_get-right xs ys n k x (omega (arith, is)) at

before_in_parts : (xs ys : List CharName) (c d : CharName) → Contains xs c → Contains ys d → IsBeforeIn (xs ++ ys) c d
before_in_parts xs ys c d one other =
    let (i, at) = found xs c one in
    let (j, there) = found ys d other in
    let within : i < length xs = slice_get_within xs i c at in (
      i,
      length xs + j,
      omega (arith, within),
      slice_get-append_left xs ys i c at,
      slice_get-right xs ys (length xs + j) j d refl there,
    )

-- what a filter gives is of the list
passed_is_of : (passes : CharName → Bool) (order : List CharName) (d : CharName)
    → Contains (filter passes order) d → Contains order d
passed_is_of passes order d kept =
    All-contains (Contains order) (filter passes order) d
    (All-filter passes (Contains order) order (All-contains_itself order)) kept

of_front : (xs ys : List CharName) (i : ℕ) (d : CharName) → i < length xs → slice_get (xs ++ ys) i ≡ Some d
    → Contains xs d
of_front [] ys i d lt at = absurd (omega (arith, lt))
of_front (x ∷ xs) ys zero d lt at = (0, omega arith, same_Some x d at)
of_front (x ∷ xs) ys (suc i) d lt at =
    let (j, within, e) = of_front xs ys i d (omega (arith, lt)) at in (suc j, omega (arith, within), e)

of_back : (xs ys : List CharName) (i : ℕ) (d : CharName) → length xs ≤ i → slice_get (xs ++ ys) i ≡ Some d
    → Contains ys d
of_back [] ys i d le at = Contains-slice_get ys i d at
of_back (x ∷ xs) ys zero d le at = absurd (omega (arith, le))
of_back (x ∷ xs) ys (suc i) d le at = of_back xs ys i d (omega (arith, le)) at

module _ (passes : CharName → Bool) (c : CharName) (order : List CharName) (n : ℕ) (s : Splits passes c order n) where
  before : List CharName
  before = s.front ++ c ∷ []

  -- those that pass, up to the place, are c or stand before it
  pub before_or_it : (i : ℕ) (d : CharName) → i < n → slice_get (filter passes order) i ≡ Some d
      → (d ≡ c) ⊎ IsBeforeIn order d c
  before_or_it i d lt at =
      let at' : slice_get (filter passes (s.front ++ c ∷ []) ++ filter passes s.back) i ≡ Some d =
      subst (λ (l : List CharName). slice_get l i ≡ Some d) s.passed at in
      let here : Contains (s.front ++ c ∷ []) d =
      passed_is_of passes (s.front ++ c ∷ []) d
      (of_front (filter passes (s.front ++ c ∷ [])) (filter passes s.back) i d (omega (arith, lt, s.count)) at') in
      elim (Contains-push_cases s.front c d here) [
        | inl front ↦ inr (subst (λ (l : List CharName). IsBeforeIn l d c) (sym s.whole)
            (before_in_parts s.front (c ∷ s.back) d c front (0, omega arith, refl)))
        | inr same ↦ inl (sym same)
      ]

  -- those after it stand after c
  pub after_it : (i : ℕ) (d : CharName) → n ≤ i → slice_get (filter passes order) i ≡ Some d → IsBeforeIn order c d
  after_it i d le at =
      let at' : slice_get (filter passes (s.front ++ c ∷ []) ++ filter passes s.back) i ≡ Some d =
      subst (λ (l : List CharName). slice_get l i ≡ Some d) s.passed at in
      let there : Contains s.back d =
      passed_is_of passes s.back d
      (of_back (filter passes (s.front ++ c ∷ [])) (filter passes s.back) i d (omega (arith, le, s.count)) at') in
      subst (λ (l : List CharName). IsBeforeIn l c d) (append_assoc s.front (c ∷ []) s.back ∙ sym s.whole)
      (before_in_parts (s.front ++ c ∷ []) s.back c d (Contains-push s.front c) there)

  pub few : n ≤ length (filter passes order)
  few =
      omega (
        arith,
        s.count,
        ap length s.passed,
        length-append (filter passes (s.front ++ c ∷ [])) (filter passes s.back),
      )

-- no name stands before itself, and of two only one before the other
one_way : (t : TextState) → IsText t → (c d : CharName) → IsBeforeIn (names_of t) c d → IsBeforeIn (names_of t) d c → ⊥
one_way t is c d one other =
    Before-irreflexive t.operations is.good c
    (Before-transitive t.operations is.good c d c ((is.chars.order.before c d).0 one)
    ((is.chars.order.before d c).0 other))

not_itself : (t : TextState) → IsText t → (c : CharName) → IsBeforeIn (names_of t) c c → ⊥
not_itself t is c one = one_way t is c c one one

-- the names of those that are shown are the visible names
pub shown_are_visible : (t : TextState) → IsText t → names_shown t ≡ filter (is_visible t.operations) (names_of t)
shown_are_visible t is =
    let shown : IsShown t.operations (shown_of t) = shows_the_definition t is in
    let one : HasOneOrder t.operations = has_order t.operations is.good in
    shown.visible
    ∙ ap (filter (is_visible t.operations))
    (one.only shown.order shown.in_order ∙ sym (one.only (names_of t) is.chars.order))

in_order : (t : TextState) → IsText t → (c : CharName) → IsChar t.operations c → Contains (names_of t) c
in_order t is c char = (is.chars.order.each c).1 char

pub split_text : (t : TextState) → IsText t → (c : CharName) → IsChar t.operations c
    → Splits (is_visible t.operations) c (names_of t) (place_in t (At c))
split_text t is c char = splits (is_visible t.operations) c (names_of t) (in_order t is c char)

-- a place is one of those that the text has
pub place_within : (t : TextState) → IsText t → (anchor : Anchor) → IsAnchor t.operations anchor
    → place_in t anchor ≤ length (shown_of t)
place_within t is Root char = omega arith
place_within t is (At c) char =
    omega (
      arith,
      few (is_visible t.operations) c (names_of t) (place_in t (At c)) (split_text t is c char),
      ap length (shown_are_visible t is),
      length-map (shown_of t) (λ (s : Char). s.name),
    )

-- a name that is shown, among the visible ones
visible_at : (t : TextState) → IsText t → (i : ℕ) (d : CharName) → slice_get (names_shown t) i ≡ Some d
    → slice_get (filter (is_visible t.operations) (names_of t)) i ≡ Some d
visible_at t is i d at = subst (λ (l : List CharName). slice_get l i ≡ Some d) (shown_are_visible t is) at

few_shown : (t : TextState) → IsText t → (c : CharName) → IsChar t.operations c
    → place_in t (At c) ≤ length (names_shown t)
few_shown t is c char =
    omega (
      arith,
      place_within t is (At c) char,
      length-map (shown_of t) (λ (s : Char). s.name),
    )

slice_get-front : (n : ℕ) (xs : List CharName) (k : ℕ) → k < n → slice_get (take n xs) k ≡ slice_get xs k
slice_get-front zero xs k lt = absurd (omega (arith, lt))
slice_get-front (suc n) [] k lt = refl
slice_get-front (suc n) (x ∷ xs) zero lt = refl
slice_get-front (suc n) (x ∷ xs) (suc k) lt = slice_get-front n xs k (omega (arith, lt))

-- The place of a character stays, where the names stay that are shown up to the place and at it, and characters keep
-- their order.
module _ (t u : TextState) (is : IsText t) (is' : IsText u) (keeps : KeepsTheOrder t u) (c : CharName)
    (char : IsChar t.operations c) (char' : IsChar u.operations c) where
  not_less : (k : ℕ) (d : CharName) → k < place_in t (At c) → place_in u (At c) ≤ k
      → slice_get (names_shown t) k ≡ Some d → slice_get (names_shown u) k ≡ Some d → ⊥
  not_less k d lt le at at' =
      let after : IsBeforeIn (names_of u) c d =
      after_it (is_visible u.operations) c (names_of u) (place_in u (At c)) (split_text u is' c char') k d le
      (visible_at u is' k d at') in
      elim (before_or_it (is_visible t.operations) c (names_of t) (place_in t (At c)) (split_text t is c char) k d lt
      (visible_at t is k d at)) [
        | inl same ↦ not_itself u is' c (subst (λ (x : CharName). IsBeforeIn (names_of u) c x) same after)
        | inr first ↦ one_way u is' c d after (keeps d c first)
      ]

  not_more : (d : CharName) → place_in t (At c) < place_in u (At c)
      → slice_get (names_shown t) (place_in t (At c)) ≡ Some d
      → slice_get (names_shown u) (place_in t (At c)) ≡ Some d → ⊥
  not_more d lt at at' =
      let after : IsBeforeIn (names_of u) c d =
      keeps c d (after_it (is_visible t.operations) c (names_of t) (place_in t (At c)) (split_text t is c char)
      (place_in t (At c)) d (omega arith) (visible_at t is (place_in t (At c)) d at)) in
      elim (before_or_it (is_visible u.operations) c (names_of u) (place_in u (At c)) (split_text u is' c char')
      (place_in t (At c)) d lt (visible_at u is' (place_in t (At c)) d at')) [
        | inl same ↦ not_itself u is' c (subst (λ (x : CharName). IsBeforeIn (names_of u) c x) same after)
        | inr first ↦ one_way u is' c d after first
      ]

  both_have : take (suc (place_in t (At c))) (names_shown u) ≡ take (suc (place_in t (At c))) (names_shown t) → (k : ℕ)
      → k ≤ place_in t (At c) → slice_get (names_shown u) k ≡ slice_get (names_shown t) k
  both_have same k le =
      sym (slice_get-front (suc (place_in t (At c))) (names_shown u) k (omega (arith, le)))
      ∙ ap (λ (l : List CharName). slice_get l k) same
      ∙ slice_get-front (suc (place_in t (At c))) (names_shown t) k (omega (arith, le))

  pub char_stays : take (suc (place_in t (At c))) (names_shown u) ≡ take (suc (place_in t (At c))) (names_shown t)
      → place_in u (At c) ≡ place_in t (At c)
  char_stays same = elim (cases_lt (place_in t (At c)) (place_in u (At c))) [
    | inl more ↦
        let (d, at') = slice_get-some (names_shown u) (place_in t (At c)) (omega (arith, more, few_shown u is' c char')) in
        absurd (not_more d more (sym (both_have same (place_in t (At c)) (omega arith)) ∙ at') at')
    | inr le ↦ elim (cases_lt (place_in u (At c)) (place_in t (At c))) [
      | inl less ↦
          let (d, at) = slice_get-some (names_shown t) (place_in u (At c)) (omega (arith, less, few_shown t is c char)) in
          absurd (not_less (place_in u (At c)) d less (omega arith) at
          (both_have same (place_in u (At c)) (omega (arith, less)) ∙ at))
      | inr ge ↦ omega (arith, le, ge)
    ]
  ]

-- so the place of an anchor stays
pub place_stays : (t u : TextState) → IsText t → IsText u → KeepsTheOrder t u → (anchor : Anchor)
    → IsAnchor t.operations anchor → IsAnchor u.operations anchor
    → take (suc (place_in t anchor)) (names_shown u) ≡ take (suc (place_in t anchor)) (names_shown t)
    → place_in u anchor ≡ place_in t anchor
place_stays t u is is' keeps Root char char' same = refl
place_stays t u is is' keeps (At c) char char' same = char_stays t u is is' keeps c char char' same
