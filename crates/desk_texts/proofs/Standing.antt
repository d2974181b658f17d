-- Where a name is shown: at one position, directly before its place.
use Rattle.std.proofs.Common.{◌≡◌, ℕ, zero, suc, ◌+◌, ◌-◌, ◌==◌, ◌&&◌, List, length, map, Option, Some, None}
use Rattle.std.proofs.Common.{Bool, true, false, cond, if◌then◌else◌, ne_eqb, slice_get, inl, inr, refl, sym, ap, subst, ◌∙◌, arith}
use Rattle.std.specs.List.{position_or_len}
use Rattle.std.specs.Option.{option_map, option_map_or}
use Rattle.std.proofs.lemmas.Bool.{and_parts, cases_lt, eqb-true, lt-ltb, true≢false}
use Rattle.std.proofs.lemmas.List.Elements.{All-contains}
use Rattle.std.proofs.lemmas.List.Quantifiers.{position-Some}
use Rattle.std.proofs.lemmas.List.Sums.{fails_before_first}
use Rattle.std.proofs.lemmas.Option.{get_or_from_slice_get, slice_get-map, slice_get_within}
use Rattle.looks.specs.Looks.{plain_looks}
use Rattle.char_files.specs.CharName.{CharName}
use Rattle.char_files.specs.declared.character.Char.{Char}
use Rattle.char_files.specs.declared.name.Anchor.{Anchor}
use Rattle.char_files.specs.declared.name.Anchor.TheVariants.{At, Root}
use Rattle.operations.proofs.WithName.{same_name}
use Rattle.tree_order.specs.Shown.{IsPlace, IsShown, place}
use Rattle.tree_order.specs.Tree.{IsChar}
use Rattle.tree_order.proofs.OneText.{one_order}
use Rattle.tree_order.proofs.PlaceOfShown.{place_is_after}
use Rattle.op_log.proofs.Lists.{Contains-slice_get, slice_get-some}
use Rattle.texts.specs.Edit.{anchor_before}
use Rattle.texts.specs.Text.{IsText}
use Rattle.texts.specs.TextState.{TextState, shown_of}
use Rattle.texts.proofs.Chars.{shown_are_chars, shows_the_definition}
use Rattle.machine.specs.WhereShown.{shown_at}

-- the character of this name is shown here
pub record StandsAt (chars : List Char) (name : CharName) (q : ℕ) : Type 0 where
  pub char : Char
  pub at : slice_get chars q ≡ Some char
  pub named : char.name ≡ name

some_is_none : {n : ℕ} → Some n ≡ None → ⊥
some_is_none e = absurd cc

module _ (chars : List Char) (name : CharName) where
  abbrev has_name : Char → Bool
  has_name c = c.name.site == name.site && c.name.off == name.off

  any_char : Char
  any_char = record { name = name; byte = 0; looks = plain_looks }

  -- where a name is told to be shown it is
  pub found : (q : ℕ) → shown_at chars name ≡ Some q → StandsAt chars name q
  found q told =
      let (inside, passes, first) = position-Some has_name chars q any_char told in
      let (c, at) = slice_get-some chars q inside in
      let same : has_name c ≡ true =
      subst (λ (x : Char). has_name x ≡ true) (get_or_from_slice_get chars q c any_char at) passes in
      let parts = and_parts (c.name.site == name.site) (c.name.off == name.off) same in
      record { char = c; at = at; named = same_name c.name name (eqb-true _ _ parts.0) (eqb-true _ _ parts.1) }

  -- and where it isn't it is nowhere
  pub missed : shown_at chars name ≡ None → (q : ℕ) → StandsAt chars name q → ⊥
  missed none q here =
      let same : has_name here.char ≡ true = rw here.named (grind arith) in
      elim (cases_lt (position_or_len has_name chars) (length chars)) [
        | inl lt ↦
            let test = lt-ltb _ _ lt in
            some_is_none (subst (λ (b : Bool). cond b (Some (position_or_len has_name chars)) None ≡ None) test none)
        | inr le ↦
            let fails = fails_before_first has_name chars q any_char (omega (arith, le, slice_get_within chars q here.char here.at)) in
            true≢false (sym same ∙ subst (λ (x : Char). has_name x ≡ false)
            (get_or_from_slice_get chars q here.char any_char here.at) fails)
      ]

  -- it is told where it stands, if it stands once
  pub told_once : ((p q : ℕ) → StandsAt chars name p → StandsAt chars name q → p ≡ q) → (q : ℕ)
      → StandsAt chars name q → shown_at chars name ≡ Some q
  told_once once q here = go (shown_at chars name) refl (λ none. missed none q here) (λ p told. once p q (found p told) here)
    where
      go : (o : Option ℕ) → shown_at chars name ≡ o → (shown_at chars name ≡ None → ⊥)
          → ((p : ℕ) → shown_at chars name ≡ Some p → p ≡ q) → shown_at chars name ≡ Some q
      go None told nowhere there = absurd (nowhere told)
      go (Some p) told nowhere there = told ∙ ap (λ (k : ℕ). Some k) (there p told)

-- what stands before a position of what is shown
after : (shown : List Char) (q : ℕ)
    → anchor_before shown (suc q) ≡ option_map_or (λ c. At c.name) (slice_get shown q) Root
after shown q =
    let some : (suc q == 0) ≡ false = ne_eqb (suc q) 0 (λ e. absurd (omega (arith, e))) in
    let one : suc q - 1 ≡ q = omega arith in
    ap (λ (b : Bool). if b then Root else option_map_or (λ c. At c.name) (slice_get shown (suc q - 1)) Root) some
    ∙ ap (λ (n : ℕ). option_map_or (λ c. At c.name) (slice_get shown n) Root) one

-- the name of an anchor, or this one
abbrev pub name_or : CharName → Anchor → CharName
name_or other Root = other
name_or other (At name) = name

stands_before : (shown : List Char) (name : CharName) (q : ℕ) → anchor_before shown (suc q) ≡ At name
    → StandsAt shown name q
stands_before shown name q is = go (slice_get shown q) refl (sym (after shown q) ∙ is)
  where
    go : (o : Option Char) → slice_get shown q ≡ o → option_map_or (λ c. At c.name) o Root ≡ At name
        → StandsAt shown name q
    go None at e = absurd cc
    go (Some c) at e = record { char = c; at = at; named = ap (name_or name) e }

comes_before : (shown : List Char) (name : CharName) (q : ℕ) → StandsAt shown name q
    → anchor_before shown (suc q) ≡ At name
comes_before shown name q here =
    after shown q ∙ ap (λ (o : Option Char). option_map_or (λ c. At c.name) o Root) here.at
    ∙ ap (λ (c : CharName). At c) here.named

-- of a text
module _ (t : TextState) (is : IsText t) (name : CharName) where
  abbrev shown : List Char
  shown = shown_of t

  defined : IsShown t.operations (shown_of t)
  defined = shows_the_definition t is

  one_place : (m n : ℕ) → IsPlace t.operations (At name) m → IsPlace t.operations (At name) n → m ≡ n
  one_place m n (order, in_order, at) (order', in_order', at') =
      at
      ∙ ap (λ (o : List CharName). place t.operations o (At name))
      (one_order t.operations is.good order order' in_order in_order')
      ∙ sym at'

  -- a name that is shown stands directly before its place
  before_place : (n q : ℕ) → IsPlace t.operations (At name) n → StandsAt shown name q → n ≡ q + 1
  before_place n q at here =
      one_place n (q + 1) at (place_is_after t.operations (At name) shown (q + 1) is.good defined (
        q,
        slice_get-map (λ (s : Char). s.name) shown q ∙ ap (option_map (λ (s : Char). s.name)) here.at
            ∙ ap (λ (c : CharName). Some c) here.named,
        refl,
      ))

  is_char : (q : ℕ) → StandsAt shown name q → IsChar t.operations name
  is_char q here =
      All-contains (IsChar t.operations) (map (λ (s : Char). s.name) shown) name (shown_are_chars t is)
      (Contains-slice_get (map (λ (s : Char). s.name) shown) q name
      (slice_get-map (λ (s : Char). s.name) shown q ∙ ap (option_map (λ (s : Char). s.name)) here.at
      ∙ ap (λ (c : CharName). Some c) here.named))

  nowhere : ((q : ℕ) → StandsAt shown name q → ⊥) → None ≡ shown_at (shown_of t) name
  nowhere none = go (shown_at shown name) refl
    where
      go : (o : Option ℕ) → shown_at shown name ≡ o → None ≡ shown_at shown name
      go None told = sym told
      go (Some q) told = absurd (none q (found shown name q told))

  -- a name that isn't here is shown nowhere
  pub not_here : (IsChar t.operations name → ⊥) → None ≡ shown_at (shown_of t) name
  not_here none = nowhere (λ q here. none (is_char q here))

  -- nor is one that doesn't stand before its place
  pub hidden : (n : ℕ) → IsPlace t.operations (At name) n → (anchor_before (shown_of t) n ≡ At name → ⊥)
      → None ≡ shown_at (shown_of t) name
  hidden n at none =
      nowhere (λ q here.
      let next : n ≡ suc q = omega (arith, before_place n q at here) in
      none (ap (anchor_before shown) next ∙ comes_before shown name q here))

  -- it is shown once
  pub once : (p q : ℕ) → StandsAt (shown_of t) name p → StandsAt (shown_of t) name q → p ≡ q
  once p q one other =
      let at : IsPlace t.operations (At name) (place t.operations defined.order (At name)) =
      (defined.order, defined.in_order, refl) in
      omega (arith, before_place _ p at one, before_place _ q at other)

  pub told : (q : ℕ) → StandsAt (shown_of t) name q → shown_at (shown_of t) name ≡ Some q
  told = told_once shown name once

  -- one that stands before its place is shown there
  pub before : (n : ℕ) → IsPlace t.operations (At name) n → anchor_before (shown_of t) n ≡ At name
      → Some (n - 1) ≡ shown_at (shown_of t) name
  before zero at none = absurd cc
  before (suc q) at here =
      let one : suc q - 1 ≡ q = omega arith in
      ap (λ (k : ℕ). Some k) one ∙ sym (told q (stands_before shown name q here))
