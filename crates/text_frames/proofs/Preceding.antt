-- What stands before a place.
use Rattle.std.proofs.Common.{◌≡◌, ℕ, zero, suc, ◌-◌, ◌==◌, List, [], ◌∷◌, ◌++◌, length, map}
use Rattle.std.proofs.Common.{Some, None, Option, Bool, true, false, cond, if◌then◌else◌, inl, inr, slice_get, refl, sym, ap, subst, ◌∙◌, arith}
use Rattle.std.proofs.Common.{All, length-append, ne_eqb}
use Rattle.std.specs.List.{filter}
use Rattle.std.specs.Option.{option_map_or}
use Rattle.std.proofs.lemmas.Bool.{cases_Bool}
use Rattle.std.proofs.lemmas.List.Elements.{All-contains, filter-append, filter_passes}
use Rattle.op_log.proofs.Lists.{Contains-slice_get, slice_get-append_left, slice_get-push}
use Rattle.char_files.specs.CharName.{CharName}
use Rattle.char_files.specs.declared.character.Char.{Char}
use Rattle.char_files.specs.declared.name.Anchor.{Anchor}
use Rattle.char_files.specs.declared.name.Anchor.TheVariants.{Root, At}
use Rattle.tree_order.specs.Shown.{is_visible}
use Rattle.tree_order.specs.Tree.{IsChar}
use Rattle.texts.specs.Edit.{anchor_before}
use Rattle.texts.specs.Text.{IsAnchor, IsText}
use Rattle.texts.specs.TextState.{TextState, shown_of}
use Rattle.texts.proofs.Chars.{shown_are_chars}
use Rattle.machine.specs.Windows.{place_before, place_in}
use Rattle.text_frames.proofs.Places.{Splits, names_of, names_shown, shown_are_visible, split_text}

-- the anchor of this name, or the root
abbrev anchor_of : Option CharName → Anchor
anchor_of None = Root
anchor_of (Some c) = At c

named : (shown : List Char) (q : ℕ)
    → option_map_or (λ c. At c.name) (slice_get shown q) Root ≡ anchor_of (slice_get (map (λ c. c.name) shown) q)
named [] q = refl
named (c ∷ shown) zero = refl
named (c ∷ shown) (suc q) = named shown q

anchor_later : (shown : List Char) (q : ℕ) → anchor_before shown (suc q) ≡ anchor_of (slice_get (map (λ c. c.name) shown) q)
anchor_later shown q =
    let some : (suc q == 0) ≡ false = ne_eqb (suc q) 0 (λ e. absurd (omega (arith, e))) in
    let one : suc q - 1 ≡ q = omega arith in
    ap (λ (b : Bool). if b then Root else option_map_or (λ c. At c.name) (slice_get shown (suc q - 1)) Root) some
    ∙ ap (λ (n : ℕ). option_map_or (λ c. At c.name) (slice_get shown n) Root) one ∙ named shown q

is_char_of : (ops_char : CharName → Type 0) (names : List CharName) (q : ℕ) (o : Option CharName)
    → slice_get names q ≡ o → All ops_char names → (d : CharName) → o ≡ Some d → ops_char d
is_char_of P names q o is all d some = All-contains P names d all (Contains-slice_get names q d (is ∙ some))

anchored : (t : TextState) → IsText t → (q : ℕ) (o : Option CharName) → slice_get (names_shown t) q ≡ o
    → IsAnchor t.operations (anchor_of o)
anchored t is q None at = tt
anchored t is q (Some d) at =
    is_char_of (IsChar t.operations) (names_shown t) q (Some d) at (shown_are_chars t is) d refl

-- what stands before a place is a character, or the root
pub before_is_anchor : (t : TextState) → IsText t → (pos : ℕ) → IsAnchor t.operations (anchor_before (shown_of t) pos)
before_is_anchor t is zero = tt
before_is_anchor t is (suc q) =
    subst (IsAnchor t.operations) (sym (anchor_later (shown_of t) q))
    (anchored t is q (slice_get (names_shown t) q) refl)

-- a visible character stands directly before its place
visible_before : (passes : CharName → Bool) (c : CharName) (order : List CharName) (n : ℕ) → Splits passes c order n
    → passes c ≡ true → (q : ℕ) × (n ≡ suc q) × (slice_get (filter passes order) q ≡ Some c)
visible_before passes c order n s shown =
    let front : List CharName = filter passes s.front in
    let last : filter passes (s.front ++ c ∷ []) ≡ front ++ c ∷ [] =
    filter-append passes s.front (c ∷ [])
    ∙ ap (λ (b : Bool). front ++ cond b (c ∷ []) []) shown in
    let at : slice_get (filter passes (s.front ++ c ∷ [])) (length front) ≡ Some c =
    subst (λ (l : List CharName). slice_get l (length front) ≡ Some c) (sym last) (slice_get-push front c) in (
      length front,
      omega (arith, s.count, ap length last, length-append front (c ∷ [])),
      subst (λ (l : List CharName). slice_get l (length front) ≡ Some c) (sym s.passed)
          (slice_get-append_left (filter passes (s.front ++ c ∷ [])) (filter passes s.back) (length front) c at),
    )

module _ (t : TextState) (is : IsText t) (c : CharName) (char : IsChar t.operations c) where
  shown_before : is_visible t.operations c ≡ true → anchor_before (shown_of t) (place_in t (At c)) ≡ At c
  shown_before shown =
      let (q, at, here) = visible_before (is_visible t.operations) c (names_of t) (place_in t (At c))
      (split_text t is c char) shown in
      let named : slice_get (names_shown t) q ≡ Some c =
      subst (λ (l : List CharName). slice_get l q ≡ Some c) (sym (shown_are_visible t is)) here in
      ap (anchor_before (shown_of t)) at ∙ anchor_later (shown_of t) q ∙ ap anchor_of named

  seen : (q : ℕ) (o : Option CharName) → slice_get (names_shown t) q ≡ o → anchor_of o ≡ At c
      → is_visible t.operations c ≡ true
  seen q None at e = absurd (cc e)
  seen q (Some d) at e =
      let same : d ≡ c = cc e in
      let here : slice_get (filter (is_visible t.operations) (names_of t)) q ≡ Some c =
      subst (λ (l : List CharName). slice_get l q ≡ Some c) (shown_are_visible t is)
      (at ∙ ap (λ (x : CharName). Some x) same) in
      All-contains (λ (x : CharName). is_visible t.operations x ≡ true) (filter (is_visible t.operations) (names_of t)) c
      (filter_passes (is_visible t.operations) (names_of t))
      (Contains-slice_get (filter (is_visible t.operations) (names_of t)) q c here)

  before_is_shown : (n : ℕ) → anchor_before (shown_of t) n ≡ At c → is_visible t.operations c ≡ true
  before_is_shown zero e = absurd (cc e)
  before_is_shown (suc q) e =
      seen q (slice_get (names_shown t) q) refl (sym (anchor_later (shown_of t) q) ∙ e)

  -- where the character stands directly before its place, it is shown, and one less stands before it
  pub one_less : anchor_before (shown_of t) (place_in t (At c)) ≡ At c → place_in t (At c) - 1 ≡ place_before t c
  one_less e =
      ap (λ (b : Bool). place_in t (At c) - (if b then 1 else 0)) (sym (before_is_shown (place_in t (At c)) e))

  -- else it is hidden
  pub none_less : (anchor_before (shown_of t) (place_in t (At c)) ≡ At c → ⊥) → place_in t (At c) ≡ place_before t c
  none_less differs = elim (cases_Bool (is_visible t.operations c)) [
    | inl shown ↦ absurd (differs (shown_before shown))
    | inr hidden ↦
        let same : place_in t (At c) ≡ place_in t (At c) - 0 = omega arith in
        same ∙ ap (λ (b : Bool). place_in t (At c) - (if b then 1 else 0)) (sym hidden)
  ]
