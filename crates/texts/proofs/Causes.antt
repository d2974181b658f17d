-- The anchor that a position gives: the root or a character, and the list of all characters up to it.
use Rattle.std.proofs.Common.{◌≡◌, ℕ, zero, suc, ◌-◌, ◌≤◌, inl, inr, Bool, true, false, cond, eqb, ◌&&◌}
use Rattle.std.proofs.Common.{List, [], ◌∷◌, ◌++◌, Some, length, take, map, refl, sym, ap, subst, ◌∙◌}
use Rattle.std.proofs.Common.{Contains, eq-eqb, arith}
use Rattle.std.specs.Prelude.{All, option_map, slice_get}
use Rattle.std.proofs.lemmas.Bool.{and_parts, eqb-true, false≢true}
use Rattle.std.proofs.lemmas.Bool.Decides.{nat_tests}
use Rattle.std.proofs.lemmas.List.Elements.{All-contains}
use Rattle.std.proofs.lemmas.Option.{get_or_from_slice_get, slice_get_within, slice_get-map, slice_get_cases}
use Rattle.looks.specs.declared.looks.Looks.{Looks}
use Rattle.char_files.specs.CharName.{CharName}
use Rattle.char_files.specs.declared.character.Char.{Char}
use Rattle.char_files.specs.declared.name.Anchor.{Anchor}
use Rattle.char_files.specs.declared.name.Anchor.TheVariants.{Root, At}
use Rattle.operations.specs.Operation.{Operation, insert, MentionsBy}
use Rattle.tree_order.specs.Insertion.{EndsAt, IsJustAfter}
use Rattle.tree_order.specs.Order.{IsOrder}
use Rattle.tree_order.specs.Shown.{up_to}
use Rattle.tree_order.specs.Tree.{IsChar}
use Rattle.texts.specs.Edit.{anchor_before}
use Rattle.texts.specs.Order.{count_to}
use Rattle.texts.specs.Text.{IsAnchor}

-- the position is that after the anchor
pub anchor_is_after : (shown : List Char) (pos : ℕ) → pos ≤ length shown
    → IsJustAfter (map (λ s. s.name) shown) (anchor_before shown pos) pos
anchor_is_after shown zero within = refl
anchor_is_after shown (suc k) within =
    let apart : eqb (suc k) 0 ≡ false = grind (arith, nat_tests) in
    elim (slice_get_cases shown (suc k - 1)).1 [
      | inl w ↦
          let name : slice_get (map (λ (s : Char). s.name) shown) (suc k - 1) ≡ Some w.0.name =
          slice_get-map (λ (s : Char). s.name) shown (suc k - 1) ∙ ap (option_map (λ (s : Char). s.name)) w.2 in
          rw (apart, w.2) (suc k - 1, name, omega arith)
      | inr w ↦ absurd (omega arith)
    ]

pub old_if_mentioned : (ops : List Operation) (a : Anchor) (at : ℕ) (looks : Looks) (bytes : List ℕ) → IsAnchor ops a
    → (name : CharName) → MentionsBy (insert a at looks bytes) name → IsChar ops name
old_if_mentioned ops Root at looks bytes old name m = absurd m
old_if_mentioned ops (At c) at looks bytes old name m = subst (IsChar ops) (sym m) old

pub old_if_after : (ops : List Operation) (names : List CharName) (a : Anchor) (pos : ℕ) → All (IsChar ops) names
    → IsJustAfter names a pos → IsAnchor ops a
old_if_after ops names Root pos are after = tt
old_if_after ops names (At c) pos are (k, at, next) =
    All-contains (IsChar ops) names c are
    (k, slice_get_within names k c at, get_or_from_slice_get names k c c at)

-- one step of the way to c, which d is or not
one_step : (c d : CharName) (names before : List CharName) (same : Bool) → (same ≡ true → d ≡ c)
    → (same ≡ false → (front : List CharName) × (take (length before) names ≡ front ++ c ∷ []))
    → (front : List CharName) × (d ∷ take (length (cond same [] before)) names ≡ front ++ c ∷ [])
one_step c d names before true here later = ([], ap (λ (x : CharName). x ∷ []) (here refl))
one_step c d names before false here later =
    let (front, e) = later refl in
    (d ∷ front, ap (λ (xs : List CharName). d ∷ xs) e)

is_same : (c d : CharName) → (eqb d.site c.site && eqb d.off c.off) ≡ true → d ≡ c
is_same c d e =
    let parts = and_parts (eqb d.site c.site) (eqb d.off c.off) e in
    let site : d.site ≡ c.site = eqb-true _ _ parts.0 in
    let off : d.off ≡ c.off = eqb-true _ _ parts.1 in
    let named : ℕ → ℕ → CharName = λ s o. record { site = s; off = o } in
    ap (λ (s : ℕ). named s d.off) site ∙ ap (named c.site) off

tests_same : (c d : CharName) → d ≡ c → (eqb d.site c.site && eqb d.off c.off) ≡ true
tests_same c d e =
    let site = eq-eqb d.site c.site (ap (λ (x : CharName). x.site) e) in
    let off = eq-eqb d.off c.off (ap (λ (x : CharName). x.off) e) in
    rw (site, off) refl

-- as many names as stand up to c, and with it, end with it
ends_with : (c : CharName) (names : List CharName) → Contains names c
    → (front : List CharName) × (take (length (up_to c names)) names ≡ front ++ c ∷ [])
ends_with c [] (k, lt, e) = absurd (omega arith)
ends_with c (d ∷ names) (zero, lt, e) =
    one_step c d names (up_to c names) (eqb d.site c.site && eqb d.off c.off) (is_same c d)
    (λ apart. absurd (false≢true (sym apart ∙ tests_same c d e)))
ends_with c (d ∷ names) (suc k, lt, e) =
    one_step c d names (up_to c names) (eqb d.site c.site && eqb d.off c.off) (is_same c d)
    (λ apart. ends_with c names (k, omega arith, e))

pub ends_at : (ops : List Operation) (order : List Char) (a : Anchor) → IsOrder ops (map (λ c. c.name) order)
    → IsAnchor ops a → EndsAt (take (count_to order a) (map (λ c. c.name) order)) a
ends_at ops order Root is old = refl
ends_at ops order (At c) is old = ends_with c (map (λ (x : Char). x.name) order) ((is.each c).1 old)
