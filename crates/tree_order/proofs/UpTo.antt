-- The names up to an anchor, and those after it.
use Rattle.std.proofs.Common.{◌≡◌, ◌<◌, inl, inr, Bool, true, false, cond, eqb, ◌==◌, ◌&&◌, List, []}
use Rattle.std.proofs.Common.{◌∷◌, ◌++◌, length, drop, refl, sym, ap, subst, Contains, arith}
use Rattle.std.specs.Prelude.{count_by}
use Rattle.std.proofs.lemmas.Bool.{and_parts, eqb-true}
use Rattle.std.proofs.lemmas.List.Elements.{Contains-push_cases}
use Rattle.char_files.specs.CharName.{CharName}
use Rattle.char_files.specs.declared.name.Anchor.{Anchor}
use Rattle.char_files.specs.declared.name.Anchor.TheVariants.{Root, At}
use Rattle.operations.specs.Operation.{Operation, OpKind, insert, Inserts, Mentions, MentionsBy}
use Rattle.tree_order.specs.Insertion.{IsOneMore, IsInsertAt, HasCauseBy, EndsAt}
use Rattle.tree_order.specs.Sequential.{up_to_anchor}
use Rattle.tree_order.specs.Shown.{is_visible, place, up_to}
use Rattle.tree_order.specs.Tree.{IsChar}
use Rattle.tree_order.specs.Order.{IsOrder}
use Rattle.operations.proofs.WithName.{same_name}
use Rattle.tree_order.proofs.OneMore.{held}
use Rattle.tree_order.proofs.Sorted.{Contains-cons_cases}
use Rattle.tree_order.proofs.Turns.{names_differ}

-- a list that begins another, or the empty one
begins_or_none : (b : Bool) (front order : List CharName) → order ≡ front ++ drop (length front) order
    → order ≡ cond b [] front ++ drop (length (cond b [] front)) order
begins_or_none true front order e = refl
begins_or_none false front order e = e

up_to_begins : (c : CharName) (order : List CharName)
    → order ≡ up_to c order ++ drop (length (up_to c order)) order
up_to_begins c [] = refl
up_to_begins c (d ∷ order) =
    ap (λ (xs : List CharName). d ∷ xs)
    (begins_or_none (d.site == c.site && d.off == c.off) (up_to c order) order (up_to_begins c order))

-- a name that ends the list, where the test finds it, or ends the rest, where it doesn't
ends_or_goes_on : (b : Bool) (c d : CharName) (rest : List CharName) → (b ≡ true → d ≡ c)
    → (b ≡ false → (front : List CharName) × (rest ≡ front ++ c ∷ []))
    → (front : List CharName) × (d ∷ cond b [] rest ≡ front ++ c ∷ [])
ends_or_goes_on true c d rest here later = ([], ap (λ (x : CharName). x ∷ []) (here refl))
ends_or_goes_on false c d rest here later =
    let (front, e) = later refl in
    (d ∷ front, ap (λ (xs : List CharName). d ∷ xs) e)

up_to_ends : (c : CharName) (order : List CharName) → Contains order c
    → (front : List CharName) × (up_to c order ≡ front ++ c ∷ [])
up_to_ends c [] h = absurd (omega arith)
up_to_ends c (d ∷ order) h =
    ends_or_goes_on (d.site == c.site && d.off == c.off) c d (up_to c order)
    (λ e.
    let parts = and_parts (eqb d.site c.site) (eqb d.off c.off) e in
    same_name d c (eqb-true _ _ parts.0) (eqb-true _ _ parts.1))
    (λ e. elim (Contains-cons_cases d order c h) [
      | inl same ↦ absurd (names_differ d c e (sym same))
      | inr later ↦ up_to_ends c order later
    ])

-- an Insert mentions its cause
mentions_by : (kind : OpKind) (c : CharName) → HasCauseBy kind (At c) → MentionsBy kind c
mentions_by (insert Root at looks bytes) c e = absurd cc
mentions_by (insert (At cause) at looks bytes) c e = cc
mentions_by kind c e = absurd e

-- the cause is an old character
pub cause_is_char : (ops : List Operation) (i : Operation) → IsOneMore ops i → (c : CharName)
    → IsInsertAt i (At c) → IsChar ops c
cause_is_char ops i one c at =
    let mentions : Mentions i c = mentions_by i.kind c at in
    let (p, held_p, inserts) = one.larger.mentions i c (held ops i one) mentions in
    elim (Contains-push_cases ops i p held_p) [
      | inl old ↦ (p, record { held = old; inserts = inserts })
      | inr e ↦
          let own : Inserts i c = subst (λ (o : Operation). Inserts o c) (sym e) inserts in
          let less : i.stamp < i.stamp =
          one.larger.stamps i i (held ops i one) (held ops i one) (inr (c, mentions, own)) in
          absurd (omega arith)
    ]

-- an order, up to the cause and after it
pub record AtCause (order : List CharName) (cause : Anchor) : Type 0 where
  pub before : List CharName
  pub after : List CharName
  pub is_front : before ≡ up_to_anchor order cause
  pub is_after : after ≡ drop (length (up_to_anchor order cause)) order
  pub parts : order ≡ before ++ after
  pub ends : EndsAt before cause

pub parts_at_cause : (ops : List Operation) (i : Operation) → IsOneMore ops i → (cause : Anchor)
    → IsInsertAt i cause → (order : List CharName) → IsOrder ops order → AtCause order cause
parts_at_cause ops i one Root at order is = record {
  before = [];
  after = order;
  is_front = refl;
  is_after = refl;
  parts = refl;
  ends = refl;
}
parts_at_cause ops i one (At c) at order is = record {
  before = up_to c order;
  after = drop (length (up_to c order)) order;
  is_front = refl;
  is_after = refl;
  parts = up_to_begins c order;
  ends = up_to_ends c order ((is.each c).1 (cause_is_char ops i one c at));
}

-- the place of an anchor counts what is visible up to it
pub place-up_to_anchor : (ops : List Operation) (order : List CharName) (anchor : Anchor)
    → place ops order anchor ≡ count_by (is_visible ops) (up_to_anchor order anchor)
place-up_to_anchor ops order Root = refl
place-up_to_anchor ops order (At c) = refl
