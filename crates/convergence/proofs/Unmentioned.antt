-- What a test of a waiting room that fails says of each operation that waits in it.
use Rattle.std.proofs.Common.{◌≡◌, ◌≢◌, ℕ, zero, suc, ◌+◌, ◌<◌, inl, inr, List, [], ◌∷◌, All, Bool}
use Rattle.std.proofs.Common.{false, nat_le, ◌==◌, ◌&&◌, ◌||◌, Contains, sym, ap, subst, ◌∙◌, arith}
use Rattle.std.specs.List.{list_any}
use Rattle.std.proofs.lemmas.Bool.{and_cases, cases_eq, eqb-false, leb-false, or_parts}
use Rattle.std.proofs.lemmas.List.Elements.{All-cons, All-contains, All-nil}
use Rattle.std.proofs.lemmas.List.Folds.{list_any-append}
use Rattle.char_files.specs.CharName.{CharName}
use Rattle.char_files.specs.declared.name.Anchor.TheVariants.{Root, At}
use Rattle.operations.specs.NameSet.{Range, IsAmong, IsIn, names_in, names_of}
use Rattle.operations.specs.Operation.{Operation, OpKind, insert, delete, restore, change_looks, Mentions}
use Rattle.operations.specs.Operation.{MentionsBy, mentioned_names_by}
use Rattle.set_laws.specs.Fronts.{IsHere, file_len}
use Rattle.waiting_room.specs.Room.{is_behind, mentions_past}

-- where none passes the test, each fails it
each_fails : {X : Type 0} (test : X → Bool) (xs : List X) → list_any test xs ≡ false
    → All (λ x. test x ≡ false) xs
each_fails test [] none = All-nil (λ x. test x ≡ false)
each_fails test (x ∷ xs) none =
    let (first, rest) = or_parts (test x) (list_any test xs) none in
    All-cons (λ y. test y ≡ false) x xs first (each_fails test xs rest)

-- a name, by its parts
same_name : (site off : ℕ) (name : CharName) → site ≡ name.site → off ≡ name.off
    → record { site = site; off = off } ≡ name
same_name site off name on at =
    let name_at : ℕ → ℕ → CharName = λ a b. record { site = a; off = b } in
    ap (λ (a : ℕ). name_at a off) on ∙ ap (λ (b : ℕ). name_at name.site b) at

module _ (test : CharName → Bool) (name : CharName) where
  -- the name of a range fails a test that none of the range's passes
  fails_in_range : (site at len : ℕ) → IsIn (record { site = site; at = at; len = len }) name
      → list_any test (names_of (record { site = site; at = at; len = len })) ≡ false → test name ≡ false
  fails_in_range site at zero is none = absurd (omega arith)
  fails_in_range site at (suc len) is none =
      let (first, rest) = or_parts (test (record { site = site; off = at })) _ none in
      elim (cases_eq at name.off) [
        | inl same ↦ subst (λ (n : CharName). test n ≡ false) (same_name site at name (sym is.0) same) first
        | inr apart ↦ fails_in_range site (at + 1) len (is.0, omega arith, omega arith) rest
      ]

  -- so does the name of a set
  fails_in_ranges : (ranges : List Range) → IsAmong ranges name → list_any test (names_in ranges) ≡ false
      → test name ≡ false
  fails_in_ranges [] (k, r, lt, is, among) none = absurd (omega arith)
  fails_in_ranges (r ∷ ranges) (zero, x, lt, is, among) none =
      let (first, rest) = or_parts (list_any test (names_of r)) (list_any test (names_in ranges))
      (sym (list_any-append test (names_of r) (names_in ranges)) ∙ none) in
      fails_in_range r.site r.at r.len (subst (λ (y : Range). IsIn y name) (sym is) among) first
  fails_in_ranges (r ∷ ranges) (suc k, x, lt, is, among) none =
      let (first, rest) = or_parts (list_any test (names_of r)) (list_any test (names_in ranges))
      (sym (list_any-append test (names_of r) (names_in ranges)) ∙ none) in
      fails_in_ranges ranges (k, x, omega arith, is, among) rest

  -- where no name that is mentioned passes the test, this one fails it
  fails_where_mentioned : (kind : OpKind) → MentionsBy kind name
      → list_any test (mentioned_names_by kind) ≡ false → test name ≡ false
  fails_where_mentioned (insert Root at looks bytes) m none = absurd m
  fails_where_mentioned (insert (At cause) at looks bytes) m none =
      let (first, rest) = or_parts (test cause) false none in
      subst (λ (n : CharName). test n ≡ false) (sym m) first
  fails_where_mentioned (delete names) m none = fails_in_ranges names m none
  fails_where_mentioned (restore names) m none = fails_in_ranges names m none
  fails_where_mentioned (change_looks sel looks names) m none = fails_in_ranges names m none

-- an operation doesn't hold the site back: it is another site's, and mentions no name of the site that isn't here
pub record LeavesFree (ops : List Operation) (site : ℕ) (op : Operation) : Type 0 where
  pub apart : op.site ≢ site
  pub here : (name : CharName) → Mentions op name → name.site ≡ site → IsHere ops name

-- a site that isn't behind is held back by none that waits
pub leaves_free : (ops room : List Operation) (site : ℕ) → is_behind ops room site ≡ false
    → (op : Operation) → Contains room op → LeavesFree ops site op
leaves_free ops room site none op held =
    let end : ℕ = file_len ops site in
    let test : Operation → Bool = λ o. o.site == site || mentions_past o site end in
    let fails : test op ≡ false = All-contains (λ o. test o ≡ false) room op (each_fails test room none) held in
    let (apart, unmentioned) = or_parts (op.site == site) (mentions_past op site end) fails in
    record {
      apart = eqb-false op.site site apart;
      here = λ name m on.
          let past = fails_where_mentioned (λ n. n.site == site && nat_le end n.off) name op.kind m unmentioned in
          subst (λ (s : ℕ). name.off < file_len ops s) (sym on)
          (elim (and_cases (name.site == site) (nat_le end name.off) past) [
            | inl other ↦ absurd (eqb-false name.site site other on)
            | inr below ↦ leb-false end name.off below
          ]);
    }
