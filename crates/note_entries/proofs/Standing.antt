-- Messages in rows.
use Rattle.std.proofs.Common.{◌≡◌, ◌≢◌, ℕ, ◌+◌, ◌⊎◌, ◌↔◌, inl, inr, true, false, List, [], ◌∷◌, ◌++◌, length, get_or, Contains}
use Rattle.std.proofs.Common.{Option, Some, None, slice_get, refl, sym, ap, subst, ◌∙◌, arith}
use Rattle.std.specs.Prelude.{IfNone, IfOk, OnOk, OnErr, Result, Ok, Err}
use Rattle.std.specs.List.{IsDistinct}
use Rattle.std.proofs.Math.ListN.{set}
use Rattle.std.proofs.lemmas.Bool.{cases_Bool, cases_lt}
use Rattle.std.proofs.lemmas.List.{get_or-set_same, get_or-set_other, length-set, get_or_push, length_push, get_or_append_left}
use Rattle.std.specs.Map.{keys_of, lookup, set_value, values_of}
use Rattle.std.specs.Option.{is_some}
use Rattle.std.proofs.lemmas.List.Elements.{Contains-append_left, Contains-append_right, Contains-append_cases, Contains-push, Contains-push_cases}
use Rattle.std.proofs.lemmas.Map.Steps.{set_value_same}
use Rattle.std.proofs.lemmas.Map.Views.{Contains-from_lookup, lookup-from_Contains}
use Rattle.std.proofs.lemmas.Option.{slice_get_read, slice_get_within, get_or_from_slice_get, same_Some}
use Rattle.note_laws.specs.Note.{Saying}
use Rattle.note_laws.specs.Chains.{AreBranches}
use Rattle.note_entries.specs.Branches.{IsPutSaying, Place, is_same_place, place_in_chain}
use Rattle.note_entries.specs.Keyed.{StandUnderKeys}
use Rattle.note_entries.specs.Rows.{AreSayingRows, IsRow, PutsOrReturns, StandApart, row_begin, said_in}
use Rattle.note_entries.proofs.Entered.{IsPutIn, finds, finds_new, finds_old, found, which}
use Rattle.note_entries.proofs.Least.{of_more, of_none}
use Rattle.note_entries.proofs.Places.{of_one_place, one_place, places, their_place}

-- what follows from what a clause says of a `None`
pub IfNone_then : {X : Type 0} (r : Option X) {P Q : Type 0} → IfNone r P → (P → Q) → IfNone r Q
IfNone_then None p then = then p
IfNone_then (Some x) p then = tt

pub IfOk_then : {X E : Type 0} (r : Result X E) {P Q : X → Type 0} → IfOk r P → ((x : X) → P x → Q x) → IfOk r Q
IfOk_then (Ok x) p then = then x p
IfOk_then (Err e) p then = tt

pub OnOk_then : {X E : Type 0} (r : Result X E) {P Q : Type 0} → OnOk r P → (P → Q) → OnOk r Q
OnOk_then (Ok x) p then = then p
OnOk_then (Err e) p then = tt

pub OnErr_then : {X E : Type 0} (r : Result X E) {P Q : Type 0} → OnErr r P → (P → Q) → OnErr r Q
OnErr_then (Ok x) p then = tt
OnErr_then (Err e) p then = then p

-- what holds anyway
pub of_any : {X : Type 0} (r : Option X) {P : Type 0} → P → IfNone r P
of_any None p = p
of_any (Some x) p = tt

-- what is among values has an index, and what has one is among them
pub index_of : (row : List Saying) (s : Saying) → Contains row s → (n : ℕ) × (slice_get row n ≡ Some s)
index_of row s h = (h.0, slice_get_read row (length row) h.0 s refl h.1 (sym h.2))

pub of_index : (row : List Saying) (n : ℕ) (s : Saying) → slice_get row n ≡ Some s → Contains row s
of_index row n s at = (n, slice_get_within row n s at, get_or_from_slice_get row n s s at)

-- a message of all rows is one of a row
pub in_a_row : (rows : List (Place × List Saying)) (s : Saying) → Contains (said_in rows) s
    → (r : Place × List Saying) × Contains rows r × Contains r.1 s
in_a_row [] s held = absurd (of_none s held)
in_a_row (r ∷ rs) s held = elim (Contains-append_cases r.1 (said_in rs) s held) [
  | inl here ↦ (r, Contains-append_left (r ∷ []) rs r (Contains-push [] r), here)
  | inr after ↦
      let (q, among, inside) = in_a_row rs s after in
      (q, Contains-append_right (r ∷ []) rs q among, inside)
]

pub of_a_row : (rows : List (Place × List Saying)) (r : Place × List Saying) (s : Saying) → Contains rows r → Contains r.1 s
    → Contains (said_in rows) s
of_a_row [] r s among inside = absurd (of_none r among)
of_a_row (q ∷ rs) r s among inside = elim (of_more q rs r among) [
  | inl same ↦ Contains-append_left q.1 (said_in rs) s
      (subst (λ (p : Place × List Saying). Contains p.1 s) (sym same) inside)
  | inr after ↦ Contains-append_right q.1 (said_in rs) s (of_a_row rs r s after inside)
]

-- two of one seq in a row are one
pub one_of_seq : (begin : Place) (row : List Saying) → IsRow begin row → (s t : Saying) → Contains row s → Contains row t
    → s.op.seq ≡ t.op.seq → s ≡ t
one_of_seq begin row is s t has had same =
    let (n, at) = index_of row s has in
    let (m, on) = index_of row t had in
    let first = (is n s at).1 in
    let second = (is m t on).1 in
    let equal : n ≡ m = omega arith in
    same_Some s t (sym at ∙ (ap (λ (k : ℕ). slice_get row k) equal ∙ on))

-- branches begin where the other does
pub begins_there : (s x : Saying) → AreBranches s x → row_begin (place_in_chain s) ≡ row_begin (place_in_chain x)
begins_there s x are = ap row_begin (their_place s x are)

-- a place is told by where its row begins, its seq and what is before it
pub told_by : (p q : Place) → row_begin p ≡ row_begin q → p.seq ≡ q.seq → p.before ≡ q.before → p ≡ q
told_by p q begin seq before = λ i. record {
  author = ap (λ (b : Place). b.author) begin i;
  text = ap (λ (b : Place). b.text) begin i;
  site = ap (λ (b : Place). b.site) begin i;
  seq = seq i;
  before = before i;
}

module _ (rows : List (Place × List Saying)) (are : AreSayingRows rows) where
  -- what is found under a place is a row that begins there
  pub found_row : (b : Place) (row : List Saying) → lookup (is_same_place b) rows ≡ Some row → IsRow b row
  found_row b row at = are.each b row (Contains-from_lookup one_place b row rows at)

  pub of_found : (b : Place) (row : List Saying) (s : Saying) → lookup (is_same_place b) rows ≡ Some row → Contains row s
      → Contains (said_in rows) s
  of_found b row s at inside = of_a_row rows (b, row) s (Contains-from_lookup one_place b row rows at) inside

  -- and each message is in the row that is found where it begins
  pub finds_row : (s : Saying) → Contains (said_in rows) s
      → (row : List Saying) × (lookup (is_same_place (row_begin (place_in_chain s))) rows ≡ Some row) × Contains row s
  finds_row s held =
      let (r, among, inside) = in_a_row rows s held in
      let (n, at) = index_of r.1 s inside in
      let begins : row_begin (place_in_chain s) ≡ r.0 = (are.each r.0 r.1 among n s at).0 in (
        r.1,
        ap (λ (b : Place). lookup (is_same_place b) rows) begins ∙ lookup-from_Contains places r.0 r.1 rows are.distinct among,
        inside,
      )

-- One row, and a message whose row begins where it does.
module _ (begin : Place) (row : List Saying) (is : IsRow begin row) (s : Saying) (its : row_begin (place_in_chain s) ≡ begin) where
  -- one of its seq and of what is before it is its branch
  branch_at : (n : ℕ) (x : Saying) → slice_get row n ≡ Some x → s.op.seq ≡ n + 1 → x.before ≡ s.before → AreBranches s x
  branch_at n x at seq before =
      let (begins, has) = is n x at in
      of_one_place s x (told_by (place_in_chain s) (place_in_chain x) (its ∙ sym begins) (seq ∙ sym has) (sym before))

  -- it follows the last one
  module _ (next : s.op.seq ≡ length row + 1) where
    at_the_end : (n : ℕ) (x : Saying) → slice_get (row ++ s ∷ []) n ≡ Some x → (slice_get row n ≡ Some x) ⊎ ((n ≡ length row) × (x ≡ s))
    at_the_end n x at =
        let long = length_push row s in
        let within = slice_get_within (row ++ s ∷ []) n x at in
        let value = get_or_from_slice_get (row ++ s ∷ []) n x x at in
        elim (cases_lt n (length row)) [
          | inl lt ↦ inl (slice_get_read row (length row) n x refl lt (sym (sym (get_or_append_left row (s ∷ []) x n lt) ∙ value)))
          | inr ge ↦
              let last : length row ≡ n = omega arith in
              inr (sym last, sym (sym (get_or_push row s x n last) ∙ value))
        ]

    pub row_pushed : IsRow begin (row ++ s ∷ [])
    row_pushed n x at = elim (at_the_end n x at) [
      | inl was ↦ is n x was
      | inr new ↦
          let seq : s.op.seq ≡ n + 1 = next ∙ ap (λ (k : ℕ). k + 1) (sym new.0) in
          subst (λ (y : Saying). (row_begin (place_in_chain y) ≡ begin) × (y.op.seq ≡ n + 1)) (sym new.1) (its, seq)
    ]

    pub put_pushed : IsPutSaying row s (row ++ s ∷ [])
    put_pushed x = (
      λ held. elim (Contains-push_cases row s x held) [
        | inl was ↦
            let (n, at) = index_of row x was in
            let within = slice_get_within row n x at in
            let has = (is n x at).1 in
            inl (was, λ are. let same = are.seq in omega arith)
        | inr new ↦ inr (sym new)
      ],
      λ h. elim h [
        | inl was ↦ Contains-append_left row (s ∷ []) x was.0
        | inr new ↦ subst (Contains (row ++ s ∷ [])) (sym new) (Contains-push row s)
      ],
    )

  -- it takes the place of one of its seq and of what is before it
  module _ (i : ℕ) (seq : s.op.seq ≡ i + 1) (kept : Saying) (there : slice_get row i ≡ Some kept) (before : kept.before ≡ s.before) where
    in_its_place : (n : ℕ) (x : Saying) → slice_get (set row i s) n ≡ Some x → ((n ≢ i) × (slice_get row n ≡ Some x)) ⊎ ((n ≡ i) × (x ≡ s))
    in_its_place n x at =
        let long = length-set row i s in
        let within = slice_get_within (set row i s) n x at in
        let inside = slice_get_within row i kept there in
        let value = get_or_from_slice_get (set row i s) n x x at in
        let others : n ≢ i → (n ≢ i) × (slice_get row n ≡ Some x) = λ else. (
          else,
          slice_get_read row (length row) n x refl (omega arith) (sym (sym (get_or-set_other row i n s x else) ∙ value)),
        ) in
        elim (cases_lt n i) [
          | inl lt ↦ inl (others (λ same. omega arith))
          | inr ge ↦ elim (cases_lt i n) [
            | inl gt ↦ inl (others (λ same. omega arith))
            | inr le ↦
                let same : n ≡ i = omega arith in
                inr (same, sym (sym (ap (λ (k : ℕ). get_or (set row i s) k x) same ∙ get_or-set_same row i s x inside) ∙ value))
          ]
        ]

    pub row_set : IsRow begin (set row i s)
    row_set n x at = elim (in_its_place n x at) [
      | inl was ↦ is n x was.1
      | inr new ↦
          let has : s.op.seq ≡ n + 1 = seq ∙ ap (λ (k : ℕ). k + 1) (sym new.0) in
          subst (λ (y : Saying). (row_begin (place_in_chain y) ≡ begin) × (y.op.seq ≡ n + 1)) (sym new.1) (its, has)
    ]

    of_set : (n : ℕ) (x : Saying) → n ≢ i → slice_get row n ≡ Some x → Contains (set row i s) x
    of_set n x else at =
        let long = length-set row i s in
        let within = slice_get_within row n x at in
        (n, omega arith, get_or-set_other row i n s x else ∙ get_or_from_slice_get row n x x at)

    pub put_set : IsPutSaying row s (set row i s)
    put_set x = (
      λ held. let (n, at) = index_of (set row i s) x held in
          elim (in_its_place n x at) [
            | inl was ↦
                let has = (is n x was.1).1 in
                inl (of_index row n x was.1, λ are. was.0 (let same = are.seq in omega arith))
            | inr new ↦ inr new.1
          ],
      λ h. elim h [
        | inl was ↦
            let (n, at) = index_of row x was.0 in
            of_set n x (λ same. was.1 (
            let one : x ≡ kept = same_Some x kept (sym at ∙ (ap (λ (k : ℕ). slice_get row k) same ∙ there)) in
            branch_at i x (ap (λ (k : ℕ). slice_get row k) (sym same) ∙ at) seq (ap (λ (y : Saying). y.before) one ∙ before))) at
        | inr new ↦
            let long = length-set row i s in
            let inside = slice_get_within row i kept there in
            subst (Contains (set row i s)) (sym new) (i, omega arith, get_or-set_same row i s s inside)
      ],
    )

  -- so it is where one of its place is kept
  pub set_there : (i : ℕ) → s.op.seq ≡ i + 1 → (kept : Saying) → Contains row kept → place_in_chain kept ≡ place_in_chain s
      → IsRow begin (set row i s) × IsPutSaying row s (set row i s)
  set_there i seq kept held same =
      let (n, at) = index_of row kept held in
      let has = (is n kept at).1 in
      let its_seq : kept.op.seq ≡ s.op.seq = ap (λ (p : Place). p.seq) same in
      let one : n ≡ i = omega arith in
      let there : slice_get row i ≡ Some kept = ap (λ (k : ℕ). slice_get row k) (sym one) ∙ at in
      let before : kept.before ≡ s.before = ap (λ (p : Place). p.before) same in
      (row_set i seq kept there before, put_set i seq kept there before)

-- a row of one message
pub first_row : (begin : Place) (s : Saying) → row_begin (place_in_chain s) ≡ begin → s.op.seq ≡ 1 → IsRow begin (s ∷ [])
first_row begin s its first = row_pushed begin [] (λ n x at. absurd (no_item n x at)) s its (let none = first in omega arith)
  where
    no_item : (n : ℕ) (x : Saying) → slice_get {X = Saying} [] n ≡ Some x → ⊥
    no_item n x at = let within = slice_get_within {A = Saying} [] n x at in omega arith

-- All rows, and one that stands where it begins afterwards.
module _ (old new : List (Place × List Saying)) (are : AreSayingRows old) (b : Place) (row : List Saying) (is : IsRow b row)
    (distinct : IsDistinct is_same_place (keys_of new)) (put : IsPutIn is_same_place places one_place (λ (r : List Saying). b) old row new) where
  abbrev key : List Saying → Place
  key r = b

  pub rows_with : AreSayingRows new
  rows_with = record {
    each = λ k r held. elim (which is_same_place places one_place key old new row put k r (lookup-from_Contains places k r new distinct held)) [
      | inl its ↦ subst (λ (q : Place). IsRow q r) its.0 (subst (IsRow b) (sym its.1) is)
      | inr was ↦ found_row old are k r was.1
    ];
    distinct = distinct;
  }

  pub said_with : (x : Saying) → Contains (said_in new) x
      ↔ (Contains (said_in old) x × (b ≢ row_begin (place_in_chain x))) ⊎ Contains row x
  said_with x = (
    λ held. let (r, at, inside) = finds_row new rows_with x held in
        elim (which is_same_place places one_place key old new row put (row_begin (place_in_chain x)) r at) [
          | inl its ↦ inr (subst (λ (q : List Saying). Contains q x) its.1 inside)
          | inr was ↦ inl (of_found old are (row_begin (place_in_chain x)) r x was.1 inside, was.0)
        ],
    λ h. elim h [
      | inl was ↦
          let (r, at, inside) = finds_row old are x was.0 in
          of_found new rows_with (row_begin (place_in_chain x)) r x
          (finds_old is_same_place places one_place key old new row put (row_begin (place_in_chain x)) was.1 ∙ at) inside
      | inr its ↦ of_found new rows_with b row x (finds_new is_same_place places one_place key old new row put) its
    ],
  )

  module _ (s : Saying) (its : row_begin (place_in_chain s) ≡ b) where
    apart_from : (x : Saying) → b ≢ row_begin (place_in_chain x) → AreBranches s x → ⊥
    apart_from x else branches = else (sym its ∙ begins_there s x branches)

    -- where no row began there, it has this one message
    pub put_first : lookup (is_same_place b) old ≡ None → row ≡ s ∷ [] → IsPutSaying (said_in old) s (said_in new)
    put_first none one x = (
      λ held. elim ((said_with x).0 held) [
        | inl was ↦ inl (was.0, apart_from x was.1)
        | inr here ↦ elim (of_more s [] x (subst (λ (r : List Saying). Contains r x) one here)) [
          | inl same ↦ inr (sym same)
          | inr after ↦ absurd (of_none x after)
        ]
      ],
      λ h. (said_with x).1 (elim h [
        | inl was ↦ inl (
          was.0,
          λ same.
              let (r, at, inside) = finds_row old are x was.0 in
              let none' : lookup (is_same_place (row_begin (place_in_chain x))) old ≡ None
              = ap (λ (q : Place). lookup (is_same_place q) old) (sym same) ∙ none in
              cc,
        )
        | inr same ↦ inr (subst (λ (r : List Saying). Contains r x) (sym one) (subst (Contains (s ∷ [])) (sym same) (Contains-push [] s)))
      ]),
    )

    -- where one began there, what that becomes is what all become
    pub put_in_row : (was : List Saying) → lookup (is_same_place b) old ≡ Some was → IsPutSaying was s row
        → IsPutSaying (said_in old) s (said_in new)
    put_in_row was there puts x = (
      λ held. elim ((said_with x).0 held) [
        | inl kept ↦ inl (kept.0, apart_from x kept.1)
        | inr here ↦ elim ((puts x).0 here) [
          | inl kept ↦ inl (of_found old are b was x there kept.0, kept.1)
          | inr same ↦ inr same
        ]
      ],
      λ h. (said_with x).1 (elim h [
        | inl kept ↦ elim (cases_Bool (is_same_place b (row_begin (place_in_chain x)))) [
          | inl same ↦
              let (r, at, inside) = finds_row old are x kept.0 in
              let one : Some r ≡ Some was = sym at
              ∙ (ap (λ (q : Place). lookup (is_same_place q) old) (sym (one_place b (row_begin (place_in_chain x)) same)) ∙ there) in
              inr ((puts x).1 (inl (subst (λ (q : List Saying). Contains q x) (same_Some r was one) inside, kept.1)))
          | inr else ↦ inl (kept.0, λ same. absurd (apart_by same else))
        ]
        | inr same ↦ inr ((puts x).1 (inr same))
      ]),
    )
      where
        apart_by : {q : Place} → b ≡ q → is_same_place b q ≡ false → ⊥
        apart_by {q} same else =
            let yes : is_same_place b q ≡ true = subst (λ (p : Place). is_same_place b p ≡ true) same (places.refl b) in
            cc

-- none of all is a branch of a message where none of the row is that begins where it does
pub none_in_rows : (rows : List (Place × List Saying)) → AreSayingRows rows → (s : Saying) (row : Option (List Saying))
    → lookup (is_same_place (row_begin (place_in_chain s))) rows ≡ row
    → ((r : List Saying) → row ≡ Some r → (x : Saying) → Contains r x → AreBranches s x → ⊥)
    → (x : Saying) → Contains (said_in rows) x → AreBranches s x → ⊥
none_in_rows rows are s row there none x held branches =
    let (r, at, inside) = finds_row rows are x held in
    let one : row ≡ Some r = sym there ∙ (ap (λ (q : Place). lookup (is_same_place q) rows) (begins_there s x branches) ∙ at) in
    none r one x inside branches

-- A row that has another value afterwards.
module _ (old new : List (Place × List Saying)) (are : AreSayingRows old) (b : Place) (was row : List Saying)
    (there : lookup (is_same_place b) old ≡ Some was) (entries : new ≡ set_value (is_same_place b) old row) where
  -- where that is the same, all is
  pub same_rows : row ≡ was → new ≡ old
  same_rows same =
      entries ∙ (ap (λ (r : List Saying). set_value (is_same_place b) old r) same ∙ set_value_same (is_same_place b) old was there)

  pub puts_all : IsRow b row → IsDistinct is_same_place (keys_of new)
      → IsPutIn is_same_place places one_place (λ (r : List Saying). b) old row new
      → (s : Saying) → row_begin (place_in_chain s) ≡ b → (back : Option Saying) → PutsOrReturns was s back row
      → PutsOrReturns (said_in old) s back (said_in new)
  puts_all is distinct put s its None puts = put_in_row old new are b row is distinct put s its was there puts
  puts_all is distinct put s its (Some t) (same, stays, none) = (
    same,
    ap said_in (same_rows stays),
    none_in_rows old are s (Some was) (ap (λ (q : Place). lookup (is_same_place q) old) its ∙ there)
        (λ r one x held branches. none x (subst (λ (q : List Saying). Contains q x) (sym (same_Some was r one)) held) branches),
  )

-- Rows, and what stands aside of them.
module _ (rows : List Saying) (aside : List (Place × Saying)) (are : StandApart rows aside) (s : Saying) (p : Place)
    (its : p ≡ place_in_chain s) where
  aside_at : (r : Option Saying) → lookup (is_same_place p) aside ≡ r → true ≡ is_some r
      → (x : Saying) → Contains rows x → AreBranches s x → ⊥
  aside_at None at has x held branches = cc
  aside_at (Some t) at has x held branches =
      let (among, key) = found is_same_place places one_place place_in_chain aside are.keyed p t at in
      are.apart x t held among (sym (their_place s x branches) ∙ (sym its ∙ key))

  -- if one of its place stands aside, none of a row is its branch
  pub aside_alone : true ≡ is_some (lookup (is_same_place p) aside) → (x : Saying) → Contains rows x → AreBranches s x → ⊥
  aside_alone has = aside_at (lookup (is_same_place p) aside) refl has

  -- and else none that stands aside is
  pub none_aside : false ≡ is_some (lookup (is_same_place p) aside) → (t : Saying) → Contains (values_of aside) t
      → place_in_chain s ≢ place_in_chain t
  none_aside lacks t held same =
      let at = finds is_same_place places one_place place_in_chain aside are.keyed t held in
      let one : lookup (is_same_place p) aside ≡ Some t
      = ap (λ (q : Place). lookup (is_same_place q) aside) (its ∙ same) ∙ at in
      cc

-- it is put among the rows, or aside, and the others are no branches of it
pub put_left : (rows more aside : List Saying) (s : Saying) → IsPutSaying rows s more
    → ((t : Saying) → Contains aside t → place_in_chain s ≢ place_in_chain t) → IsPutSaying (rows ++ aside) s (more ++ aside)
put_left rows more aside s put apart x = (
  λ held. elim (Contains-append_cases more aside x held) [
    | inl left ↦ elim ((put x).0 left) [
      | inl was ↦ inl (Contains-append_left rows aside x was.0, was.1)
      | inr new ↦ inr new
    ]
    | inr right ↦ inl (Contains-append_right rows aside x right, λ are. apart x right (their_place s x are))
  ],
  λ h. elim h [
    | inl was ↦ elim (Contains-append_cases rows aside x was.0) [
      | inl left ↦ Contains-append_left more aside x ((put x).1 (inl (left, was.1)))
      | inr right ↦ Contains-append_right more aside x right
    ]
    | inr new ↦ Contains-append_left more aside x ((put x).1 (inr new))
  ],
)

pub put_right : (rows aside more : List Saying) (s : Saying) → IsPutSaying aside s more
    → ((x : Saying) → Contains rows x → AreBranches s x → ⊥) → IsPutSaying (rows ++ aside) s (rows ++ more)
put_right rows aside more s put none x = (
  λ held. elim (Contains-append_cases rows more x held) [
    | inl left ↦ inl (Contains-append_left rows aside x left, none x left)
    | inr right ↦ elim ((put x).0 right) [
      | inl was ↦ inl (Contains-append_right rows aside x was.0, was.1)
      | inr new ↦ inr new
    ]
  ],
  λ h. elim h [
    | inl was ↦ elim (Contains-append_cases rows aside x was.0) [
      | inl left ↦ Contains-append_left rows more x left
      | inr right ↦ Contains-append_right rows more x ((put x).1 (inl (right, was.1)))
    ]
    | inr new ↦ Contains-append_right rows more x ((put x).1 (inr new))
  ],
)

-- they still stand apart
pub apart_left : (rows more : List Saying) (aside : List (Place × Saying)) (s : Saying) → StandApart rows aside → IsPutSaying rows s more
    → ((t : Saying) → Contains (values_of aside) t → place_in_chain s ≢ place_in_chain t) → StandApart more aside
apart_left rows more aside s are put apart = record {
  keyed = are.keyed;
  apart = λ x t held among same. elim ((put x).0 held) [
    | inl was ↦ are.apart x t was.0 among same
    | inr new ↦ apart t among (ap place_in_chain (sym new) ∙ same)
  ];
}

pub apart_right : {X E : Type 0} (rows : List Saying) (aside more : List (Place × Saying)) (s : Saying) → StandApart rows aside
    → ((x : Saying) → Contains rows x → AreBranches s x → ⊥) → StandUnderKeys is_same_place place_in_chain more
    → (r : Result X E) → OnOk r (IsPutSaying (values_of aside) s (values_of more)) → OnErr r (more ≡ aside) → StandApart rows more
apart_right rows aside more s are none keyed (Err e) put stays = subst (StandApart rows) (sym stays) are
apart_right rows aside more s are none keyed (Ok a) put stays = record {
  keyed = keyed;
  apart = λ x t held among same. elim ((put t).0 among) [
    | inl was ↦ are.apart x t held was.0 same
    | inr new ↦ none x held (of_one_place s x (sym (same ∙ ap place_in_chain new)))
  ];
}
