-- Of a history, the operations beyond some of each site can all come in chunks.
use Rattle.std.proofs.Common.{◌≡◌, ℕ, ◌≤◌, Bool, true, false, cond, eqb, ltb, inl, inr, List, [], ◌∷◌}
use Rattle.std.proofs.Common.{filter, refl, sym, ap, subst, ◌∙◌, arith}
use Rattle.std.proofs.lemmas.Bool.{cases_Bool, eqb-true, ltb-true, ltb-false, cond-true, cond-false}
use Rattle.operations.specs.Operation.{Operation}
use Rattle.packed.specs.declared.expected.Expected.{Expected}
use Rattle.packed.specs.Told.{Told, nothing_told, nothing_begun, has_begun, expected, after_one_more, told_on}
use Rattle.packed.specs.Laws.{CanFollow}
use Rattle.packed.specs.Reading.{CanBeNext}
use Rattle.packed.proofs.Told.{expected_noted}
use Rattle.chunks.specs.Chunks.{Placed, operations_of, begun, told_by, CanCome, CanAllCome, placed_from}
use Rattle.chunks.specs.Laws.{above_fronts, WhatIsBeyondCanCome}
use Rattle.chunks.specs.Parts.{placed, LensAreInFiles}
use Rattle.chunks.proofs.Agreeing.{Same, Goes, comes_so, expected_by, expected_here, begun_by, same_after}
use Rattle.chunks.proofs.Opening.{lens_on}

-- the sites that have begun here are told of as in the history h, which has passed what is left out of them
Passed : (front : ℕ → ℕ) (u h : Told) → Type 0
Passed front u h = (site : ℕ) → has_begun u site ≡ true
    → Same (expected u site) (expected h site) × (front site ≤ (expected h site).seq)

other_site : (h : Told) (op : Operation) (site : ℕ) → eqb op.site site ≡ false → expected (told_on h op) site ≡ expected h site
other_site h op site apart =
    expected_noted h op.site (after_one_more (expected h op.site) op) site ∙ cond-false _ _ _ apart

goes_next : (h : Told) (text : ℕ) (op : Operation) → CanBeNext h text op → LensAreInFiles h
    → Goes (expected h op.site) text (placed op (expected h op.site).len)
goes_next h text op can lens = record {
  spelled = can.spelled;
  on_text = can.on_text;
  seq = can.next.seq;
  begins = can.next.begins;
  above = can.next.above;
  len = refl;
  in_file = lens op.site;
}

-- an operation that is left out
passed_by : (front : ℕ → ℕ) (u h : Told) (text : ℕ) (op : Operation) → CanBeNext h text op → Passed front u h
    → ltb (front op.site) op.seq ≡ false → Passed front u (told_on h op)
unfolding Passed
passed_by front u h text op can passed out site told =
    elim (cases_Bool (eqb op.site site)) [
      | inl here ↦
          let both = passed op.site (ap (has_begun u) (eqb-true op.site site here) ∙ told) in
          absurd (omega (arith, both.1, can.next.seq, ltb-false _ _ out))
      | inr apart ↦
          subst (λ (e : Expected). Same (expected u site) e × (front site ≤ e.seq)) (sym (other_site h op site apart))
          (passed site told)
    ]

-- one that isn't
passed_on : (front : ℕ → ℕ) (u h : Told) (text : ℕ) (op : Operation) → CanBeNext h text op → Passed front u h
    → CanCome u text (placed op (expected h op.site).len) → ltb (front op.site) op.seq ≡ true
    → Passed front (told_by u (placed op (expected h op.site).len)) (told_on h op)
unfolding Passed
passed_on front u h text op can passed come kept site told =
    let p : Placed = placed op (expected h op.site).len in
    elim (cases_Bool (eqb op.site site)) [
      | inl here ↦
          let at : expected (told_on h op) site ≡ after_one_more (expected h op.site) op = expected_here h op site here in
          let of : front op.site ≡ front site = ap front (eqb-true op.site site here) in (
            same_after _ _ (expected (begun u p) op.site) (expected h op.site) op (expected_here (begun u p) op site here) at
                (sym come.len),
            subst (λ (e : Expected). front site ≤ e.seq) (sym at) (omega (arith, of, ltb-true _ _ kept)),
          )
      | inr apart ↦
          let both = passed site (sym (begun_by u p site apart) ∙ told) in
          subst (λ (e : Expected). Same (expected (told_by u p) site) e × (front site ≤ e.seq)) (sym (other_site h op site apart))
          (subst (λ (e : Expected). Same e (expected h site)) (sym (expected_by u p site apart)) both.0, both.1)
    ]

can_come : (ops : List Operation) (front : ℕ → ℕ) (u h : Told) (text : ℕ) → CanFollow h text ops → LensAreInFiles h
    → Passed front u h → CanAllCome u text (above_fronts front (placed_from h ops))
unfolding Passed
can_come [] front u h text follow lens passed = tt
can_come (op ∷ ops) front u h text follow lens passed =
    elim (cases_Bool (ltb (front op.site) op.seq)) [
      | inl kept ↦
          subst (CanAllCome u text) (sym (cond-true (ltb (front op.site) op.seq) (p ∷ rest) rest kept)) (
            come,
            can_come ops front (told_by u p) (told_on h op) text follow.1 lens_after
                (passed_on front u h text op follow.0 passed come kept),
          )
      | inr out ↦
          subst (CanAllCome u text) (sym (cond-false (ltb (front op.site) op.seq) (p ∷ rest) rest out))
          (can_come ops front u (told_on h op) text follow.1 lens_after (passed_by front u h text op follow.0 passed out))
    ]
  where
    p : Placed
    p = placed op (expected h op.site).len

    rest : List Placed
    rest = above_fronts front (placed_from (told_on h op) ops)

    lens_after : LensAreInFiles (told_on h op)
    lens_after = lens_on h text op follow.0 lens

    come : CanCome u text p
    come =
        comes_so u text p (expected h op.site) (goes_next h text op follow.0 lens) (λ told. (passed op.site told).0)

same_operations : (ops : List Operation) (front : ℕ → ℕ) (h : Told)
    → operations_of (above_fronts front (placed_from h ops)) ≡ filter (λ (op : Operation). ltb (front op.site) op.seq) ops
same_operations [] front h = refl
same_operations (op ∷ ops) front h = by (same_operations ops front (told_on h op)) (ltb (front op.site) op.seq)
  where
    p : Placed
    p = placed op (expected h op.site).len

    rest : List Placed
    rest = above_fronts front (placed_from (told_on h op) ops)

    others : List Operation
    others = filter (λ (o : Operation). ltb (front o.site) o.seq) ops

    by : operations_of rest ≡ others → (b : Bool) → operations_of (cond b (p ∷ rest) rest) ≡ cond b (op ∷ others) others
    by same true = ap (λ (l : List Operation). op ∷ l) same
    by same false = same

pub what_is_beyond_can_come : WhatIsBeyondCanCome
unfolding Passed
what_is_beyond_can_come text ops front history = (
  can_come ops front nothing_begun nothing_told text history (λ site. omega arith) (λ site told. absurd cc),
  same_operations ops front nothing_told,
)
