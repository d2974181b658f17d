-- The operation that comes next in a chunk, read from the left.
use Rattle.std.proofs.Common.{◌≡◌, ◌≢◌, ℕ, suc, ◌-◌, true, false, inl, inr, List, [], ◌∷◌, ◌++◌}
use Rattle.std.proofs.Common.{Option, Some, None, refl, sym, ap, subst, ◌∙◌, append_assoc, arith}
use Rattle.std.proofs.lemmas.Bool.{cases_Bool, eq-eqb, cond-true, cond-false}
use Rattle.byte_fields.proofs.Readers.{IsBytes, some_is}
use Rattle.operations.specs.Operation.{Operation}
use Rattle.packed.specs.declared.expected.Expected.{Expected}
use Rattle.packed.specs.Told.{Told, at_first, has_begun, expected, told_on}
use Rattle.packed.specs.Spelling.{packed_next}
use Rattle.packed.specs.Reading.{CanBeNext, BeginsWithNone}
use Rattle.packed.proofs.Told.{not_begun, expected_noted, carets_begun}
use Rattle.packed.proofs.ReadNext.{begins_none}
use Rattle.packed.proofs.PackedLists.{determined}
use Rattle.chunks.specs.declared.reading.Begin.{Begin}
use Rattle.chunks.specs.Chunks.{Placed, begin_spelling, begun_with, begun, added, CanCome}
use Rattle.chunks.specs.Parts.{placed, begin_fields, IsBegin, begin_at, BeginsNoSite, IsOpen, IsFirst, ReadsFirst, NoneIsFirst, begun_so}
use Rattle.chunks.proofs.Begins.{begin_reads}
use Rattle.chunks.proofs.Opening.{begun_here, begun_first}

-- where its site begins with an operation
abbrev pub begin_for : Placed → Begin
begin_for p = record { site = p.op.site; seq = p.op.seq; stamp = p.op.stamp; len = p.len }

pub later_parts : (t : Told) (p : Placed) → has_begun t p.op.site ≡ true → added t p ≡ packed_next t p.op
later_parts t p h =
    ap (λ (l : List ℕ). l ++ packed_next (begun t p) p.op) (cond-true (has_begun t p.op.site) [] (begin_spelling p) h)
    ∙ ap (λ (u : Told). packed_next u p.op) (begun_here t p h)

pub first_parts : (t : Told) (p : Placed) (rest : List ℕ) → has_begun t p.op.site ≡ false
    → added t p ++ rest ≡ 15 ∷ (begin_fields (begin_for p) ++ (packed_next (begun_with t p) p.op ++ rest))
first_parts t p rest h =
    ap (λ (l : List ℕ). l ++ packed_next (begun t p) p.op ++ rest) (cond-false (has_begun t p.op.site) [] (begin_spelling p) h)
    ∙ ap (λ (u : Told). begin_spelling p ++ packed_next u p.op ++ rest) (begun_first t p h)
    ∙ append_assoc (begin_spelling p) (packed_next (begun_with t p) p.op) rest

pub is_begin : (t : Told) (text : ℕ) (p : Placed) → CanCome t text p → has_begun t p.op.site ≡ false
    → IsBegin (begin_for p)
is_begin t text p can h = record {
  site = can.next.spelled.site;
  seq = can.next.spelled.seq;
  stamp = can.next.spelled.stamp;
  len = can.in_file;
}

tail_is : (a b : ℕ) (x y : List ℕ) → a ∷ x ≡ b ∷ y → x ≡ y
tail_is a b x y e = cc

-- what begins with an operation of a site that hasn't begun
pub first_told : (t : Told) (text : ℕ) (bytes : List ℕ) (p : Placed) (rest : List ℕ)
    → IsFirst t text (15 ∷ bytes) p rest → has_begun t p.op.site ≡ false
    → begin_at bytes ≡ Some (begin_for p, packed_next (begun_with t p) p.op ++ rest)
first_told t text bytes p rest is h =
    ap begin_at (tail_is 15 15 _ _ (is.parts ∙ first_parts t p rest h))
    ∙ begin_reads.again (begin_for p) (packed_next (begun_with t p) p.op ++ rest) (is_begin t text p is.can h)

-- an operation of a site that has begun doesn't begin with 15
pub first_is_first : (t : Told) (text : ℕ) (bytes : List ℕ) (p : Placed) (rest : List ℕ) → IsOpen t
    → IsFirst t text (15 ∷ bytes) p rest → has_begun t p.op.site ≡ false
first_is_first t text bytes p rest is_open is =
    elim (cases_Bool (has_begun t p.op.site)) [
      | inr none ↦ none
      | inl h ↦
          absurd (begins_none t text p.op rest bytes is_open.carets is_open.in_chunk
          (subst (λ (u : Told). CanBeNext u text p.op) (begun_here t p h) is.can.next)
          (ap (λ (l : List ℕ). l ++ rest) (sym (later_parts t p h)) ∙ sym is.parts))
    ]

-- ---- a site that begins

-- nothing can be told of where a site begins
pub no_begin : (t : Told) (text : ℕ) (bytes : List ℕ) → IsOpen t → begin_at bytes ≡ None
    → NoneIsFirst t text (15 ∷ bytes)
no_begin t text bytes is_open none p rest is =
    let told = first_told t text bytes p rest is (first_is_first t text bytes p rest is_open is) in
    no_some (sym none ∙ told)
  where
    no_some : {A : Type 0} {x : A} → ◌≡◌ {A = Option A} None (Some x) → ⊥
    no_some e = cc

module _ (t : Told) (text : ℕ) (bytes : List ℕ) (b : Begin) (rest : List ℕ) (is_open : IsOpen t)
    (found : begin_at bytes ≡ Some (b, rest)) where
  -- what comes first begins so
  begins_so : (p : Placed) (after : List ℕ) → IsFirst t text (15 ∷ bytes) p after
      → (b ≡ begin_for p) × (rest ≡ packed_next (begun_with t p) p.op ++ after)
  begins_so p after is =
      let same : ◌≡◌ {A = Begin × List ℕ} (b, rest) (begin_for p, packed_next (begun_with t p) p.op ++ after) =
      some_is _ _ (sym found ∙ first_told t text bytes p after is (first_is_first t text bytes p after is_open is)) in
      (ap (λ (x : Begin × List ℕ). x.0) same, ap (λ (x : Begin × List ℕ). x.1) same)

  -- its site hasn't begun
  pub begun_twice : has_begun t b.site ≡ true → NoneIsFirst t text (15 ∷ bytes)
  begun_twice h p after is =
      let not = first_is_first t text bytes p after is_open is in
      let of = ap (λ (x : Begin). has_begun t x.site) (begins_so p after is).0 in
      absurd (differ (sym h ∙ of ∙ not))
    where
      differ : true ≡ false → ⊥
      differ e = cc

  -- and it comes next there
  pub comes_next : (p : Placed) (after : List ℕ) → IsFirst t text (15 ∷ bytes) p after
      → CanBeNext (begun_so t b) text p.op × (rest ≡ packed_next (begun_so t b) p.op ++ after)
  comes_next p after is =
      let so = begins_so p after is in
      let not = first_is_first t text bytes p after is_open is in
      let told : begun_with t p ≡ begun_so t b = ap (begun_so t) (sym so.0) in (
        subst (λ (u : Told). CanBeNext u text p.op) (begun_first t p not ∙ told) is.can.next,
        so.1 ∙ ap (λ (u : Told). packed_next u p.op ++ after) told,
      )

  pub none_next : BeginsWithNone (begun_so t b) text rest → NoneIsFirst t text (15 ∷ bytes)
  none_next none p after is = let next = comes_next p after is in none p.op after next.0 next.1

  -- an operation that was read there
  module _ (op : Operation) (after : List ℕ) (can : CanBeNext (begun_so t b) text op)
      (parts : rest ≡ packed_next (begun_so t b) op ++ after) where
    only_this : (p : Placed) (left : List ℕ) → IsFirst t text (15 ∷ bytes) p left → op ≡ p.op
    only_this p left is =
        let next = comes_next p left is in
        let below = carets_begun t b.site (b.seq - 1) (b.stamp - 1) b.len is_open.carets in
        (determined (begun_so t b) text op p.op after left below can next.0 (sym parts ∙ next.1)).0

    -- if it is another than what the site begins with, none is there
    pub another : ((op.site ≡ b.site) × (op.stamp ≡ b.stamp) → ⊥) → NoneIsFirst t text (15 ∷ bytes)
    another other p left is =
        let same = only_this p left is in
        let so = sym (begins_so p left is).0 in
        other (
          ap (λ (o : Operation). o.site) same ∙ ap (λ (x : Begin). x.site) so,
          ap (λ (o : Operation). o.stamp) same ∙ ap (λ (x : Begin). x.stamp) so,
        )

    -- else it comes first
    pub reads_first : (new : Told) → IsBytes bytes → has_begun t b.site ≡ false → op.site ≡ b.site → op.stamp ≡ b.stamp
        → new ≡ told_on (begun_so t b) op → ReadsFirst t new text (15 ∷ bytes) op after
    reads_first new fits none site stamp told =
        let p : Placed = placed op b.len in
        let took = begin_reads.takes bytes b rest fits found in
        let e : Expected = expected (begun_so t b) op.site in
        let at : e ≡ record at_first { seq = b.seq - 1; stamp = b.stamp - 1; len = b.len } =
        expected_noted t b.site (record at_first { seq = b.seq - 1; stamp = b.stamp - 1; len = b.len }) op.site
        ∙ cond-true _ _ _ (eq-eqb b.site op.site (sym site)) in
        let seq : op.seq ≡ b.seq = omega (arith, can.next.seq, ap (λ (x : Expected). x.seq) at, took.in_range.seq.0) in
        let so : begin_for p ≡ b = same_begin op.site op.seq op.stamp site seq stamp in
        let none_here : has_begun t p.op.site ≡ false = ap (has_begun t) site ∙ none in
        let tells : begun t p ≡ begun_so t b = begun_first t p none_here ∙ ap (begun_so t) so in
        record {
          placed = p;
          is = refl;
          first = record {
            can = record {
              next = subst (λ (u : Told). CanBeNext u text op) (sym tells) can;
              len = sym (ap (λ (u : Told). (expected u op.site).len) tells ∙ ap (λ (x : Expected). x.len) at);
              in_file = took.in_range.len;
            };
            parts = ap (λ (l : List ℕ). 15 ∷ l) (took.parts
                ∙ ap (λ (x : Begin). begin_fields x ++ rest) (sym so)
                ∙ ap (λ (l : List ℕ). begin_fields (begin_for p) ++ l) (parts
                ∙ ap (λ (x : Begin). packed_next (begun_so t x) op ++ after) (sym so)))
                ∙ sym (first_parts t p after none_here);
          };
          tells = told ∙ ap (λ (u : Told). told_on u op) (sym tells);
        }
      where
        same_begin : (s q m : ℕ) → s ≡ b.site → q ≡ b.seq → m ≡ b.stamp
            → record { site = s; seq = q; stamp = m; len = b.len } ≡ b
        same_begin s q m x y z =
            ap (λ (n : ℕ). record { site = n; seq = q; stamp = m; len = b.len }) x
            ∙ ap (λ (n : ℕ). record { site = b.site; seq = n; stamp = m; len = b.len }) y
            ∙ ap (λ (n : ℕ). record { site = b.site; seq = b.seq; stamp = n; len = b.len }) z

-- ---- a site that has begun

module _ (t : Told) (text : ℕ) (bytes : List ℕ) (is_open : IsOpen t) (later : BeginsNoSite bytes) where
  -- what comes first is of a site that has begun
  later_begun : (p : Placed) (rest : List ℕ) → IsFirst t text bytes p rest → has_begun t p.op.site ≡ true
  later_begun p rest is =
      elim (cases_Bool (has_begun t p.op.site)) [
        | inl h ↦ h
        | inr none ↦ absurd (later _ (is.parts ∙ first_parts t p rest none))
      ]

  later_next : (p : Placed) (rest : List ℕ) → IsFirst t text bytes p rest
      → CanBeNext t text p.op × (bytes ≡ packed_next t p.op ++ rest)
  later_next p rest is =
      let h = later_begun p rest is in (
        subst (λ (u : Told). CanBeNext u text p.op) (begun_here t p h) is.can.next,
        is.parts ∙ ap (λ (l : List ℕ). l ++ rest) (later_parts t p h),
      )

  pub none_later : BeginsWithNone t text bytes → NoneIsFirst t text bytes
  none_later none p rest is = let next = later_next p rest is in none p.op rest next.0 next.1

  module _ (op : Operation) (after : List ℕ) (can : CanBeNext t text op) (parts : bytes ≡ packed_next t op ++ after) where
    -- if it is the first of its site none is there, since what comes first isn't
    pub not_first : op.seq ≡ 1 → NoneIsFirst t text bytes
    not_first one p rest is =
        let next = later_next p rest is in
        let same = (determined t text op p.op after rest is_open.carets can next.0 (sym parts ∙ next.1)).0 in
        let seq = next.0.next.seq in
        absurd (omega (
          arith,
          is_open.counted p.op.site (later_begun p rest is),
          seq,
          ap (λ (o : Operation). o.seq) same,
          one,
        ))

    -- else it comes first
    pub reads_later : (new : Told) → op.seq ≢ 1 → new ≡ told_on t op → ReadsFirst t new text bytes op after
    reads_later new more told =
        let h = has_begun_here in
        let p : Placed = placed op (expected t op.site).len in
        let tells : begun t p ≡ t = begun_here t p h in
        record {
          placed = p;
          is = refl;
          first = record {
            can = record {
              next = subst (λ (u : Told). CanBeNext u text op) (sym tells) can;
              len = ap (λ (u : Told). (expected u op.site).len) (sym tells);
              in_file = is_open.lens op.site;
            };
            parts = parts ∙ ap (λ (l : List ℕ). l ++ after) (sym (later_parts t p h));
          };
          tells = told ∙ ap (λ (u : Told). told_on u op) (sym tells);
        }
      where
        has_begun_here : has_begun t op.site ≡ true
        has_begun_here =
            elim (cases_Bool (has_begun t op.site)) [
              | inl h ↦ h
              | inr none ↦
                  absurd (more (can.next.seq ∙ ap (λ (x : Expected). suc x.seq) (not_begun t op.site none)))
            ]
