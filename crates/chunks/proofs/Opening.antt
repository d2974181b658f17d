-- What a chunk tells, with an operation more.
use Rattle.std.proofs.Common.{◌≡◌, ℕ, ◌+◌, ◌-◌, ◌<◌, ◌≤◌, Bool, true, false, cond, eqb, inl, inr, refl, sym, subst, ◌∙◌, arith}
use Rattle.std.proofs.lemmas.Bool.{cases_Bool, eq-eqb, cond-true, cond-false}
use Rattle.char_files.specs.declared.TheConstants.{MAX_FILE}
use Rattle.operations.specs.Operation.{Operation, OpKind, insert, delete, restore, change_looks, appended_len, Begins}
use Rattle.operations.specs.Spelling.{IsKind}
use Rattle.packed.specs.declared.expected.Expected.{Expected}
use Rattle.packed.specs.Told.{Told, at_first, nothing_begun, noted, has_begun, expected, after_one_more, told_on, CaretsAreInFiles}
use Rattle.packed.specs.Reading.{CanBeNext}
use Rattle.packed.proofs.Told.{expected_noted, has_begun_noted, carets_on, carets_begun, none_begun}
use Rattle.chunks.specs.Chunks.{Placed, begun_with, begun, told_by, CanCome}
use Rattle.chunks.specs.Parts.{IsOpen, LensAreInFiles}

pub begun_here : (t : Told) (p : Placed) → has_begun t p.op.site ≡ true → begun t p ≡ t
begun_here t p h = cond-true (has_begun t p.op.site) t (begun_with t p) h

pub begun_first : (t : Told) (p : Placed) → has_begun t p.op.site ≡ false → begun t p ≡ begun_with t p
begun_first t p h = cond-false (has_begun t p.op.site) t (begun_with t p) h

-- what holds of both holds of what is told once the site has begun
pub by_begun : (P : Told → Type 0) (t : Told) (p : Placed) → P t → P (begun_with t p) → P (begun t p)
by_begun P t p here first = by (has_begun t p.op.site)
  where
    by : (b : Bool) → P (cond b t (begun_with t p))
    by true = here
    by false = first

-- what is expected of a site where it begins
abbrev pub expected_first : Placed → Expected
expected_first p = record at_first { seq = p.op.seq - 1; stamp = p.op.stamp - 1; len = p.len }

pub expected_begun : (t : Told) (p : Placed) → expected (begun_with t p) p.op.site ≡ expected_first p
expected_begun t p =
    expected_noted t p.op.site (expected_first p) p.op.site ∙ cond-true _ _ _ (eq-eqb p.op.site p.op.site refl)

-- the sites of which something is told have an operation
abbrev AreCounted : Told → Type 0
AreCounted t = (site : ℕ) → has_begun t site ≡ true → 0 < (expected t site).seq

AreOther : Told → ℕ → Type 0
AreOther t of = (site : ℕ) → eqb of site ≡ false → has_begun t site ≡ true → 0 < (expected t site).seq

other_noted : (t : Told) (of : ℕ) (e : Expected) (site : ℕ) → eqb of site ≡ false
    → (has_begun t site ≡ true → 0 < (expected t site).seq) → has_begun (noted t of e) site ≡ true
    → 0 < (expected (noted t of e) site).seq
other_noted t of e site apart counted h =
    let same : expected (noted t of e) site ≡ expected t site = expected_noted t of e site ∙ cond-false _ _ _ apart in
    let told : has_begun (noted t of e) site ≡ has_begun t site = has_begun_noted t of e site ∙ cond-false _ _ _ apart in
    subst (λ (x : Expected). 0 < x.seq) (sym same) (counted (sym told ∙ h))

others_begun : (t : Told) (p : Placed) → AreCounted t → AreOther (begun t p) p.op.site
unfolding AreOther
others_begun t p counted =
    by_begun (λ (u : Told). AreOther u p.op.site) t p (λ site apart h. counted site h)
    (λ site apart h. other_noted t p.op.site (expected_first p) site apart (counted site) h)

counted_on : (t : Told) (op : Operation) → 0 < op.seq → AreOther t op.site → AreCounted (told_on t op)
unfolding AreOther
counted_on t op some others site h =
    elim (cases_Bool (eqb op.site site)) [
      | inl here ↦
          let is : expected (told_on t op) site ≡ after_one_more (expected t op.site) op =
          expected_noted t op.site (after_one_more (expected t op.site) op) site ∙ cond-true _ _ _ here in
          subst (λ (x : Expected). 0 < x.seq) (sym is) some
      | inr apart ↦ other_noted t op.site (after_one_more (expected t op.site) op) site apart (others site apart) h
    ]

pub nothing_is_open : IsOpen nothing_begun
nothing_is_open = record {
  in_chunk = refl;
  carets = none_begun;
  lens = λ site. omega arith;
  counted = λ site h. absurd cc;
}

-- ---- the lengths of the files

lens_noted : (t : Told) (of : ℕ) (e : Expected) → e.len ≤ MAX_FILE → LensAreInFiles t → LensAreInFiles (noted t of e)
lens_noted t of e here lens site =
    subst (λ (x : Expected). x.len ≤ MAX_FILE) (sym (expected_noted t of e site)) (by (eqb of site))
  where
    by : (b : Bool) → (cond b e (expected t site)).len ≤ MAX_FILE
    by true = here
    by false = lens site

len_after : (site len : ℕ) (kind : OpKind) → IsKind site kind → Begins kind len → len ≤ MAX_FILE
    → len + appended_len kind ≤ MAX_FILE
len_after site len (insert cause at looks bytes) is begins le = omega (arith, is.in_file, begins)
len_after site len (delete names) is begins le = omega (arith, le)
len_after site len (restore names) is begins le = omega (arith, le)
len_after site len (change_looks sel looks names) is begins le = omega (arith, le)

-- they stay so
pub lens_on : (t : Told) (text : ℕ) (op : Operation) → CanBeNext t text op → LensAreInFiles t → LensAreInFiles (told_on t op)
lens_on t text op can lens =
    let e : Expected = expected t op.site in
    lens_noted t op.site (after_one_more e op) (len_after op.site e.len op.kind can.spelled.kind can.next.begins (lens op.site)) lens

lens_of_begun : (t : Told) (p : Placed) → p.len ≤ MAX_FILE → LensAreInFiles t → LensAreInFiles (begun t p)
lens_of_begun t p le lens = by_begun LensAreInFiles t p lens (lens_noted t p.op.site (expected_first p) le lens)

-- ---- with an operation more

pub carets_of_begun : (t : Told) (p : Placed) → CaretsAreInFiles t → CaretsAreInFiles (begun t p)
carets_of_begun t p below =
    by_begun CaretsAreInFiles t p below (carets_begun t p.op.site (p.op.seq - 1) (p.op.stamp - 1) p.len below)

pub in_chunk_of_begun : (t : Told) (p : Placed) → t.in_chunk ≡ true → (begun t p).in_chunk ≡ true
in_chunk_of_begun t p h = by_begun (λ (u : Told). u.in_chunk ≡ true) t p h h

-- it stays so
pub open_after : (t : Told) (text : ℕ) (p : Placed) → IsOpen t → CanCome t text p → IsOpen (told_by t p)
open_after t text p is can = record {
  in_chunk = in_chunk_of_begun t p is.in_chunk;
  carets = carets_on (begun t p) p.op can.next.spelled (carets_of_begun t p is.carets);
  lens = lens_on (begun t p) text p.op can.next (lens_of_begun t p can.in_file is.lens);
  counted = counted_on (begun t p) p.op can.next.spelled.seq.0 (others_begun t p is.counted);
}
