-- Of what is told of a site three numbers say which operation comes next: its seq, its stamp and its file's length.
use Rattle.std.proofs.Common.{◌≡◌, ℕ, suc, ◌<◌, ◌≤◌, true, false, eqb, inl, inr, List, [], ◌∷◌}
use Rattle.std.proofs.Common.{refl, sym, ap, subst, ◌∙◌, arith}
use Rattle.std.proofs.lemmas.Bool.{cases_Bool, cond-true, cond-false}
use Rattle.char_files.specs.declared.TheConstants.{MAX_FILE}
use Rattle.operations.specs.Operation.{Operation, Begins}
use Rattle.operations.specs.Spelling.{HasSpelling}
use Rattle.packed.specs.declared.expected.Expected.{Expected}
use Rattle.packed.specs.Told.{Told, nothing_begun, has_begun, expected, after_one_more, told_on, IsNext}
use Rattle.packed.specs.Reading.{CanBeNext}
use Rattle.packed.proofs.Told.{expected_noted, has_begun_noted}
use Rattle.chunks.specs.Chunks.{Placed, begun_with, begun, told_by, CanCome, CanAllCome}
use Rattle.chunks.proofs.Opening.{begun_here, begun_first, by_begun, expected_begun, expected_first}

-- the same next operation is expected
pub record Same (a b : Expected) : Type 0 where
  pub seq : a.seq ≡ b.seq
  pub stamp : a.stamp ≡ b.stamp
  pub len : a.len ≡ b.len

-- an operation comes next where this is expected of its site
pub record Goes (e : Expected) (text : ℕ) (p : Placed) : Type 0 where
  pub spelled : HasSpelling p.op
  pub on_text : p.op.text ≡ text
  pub seq : p.op.seq ≡ suc e.seq
  pub begins : Begins p.op.kind e.len
  pub above : e.stamp < p.op.stamp
  pub len : p.len ≡ e.len
  pub in_file : p.len ≤ MAX_FILE

pub goes_as : (t : Told) (text : ℕ) (p : Placed) → CanCome t text p → Goes (expected (begun t p) p.op.site) text p
goes_as t text p can = record {
  spelled = can.next.spelled;
  on_text = can.next.on_text;
  seq = can.next.next.seq;
  begins = can.next.next.begins;
  above = can.next.next.above;
  len = can.len;
  in_file = can.in_file;
}

-- so it can come in any chunk in which its site hasn't begun, or the same is expected of it
pub comes_so : (u : Told) (text : ℕ) (p : Placed) (e : Expected) → Goes e text p
    → (has_begun u p.op.site ≡ true → Same (expected u p.op.site) e) → CanCome u text p
comes_so u text p e goes same =
    elim (cases_Bool (has_begun u p.op.site)) [
      | inl h ↦
          let s = same h in
          so u (begun_here u p h) (goes.seq ∙ ap suc (sym s.seq)) (goes.len ∙ sym s.len) (omega (arith, goes.above, s.stamp))
      | inr none ↦
          let at : expected (begun_with u p) p.op.site ≡ expected_first p = expected_begun u p in
          so (begun_with u p) (begun_first u p none)
          (omega (arith, goes.spelled.seq.0, ap (λ (x : Expected). x.seq) at))
          (sym (ap (λ (x : Expected). x.len) at))
          (omega (arith, goes.spelled.stamp.0, ap (λ (x : Expected). x.stamp) at))
    ]
  where
    so : (v : Told) → begun u p ≡ v → p.op.seq ≡ suc (expected v p.op.site).seq → p.len ≡ (expected v p.op.site).len
        → (expected v p.op.site).stamp < p.op.stamp → CanCome u text p
    so v is seq len above =
        let next : IsNext v p.op = record {
          seq = seq;
          begins = subst (Begins p.op.kind) (sym goes.len ∙ len) goes.begins;
          above = above;
        } in
        let can : CanBeNext v text p.op = record { next = next; spelled = goes.spelled; on_text = goes.on_text } in
        record {
          next = subst (λ (w : Told). CanBeNext w text p.op) (sym is) can;
          len = len ∙ ap (λ (w : Told). (expected w p.op.site).len) (sym is);
          in_file = goes.in_file;
        }

-- ---- with an operation more

pub expected_by : (u : Told) (p : Placed) (site : ℕ) → eqb p.op.site site ≡ false
    → expected (told_by u p) site ≡ expected u site
expected_by u p site apart =
    expected_noted (begun u p) p.op.site (after_one_more (expected (begun u p) p.op.site) p.op) site
    ∙ cond-false _ _ _ apart
    ∙ by_begun (λ (v : Told). expected v site ≡ expected u site) u p refl
    (expected_noted u p.op.site (expected_first p) site ∙ cond-false _ _ _ apart)

pub expected_here : (u : Told) (op : Operation) (site : ℕ) → eqb op.site site ≡ true
    → expected (told_on u op) site ≡ after_one_more (expected u op.site) op
expected_here u op site here =
    expected_noted u op.site (after_one_more (expected u op.site) op) site ∙ cond-true _ _ _ here

pub begun_by : (u : Told) (p : Placed) (site : ℕ) → eqb p.op.site site ≡ false → has_begun (told_by u p) site ≡ has_begun u site
begun_by u p site apart =
    has_begun_noted (begun u p) p.op.site (after_one_more (expected (begun u p) p.op.site) p.op) site
    ∙ cond-false _ _ _ apart
    ∙ by_begun (λ (v : Told). has_begun v site ≡ has_begun u site) u p refl
    (has_begun_noted u p.op.site (expected_first p) site ∙ cond-false _ _ _ apart)

pub begun_by_this : (u : Told) (p : Placed) (site : ℕ) → eqb p.op.site site ≡ true → has_begun (told_by u p) site ≡ true
begun_by_this u p site here =
    has_begun_noted (begun u p) p.op.site (after_one_more (expected (begun u p) p.op.site) p.op) site ∙ cond-true _ _ _ here

-- after the same operation the same is expected, if the files were as long
pub same_after : (a b x y : Expected) (op : Operation) → a ≡ after_one_more x op → b ≡ after_one_more y op → x.len ≡ y.len → Same a b
same_after a b x y op is_a is_b lens =
    subst (λ (e : Expected). Same e b) (sym is_a) (subst (λ (e : Expected). Same (after_one_more x op) e) (sym is_b)
    (record { seq = refl; stamp = refl; len = omega (arith, lens) }))

-- ---- fewer sites have begun

-- what u tells is told by t too
pub Weaker : (u t : Told) → Type 0
Weaker u t = (site : ℕ) → has_begun u site ≡ true → (has_begun t site ≡ true) × Same (expected u site) (expected t site)

pub nothing_is_weaker : (t : Told) → Weaker nothing_begun t
unfolding Weaker
nothing_is_weaker t site h = absurd cc

weaker_on : (u t : Told) (text : ℕ) (p : Placed) → Weaker u t → CanCome t text p → CanCome u text p
    → Weaker (told_by u p) (told_by t p)
unfolding Weaker
weaker_on u t text p weaker can_t can_u site h =
    elim (cases_Bool (eqb p.op.site site)) [
      | inl here ↦ (
        begun_by_this t p site here,
        same_after _ _ (expected (begun u p) p.op.site) (expected (begun t p) p.op.site) p.op
            (expected_here (begun u p) p.op site here) (expected_here (begun t p) p.op site here)
            (sym can_u.len ∙ can_t.len),
      )
      | inr apart ↦
          let both = weaker site (sym (begun_by u p site apart) ∙ h) in (
            begun_by t p site apart ∙ both.0,
            subst (λ (e : Expected). Same e (expected (told_by t p) site)) (sym (expected_by u p site apart))
                (subst (λ (e : Expected). Same (expected u site) e) (sym (expected_by t p site apart)) both.1),
          )
    ]

-- what can come can come where fewer sites have begun
pub weaken : (ps : List Placed) (u t : Told) (text : ℕ) → Weaker u t → CanAllCome t text ps → CanAllCome u text ps
unfolding Weaker
weaken [] u t text weaker come = tt
weaken (p ∷ ps) u t text weaker come =
    let same : has_begun u p.op.site ≡ true → Same (expected u p.op.site) (expected (begun t p) p.op.site) = λ h.
    let both = weaker p.op.site h in
    subst (λ (v : Told). Same (expected u p.op.site) (expected v p.op.site)) (sym (begun_here t p both.0)) both.1 in
    let can = comes_so u text p (expected (begun t p) p.op.site) (goes_as t text p come.0) same in
    (can, weaken ps (told_by u p) (told_by t p) text (weaker_on u t text p weaker come.0 can) come.1)
