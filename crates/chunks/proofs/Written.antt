-- What an operation adds where its site begins with it doesn't hang on what else is told.
use Rattle.std.proofs.Common.{◌≡◌, ℕ, suc, ◌+◌, ◌-◌, ◌<◌, Bool, true, false, Option, List, ◌++◌, [], refl, sym, ap, subst, ◌∙◌, arith}
use Rattle.std.proofs.lemmas.Bool.{eq-eqb, cond-true, cond-false}
use Rattle.operations.specs.Operation.{Operation, Begins}
use Rattle.operations.specs.Spelling.{HasSpelling}
use Rattle.packed.specs.declared.expected.Expected.{Expected}
use Rattle.packed.specs.Told.{Told, nothing_begun, has_begun, expected, IsNext}
use Rattle.packed.specs.Spelling.{time_lead, edit_spelling, packed_next}
use Rattle.packed.proofs.Told.{has_begun_noted}
use Rattle.chunks.specs.Chunks.{Placed, begin_spelling, begun_with, begun, added}
use Rattle.chunks.proofs.Opening.{begun_first, expected_begun, expected_first}

packed_same : (v w : Told) (op : Operation) → v.in_chunk ≡ w.in_chunk → v.last ≡ w.last
    → expected v op.site ≡ expected w op.site → packed_next v op ≡ packed_next w op
packed_same v w op chunk last e =
    let bytes : Bool → Option ℕ → Expected → List ℕ = λ b l x.
    time_lead l op.site (op.stamp - (x.stamp + 1)) ++ edit_spelling b x op.kind in
    ap (λ (b : Bool). bytes b v.last (expected v op.site)) chunk
    ∙ ap (λ (l : Option ℕ). bytes w.in_chunk l (expected v op.site)) last
    ∙ ap (λ (x : Expected). bytes w.in_chunk w.last x) e

same_expected : (t : Told) (p : Placed) → expected (begun_with t p) p.op.site ≡ expected (begun_with nothing_begun p) p.op.site
same_expected t p = expected_begun t p ∙ sym (expected_begun nothing_begun p)

pub first_added : (t : Told) (p : Placed) → t.in_chunk ≡ true → has_begun t p.op.site ≡ false
    → added t p ≡ begin_spelling p ++ packed_next (begun_with nothing_begun p) p.op
first_added t p chunk none =
    ap (λ (l : List ℕ). l ++ packed_next (begun t p) p.op) (cond-false (has_begun t p.op.site) [] (begin_spelling p) none)
    ∙ ap (λ (u : Told). begin_spelling p ++ packed_next u p.op) (begun_first t p none)
    ∙ ap (λ (l : List ℕ). begin_spelling p ++ l)
    (packed_same (begun_with t p) (begun_with nothing_begun p) p.op chunk refl (same_expected t p))

pub next_first : (t : Told) (p : Placed) → has_begun t p.op.site ≡ false → IsNext (begun t p) p.op
    → IsNext (begun_with nothing_begun p) p.op
next_first t p none next =
    let here : IsNext (begun_with t p) p.op = subst (λ (u : Told). IsNext u p.op) (begun_first t p none) next in
    let same = same_expected t p in
    record {
      seq = here.seq ∙ ap (λ (x : Expected). suc x.seq) same;
      begins = subst (λ (x : Expected). Begins p.op.kind x.len) same here.begins;
      above = subst (λ (x : Expected). x.stamp < p.op.stamp) same here.above;
    }

-- the site has begun then
pub has_begun_with : (t : Told) (p : Placed) → has_begun (begun_with t p) p.op.site ≡ true
has_begun_with t p =
    has_begun_noted t p.op.site (expected_first p) p.op.site ∙ cond-true _ _ _ (eq-eqb p.op.site p.op.site refl)

-- an operation can come first of its site in a chunk where an Insert begins at the length that is told
pub first_comes : (t : Told) (p : Placed) → HasSpelling p.op → has_begun t p.op.site ≡ false
    → (Begins p.op.kind p.len → IsNext (begun t p) p.op) × (IsNext (begun t p) p.op → Begins p.op.kind p.len)
first_comes t p is none =
    let at : expected (begun_with t p) p.op.site ≡ expected_first p = expected_begun t p in (
      λ begins. subst (λ (u : Told). IsNext u p.op) (sym (begun_first t p none)) (record {
        seq = omega (arith, is.seq.0, ap (λ (x : Expected). x.seq) at);
        begins = subst (λ (x : Expected). Begins p.op.kind x.len) (sym at) begins;
        above = omega (arith, is.stamp.0, ap (λ (x : Expected). x.stamp) at);
      }),
      λ next. subst (λ (x : Expected). Begins p.op.kind x.len) at
          (subst (λ (u : Told). IsNext u p.op) (begun_first t p none) next).begins,
    )
