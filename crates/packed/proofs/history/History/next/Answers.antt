use Rattle.std.proofs.Common.{◌≡◌, ◌++◌, Result, Err, sym, ap, subst, ◌∙◌, arith}
use Rattle.looks.specs.declared.refusal.Refusal.{Refusal}
use Rattle.operations.specs.Operation.{Operation, Begins}
use Rattle.operations.specs.Spelling.{HasSpelling}
use Rattle.packed.specs.Told.{expected, IsNext}
use Rattle.packed.specs.Spelling.{packed_next}
use Rattle.packed.specs.Seen.{view_read}
use Rattle.packed.proofs.ReadNext.{parts_taken, same_read, none_read}
use Rattle.packed.proofs.history.History.next.Goals as goal

-- the same refusal
err_is : {A : Type 0} (x y : Refusal) → ◌≡◌ {A = Result A Refusal} (Err x) (Err y) → x ≡ y
err_is x y e = cc

pub returns-in_default-clause-bad : goal.returns-in_default-clause-bad
returns-in_default-clause-bad c =
    λ is op rest can e. none_read c.args.self.now c.args.text c.args.bytes.now op rest c.lemma_carets.ensures can e
    c.in_default.ensures

pub returns-in-Err-clause-bad : goal.returns-in-Err-clause-bad
returns-in-Err-clause-bad c =
    λ is op rest can e.
    let read = same_read c.args.self.now c.args.text c.args.bytes.now (view_read c.in-Some.read) c.in-Some.rest.now op rest
    c.lemma_carets.ensures can e c.in-Some.ensures in
    absurd (c.in-Err.ensures.bad (ap (λ (x : Refusal). Err x) (err_is _ _ is)) (subst HasSpelling (sym read.0) can.spelled))

pub pass-requires : goal.pass-requires
pass-requires c =
    let taken = parts_taken c.args.self.now c.args.text c.args.bytes.now (view_read c.in-Some.read) c.in-Some.rest.now
    c.lemma_carets.ensures (λ i. omega (arith, c.type_inv.bytes i)) c.in-Some.ensures in
    subst (λ (op : Operation). Begins op.kind (expected c.args.self.now op.site).len) (sym c.in-Ok.ensures.ok)
    taken.next.begins

pub returns-clause-bytes : goal.returns-clause-bytes
returns-clause-bytes c =
    let taken = parts_taken c.args.self.now c.args.text c.args.bytes.now (view_read c.in-Some.read) c.in-Some.rest.now
    c.lemma_carets.ensures (λ i. omega (arith, c.type_inv.bytes i)) c.in-Some.ensures in
    subst (λ (op : Operation). c.args.bytes.now ≡ packed_next c.args.self.now op ++ c.in-Some.rest.now)
    (sym c.in-Ok.ensures.ok) taken.packed

pub returns-clause-next : goal.returns-clause-next
returns-clause-next c =
    let taken = parts_taken c.args.self.now c.args.text c.args.bytes.now (view_read c.in-Some.read) c.in-Some.rest.now
    c.lemma_carets.ensures (λ i. omega (arith, c.type_inv.bytes i)) c.in-Some.ensures in
    (subst (IsNext c.args.self.now) (sym c.in-Ok.ensures.ok) taken.next, ap (λ (op : Operation). op.text) c.in-Ok.ensures.ok)

pub returns-clause-only : goal.returns-clause-only
returns-clause-only c =
    λ op rest can e.
    let read = same_read c.args.self.now c.args.text c.args.bytes.now (view_read c.in-Some.read) c.in-Some.rest.now op rest
    c.lemma_carets.ensures can e c.in-Some.ensures in
    (c.in-Ok.ensures.ok ∙ read.0, read.1)
