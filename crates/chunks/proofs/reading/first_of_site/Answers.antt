use Rattle.std.proofs.Common.{◌≡◌, ◌++◌, Err, true, false, ap, sym, subst, ◌∙◌, arith}
use Rattle.looks.specs.declared.refusal.Refusal.TheVariants.{Malformed}
use Rattle.packed.specs.Told.{Told, told_on}
use Rattle.packed.specs.Spelling.{packed_next}
use Rattle.packed.specs.Reading.{CanBeNext, BeginsWithNone}
use Rattle.chunks.proofs.Begins.{begin_reads}
use Rattle.chunks.proofs.Firsts.{no_begin, begun_twice, none_next, another, reads_first}
use Rattle.chunks.proofs.reading.first_of_site.Goals as goal

pub returns-in_default-clause-refused : goal.returns-in_default-clause-refused
returns-in_default-clause-refused c = λ is.
    no_begin c.args.history.now c.args.text c.args.bytes.now c.requires c.in_default.ensures

pub note_begin-requires : goal.note_begin-requires
note_begin-requires c =
    let took = begin_reads.takes c.args.bytes.now c.in-Some.begin c.in-Some.rest.now
    (λ i. omega (arith, c.type_inv.bytes i)) c.in-Some.ensures in
    record { seq = took.in_range.seq.0; stamp = took.in_range.stamp.0 }

pub returns-then-not-begins_so-clause-refused : goal.returns-then-not-begins_so-clause-refused
returns-then-not-begins_so-clause-refused c = λ is.
    let told = c.in_default-note_begin.ensures.ok in
    another c.args.history.now c.args.text c.args.bytes.now c.in-Some.begin c.in-Some.rest.now c.requires
    c.in-Some.ensures c.in-Ok.op c.in-Ok.rest.now
    (subst (λ (u : Told). CanBeNext u c.args.text c.in-Ok.op) told c.in-Ok.ensures.next)
    (subst (λ (u : Told). c.in-Some.rest.now ≡ packed_next u c.in-Ok.op ++ c.in-Ok.rest.now) told c.in-Ok.ensures.bytes)
    (λ both. other (sym c.if-not-begins_so.true ∙ c.begins_so.ensures.1 both))
  where
    other : false ≡ true → ⊥
    other e = cc

pub returns-else-not-begins_so-clause-ok : goal.returns-else-not-begins_so-clause-ok
returns-else-not-begins_so-clause-ok c =
    let told = c.in_default-note_begin.ensures.ok in
    let so = c.begins_so.ensures.0 c.if-not-begins_so.false in
    reads_first c.args.history.now c.args.text c.args.bytes.now c.in-Some.begin c.in-Some.rest.now c.requires
    c.in-Some.ensures c.in-Ok.op c.in-Ok.rest.now
    (subst (λ (u : Told). CanBeNext u c.args.text c.in-Ok.op) told c.in-Ok.ensures.next)
    (subst (λ (u : Told). c.in-Some.rest.now ≡ packed_next u c.in-Ok.op ++ c.in-Ok.rest.now) told c.in-Ok.ensures.bytes)
    c.next_packed.new.history (λ i. omega (arith, c.type_inv.bytes i)) c.in_default-note_begin.ensures.once
    so.0 so.1 (c.in-Ok.ensures.told ∙ ap (λ (u : Told). told_on u c.in-Ok.op) told)

pub returns-in-Err-clause-refused : goal.returns-in-Err-clause-refused
returns-in-Err-clause-refused c = λ bad.
    let is : c.in-Err.refused ≡ Malformed = cc in
    begun_twice c.args.history.now c.args.text c.args.bytes.now c.in-Some.begin c.in-Some.rest.now c.requires
    c.in-Some.ensures (c.in-Err.ensures.twice (ap Err is))

pub returns-in-Err-next_packed-clause-refused : goal.returns-in-Err-next_packed-clause-refused
returns-in-Err-next_packed-clause-refused c = λ bad.
    let is : c.in-Err-next_packed.why ≡ Malformed = cc in
    none_next c.args.history.now c.args.text c.args.bytes.now c.in-Some.begin c.in-Some.rest.now c.requires
    c.in-Some.ensures
    (subst (λ (u : Told). BeginsWithNone u c.args.text c.in-Some.rest.now) c.in_default-note_begin.ensures.ok
    (c.in-Err-next_packed.ensures.bad (ap Err is)))
