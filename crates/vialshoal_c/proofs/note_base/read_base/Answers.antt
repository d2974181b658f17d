use Rattle.std.proofs.Common.{◌≡◌, ◌<◌, ℕ, List, [], Err, length, ap, arith, subst, sym, ◌∙◌}
use Rattle.std.proofs.lemmas.Bool.{eqb-false, eqb-true, not-false, not-true}
use Rattle.std.proofs.lemmas.List.{nil_from_length}
use Rattle.std.proofs.lemmas.Result.{err_from_is_err_and}
use Rattle.looks.specs.declared.refusal.Refusal.TheVariants.{Malformed}
use Rattle.note_entries.specs.Bytes.{hash_of}
use Rattle.note_entries.specs.Branches.{is_same_hash}
use Rattle.note_laws.specs.Note.{Saying}
use Rattle.vialshoal_c.specs.NoteBeginning.{IsBaseOf}
use Rattle.vialshoal_c.proofs.Bases.{IsReadSoFar, all_read, ends_otherwise, no_chunk, none_read, not_cut, one_read, other_halves, same_halves}
use Rattle.vialshoal_c.proofs.note_base.read_base.Goals as goal

pub loop-rest-init : goal.loop-rest-init
loop-rest-init c =
    let key = c.new-base_key.result in
    let bytes = c.args.bytes.now in
    subst (λ (base : List Saying). IsReadSoFar key bytes base c.new-last.result bytes) (sym c.new-base.ensures.items)
    (subst (λ (n : ℕ). IsReadSoFar key bytes [] n bytes) (sym c.new-last.ensures) (none_read key bytes))

pub loop-rest-preserved : goal.loop-rest-preserved
loop-rest-preserved c =
    let some : 0 < length c.loop-rest.rest.now =
    omega (arith, eqb-false (length c.loop-rest.rest.now) 0 (sym c.is_empty.ensures ∙ c.loop-rest-test.true)) in
    one_read c.new-base_key.result c.args.bytes.now c.loop-rest.base.items c.loop-rest.last c.loop-rest.rest.now
    c.loop-rest.invariant _ _ c.in-Some.chunk.now c.in-Some.after.now some c.in-Some.ensures.some.0 c.in-Some.ensures.some.1
    c.in_ok-last.ensures.ok

pub returns-in_default-clause-malformed : goal.returns-in_default-clause-malformed
returns-in_default-clause-malformed c = λ bad other is.
    let root = hash_of c.args.root.now.bytes in
    let some : 0 < length c.loop-rest.rest.now =
    omega (arith, eqb-false (length c.loop-rest.rest.now) 0 (sym c.is_empty.ensures ∙ c.loop-rest-test.true)) in
    not_cut c.new-base_key.result c.args.bytes.now c.loop-rest.base.items c.loop-rest.last c.loop-rest.rest.now
    c.loop-rest.invariant root other some c.in_default.ensures.none
    (subst (λ (k : List ℕ). IsBaseOf k root c.args.bytes.now other) (sym c.new-base_key.ensures) is)

pub returns-in_err-last-clause-malformed : goal.returns-in_err-last-clause-malformed
returns-in_err-last-clause-malformed c = λ bad other is.
    let root = hash_of c.args.root.now.bytes in
    let some : 0 < length c.loop-rest.rest.now =
    omega (arith, eqb-false (length c.loop-rest.rest.now) 0 (sym c.is_empty.ensures ∙ c.loop-rest-test.true)) in
    let given = err_from_is_err_and c.from_residual.result c.from_residual.ensures.1 in
    let why : c.in_err-last.field-0.0 ≡ Malformed = cc (bad, given.1, given.2) in
    no_chunk c.new-base_key.result c.args.bytes.now c.loop-rest.base.items c.loop-rest.last c.loop-rest.rest.now
    c.loop-rest.invariant root other c.in-Some.chunk.now c.in-Some.after.now some c.in-Some.ensures.some.0
    c.in-Some.ensures.some.1 (c.in_err-last.ensures.malformed (ap Err why))
    (subst (λ (k : List ℕ). IsBaseOf k root c.args.bytes.now other) (sym c.new-base_key.ensures) is)

pub returns-then-ne-clause-malformed : goal.returns-then-ne-clause-malformed
returns-then-ne-clause-malformed c = λ bad other is.
    let root = hash_of c.args.root.now.bytes in
    let none : c.loop-rest.rest.now ≡ [] =
    nil_from_length c.loop-rest.rest.now (eqb-true (length c.loop-rest.rest.now) 0 (sym c.is_empty.ensures ∙ c.loop-rest-test.false)) in
    let differs : c.loop-rest.last ≡ root → ⊥ = λ same.
    other_halves c.loop-rest.last c.hash.result (not-true (is_same_hash c.loop-rest.last c.hash.result)
    (sym c.ne.ensures ∙ c.if-ne.true)) (same ∙ sym c.hash.ensures) in
    ends_otherwise c.new-base_key.result c.args.bytes.now c.loop-rest.base.items c.loop-rest.last
    (subst (λ (l : List ℕ). IsReadSoFar c.new-base_key.result c.args.bytes.now c.loop-rest.base.items c.loop-rest.last l) none
    c.loop-rest.invariant) root other differs
    (subst (λ (k : List ℕ). IsBaseOf k root c.args.bytes.now other) (sym c.new-base_key.ensures) is)

pub returns-clause-ok : goal.returns-clause-ok
returns-clause-ok c =
    let root = hash_of c.args.root.now.bytes in
    let none : c.loop-rest.rest.now ≡ [] =
    nil_from_length c.loop-rest.rest.now (eqb-true (length c.loop-rest.rest.now) 0 (sym c.is_empty.ensures ∙ c.loop-rest-test.false)) in
    let same : c.loop-rest.last ≡ root =
    same_halves c.loop-rest.last c.hash.result (not-false (is_same_hash c.loop-rest.last c.hash.result)
    (sym c.ne.ensures ∙ c.if-ne.false)) ∙ c.hash.ensures in
    subst (λ (k : List ℕ). IsBaseOf k root c.args.bytes.now c.loop-rest.base.items) c.new-base_key.ensures
    (all_read c.new-base_key.result c.args.bytes.now c.loop-rest.base.items c.loop-rest.last
    (subst (λ (l : List ℕ). IsReadSoFar c.new-base_key.result c.args.bytes.now c.loop-rest.base.items c.loop-rest.last l) none
    c.loop-rest.invariant) root same)
