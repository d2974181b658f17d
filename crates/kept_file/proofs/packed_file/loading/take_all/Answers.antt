use Rattle.std.proofs.Common.{◌≡◌, ◌+◌, ◌<◌, Err, length, ap, arith, subst, sym, ◌∙◌}
use Rattle.std.proofs.lemmas.Bool.{eqb-false, eqb-true}
use Rattle.std.proofs.lemmas.List.{nil_from_length}
use Rattle.std.proofs.lemmas.Result.{err_from_is_err_and}
use Rattle.looks.specs.declared.refusal.Refusal.TheVariants.{BadFile}
use Rattle.kept_file.proofs.PackedLoaded.{SoFar, all_read, done_few, left_ready, none_yet, nothing_waits, some_more}
use Rattle.kept_file.proofs.packed_file.loading.take_all.Goals as goal

pub loop-rest-init : goal.loop-rest-init
loop-rest-init c = record {
  so_far =
      subst (λ t. SoFar c.args.replica.now c.args.replica.now t c.args.bytes.now 0 c.args.bytes.now) (sym c.new-history.ensures)
      (none_yet c.args.replica.now c.args.bytes.now c.lemma_is_text.ensures);
  few = omega arith;
}

pub take_some-requires : goal.take_some-requires
take_some-requires c =
    nothing_waits c.args.replica.now c.loop-rest.replica c.loop-rest.history c.args.bytes.now c.loop-rest.done c.loop-rest.rest.now
    c.loop-rest.invariant.so_far c.requires

pub returns-in_err-more-clause-refused : goal.returns-in_err-more-clause-refused
returns-in_err-more-clause-refused c = λ bad ops tells spells.
    let given = err_from_is_err_and c.from_residual.result c.from_residual.ensures.1 in
    let is : c.in_err-more.field-0.0 ≡ BadFile = cc (bad, given.1, given.2) in
    let some : 0 < length c.loop-rest.rest.now =
    omega (arith, eqb-false (length c.loop-rest.rest.now) 0 (sym c.is_empty.ensures ∙ c.loop-rest-test.true)) in
    left_ready c.args.replica.now c.loop-rest.replica c.loop-rest.history c.args.bytes.now c.loop-rest.done c.loop-rest.rest.now
    c.loop-rest.invariant.so_far c.requires ops tells spells some (c.in_err-more.ensures.refused (ap Err is))

pub loop-rest-preserved : goal.loop-rest-preserved
loop-rest-preserved c = record {
  so_far =
      some_more c.args.replica.now c.loop-rest.replica c.take_some.new.replica c.loop-rest.history c.take_some.new.history
      c.args.bytes.now c.loop-rest.done c.in_ok-more.more c.loop-rest.rest.now _ c.loop-rest.invariant.so_far
      c.in_ok-more.ensures.ok;
  few = omega (arith, c.if-done-more.false, c.loop-rest.invariant.few);
}

pub returns-then-done-more-clause-refused : goal.returns-then-done-more-clause-refused
returns-then-done-more-clause-refused c = λ bad ops tells spells.
    let new = c.take_some.new in
    let far = some_more c.args.replica.now c.loop-rest.replica new.replica c.loop-rest.history new.history c.args.bytes.now
    c.loop-rest.done c.in_ok-more.more c.loop-rest.rest.now c.in_ok-more.after.now c.loop-rest.invariant.so_far
    c.in_ok-more.ensures.ok in
    let few = done_few c.args.replica.now new.replica new.history c.args.bytes.now (c.loop-rest.done + c.in_ok-more.more)
    c.in_ok-more.after.now far c.requires ops tells spells in
    omega (arith, few, c.if-done-more.true)

pub returns-clause-ok : goal.returns-clause-ok
returns-clause-ok c =
    all_read c.args.replica.now c.loop-rest.replica c.loop-rest.history c.args.bytes.now c.loop-rest.done c.loop-rest.rest.now
    c.loop-rest.invariant.so_far c.loop-rest.invariant.few (nil_from_length c.loop-rest.rest.now
    (eqb-true (length c.loop-rest.rest.now) 0 (sym c.is_empty.ensures ∙ c.loop-rest-test.false)))
