use Rattle.std.proofs.Common.{refl}
use Rattle.std.proofs.lemmas.Result.{err_from_is_err_and}
use Rattle.byte_fields.proofs.Appended.{left_in_front}
use Rattle.packed.specs.Spelling.{packed}
use Rattle.kept_file.proofs.PackedStored.{next_put, one_put, some_put}
use Rattle.kept_file.proofs.packed_file.storing.put_operations.Goals as goal

pub put-requires : goal.put-requires
put-requires c =
    next_put c.args.replica.now.operations c.args.out.now.items c.loop-place.out.items c.loop-place.place
    c.loop-place.history c.in_ok-op.op c.loop-place.invariant c.in_ok-op.ensures.ok c.lemma_has_spelling.ensures
    c.args.replica.now c.lemma_is_text.ensures refl c.lemma_are_taken_once.ensures

pub returns-in_err-op-clause-packed : goal.returns-in_err-op-clause-packed
returns-in_err-op-clause-packed c =
    let ops = c.args.replica.now.operations in
    let out = c.loop-place.out.items in
    let refused = err_from_is_err_and c.from_residual.result c.from_residual.ensures.1 in
    left_in_front c.from_residual.result c.args.out.now.items out (packed ops) refused.0 refused.1
    (some_put ops c.args.out.now.items out out c.loop-place.place c.loop-place.history c.loop-place.invariant refl)

pub returns-in_err-put-clause-packed : goal.returns-in_err-put-clause-packed
returns-in_err-put-clause-packed c =
    let ops = c.args.replica.now.operations in
    let refused = err_from_is_err_and c.from_residual-in_err-put.result c.from_residual-in_err-put.ensures.1 in
    left_in_front c.from_residual-in_err-put.result c.args.out.now.items c.put.new.out.items (packed ops) refused.0 refused.1
    (some_put ops c.args.out.now.items c.loop-place.out.items c.put.new.out.items c.loop-place.place c.loop-place.history
    c.loop-place.invariant c.in_err-put.ensures.err.1)

pub loop-place-preserved : goal.loop-place-preserved
loop-place-preserved c =
    one_put c.args.replica.now.operations c.args.out.now.items c.loop-place.out.items c.loop-place.place
    c.loop-place.history c.in_ok-op.op c.loop-place.invariant c.in_ok-op.ensures.ok c.lemma_has_spelling.ensures
    c.put.new.out.items c.put.new.self c.in_ok-put.ensures.bytes c.in_ok-put.ensures.told
