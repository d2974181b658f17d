use Rattle.std.proofs.Common.{refl}
use Rattle.operations.specs.Spelling.{spelling}
use Rattle.texts.proofs.Messages.{answered}
use Rattle.desk_texts.proofs.site_texts.Texts.take_op.Goals as goal

pub returns : goal.returns
returns c =
    let t = c.replica_mut.result.now in
    let new = c.take_op.new.self in
    let took = answered t (spelling c.args.op) c.args.op c.take_op.result new (record { valid = c.lemma_has_spelling.ensures; spelled = refl }) c.take_op.ensures in
    (t, new, c.replica_mut.ensures.value, took, refl)
