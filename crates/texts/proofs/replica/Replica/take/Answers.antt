use Rattle.texts.proofs.Messages.{answered}
use Rattle.texts.proofs.replica.Replica.take.Goals as goal

pub returns : goal.returns
returns c =
    answered c.args.self.now c.args.message.now c.in_ok-op.op c.take_op.result c.take_op.new.self
    (record { valid = c.lemma_has_spelling.ensures; spelled = c.in_ok-op.ensures.ok }) c.take_op.ensures
