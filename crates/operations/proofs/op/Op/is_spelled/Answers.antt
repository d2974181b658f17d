use Rattle.operations.specs.Spelling.{spelling}
use Rattle.operations.proofs.Stripped.{are_these, are_others}
use Rattle.operations.proofs.op.Op.is_spelled.Goals as goal

pub returns-in-Some : goal.returns-in-Some
returns-in-Some c =
    are_these (spelling c.args.self.now) c.args.message.now c.in-Some.rest.now c.is_empty.result c.in-Some.ensures
    c.is_empty.ensures

pub returns-in-None : goal.returns-in-None
returns-in-None c = (
  λ t. absurd cc,
  λ same. absurd (are_others (spelling c.args.self.now) c.args.message.now c.in-None.ensures same),
)
