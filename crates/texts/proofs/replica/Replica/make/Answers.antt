use Rattle.std.proofs.Common.{sym, subst}
use Rattle.operations.specs.Operation.{Operation}
use Rattle.set_laws.specs.Verdict.{ready}
use Rattle.texts.specs.Taking.{IsJudged}
use Rattle.texts.proofs.replica.Replica.make.Goals as goal

pub take_over-requires : goal.take_over-requires
take_over-requires c =
    subst (λ (op : Operation). IsJudged c.args.self.now op ready) (sym c.next_op-op.ensures) c.requires.ready
