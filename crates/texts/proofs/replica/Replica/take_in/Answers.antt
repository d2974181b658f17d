use Rattle.set_laws.specs.Verdict.{ready}
use Rattle.texts.specs.Taking.{IsJudged}
use Rattle.texts.proofs.Messages.{taken_and_drained}
use Rattle.texts.proofs.replica.Replica.take_in.Goals as goal

pub take_over-requires : goal.take_over-requires
take_over-requires c = let judged : IsJudged c.args.self.now c.args.op ready = c.requires.1 in judged

pub returns : goal.returns
returns c =
    let settled = c.settle-drained.result in
    taken_and_drained c.args.self.now c.take_over.new.self c.args.op settled.drained settled.dropped settled.stopped
    c.settle-drained.new.self c.in_ok-take_over.ensures.ok c.settle-drained.ensures
