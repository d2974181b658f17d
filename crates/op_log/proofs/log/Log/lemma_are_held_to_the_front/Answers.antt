use Rattle.std.proofs.Common.{ap}
use Rattle.operations.specs.Operation.{Operation}
use Rattle.op_log.proofs.Logged.{lemma_are_held_to_the_front}
use Rattle.op_log.proofs.log.Log.lemma_are_held_to_the_front.Goals as goal

pub returns-clause-held : goal.returns-clause-held
returns-clause-held c = rw (← c.self.view_is) (lemma_are_held_to_the_front c.self.invariant)

pub returns-clause-once : goal.returns-clause-once
returns-clause-once c =
    rw (← c.self.view_is) (λ i j d less lt same. c.self.invariant.once i j d less lt
    (ap (λ (o : Operation). o.site) same) (ap (λ (o : Operation). o.seq) same))
