use Rattle.std.proofs.Common.{sym, ap, ◌∙◌}
use Rattle.operations.specs.Operation.{Operation}
use Rattle.op_log.proofs.Lists.{Contains-slice_get}
use Rattle.op_log.proofs.log.Log.op_stamp.Goals as goal

pub returns : goal.returns
returns c = λ p held on at.
    let (op, there, site, seq, stamped) = c.in-Some.ensures.value in
    stamped ∙ ap (λ (o : Operation). o.stamp)
    (c.lemma_are_held_to_the_front.ensures.identified.unique op p
    (Contains-slice_get c.args.self.now.ops c.in-Some.entry.index op there) held (site ∙ sym on) (seq ∙ sym at))
