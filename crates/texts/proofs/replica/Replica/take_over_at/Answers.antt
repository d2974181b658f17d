use Rattle.std.proofs.Common.{◌≡◌, Some, slice_get, subst, sym, ◌∙◌}
use Rattle.std.proofs.lemmas.Option.{same_Some}
use Rattle.operations.specs.Operation.{Operation}
use Rattle.taken_text.proofs.Taking.{on_ok}
use Rattle.texts.specs.Taking.{HasTaken}
use Rattle.texts.proofs.replica.Replica.take_over_at.Goals as goal

pub take_over-requires : goal.take_over-requires
take_over-requires c = c.requires.ready c.in_ok-op.op c.in_ok-op.ensures.ok

pub returns-clause-ok : goal.returns-clause-ok
returns-clause-ok c =
    let had = c.args.self.now in
    let has = c.take_over.new.self in
    let read = c.in_ok-op.op in
    on_ok c.take_over.result (HasTaken had read has)
    ((op : Operation) → slice_get c.args.other.now.operations c.args.place ≡ Some op → HasTaken had op has)
    (λ taken op there. subst (λ (o : Operation). HasTaken had o has) (same_Some read op (sym c.in_ok-op.ensures.ok ∙ there)) taken)
    c.take_over.ensures.ok
