use Rattle.std.proofs.Common.{sym, subst, ◌∙◌, List}
use Rattle.operations.specs.NameSet.{IsSet, Range}
use Rattle.operations.specs.Operation.{Operation}
use Rattle.note_admission.specs.Continuing.{AreMentionedIn}
use Rattle.note_admission.specs.Kept.{AreSeenIn, Offsets}
use Rattle.note_admission.specs.Ranges.{mentioned_ranges_by}
use Rattle.note_admission.proofs.Between.{mentioned_more}
use Rattle.note_admission.proofs.continuing.Continuing.add.Goals as goal

pub returns-clause-ok : goal.returns-clause-ok
returns-clause-ok c = λ chain more s of on are.
    let own = c.args.op.now in
    let set = subst IsSet c.in_ok-ranges.ensures.ok c.in_ok-ranges.ensures.set in
    let set_of = subst (λ (o : Operation). IsSet (mentioned_ranges_by o.kind)) (sym of) set in
    let seen = subst (λ (rs : List Range). AreSeenIn c.reserve_all.new.self rs c.raise_all.new.self)
    (c.deref-2.ensures.value ∙ c.in_ok-ranges.ensures.ok) c.raise_all.ensures in
    let seen_of = subst (λ (o : Operation). AreSeenIn c.reserve_all.new.self (mentioned_ranges_by o.kind) c.raise_all.new.self) (sym of) seen in
    mentioned_more more s set_of chain on c.self.inside.mentioned c.reserve_all.new.self c.raise_all.new.self
    (subst (λ (o : Offsets). AreMentionedIn chain more o) (sym c.self.view_is) are) c.reserve_all.ensures.same seen_of
