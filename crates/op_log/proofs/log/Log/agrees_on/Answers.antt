use Rattle.std.proofs.Common.{◌≡◌, ◌↔◌, Some, List, slice_get, subst, sym, ap, ◌∙◌, IsTrue}
use Rattle.std.proofs.lemmas.Bool.{false≢true}
use Rattle.operations.specs.Operation.{Operation}
use Rattle.op_log.specs.Seen.{LogSeen}
use Rattle.op_log.proofs.Joined.{agrees_there, known_with_new}
use Rattle.op_log.proofs.log.Log.agrees_on.Goals as goal

pub returns-in-Some : goal.returns-in-Some
returns-in-Some c =
    let (held, there, site, seq, stamped) = c.in-Some.ensures.value in
    let ops = ap (λ (l : LogSeen). l.ops) c.self.view_is in
    agrees_there c.args.self.now.ops c.args.op.now held c.in-Some.entry.index c.is_at.result
    c.lemma_are_held_to_the_front.ensures.identified there (site ∙ c.site.ensures) (seq ∙ c.seq.ensures)
    (subst (λ (xs : List Operation). IsTrue c.is_at.result ↔ (slice_get xs c.in-Some.entry.index ≡ Some c.args.op.now)) ops
    c.is_at.ensures)

pub returns-in-None : goal.returns-in-None
returns-in-None c =
    known_with_new c.args.self.now.ops c.args.op.now c.lemma_are_held_to_the_front.ensures.identified
    c.lemma_has_spelling.ensures.seq.0
    (λ h. let (o, held, site, seq) = h in
    false≢true (c.in-None.ensures.here.1 (o, held, site ∙ sym c.site.ensures, seq ∙ sym c.seq.ensures)))
