use Rattle.std.proofs.Common.{◌≡◌, ℕ, ◌<◌, false, List, ap, subst, ◌∙◌, arith}
use Rattle.std.specs.Prelude.{IfSome, slice_get}
use Rattle.operations.specs.Operation.{Operation}
use Rattle.texts.specs.Fronts.{is_beyond}
use Rattle.texts.specs.TextState.{TextState}
use Rattle.texts.proofs.Beyond.{none_beyond}
use Rattle.texts.proofs.replica.Replica.first_beyond.Goals as goal

pub returns-clause-before : goal.returns-clause-before
returns-clause-before c =
    let log = c.log-log.result.now in
    let same = c.log-log.ensures ∙ ap (λ (t : TextState). t.operations) c.self.view_is in
    subst (λ (ops : List Operation). (k : ℕ) → k < c.loop-at.first → IfSome (slice_get ops k) (λ op. is_beyond c.args.fronts.now op ≡ false)) same
    (none_beyond c.args.fronts.now log.ops log.rooms c.lemma_sites_are_known.ensures c.lemma_have_spelling.ensures
    c.loop-at.at c.loop-at.first (omega (arith, c.loop-at-test.false, c.sites_len-at-end.ensures)) c.loop-at.invariant)
