use Rattle.std.proofs.Common.{◌≡◌, ℕ, Some, slice_get, subst, sym, ap, ◌∙◌}
use Rattle.std.specs.Prelude.{IfSome}
use Rattle.std.proofs.lemmas.Bool.{false≢true}
use Rattle.operations.specs.Operation.{Operation}
use Rattle.op_log.specs.Seen.{LogSeen}
use Rattle.op_log.proofs.Joined.{agrees_there, known_with_new}
use Rattle.op_log.proofs.Lists.{Contains-slice_get}
use Rattle.op_log.proofs.log.Log.agrees_at.Goals as goal
use Rattle.op_log.proofs.log.Log.agrees_at.Goals.{After-identity-site}

-- what was read of the other log's operation
read : (c : After-identity-site) (op : Operation) → slice_get c.args.other.now.ops c.args.place ≡ Some op
    → (c.identity-site.result.0 ≡ op.site) × (c.identity-site.result.1 ≡ op.seq)
read c op there =
    subst (λ o. IfSome o (λ (x : Operation). (c.identity-site.result.0 ≡ x.site) × (c.identity-site.result.1 ≡ x.seq)))
    (ap (λ (l : LogSeen). slice_get l.ops c.args.place) c.other.view_is ∙ there) c.identity-site.ensures

pub returns-in-Some : goal.returns-in-Some
returns-in-Some c = λ op there.
    let (held, here, site, seq, stamped) = c.in-Some.ensures.value in
    let (on, at) = read (goal.at.returns-in-Some c).After-identity-site op there in
    let index : ℕ = c.in-Some.entry.index in
    let ops = ap (λ (l : LogSeen). slice_get l.ops index) c.self.view_is in
    let others = ap (λ (l : LogSeen). slice_get l.ops c.args.place) c.other.view_is in
    agrees_there c.args.self.now.ops op held index c.is_same_at.result
    c.lemma_are_held_to_the_front.ensures.identified here (site ∙ on) (seq ∙ at) (
      λ is. sym ops ∙ c.is_same_at.ensures.0 is ∙ others ∙ there,
      λ is. c.is_same_at.ensures.1 (ops ∙ is ∙ sym there ∙ sym others),
    )

pub returns-in-None : goal.returns-in-None
returns-in-None c = λ op there.
    let (on, at) = read (goal.at.returns-in-None c).After-identity-site op there in
    known_with_new c.args.self.now.ops op c.lemma_are_held_to_the_front.ensures.identified
    (c.lemma_are_held_to_the_front-2.ensures.identified.counted op
    (Contains-slice_get c.args.other.now.ops c.args.place op there))
    (λ h. let (o, held, site, seq) = h in
    false≢true (c.in-None.ensures.here.1 (o, held, site ∙ sym on, seq ∙ sym at)))
