use Rattle.std.proofs.Common.{◌≡◌, Bool, List, [], ◌∷◌, ◌++◌, Contains, inl, ap, subst, sym, ◌∙◌}
use Rattle.std.specs.Prelude.{MatchBool}
use Rattle.std.proofs.lemmas.Bool.{eqb-true, not-false}
use Rattle.std.proofs.lemmas.List.Elements.{Contains-append_left, Contains-push}
use Rattle.operations.specs.Operation.{Operation}
use Rattle.set_laws.specs.Sets.{AreIdentified, IsInConflict}
use Rattle.texts.specs.TextState.{TextState}
use Rattle.texts.proofs.Draining.{is_new}
use Rattle.texts.proofs.replica.Replica.fate_of.Goals as goal

pub fate_of_new-requires-clause-new : goal.fate_of_new-requires-clause-new
fate_of_new-requires-clause-new c =
    let same = c.log-log.ensures ∙ ap (λ (t : TextState). t.operations) c.self.view_is in
    is_new c.log-log.result.now.ops c.args.self.now.operations c.args.op.now c.site.result c.seq.result c.holds.result same
    c.site.ensures c.seq.ensures c.lemma_has_spelling.ensures.seq.0 c.holds.ensures.1 c.if-not-holds.true

pub returns-then-agrees_on : goal.returns-then-agrees_on
returns-then-agrees_on c =
    let log = c.log-log.result.now.ops in
    let same = c.log-log.ensures ∙ ap (λ (t : TextState). t.operations) c.self.view_is in
    let op = c.args.op.now in
    let own : op.text ≡ c.args.self.now.text =
    sym c.text.ensures ∙ eqb-true c.text.result c.self.inside.text (not-false _ (sym c.if-ne.ensures))
    ∙ ap (λ (t : TextState). t.text) c.self.view_is in
    let (held, here, site, seq) = c.holds.ensures.0 c.if-not-holds.false in
    let known = subst (λ (b : Bool). MatchBool b (AreIdentified (log ++ op ∷ [])) (IsInConflict log op))
    c.if-agrees_on.true c.agrees_on.ensures in
    let is : held ≡ op = known.unique held op (Contains-append_left log (op ∷ []) held here) (Contains-push log op)
    (site ∙ c.site.ensures) (seq ∙ c.seq.ensures) in
    (own, subst (λ (ops : List Operation). Contains ops op) same (subst (Contains log) is here))

pub returns-else-agrees_on : goal.returns-else-agrees_on
returns-else-agrees_on c =
    let log = c.log-log.result.now.ops in
    let same = c.log-log.ensures ∙ ap (λ (t : TextState). t.operations) c.self.view_is in
    let op = c.args.op.now in
    let own : op.text ≡ c.args.self.now.text =
    sym c.text.ensures ∙ eqb-true c.text.result c.self.inside.text (not-false _ (sym c.if-ne.ensures))
    ∙ ap (λ (t : TextState). t.text) c.self.view_is in
    let conflict = subst (λ (b : Bool). MatchBool b (AreIdentified (log ++ op ∷ [])) (IsInConflict log op))
    c.if-agrees_on.false c.agrees_on.ensures in
    (own, inl (subst (λ (ops : List Operation). IsInConflict ops op) same conflict))
