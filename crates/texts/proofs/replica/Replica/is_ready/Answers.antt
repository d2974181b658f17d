use Rattle.std.proofs.Common.{◌≡◌, List, Some, Contains, slice_get, inl, ap, subst, sym, ◌∙◌}
use Rattle.std.proofs.lemmas.Option.{slice_get_within}
use Rattle.operations.specs.Operation.{Operation}
use Rattle.set_laws.specs.Fronts.{IsHeld}
use Rattle.set_laws.specs.Verdict.{HasVerdict, ready}
use Rattle.waiting_room.specs.Judged.{verdict_of}
use Rattle.texts.specs.TextState.{TextState}
use Rattle.texts.proofs.Draining.{is_leaving, is_new, thrown_away}
use Rattle.texts.proofs.replica.Replica.is_ready.Goals as goal

pub get-op-requires : goal.get-op-requires
get-op-requires c =
    let room = ap (λ (t : TextState). t.waiting_room) (sym c.self.view_is) in
    slice_get_within c.self.inside.room c.args.index c.requires.op
    (subst (λ (ops : List Operation). slice_get ops c.args.index ≡ Some c.requires.op) room c.requires.there)

pub judge-requires : goal.judge-requires
judge-requires c =
    is_new c.log-log.result.now.ops c.new.result c.get-op.result.now c.site.result c.seq.result
    c.holds.result (sym c.new.ensures) c.site.ensures c.seq.ensures c.lemma_has_spelling.ensures.seq.0
    c.holds.ensures.1 c.if-not-holds.true

pub returns-in-Ready : goal.returns-in-Ready
returns-in-Ready c =
    let t = c.args.self.now in
    let i = c.args.index in
    let op = c.get-op.result.now in
    let room = ap (λ (u : TextState). u.waiting_room) c.self.view_is in
    let there = subst (λ (ops : List Operation). slice_get ops i ≡ Some op) room c.get-op.ensures in
    let same = c.log-log.ensures ∙ ap (λ (u : TextState). u.operations) c.self.view_is in
    let new = is_new c.log-log.result.now.ops t.operations op c.site.result c.seq.result c.holds.result same
    c.site.ensures c.seq.ensures c.lemma_has_spelling.ensures.seq.0 c.holds.ensures.1 c.if-not-holds.true in
    let has = subst (λ (ops : List Operation). HasVerdict ops op ready) (c.new.ensures ∙ same) c.in-Ready.ensures in
    (op, there, ((is_leaving t i op c.lemma_is_text.ensures c.requires there).0, new, has))

pub returns-in_default : goal.returns-in_default
returns-in_default c =
    let t = c.args.self.now in
    let i = c.args.index in
    let op = c.get-op.result.now in
    let v = c.judge.result in
    let room = ap (λ (u : TextState). u.waiting_room) c.self.view_is in
    let there = subst (λ (ops : List Operation). slice_get ops i ≡ Some op) room c.get-op.ensures in
    let same = c.log-log.ensures ∙ ap (λ (u : TextState). u.operations) c.self.view_is in
    let new = is_new c.log-log.result.now.ops t.operations op c.site.result c.seq.result c.holds.result same
    c.site.ensures c.seq.ensures c.lemma_has_spelling.ensures.seq.0 c.holds.ensures.1 c.if-not-holds.true in
    let has = subst (λ (ops : List Operation). HasVerdict ops op (verdict_of v)) (c.new.ensures ∙ same)
    c.judge.ensures in
    let (own, leaves) = is_leaving t i op c.lemma_is_text.ensures c.requires there in
    (op, there, thrown_away t op v c.in_default.not-Ready own leaves new has)

pub returns-else-not-holds : goal.returns-else-not-holds
returns-else-not-holds c =
    let t = c.args.self.now in
    let op = c.get-op.result.now in
    let room = ap (λ (u : TextState). u.waiting_room) c.self.view_is in
    let there = subst (λ (ops : List Operation). slice_get ops c.args.index ≡ Some op) room c.get-op.ensures in
    let same : c.log-log.result.now.ops ≡ t.operations =
    c.log-log.ensures ∙ ap (λ (u : TextState). u.operations) c.self.view_is in
    let (p, in_log, site, seq) = c.holds.ensures.0 c.if-not-holds.false in
    let held : IsHeld t.operations op.site op.seq = (
      p,
      subst (λ (ops : List Operation). Contains ops p) same in_log,
      site ∙ c.site.ensures,
      seq ∙ c.seq.ensures,
    ) in
    rw c.if-not-holds.false (op, there, inl held)
