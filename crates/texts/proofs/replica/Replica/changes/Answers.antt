use Rattle.std.proofs.Common.{◌≡◌, ℕ, length, Option, Some, ap, subst, sym, ◌∙◌}
use Rattle.std.specs.Prelude.{All}
use Rattle.taken_text.specs.Taken.{TakenSeen}
use Rattle.texts.specs.Changes.{TellsOfChanges}
use Rattle.texts.specs.Text.{AreCharNames}
use Rattle.texts.specs.TextState.{TextState, all_told, asked_of, text_state_of}
use Rattle.texts.proofs.replica.Replica.changes.Goals as goal

pub invariant_of-self : goal.invariant_of-self
invariant_of-self c =
    let r = c.self.inside in
    subst (λ (taken : TakenSeen). All (λ op. op.text ≡ r.text) taken.operations × All (λ op. op.text ≡ r.text) r.room
    × AreCharNames taken.operations r.set) (sym c.changes.ensures.asked) c.self.invariant

pub returns-in-None-clause-told : goal.returns-in-None-clause-told
returns-in-None-clause-told c =
    let r = c.self.inside in
    let seen : Option ℕ → TextState = λ reported. text_state_of r.text r.site r.taken.operations r.taken.chars r.room r.stretch r.set
    (asked_of r.taken.asked reported) in
    subst (λ (t : TextState). TellsOfChanges t c.changes.result.items) (ap seen (sym c.in-None.is) ∙ c.self.view_is) c.changes.ensures.told

pub returns-in-None-clause-asked : goal.returns-in-None-clause-asked
returns-in-None-clause-asked c =
    let r = c.self.inside in
    let seen : ℕ → Option ℕ → TextState = λ told reported. text_state_of r.text r.site r.taken.operations r.taken.chars r.room r.stretch
    r.set (asked_of told reported) in
    ap (λ (taken : TakenSeen). text_state_of r.text r.site taken.operations taken.chars r.room r.stretch r.set
    (asked_of taken.asked r.reported)) c.changes.ensures.asked
    ∙ ap (seen (length r.taken.operations)) c.in-None.is
    ∙ ap all_told (ap (seen r.taken.asked) (sym c.in-None.is) ∙ c.self.view_is)

pub returns-in-Some-clause-told : goal.returns-in-Some-clause-told
returns-in-Some-clause-told c =
    let r = c.self.inside in
    let seen : Option ℕ → TextState = λ reported. text_state_of r.text r.site r.taken.operations r.taken.chars r.room r.stretch r.set
    (asked_of r.taken.asked reported) in
    subst (λ (t : TextState). TellsOfChanges t c.new.result.items) (ap seen (sym c.in-Some.is) ∙ c.self.view_is) c.new.ensures.items

pub returns-in-Some-clause-asked : goal.returns-in-Some-clause-asked
returns-in-Some-clause-asked c =
    let r = c.self.inside in
    let seen : Option ℕ → TextState = λ reported. text_state_of r.text r.site r.taken.operations r.taken.chars r.room r.stretch r.set
    (asked_of r.taken.asked reported) in
    let is : seen (Some c.in-Some.field-0) ≡ c.args.self.now = ap seen (sym c.in-Some.is) ∙ c.self.view_is in
    sym is ∙ ap all_told is
