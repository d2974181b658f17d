use Rattle.std.proofs.Common.{◌≡◌, ℕ, None, Option, Some, ap, sym, ◌∙◌}
use Rattle.texts.specs.Changes.{all_reported, replaced_by, replacement_of}
use Rattle.texts.specs.TextState.{TextState, asked_of, ended, text_state_of}
use Rattle.texts.proofs.replica.Replica.replacement.Goals as goal

pub returns-in-None-clause-value : goal.returns-in-None-clause-value
returns-in-None-clause-value c =
    let r = c.self.inside in
    let seen : Option ℕ → TextState = λ reported. text_state_of r.text r.site r.taken.operations r.taken.chars r.room r.stretch r.set
    (asked_of r.taken.asked reported) in
    ap replacement_of (ap seen (sym c.in-None.is) ∙ c.self.view_is)

pub returns-in-None-clause-reported : goal.returns-in-None-clause-reported
returns-in-None-clause-reported c =
    let r = c.self.inside in
    let seen : Option ℕ → TextState = λ reported. text_state_of r.text r.site r.taken.operations r.taken.chars r.room r.stretch r.set
    (asked_of r.taken.asked reported) in
    let is : seen None ≡ c.args.self.now = ap seen (sym c.in-None.is) ∙ c.self.view_is in
    sym is ∙ ap all_reported is

pub returns-in-Some-clause-value : goal.returns-in-Some-clause-value
returns-in-Some-clause-value c =
    let r = c.self.inside in
    let seen : Option ℕ → TextState = λ reported. text_state_of r.text r.site r.taken.operations r.taken.chars r.room r.stretch r.set
    (asked_of r.taken.asked reported) in
    ap (λ (len : ℕ). replaced_by len (ended c.in-Some.deleted)) c.shown_len-inserted.ensures
    ∙ ap replacement_of (ap seen (sym c.in-Some.is) ∙ c.self.view_is)

pub returns-in-Some-clause-reported : goal.returns-in-Some-clause-reported
returns-in-Some-clause-reported c =
    let r = c.self.inside in
    let seen : Option ℕ → TextState = λ reported. text_state_of r.text r.site r.taken.operations r.taken.chars r.room r.stretch r.set
    (asked_of r.taken.asked reported) in
    ap (λ (len : ℕ). seen (Some len)) c.shown_len-inserted.ensures
    ∙ ap all_reported (ap seen (sym c.in-Some.is) ∙ c.self.view_is)
