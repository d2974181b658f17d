use Rattle.std.proofs.Common.{sym, subst, ◌∙◌}
use Rattle.std.specs.List.{list_all}
use Rattle.std.specs.Prelude.{IsTrue}
use Rattle.texts.specs.TextState.{TextState}
use Rattle.vialshoal_c.specs.Naming.{is_here}
use Rattle.vialshoal_c.proofs.NoteTexts.{numbered_is}
use Rattle.vialshoal_c.proofs.note_session.NoteSession.edit_by_names.Goals as goal

pub change_names-requires-clause-here : goal.change_names-requires-clause-here
change_names-requires-clause-here c = λ d.
    let t : TextState = c.in-Some-text.replica.now in
    subst (λ (u : TextState). IsTrue (list_all (is_here u) c.args.names.now))
    (sym (numbered_is c.args.self.now.note c.args.text c.in-Some.number t d c.in-Some.ensures c.in-Some-text.ensures))
    (sym c.has_all.ensures ∙ c.if-not-has_all.false)
