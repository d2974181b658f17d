use Rattle.std.proofs.Common.{List, sym, subst, ◌∙◌}
use Rattle.std.specs.Prelude.{IsTrue}
use Rattle.operations.specs.NameSet.{Range}
use Rattle.texts.specs.Named.{are_here}
use Rattle.texts.specs.TextState.{TextState}
use Rattle.note.specs.Editing.{numbered_text}
use Rattle.vialshoal_c.proofs.Names.{all_here}
use Rattle.vialshoal_c.proofs.note_session.NoteSession.change_names.Goals as goal

pub edit-requires-clause-fits : goal.edit-requires-clause-fits
edit-requires-clause-fits c = λ d.
    let t : TextState = (numbered_text c.args.self.now.note c.args.text d).replica in
    subst (λ (ranges : List Range). IsTrue (are_here t ranges)) (sym c.in-Ok.ensures.ok)
    (sym (all_here t c.args.names.now c.requires.names) ∙ c.requires.here d)
