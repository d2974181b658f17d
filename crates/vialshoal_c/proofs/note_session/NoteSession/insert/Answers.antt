use Rattle.std.proofs.Common.{◌≤◌, length, sym, subst, ◌∙◌, arith}
use Rattle.texts.specs.TextState.{TextState, shown_of}
use Rattle.vialshoal_c.proofs.NoteEdits.{inserts_here}
use Rattle.vialshoal_c.proofs.NoteTexts.{number_is, numbered_is}
use Rattle.vialshoal_c.proofs.note_session.NoteSession.insert.Goals as goal

pub edit-requires-clause-fits : goal.edit-requires-clause-fits
edit-requires-clause-fits c = λ d.
    let t : TextState = c.in-Some-text.replica.now in
    subst (λ (u : TextState). c.args.pos ≤ length (shown_of u))
    (sym (numbered_is c.args.self.now.note c.args.text c.in-Some.number t d c.in-Some.ensures c.in-Some-text.ensures))
    (omega (arith, c.shown_len.ensures))

pub returns-in-Ok : goal.returns-in-Ok
returns-in-Ok c =
    inserts_here c.args.self.now c.args.text c.in-Some.number c.args.pos c.args.bytes.now c.plain.result c.in-Ok.buffer
    c.edit.result.number c.edit.result.sent c.edit.new.self c.in-Some-text.replica.now c.in-Some-text.ensures
    (number_is c.args.text c.in-Some.number c.in-Some.ensures).0 (sym c.are_few.ensures ∙ c.if-not-are_few.false)
    (omega (arith, c.shown_len.ensures)) c.plain.ensures c.in-Ok.ensures.ok c.edit.ensures
