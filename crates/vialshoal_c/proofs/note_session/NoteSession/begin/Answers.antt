use Rattle.std.proofs.Common.{sym, subst}
use Rattle.std.proofs.lemmas.Result.{err_from_is_err_and}
use Rattle.vialshoal_c.specs.NoteBeginning.{HasBegun}
use Rattle.vialshoal_c.specs.NoteState.{NoteState}
use Rattle.vialshoal_c.proofs.note_session.NoteSession.begin.Goals as goal

pub returns-in_err-told-clause-errors : goal.returns-in_err-told-clause-errors
returns-in_err-told-clause-errors c =
    let p = err_from_is_err_and c.from_residual-in_err-told.result c.from_residual-in_err-told.ensures.1 in
    rw (p.1, p.2) c.in_err-told.ensures.errors

pub returns-clause-ok : goal.returns-clause-ok
returns-clause-ok c =
    let begun : NoteState → Type 0 = λ s. HasBegun c.args.site c.args.key c.args.opening c.args.base.items s in
    subst begun (sym c.in_ok-new.ensures.ok) (record {
      of = c.in_ok-note.ensures.ok;
      key_is = c.in_ok-note.ensures.key;
      shows = c.in_ok-note.ensures.shows;
      site_is = c.in_ok-note.ensures.site;
      told = c.in_ok-told.ensures.none;
    })
