use Rattle.std.proofs.Common.{[], refl}
use Rattle.std.proofs.lemmas.Result.{err_from_is_err_and}
use Rattle.note_entries.specs.Kept.{no_entries}
use Rattle.note.proofs.note.Note.new.Goals as goal

pub returns-in_err-texts-clause-errors : goal.returns-in_err-texts-clause-errors
returns-in_err-texts-clause-errors c =
    let p = err_from_is_err_and c.from_residual-in_err-texts.result c.from_residual-in_err-texts.ensures.1 in
    rw (p.1, p.2) c.in_err-texts.ensures.errors

pub returns-in_err-update-clause-errors : goal.returns-in_err-update-clause-errors
returns-in_err-update-clause-errors c =
    let p = err_from_is_err_and c.from_residual-in_err-update.result c.from_residual-in_err-update.ensures.1 in
    rw (p.1, p.2) c.in_err-update.ensures.errors

pub returns-clause-ok : goal.returns-clause-ok
returns-clause-ok c = λ note digest opens base identified.
    let chains = c.in_ok-chains.ensures.ok note opens base identified in
    c.in_ok-update.ensures.keeps note no_entries (record {
      digest = digest;
      chains = chains;
      texts = λ k d lt. ([], c.in_ok-texts.ensures.ok note no_entries refl (c.base_sites.ensures note no_entries chains) k d lt);
    })
