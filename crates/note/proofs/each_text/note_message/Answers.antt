use Rattle.std.proofs.Common.{slice_index_or, sym, subst}
use Rattle.std.proofs.lemmas.List.{get_or-set_same, get_or_default}
use Rattle.note_admission.specs.Growing.{IsReplaced}
use Rattle.note.specs.Texts.{HasFollowed, NoteText}
use Rattle.note.proofs.each_text.note_message.Goals as goal

pub returns-clause-own : goal.returns-clause-own
returns-clause-own c = λ d.
    let old = c.args.texts.now in
    let at = c.args.at in
    let x = c.note_message.new.self in
    subst (λ (t : NoteText). HasFollowed c.args.site (IsReplaced c.args.lost c.args.site c.args.seq) (slice_index_or old at d) t)
    (sym (get_or-set_same old at x d c.requires))
    (subst (λ (t : NoteText). HasFollowed c.args.site (IsReplaced c.args.lost c.args.site c.args.seq) t x)
    (get_or_default old at c.index-texts-at.result d c.requires) c.note_message.ensures)
