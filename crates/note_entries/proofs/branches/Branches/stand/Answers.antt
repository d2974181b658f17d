use Rattle.std.proofs.Common.{sym, ◌∙◌}
use Rattle.note_entries.proofs.Places.{their_place}
use Rattle.note_entries.proofs.branches.Branches.stand.Goals as goal

pub returns-in-None : goal.returns-in-None
returns-in-None c = λ kept held are.
    c.in-None.ensures.none kept held (sym (their_place c.args.saying.now kept are) ∙ sym c.of.ensures)
