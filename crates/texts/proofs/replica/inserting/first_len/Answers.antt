use Rattle.std.proofs.Common.{sym, ap, ◌∙◌}
use Rattle.char_files.specs.Stretch.{items_of}
use Rattle.texts.proofs.RunsInserted.{items_of_pieces}
use Rattle.texts.proofs.replica.inserting.first_len.Goals as goal

-- a stretch without pieces is empty
pub returns-in-None-clause-some : goal.returns-in-None-clause-some
returns-in-None-clause-some c = λ some.
    absurd (some (sym (items_of_pieces c.args.buffer.now) ∙ ap items_of (sym c.of-pieces.ensures.value ∙ c.in-None.ensures.steps.0)))
