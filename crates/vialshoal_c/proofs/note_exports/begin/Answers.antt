use Rattle.std.proofs.Common.{Err, inl, inr, ap, ◌∙◌}
use Rattle.looks.specs.Refusal.{number_of}
use Rattle.vialshoal_c.proofs.note_exports.begin.Goals as goal

pub returns-in-Err : goal.returns-in-Err
returns-in-Err c = elim c.in-Err.ensures.errors [
  | inl malformed ↦ inr (inl (
    c.from.ensures ∙ c.number.ensures ∙ ap number_of malformed,
    c.requires,
    c.in-Err.ensures.malformed (ap Err malformed),
  ))
  | inr memory ↦ inr (inr (c.from.ensures ∙ c.number.ensures ∙ ap number_of memory, c.requires))
]
