use Rattle.std.proofs.Common.{List, sym, subst}
use Rattle.note_laws.specs.Note.{Saying}
use Rattle.note_admission.specs.Base.{AreOneOfEach}
use Rattle.note_admission.proofs.Standing.{none_told, same_base}
use Rattle.note_admission.proofs.note_chains.NoteChains.new.Goals as goal

pub returns-clause-ok : goal.returns-clause-ok
returns-clause-ok c = λ note opens base identified. record {
  opens = opens;
  identified = identified;
  base = same_base note c.in_ok-new.field-0 identified
      (subst (λ (all : List Saying). AreOneOfEach all c.in_ok-new.field-0) (sym base) c.in_ok-new.ensures.ok);
  told = none_told;
  kept = c.new-2.ensures.kept;
}
