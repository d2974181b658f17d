use Rattle.std.proofs.Common.{subst}
use Rattle.std.proofs.lemmas.List.Elements.{All-tail}
use Rattle.taken_text.specs.Shown.{AreInFiles, IsInFile}
use Rattle.taken_text.proofs.rows.ShownRowsIterator.next.Goals as goal

pub invariant_of-self-2 : goal.invariant_of-self-2
invariant_of-self-2 c =
    All-tail (IsInFile c.self.inside.files.now) c.in_ok-run.run' c.next.new.self
    (subst (AreInFiles c.self.inside.files.now) c.in_ok-run.ensures.steps c.self.invariant)
