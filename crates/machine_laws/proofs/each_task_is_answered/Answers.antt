use Rattle.machine_laws.proofs.Answered.{each_answered}
use Rattle.machine_laws.proofs.each_task_is_answered.Goals as goal

pub returns : goal.returns
returns c = each_answered c.lemma_own_edits_are_plain.ensures
