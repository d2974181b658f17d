use Rattle.std.specs.Map.{values_of}
use Rattle.note_admission.specs.Base.{AreFound, AreOneOfEach}
use Rattle.note_admission.proofs.base_messages.Base.new.Given as goal

abbrev pub invariant-loop-saying : goal.invariant-loop-saying
invariant-loop-saying l =
    AreFound l.said.entries l.known l.sites.items × AreOneOfEach l.yielded (values_of l.said.entries)
