use Rattle.std.proofs.Common.{take}
use Rattle.std.specs.List.{AllZip}
use Rattle.note_admission.specs.Kept.{IsHashOfInsert}
use Rattle.note_admission.proofs.admitted.Admitted.hashes_of_inserts.Given as goal

abbrev pub invariant-loop-name : goal.invariant-loop-name
invariant-loop-name l =
    AllZip (IsHashOfInsert l.log.ops l.self.hashes) (take l.name-index l.names) l.hashes.items
