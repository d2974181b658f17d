use Rattle.std.proofs.Common.{subst}
use Rattle.set_laws.specs.Sets.{AreIdentified}
use Rattle.waiting_room.proofs.Entries.{identified}
use Rattle.waiting_room.proofs.room.Room.lemma_are_identified.Goals as goal

pub returns-clause-identified : goal.returns-clause-identified
returns-clause-identified c =
    subst AreIdentified c.self.view_is (identified c.self.inside.ops.entries c.self.invariant c.len.ensures.unique)
