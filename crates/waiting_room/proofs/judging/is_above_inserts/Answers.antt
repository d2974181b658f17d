use Rattle.std.proofs.Common.{rules}
use Rattle.waiting_room.proofs.judging.is_above_inserts.Goals as goal

pub returns-in-Delete : goal.returns-in-Delete
returns-in-Delete g c =
    let have = rw c.stamp-in-Delete.ensures at c.have_lower_inserts.ensures in (
      λ e name m. have.0 e name (search (rules, m)),
      λ all. have.1 (λ name among. all name (search (rules, among))),
    )
