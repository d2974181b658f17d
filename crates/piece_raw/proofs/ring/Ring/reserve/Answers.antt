use Rattle.std.proofs.Common.{length, ap, arith}
use Rattle.std.proofs.lemmas.List.{length-map}
use Rattle.piece_raw.specs.Tied.{spots}
use Rattle.piece_raw.proofs.Writing.{count_members}
use Rattle.piece_raw.proofs.ring.Ring.reserve.Goals as goal

pub returns-clause-most : goal.returns-clause-most
returns-clause-most g c =
    let n = c.self.inside.nodes in let tied = c.self.invariant.0 in
    omega (
      arith,
      c.len.ensures,
      c.saturating_add.ensures,
      c.in_ok-within_memory.ensures.ok,
      count_members (spots n.table.items)
          n.links.nodes tied.matches,
      length-map n.table.items (λ b. b.node.ptr),
      ap (λ r. length r.items) c.self.view_is,
    )
