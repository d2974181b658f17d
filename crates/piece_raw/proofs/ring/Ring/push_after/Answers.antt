use Rattle.std.proofs.Common.{length, ap, arith}
use Rattle.std.proofs.lemmas.List.{length-map}
use Rattle.piece_raw.specs.Tied.{spots}
use Rattle.piece_raw.proofs.Writing.{count_members}
use Rattle.piece_raw.proofs.ring.Ring.push_after.Goals as goal

pub returns-clause-tag : goal.returns-clause-tag
returns-clause-tag g c =
    let n = c.self.inside.nodes in let tied = c.self.invariant.0 in
    omega (
      arith,
      c.push-new.ensures.tag,
      c.in_default.ensures.most,
      ap length c.in_default.ensures.unchanged.0,
      count_members (spots n.table.items)
          n.links.nodes tied.matches,
      length-map n.table.items (λ b. b.node.ptr),
      n.table.ok.0,
      ap (λ r. length r.items) c.self.view_is,
    )
