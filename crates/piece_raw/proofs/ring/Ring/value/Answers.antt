use Rattle.std.proofs.Common.{subst}
use Rattle.piece_raw.specs.Tied.{IsStop, all_nodes}
use Rattle.piece_raw.proofs.Standing.{has-stop}
use Rattle.piece_raw.proofs.ring.Ring.value.Goals as goal

pub value-requires : goal.value-requires
value-requires g c =
    let n = c.self.inside.nodes in let tied = c.self.invariant.0 in
    (tied, has-stop n tied c.in-Some.tag (subst (IsStop (all_nodes n)) c.in-Some.is c.self.invariant.1))
