use Rattle.std.proofs.Common.{sym, subst}
use Rattle.std.specs.List.{AllByRecursion}
use Rattle.piece_raw.specs.Spares.{IsSpare}
use Rattle.piece_raw.proofs.Standing.{stop-trailer}
use Rattle.piece_raw.proofs.ring.Ring.new.Goals as goal

pub invariant_of-result : goal.invariant_of-result
invariant_of-result g c =
    let n = c.in_ok-new.field-0 in let tied = c.in_ok-new.ensures.0 in (
      tied,
      stop-trailer n tied,
      subst (AllByRecursion IsSpare)
          (sym c.new-2.ensures.items) tt,
    )
