use Rattle.packed.proofs.WriteSets.{IsPutTo}
use Rattle.packed.proofs.sets.put_ranges.Given as goal

-- the ranges so far were put, and the next one is put after the last of them
abbrev pub invariant-loop-range : goal.invariant-loop-range
invariant-loop-range l = IsPutTo l.fn.out.items l.out.items l.ranges l.range-index l.site l.end
