use Rattle.packed.specs.Numbers.{sevens}
use Rattle.packed.proofs.Sevens.{IsPutBut}
use Rattle.packed.proofs.numbers.put_number.Given as goal

-- the sevens of what is left come after what was put
abbrev pub invariant-loop-rest : goal.invariant-loop-rest
invariant-loop-rest l = IsPutBut l.fn.out.items l.out.items (sevens l.fn.number) l.rest

abbrev pub decreases-loop-rest : goal.decreases-loop-rest
decreases-loop-rest l = l.rest
