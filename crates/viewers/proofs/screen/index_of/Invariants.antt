use Rattle.std.proofs.Common.{◌≡◌, ◌+◌, drop}
use Rattle.viewers.specs.Viewers.{index_of}
use Rattle.viewers.proofs.screen.index_of.Given as goal

-- the number is among those that are left
abbrev pub invariant-loop-index : goal.invariant-loop-index
invariant-loop-index l = index_of l.numbers l.number ≡ l.index + index_of (drop l.index l.numbers) l.number
