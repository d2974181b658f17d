use Rattle.std.proofs.Common.{◌≡◌, ◌++◌, drop, filter}
use Rattle.operations.specs.NameSet.{names_in}
use Rattle.taken_text.specs.Named.{has_visibility}
use Rattle.taken_text.proofs.taken_text.TakenText.names_with.Given as goal

-- of those that were passed the ones that are as asked were put there
abbrev pub invariant-loop-range : goal.invariant-loop-range
invariant-loop-range l =
    names_in l.found.items ++ filter (has_visibility l.self.operations l.visible) (names_in (drop l.range-index l.range-items))
    ≡ filter (has_visibility l.self.operations l.visible) (names_in l.range-items)
