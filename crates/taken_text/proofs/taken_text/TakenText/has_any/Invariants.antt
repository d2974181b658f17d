use Rattle.std.proofs.Common.{◌≡◌, drop}
use Rattle.std.specs.List.{list_any}
use Rattle.operations.specs.NameSet.{names_in}
use Rattle.taken_text.specs.Named.{has_visibility}
use Rattle.taken_text.proofs.taken_text.TakenText.has_any.Given as goal

-- none of those that were passed is as asked
abbrev pub invariant-loop-range : goal.invariant-loop-range
invariant-loop-range l =
    list_any (has_visibility l.self.operations l.visible) (names_in (drop l.range-index l.names))
    ≡ list_any (has_visibility l.self.operations l.visible) (names_in l.names)
