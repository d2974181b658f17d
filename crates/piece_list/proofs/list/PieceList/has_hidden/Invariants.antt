use Rattle.piece_list.specs.Spelled.{spelled}
use Rattle.piece_list.proofs.HiddenNames.{NoneHiddenTo}
use Rattle.piece_list.proofs.list.PieceList.has_hidden.Given as goal

-- the ranges that were passed are shown
abbrev pub invariant-loop-range : goal.invariant-loop-range
invariant-loop-range l = NoneHiddenTo (spelled l.self.items) l.range-items l.range-index
