use Rattle.std.proofs.Common.{◌+◌, ◌≤◌, length}
use Rattle.char_files.specs.declared.TheConstants.{MAX_FILE}
use Rattle.texts.specs.Edit.{insertion, inserts, plan}
use Rattle.texts.specs.TextState.{shown_of}
use Rattle.texts.proofs.Sending.{IsUnderWay}
use Rattle.texts.proofs.replica.Replica.insert.Given as goal

abbrev pub invariant-loop-piece : goal.invariant-loop-piece
invariant-loop-piece l =
    IsUnderWay l.initial.self (plan l.initial.self (insertion l.pos l.buffer)) (inserts l.self l.at l.piece-iterator) l.done
    l.self l.initial.outbox l.outbox
    × (l.at ≤ length (shown_of l.self)) × (l.done + length l.piece-iterator ≤ MAX_FILE)
