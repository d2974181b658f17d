use Rattle.std.proofs.Common.{◌≡◌, ℕ, ◌-◌, ◌<◌, ◌≤◌, true, get_or}
use Rattle.reader_scanner.specs.ReaderState.{item_bytes}
use Rattle.reader_scanner.specs.Tokens.{is_name_byte}
use Rattle.command_words.proofs.calls.word_end.Given as goal

-- up to here there are bytes of a word alone
abbrev pub invariant-loop-end : goal.invariant-loop-end
invariant-loop-end g l =
    (l.pos ≤ l.end) × (l.end ≤ l.most)
    × ((k : ℕ) → l.pos ≤ k → k < l.end → is_name_byte (get_or (item_bytes (g.S.Source.items l.source)) k 0) ≡ true)

abbrev pub decreases-loop-end : goal.decreases-loop-end
decreases-loop-end g l = l.most - l.end
