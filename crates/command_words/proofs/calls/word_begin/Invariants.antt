use Rattle.std.proofs.Common.{◌≡◌, ℕ, ◌<◌, ◌≤◌, true, get_or}
use Rattle.reader_scanner.specs.ReaderState.{item_bytes}
use Rattle.reader_scanner.specs.Tokens.{is_name_byte}
use Rattle.command_words.proofs.calls.word_begin.Given as goal

-- from here on there are bytes of a word alone
abbrev pub invariant-loop-beg : goal.invariant-loop-beg
invariant-loop-beg g l =
    (l.beg ≤ l.pos) × (l.least ≤ l.beg)
    × ((k : ℕ) → l.beg ≤ k → k < l.pos → is_name_byte (get_or (item_bytes (g.S.Source.items l.source)) k 0) ≡ true)

abbrev pub decreases-loop-beg : goal.decreases-loop-beg
decreases-loop-beg g l = l.beg
