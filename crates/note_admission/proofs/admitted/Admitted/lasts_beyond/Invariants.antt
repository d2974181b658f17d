use Rattle.std.proofs.Common.{◌≡◌, ◌++◌, length}
use Rattle.note_admission.specs.Kept.{is_past_seen}
use Rattle.note_admission.specs.Ranges.{lasts_of}
use Rattle.note_admission.proofs.admitted.Admitted.lasts_beyond.Given as goal

-- what was found, and what the other ranges have
abbrev pub invariant-loop-range : goal.invariant-loop-range
invariant-loop-range l =
    l.lasts.items ++ lasts_of (is_past_seen l.self l.chain) l.rest ≡ lasts_of (is_past_seen l.self l.chain) l.ranges

abbrev pub decreases-loop-range : goal.decreases-loop-range
decreases-loop-range l = length l.rest
