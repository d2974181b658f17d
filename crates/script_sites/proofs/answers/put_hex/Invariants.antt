use Rattle.std.proofs.Common.{◌≡◌, ℕ, List, ◌++◌}
use Rattle.std.specs.Io.KnownBytes.{Appends}
use Rattle.std.specs.Slice.Iter.{chunks_rest, chunks_size}
use Rattle.hex.specs.Hex.{encode_lower}
use Rattle.script_sites.specs.declared.answers.TheConstants.{STRETCH}
use Rattle.script_sites.proofs.answers.put_hex.Given as goal

abbrev pub invariant-loop-stretch : goal.invariant-loop-stretch
invariant-loop-stretch g l =
    (goal.iterator-loop-stretch g).can_next l.stretch-iterator
    × (goal.iterator-loop-stretch g).is_finite l.stretch-iterator
    × (chunks_size l.stretch-iterator ≡ STRETCH)
    × ((done : List ℕ) × (l.fn.bytes ≡ done ++ chunks_rest l.stretch-iterator) × Appends l.fn.output.contents l.output.contents (encode_lower done))
