use Rattle.std.proofs.Common.{ℕ, List, ◌++◌, take}
use Rattle.std.specs.List.{flat_map}
use Rattle.sha2.specs.Hashers.{Holds256}
use Rattle.note_entries.specs.Bytes.{hash_bytes}
use Rattle.note_hashes.proofs.note_key.add_hashes.Given as goal

abbrev pub invariant-loop-hash : goal.invariant-loop-hash
invariant-loop-hash l = (held : List ℕ) → Holds256 l.initial.hasher held
    → Holds256 l.hasher (held ++ flat_map hash_bytes (take l.hash-index l.hashes))
