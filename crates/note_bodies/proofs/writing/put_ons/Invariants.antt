use Rattle.std.proofs.Common.{◌≡◌, ◌++◌, All, take}
use Rattle.std.specs.List.{flat_map}
use Rattle.note_entries.specs.Bytes.{IsHash}
use Rattle.note_bodies.specs.Writing.{on_spelling}
use Rattle.note_bodies.proofs.writing.put_ons.Given as goal

abbrev pub invariant-loop-on : goal.invariant-loop-on
invariant-loop-on l = record {
  put : l.out.items ≡ l.initial.out.items ++ flat_map on_spelling (take l.on-index l.ons);
  hashes : All (λ on. IsHash on.hash) (take l.on-index l.ons);
}
