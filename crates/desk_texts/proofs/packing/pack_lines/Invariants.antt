use Rattle.std.proofs.Common.{◌≡◌, ◌++◌, drop, map}
use Rattle.std.specs.List.{flat_map}
use Rattle.machine.specs.Since.{chunk_line}
use Rattle.desk_texts.proofs.packing.pack_lines.Given as goal

abbrev pub invariant-loop-chunk : goal.invariant-loop-chunk
invariant-loop-chunk l =
    l.lines.items ++ flat_map chunk_line (map (λ chunk. chunk.items) (drop l.chunk-index l.chunk-items))
    ≡ flat_map chunk_line (map (λ chunk. chunk.items) l.chunk-items)
