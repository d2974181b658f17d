use Rattle.std.proofs.Common.{◌≡◌, ◌++◌, map, drop}
use Rattle.vialshoal_c.specs.History.{framed}
use Rattle.vialshoal_c.proofs.history.framed.Given as goal

abbrev pub invariant-loop-chunk : goal.invariant-loop-chunk
invariant-loop-chunk l =
    l.bytes.items ++ framed (map (λ chunk. chunk.items) (drop l.chunk-index l.chunks))
    ≡ framed (map (λ chunk. chunk.items) l.chunks)
