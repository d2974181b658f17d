-- Laws of chunks.
use Rattle.std.specs.Prelude.{◌≡◌, ℕ, nat_lt, List, [], ◌∷◌, ◌++◌, filter}
use Rattle.operations.specs.Operation.{Operation}
use Rattle.packed.specs.Told.{nothing_told, nothing_begun}
use Rattle.packed.specs.Laws.{IsHistory}
use Rattle.chunks.specs.Chunks.{Placed, operations_of, CanAllCome, IsChunkOf, chunks, placed_from}

-- a chunk is of one text and one list of operations
abbrev pub OneChunk : Type 0
OneChunk = (bytes : List ℕ) (text other : ℕ) (ps qs : List Placed) → IsChunkOf text ps bytes → IsChunkOf other qs bytes
    → (text ≡ other) × (ps ≡ qs)

-- these are chunks on this text, whose operations, one chunk after the other, are these
abbrev pub AreChunksOf : (text : ℕ) → List Placed → List (List ℕ) → Type 0
AreChunksOf text ps [] = ps ≡ []
AreChunksOf text ps (bytes ∷ others) =
    (part : List Placed) × (rest : List Placed) × (ps ≡ part ++ rest) × IsChunkOf text part bytes
    × AreChunksOf text rest others

-- operations that can all come one after the other are cut into chunks that tell them
abbrev pub ChunksTell : Type 0
ChunksTell = (text : ℕ) (ps : List Placed) → CanAllCome nothing_begun text ps → AreChunksOf text ps (chunks text ps)

-- the operations with a number above what is said of their sites
abbrev pub above_fronts : (front : ℕ → ℕ) → List Placed → List Placed
above_fronts front ps = filter (λ p. nat_lt (front p.op.site) p.op.seq) ps

-- those of a history can all come, each with its site's file's length
abbrev pub WhatIsBeyondCanCome : Type 0
WhatIsBeyondCanCome = (text : ℕ) (ops : List Operation) (front : ℕ → ℕ) → IsHistory text ops
    → CanAllCome nothing_begun text (above_fronts front (placed_from nothing_told ops))
    × (operations_of (above_fronts front (placed_from nothing_told ops)) ≡ filter (λ op. nat_lt (front op.site) op.seq) ops)
