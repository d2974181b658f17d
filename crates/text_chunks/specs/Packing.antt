-- What a text has beyond some fronts, in chunks.
use Rattle.std.specs.Prelude.{ℕ, List}
use Rattle.packed.specs.Told.{nothing_told}
use Rattle.chunks.specs.Chunks.{Placed, chunks, placed_from}
use Rattle.chunks.specs.Laws.{above_fronts}
use Rattle.texts.specs.Fronts.{front_in}
use Rattle.texts.specs.TextState.{TextState}
use Rattle.texts.specs.declared.front.Front.{Front}

-- the operations that a text has taken in beyond the fronts, each with the length of its site's file
abbrev pub placed_beyond : List Front → TextState → List Placed
placed_beyond fronts t = above_fronts (front_in fronts) (placed_from nothing_told t.operations)

-- the chunks of these, in the order of their taking
abbrev pub chunks_beyond : List Front → TextState → List (List ℕ)
chunks_beyond fronts t = chunks t.text (placed_beyond fronts t)
