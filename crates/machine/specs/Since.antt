-- What a text has taken in beyond some fronts, and how it is printed.
use Rattle.std.specs.Prelude.{ℕ, List, ◌++◌, codes}
use Rattle.std.specs.List.{flat_map}
use Rattle.hex.specs.Hex.{encode_lower}
use Rattle.operations.specs.Operation.{Operation}
use Rattle.operations.specs.Spelling.{spelling}
use Rattle.texts.specs.Fronts.{beyond}
use Rattle.texts.specs.TextState.{TextState}
use Rattle.texts.specs.declared.front.Front.{Front}
use Rattle.text_chunks.specs.Packing.{chunks_beyond}
use Rattle.machine.specs.Printing.{line}

-- the line of an operation's message: its bytes in hex
abbrev pub message_line : Operation → List ℕ
message_line op = line (codes "message " ++ encode_lower (spelling op))

-- the lines of the messages of some operations
abbrev pub message_lines : List Operation → List ℕ
message_lines ops = flat_map message_line ops

-- the answer to `since`: these lines of the operations beyond the fronts, in the order of their taking, then `ok`
abbrev pub since_lines : List Front → List Operation → List ℕ
since_lines fronts ops = message_lines (beyond fronts ops) ++ line (codes "ok")

-- the line of a chunk: its bytes in hex
abbrev pub chunk_line : List ℕ → List ℕ
chunk_line chunk = line (codes "chunk " ++ encode_lower chunk)

-- the answer to `pack`: a line of each chunk of the operations beyond the fronts, in the order of their taking, then `ok`
abbrev pub pack_lines : List Front → TextState → List ℕ
pack_lines fronts t = flat_map chunk_line (chunks_beyond fronts t) ++ line (codes "ok")
