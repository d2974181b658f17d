-- Laws of packing and unpacking.
use Rattle.std.specs.Prelude.{◌≡◌, ◌≢◌, ℕ, ◌↔◌, List, [], ◌∷◌, map, All, AllPairs, Ok}
use Rattle.operations.specs.Spelling.{HasSpelling, spelling}
use Rattle.texts.specs.Fronts.{beyond}
use Rattle.texts.specs.Take.{Takes}
use Rattle.texts.specs.Text.{IsText}
use Rattle.texts.specs.TextState.{TextState}
use Rattle.texts.specs.declared.front.Front.{Front}
use Rattle.texts.specs.declared.took.Took.{Took}
use Rattle.text_chunks.specs.Packing.{chunks_beyond}
use Rattle.text_chunks.specs.Unpacking.{Unpacks}
use Rattle.text_chunks.specs.declared.unpacked.Unpacked.{Unpacked}

-- these chunks are unpacked, one after the other, and none is refused
abbrev pub UnpacksEach : TextState → List (List ℕ) → TextState → Type 0
UnpacksEach t [] new = new ≡ t
UnpacksEach t (chunk ∷ chunks) new =
    (c : Unpacked) × (mid : TextState) × Unpacks t chunk (Ok c) mid × UnpacksEach mid chunks new

-- these messages are taken, one after the other, and none is refused
abbrev pub TakesEach : TextState → List (List ℕ) → TextState → Type 0
TakesEach t [] new = new ≡ t
TakesEach t (message ∷ messages) new =
    (took : Took) × (mid : TextState) × Takes t message (Ok took) mid × TakesEach mid messages new

-- To unpack all chunks of what a text has beyond some fronts, and to take all messages of it, does the same to another text of
-- that number, where no operation is refused; each of its operations has a message.
abbrev pub ChunksHandInTheMessages : Type 0
ChunksHandInTheMessages = (t u new : TextState) (fronts : List Front) → IsText t → AllPairs (λ a b. a ≢ b) t.operations
    → All HasSpelling t.operations → u.text ≡ t.text
    → UnpacksEach u (chunks_beyond fronts t) new ↔ TakesEach u (map spelling (beyond fronts t.operations)) new
