-- What was taken in past some fronts, and the text as it was up to them.
use Rattle.std.specs.Prelude.{◌≡◌, ℕ, ◌+◌, ◌<◌, ◌≤◌, ◌⊎◌, ◌==◌, Bool, false, true, nat_lt, MatchBool, if◌then◌else◌}
use Rattle.std.specs.Prelude.{List, [], ◌∷◌, ◌++◌, length, map, slice_get, Option, Some, None, IfSome}
use Rattle.std.specs.Int.{to_le_bytes, w16}
use Rattle.std.specs.List.{list_all}
use Rattle.looks.specs.Refusal.{number_of}
use Rattle.looks.specs.declared.refusal.Refusal.TheVariants.{OutOfMemory}
use Rattle.operations.specs.Operation.{Operation}
use Rattle.operations.specs.Spelling.{spelling}
use Rattle.text_chunks.specs.Packing.{chunks_beyond}
use Rattle.texts.specs.Fronts.{is_beyond}
use Rattle.texts.specs.Past.{IsPastOf}
use Rattle.texts.specs.TextState.{TextState}
use Rattle.texts.specs.declared.front.Front.{Front}
use Rattle.vialshoal_c.specs.Outputs.{Puts, PutsNone}
use Rattle.vialshoal_c.specs.declared.inputs.SiteFront.{SiteFront}
use Rattle.vialshoal_c.specs.declared.numbers.TheConstants.{ALREADY_OPEN, NO_MESSAGE, NO_NUMBER}

-- whether this is a front: its site has a number
abbrev pub is_front : SiteFront → Bool
is_front front = nat_lt 0 front.site

-- a front, as a replica takes it
abbrev pub replica_front : SiteFront → Front
replica_front front = record { site = front.site; seq = front.seq }

abbrev pub fronts_of : List SiteFront → List Front
fronts_of fronts = map replica_front fronts

-- a front as a replica takes it, if it is one
abbrev pub front_given : SiteFront → Option Front
front_given front = if is_front front then Some (replica_front front) else None

-- no operation is beyond the fronts that was taken in at the one place or later, and before the other place
abbrev pub NoneIsBeyond : List Operation → List Front → (from before : ℕ) → Type 0
NoneIsBeyond ops fronts from before =
    (k : ℕ) → from ≤ k → k < before → IfSome (slice_get ops k) (λ op. is_beyond fronts op ≡ false)

-- the operation of this place is beyond the fronts, and the first one so that was taken in at the other place or later
pub record IsFirstBeyond (ops : List Operation) (fronts : List Front) (from place : ℕ) : Type 0 where
  pub later : from ≤ place
  pub within : place < length ops
  pub beyond : IfSome (slice_get ops place) (λ op. is_beyond fronts op ≡ true)
  pub first : NoneIsBeyond ops fronts from place

-- the operation's message is put there; or memory to spell it was refused
abbrev pub PutsSpelling : Operation → (old : List ℕ) → (number need : ℕ) → (new : List ℕ) → Type 0
PutsSpelling op old number need new =
    Puts (spelling op) old number need new ⊎ PutsNone (number_of OutOfMemory) old number need new

-- The message of the first operation beyond the fronts from this place on is put there, and with it the place is that
-- after the operation's; or there is none.
abbrev pub TellsNext : TextState → List Front → (index : ℕ) → (old : List ℕ) → (number need : ℕ) → (new : List ℕ)
    → (index' : ℕ) → Type 0
TellsNext t fronts index old number need new index' =
    ((place : ℕ) × IsFirstBeyond t.operations fronts index place
    × IfSome (slice_get t.operations place) (λ op. PutsSpelling op old number need new)
    × (index' ≡ (if number == 0 then place + 1 else index)))
    ⊎ (NoneIsBeyond t.operations fronts index (length t.operations) × PutsNone NO_MESSAGE old number need new
    × (index' ≡ index))

-- the same of these fronts, if all of them are
abbrev pub TellsSince : TextState → List SiteFront → (index : ℕ) → (old : List ℕ) → (number need : ℕ) → (new : List ℕ)
    → (index' : ℕ) → Type 0
TellsSince t fronts index old number need new index' =
    MatchBool (list_all is_front fronts) (TellsNext t (fronts_of fronts) index old number need new index')
    (PutsNone NO_NUMBER old number need new × (index' ≡ index))

-- chunks one after the other, each after its length in two bytes, the low one first
abbrev pub framed : List (List ℕ) → List ℕ
framed [] = []
framed (chunk ∷ chunks) = to_le_bytes w16 (length chunk) ++ chunk ++ framed chunks

-- the chunks of what the text has past these fronts are put there, if all of these are fronts; or memory was refused
abbrev pub PutsChunks : TextState → List SiteFront → (old : List ℕ) → (number need : ℕ) → (new : List ℕ) → Type 0
PutsChunks t fronts old number need new =
    MatchBool (list_all is_front fronts)
    (Puts (framed (chunks_beyond (fronts_of fronts) t)) old number need new
    ⊎ PutsNone (number_of OutOfMemory) old number need new) (PutsNone NO_NUMBER old number need new)

-- the text as it was up to these fronts is opened; or memory was refused
abbrev pub OpensPastOf : TextState → List SiteFront → (number : ℕ) → Option TextState → Type 0
OpensPastOf t fronts number new =
    ((number ≡ 0) × ((p : TextState) × (new ≡ Some p) × IsPastOf t (fronts_of fronts) p))
    ⊎ ((number ≡ number_of OutOfMemory) × (new ≡ None))

-- An empty past handle is opened so, if all of these are fronts; one that is open stays so.
abbrev pub OpensPast : TextState → Option TextState → List SiteFront → (number : ℕ) → Option TextState → Type 0
OpensPast t (Some p) fronts number new = (number ≡ ALREADY_OPEN) × (new ≡ Some p)
OpensPast t None fronts number new =
    MatchBool (list_all is_front fronts) (OpensPastOf t fronts number new) ((number ≡ NO_NUMBER) × (new ≡ None))
