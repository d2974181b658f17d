-- The body of an entry of messages: what they build on, and the chunk of their operations.
use Rattle.std.specs.Prelude.{◌≡◌, ℕ, Bool, true, zero, suc, ◌+◌, ◌<◌, ◌≤◌, ◌↔◌, nat_lt, nat_le, ◌&&◌, ◌==◌, if◌then◌else◌, List, [], ◌∷◌, length, slice_get}
use Rattle.std.specs.Prelude.{Option, Some, None, option_map}
use Rattle.std.specs.Int.{w16}
use Rattle.byte_fields.specs.Fields.{◌>>=◌, number_at, stretch_at}
use Rattle.operations.specs.Operation.{Operation}
use Rattle.chunks.specs.Chunks.{IsChunkOf, Placed, operations_of}
use Rattle.note_laws.specs.Note.{Saying}
use Rattle.note_entries.specs.Bytes.{hash_of}
use Rattle.note_hashes.specs.Hashes.{said_by}
use Rattle.note_bodies.specs.declared.messages.Head.{Head}
use Rattle.note_bodies.specs.declared.messages.TheConstants.{MAX_SITE, TEXTS}
use Rattle.note_bodies.specs.declared.ons.On.{On}

-- a hash, of 32 bytes
abbrev pub hash_at : List ℕ → Option (ℕ × List ℕ)
hash_at bytes = option_map (λ x. (hash_of x.0, x.1)) (stretch_at 32 bytes)

-- what a message of an index from the least one up to the bound builds on
abbrev pub on_at : (least bound : ℕ) → List ℕ → Option (On × List ℕ)
on_at least bound bytes = do
  i ← number_at w16 bytes
  h ← hash_at i.1
  if nat_lt i.0 least then None else (if nat_le bound i.0 then None else Some (record { index = i.0; hash = h.0 }, h.1))

-- what so many messages build on, by rising index, and the bytes after that
abbrev pub ons_at : (count least bound : ℕ) → List ℕ → Option (List On × List ℕ)
ons_at zero least bound bytes = Some ([], bytes)
ons_at (suc count) least bound bytes = do
  on ← on_at least bound bytes
  rest ← ons_at count (on.0.index + 1) bound on.1
  Some (on.0 ∷ rest.0, rest.1)

-- what the message of this index builds on, where these are of it and of those after it
abbrev pub on_here : List On → ℕ → Option ℕ
on_here [] index = None
on_here (on ∷ ons) index = if on.index == index then Some on.hash else None

-- those of the messages after it
abbrev pub ons_after : List On → ℕ → List On
ons_after [] index = []
ons_after (on ∷ ons) index = if on.index == index then ons else on ∷ ons

-- whether the message of this index is of this site and has the next seq
abbrev pub is_of_head : Head → ℕ → Operation → Bool
is_of_head head index op = (op.site == head.site) && (op.seq == head.first + index)

-- what an author says by these operations, each after the one before it, from this index on
abbrev pub said_in_turn : (key : List ℕ) → Head → List On → (index before : ℕ) → List Operation → Option (List Saying)
said_in_turn key head ons index before [] = Some []
said_in_turn key head ons index before (op ∷ ops) =
    if is_of_head head index op
    then (let s = said_by key head.author before op (on_here ons index) in
    option_map (λ more. s ∷ more) (said_in_turn key head (ons_after ons index) (index + 1) s.hash ops))
    else None

-- the number can be a site's, the text one of a note's, and there are messages, the first ones where nothing is before them
pub record CanHaveMessages (head : Head) : Type 0 where
  pub site : head.site ≤ MAX_SITE
  pub text : head.text ≤ TEXTS
  pub some : 0 < head.count
  pub begins : (head.first ≡ 1) ↔ (head.before ≡ 0)

-- the messages of an entry with this head and this body
pub record AreMessagesOf (key : List ℕ) (head : Head) (body : List ℕ) (sayings : List Saying) : Type 0 where
  pub place : CanHaveMessages head
  pub count : ℕ
  pub bytes : List ℕ
  pub counted : number_at w16 body ≡ Some (count, bytes)
  pub ons : List On
  pub chunk : List ℕ
  pub build : ons_at count 0 head.count bytes ≡ Some (ons, chunk)
  pub ps : List Placed
  pub read : IsChunkOf head.text ps chunk
  pub many : length (operations_of ps) ≡ head.count
  pub said : said_in_turn key head ons 0 head.before (operations_of ps) ≡ Some sayings

-- an author says these messages, each after the one before it, the first after the message of this hash
abbrev pub AreSaidInTurn : (key : List ℕ) → (author before : ℕ) → List Saying → Type 0
AreSaidInTurn key author before [] = Unit {0}
AreSaidInTurn key author before (s ∷ said) =
    (s ≡ said_by key author before s.op s.on) × AreSaidInTurn key author s.hash said

-- the messages that an entry with this head has: its author says them in turn, each with its site and the seq of its index
pub record AreOfHead (key : List ℕ) (head : Head) (said : List Saying) : Type 0 where
  pub in_turn : AreSaidInTurn key head.author head.before said
  pub numbered : (n : ℕ) (s : Saying) → slice_get said n ≡ Some s → is_of_head head n s.op ≡ true
  pub many : length said ≡ head.count
