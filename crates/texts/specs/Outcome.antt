-- What becomes of the operations of an edit: how many stand, and why the next one doesn't.
use Rattle.std.specs.Prelude.{◌≡◌, ℕ, ◌+◌, ◌<◌, ◌⊎◌, List, [], ◌∷◌, ◌++◌, length, take, map, Bool, false}
use Rattle.std.specs.Prelude.{Option, Some, None, option_map, nat_lt, ◌==◌, if◌then◌else◌, Result, Ok, Err}
use Rattle.std.specs.Option.{option_map_or}
use Rattle.looks.specs.declared.refusal.Refusal.{Refusal}
use Rattle.looks.specs.declared.refusal.Refusal.TheVariants.{SeqSpent, StampsSpent, FileSpent, OutOfMemory}
use Rattle.looks.specs.declared.refusal.Refusal.TheVariants.{Behind, Scattered}
use Rattle.char_files.specs.declared.TheConstants.{MAX_FILE}
use Rattle.operations.specs.Operation.{Operation, OpKind, insert, delete, restore, change_looks}
use Rattle.operations.specs.Spelling.{spelling}
use Rattle.operations.specs.declared.name_set.TheConstants.{MAX_RANGES}
use Rattle.operations.specs.declared.op.TheConstants.{MAX_STAMP}
use Rattle.set_laws.specs.Fronts.{front_of, greatest_stamp, file_len}
use Rattle.waiting_room.specs.Room.{is_behind}
use Rattle.texts.specs.Edit.{Edit, after, first_part, plan, shown_after, stretch_named, with_operation}
use Rattle.texts.specs.TextState.{TextState, shown_of}
use Rattle.texts.specs.declared.TheConstants.{MAX_SEQ}
use Rattle.texts.specs.declared.edit_refusal.EditRefusal.{EditRefusal}
use Rattle.texts.specs.declared.edit_refusal.EditRefusal.TheVariants.{Whole, Partial}

-- whether the site's file would pass 2^24 bytes, or the stretch that a Delete keeps 2^24 characters
abbrev pub passes_file : TextState → OpKind → Bool
passes_file t (insert cause at looks bytes) = nat_lt MAX_FILE (file_len t.operations t.site + length bytes)
passes_file t (delete names) = nat_lt MAX_FILE (length (stretch_named t names))
passes_file t (restore names) = false
passes_file t (change_looks sel looks names) = false

-- whether the names that are gathered make more ranges than a message has; those of a Restore were a Delete's
abbrev pub is_scattered : OpKind → Bool
is_scattered (insert cause at looks bytes) = false
is_scattered (delete names) = nat_lt MAX_RANGES (length names)
is_scattered (restore names) = false
is_scattered (change_looks sel looks names) = nat_lt MAX_RANGES (length names)

-- why the site's next operation, of this kind, is refused whatever the memory: the first that holds
abbrev pub refusal_for : TextState → OpKind → Option Refusal
refusal_for t kind =
    if is_behind t.operations t.waiting_room t.site then Some Behind
    else (if front_of t.operations t.site == MAX_SEQ then Some SeqSpent
    else (if greatest_stamp t.operations == MAX_STAMP then Some StampsSpent
    else (if passes_file t kind then Some FileSpent
    else (if is_scattered kind then Some Scattered else None))))

-- the first operation's refusal, else what stops the later ones
abbrev pub refusal_or : Option Refusal → Option (ℕ × Refusal) → Option (ℕ × Refusal)
refusal_or (Some why) later = Some (0, why)
refusal_or None later = option_map (λ stop. (stop.0 + 1, stop.1)) later

-- how many of the operations stand, and why the next one doesn't; none where all stand
abbrev pub first_refusal : TextState → List Operation → Option (ℕ × Refusal)
first_refusal t [] = None
first_refusal t (op ∷ ops) = refusal_or (refusal_for t op.kind) (first_refusal (with_operation t op) ops)

-- how many of the operations stand, where memory is there
abbrev pub count_standing : TextState → List Operation → ℕ
count_standing t ops = option_map_or (λ stop. stop.0) (first_refusal t ops) (length ops)

-- the first n of the operations were made, and no other, and these messages tell them
pub record Stand (t : TextState) (ops : List Operation) (n : ℕ) (new : TextState) (messages : List (List ℕ))
    : Type 0 where
  pub text : new ≡ after t (take n ops)
  pub told : messages ≡ map spelling (take n ops)

-- What an edit of these operations answers, what it leaves, and the messages that it sends, where memory is
-- there: all were made; or the first was refused, and nothing was done; or the first ones stand, and the next
-- one was refused.
abbrev pub Edits : TextState → List Operation → Result ℕ EditRefusal → TextState → List (List ℕ) → Type 0
Edits t ops (Ok sent) new messages =
    (first_refusal t ops ≡ None) × (sent ≡ length ops) × Stand t ops sent new messages
Edits t ops (Err (Whole why)) new messages =
    (first_refusal t ops ≡ Some (0, why)) × Stand t ops 0 new messages
Edits t ops (Err (Partial done why)) new messages =
    (0 < done) × (first_refusal t ops ≡ Some (done, why)) × Stand t ops done new messages

-- whether the first of the operations takes memory: one that would stand does, and one with too many ranges,
-- which have to be gathered before that is seen
abbrev pub TakesMemory : TextState → List Operation → Type 0
TakesMemory t ops = (0 < count_standing t ops) ⊎ (first_refusal t ops ≡ Some (0, Scattered))

-- The same where memory was refused, instead of an operation that would stand.
abbrev pub EditsShort : TextState → List Operation → Result ℕ EditRefusal → TextState → List (List ℕ) → Type 0
EditsShort t ops (Ok sent) new messages = ⊥
EditsShort t ops (Err (Whole why)) new messages =
    (why ≡ OutOfMemory) × TakesMemory t ops × Stand t ops 0 new messages
EditsShort t ops (Err (Partial done why)) new messages =
    (why ≡ OutOfMemory) × (0 < done) × (done < count_standing t ops) × Stand t ops done new messages

-- an edit shows what it is to show, one of which a part stands what that part is to show
abbrev pub Shows : TextState → Edit → Result ℕ EditRefusal → TextState → Type 0
Shows t e (Ok sent) new = shown_of new ≡ shown_after t e
Shows t e (Err (Whole why)) new = shown_of new ≡ shown_of t
Shows t e (Err (Partial done why)) new = shown_of new ≡ shown_after t (first_part t done e)

-- an edit with its messages put after those that were sent, whether memory was there or not
abbrev pub EditsSending : TextState → Edit → Result ℕ EditRefusal → TextState → (sent sent' : List (List ℕ))
    → Type 0
EditsSending t e result new sent sent' =
    (messages : List (List ℕ)) × (sent' ≡ sent ++ messages) × Shows t e result new
    × (Edits t (plan t e) result new messages ⊎ EditsShort t (plan t e) result new messages)
