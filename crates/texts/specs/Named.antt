-- Edits by names: characters are taken out of what is shown, or shown again, wherever they stand.
use Rattle.std.specs.Prelude.{◌≡◌, ℕ, ◌+◌, ◌⊎◌, ◌==◌, Bool, true, false, not, nat_lt, nat_le, IsTrue, MatchBool, MatchOption}
use Rattle.std.specs.Prelude.{if◌then◌else◌, List, [], ◌∷◌, ◌++◌, length, filter, Option, Some, None, Result, Ok, Err, ◌||◌}
use Rattle.std.specs.List.{list_all, list_any}
use Rattle.looks.specs.declared.refusal.Refusal.{Refusal}
use Rattle.looks.specs.declared.refusal.Refusal.TheVariants.{Behind, OutOfMemory, Scattered, SeqSpent, StampsSpent}
use Rattle.char_files.specs.declared.character.Char.{Char}
use Rattle.operations.specs.NameSet.{Range, names_in}
use Rattle.operations.specs.Operation.{Operation, OpKind, delete, restore}
use Rattle.operations.specs.Spelling.{spelling}
use Rattle.operations.specs.declared.name_set.TheConstants.{MAX_RANGES}
use Rattle.operations.specs.declared.op.TheConstants.{MAX_STAMP}
use Rattle.set_laws.specs.Fronts.{file_len, front_of, greatest_stamp}
use Rattle.tree_order.specs.Shown.{is_visible}
use Rattle.waiting_room.specs.Room.{is_behind}
use Rattle.taken_text.specs.Named.{has_visibility, names_with}
use Rattle.texts.specs.Edit.{own_op}
use Rattle.texts.specs.Order.{is_named}
use Rattle.texts.specs.Taking.{HasTaken}
use Rattle.texts.specs.TextState.{TextState, shown_of}
use Rattle.texts.specs.declared.TheConstants.{MAX_SEQ}
use Rattle.texts.specs.declared.by_names.ByNames.{ByNames}
use Rattle.texts.specs.declared.by_names.ByNames.TheVariants.{Delete, Restore}
use Rattle.texts.specs.declared.edit_refusal.EditRefusal.{EditRefusal}
use Rattle.texts.specs.declared.edit_refusal.EditRefusal.TheVariants.{Whole}

-- whether each of the names is that of a character: its site's file has it
abbrev pub are_here : TextState → List Range → Bool
are_here t names = list_all (λ r. nat_le (r.at + r.len) (file_len t.operations r.site)) names

-- whether such an edit changes the characters that are shown, or those that are hidden
abbrev pub changes_shown : ByNames → Bool
changes_shown Delete = true
changes_shown Restore = false

-- whether it changes the character of one of the names
abbrev pub changes_any : TextState → ByNames → List Range → Bool
changes_any t what names = list_any (has_visibility t.operations (changes_shown what)) (names_in names)

-- the names of the characters that it changes, as a set
abbrev pub names_changed : TextState → ByNames → List Range → List Range
names_changed t what names = names_with t.operations (changes_shown what) names

-- the kind of its operation
abbrev pub kind_by_names : ByNames → List Range → OpKind
kind_by_names Delete names = delete names
kind_by_names Restore names = restore names

-- its operation
abbrev pub op_by_names : TextState → ByNames → List Range → Operation
op_by_names t what names = own_op t (kind_by_names what (names_changed t what names))

-- why an operation of the site's that names these is refused, whatever the memory: the first that holds
abbrev pub refusal_of_names : TextState → List Range → Option Refusal
refusal_of_names t names =
    if is_behind t.operations t.waiting_room t.site then Some Behind
    else (if front_of t.operations t.site == MAX_SEQ then Some SeqSpent
    else (if greatest_stamp t.operations == MAX_STAMP then Some StampsSpent
    else (if nat_lt MAX_RANGES (length names) then Some Scattered else None)))

-- it is answered so, and nothing is done or sent
abbrev pub IsLeft : TextState → Result ℕ EditRefusal → Result ℕ EditRefusal → TextState → List (List ℕ) → Type 0
IsLeft t answer result new messages = (result ≡ answer) × (new ≡ t) × (messages ≡ [])

-- an operation is made and sent; what the site cut last stays that
abbrev pub IsMade : TextState → Operation → Result ℕ EditRefusal → TextState → List (List ℕ) → Type 0
IsMade t op result new messages = (result ≡ Ok 1) × HasTaken t op new × (messages ≡ spelling op ∷ [])

-- What an edit by names does where memory is there: nothing, where it changes none of the characters; else it is refused for
-- this, or one operation names all that it changes, and no others.
abbrev pub EditsByNames : ByNames → List Range → TextState → Result ℕ EditRefusal → TextState → List (List ℕ) → Type 0
EditsByNames what names t result new messages =
    MatchBool (changes_any t what names)
    (MatchOption (refusal_of_names t (names_changed t what names))
    (IsMade t (op_by_names t what names) result new messages)
    (λ why. IsLeft t (Err (Whole why)) result new messages))
    (IsLeft t (Ok 0) result new messages)

-- The same where memory was refused: nothing is done of what would be, or of what has too many ranges, which have to be
-- gathered before that is seen.
abbrev pub EditsByNamesShort : ByNames → List Range → TextState → Result ℕ EditRefusal → TextState → List (List ℕ)
    → Type 0
EditsByNamesShort what names t result new messages =
    IsTrue (changes_any t what names)
    × ((refusal_of_names t (names_changed t what names) ≡ None)
    ⊎ (refusal_of_names t (names_changed t what names) ≡ Some Scattered))
    × IsLeft t (Err (Whole OutOfMemory)) result new messages

-- an edit by names with its messages put after those that were sent, whether memory was there or not
abbrev pub EditsByNamesSending : TextState → ByNames → List Range → Result ℕ EditRefusal → TextState
    → (sent sent' : List (List ℕ)) → Type 0
EditsByNamesSending t what names result new sent sent' =
    (messages : List (List ℕ)) × (sent' ≡ sent ++ messages)
    × (EditsByNames what names t result new messages ⊎ EditsByNamesShort what names t result new messages)

-- what is shown when it was done: without those that are named, or with them beside those that are shown
abbrev pub shown_by_names : TextState → ByNames → List Range → List Char
shown_by_names t Delete names = filter (λ c. not (is_named names c)) (shown_of t)
shown_by_names t Restore names = filter (λ c. is_named names c || is_visible t.operations c.name) t.order

-- why an operation that names these wasn't made: what refuses it whatever the memory, or want of memory, before `Scattered` at
-- most
abbrev pub IsWhyNotNamed : TextState → List Range → Refusal → Type 0
IsWhyNotNamed t names why =
    (refusal_of_names t names ≡ Some why)
    ⊎ ((why ≡ OutOfMemory) × ((refusal_of_names t names ≡ None) ⊎ (refusal_of_names t names ≡ Some Scattered)))

-- the operation of an edit by names was made, and its message sent; or it was refused, and nothing changed
abbrev pub MakesByNames : TextState → ByNames → List Range → Result (Unit {0}) Refusal → TextState
    → (sent sent' : List (List ℕ)) → Type 0
MakesByNames t what names (Ok made) new sent sent' =
    (refusal_of_names t (names_changed t what names) ≡ None) × HasTaken t (op_by_names t what names) new
    × (sent' ≡ sent ++ spelling (op_by_names t what names) ∷ [])
MakesByNames t what names (Err why) new sent sent' =
    IsWhyNotNamed t (names_changed t what names) why × (new ≡ t) × (sent' ≡ sent)
