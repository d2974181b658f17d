-- The room in which operations wait: what it does with one that is offered, which one leaves it first, and which
-- sites are behind.
use Rattle.std.specs.Prelude.{◌≡◌, ℕ, ◌+◌, ◌<◌, ◌≤◌, ◌⊎◌, List, [], ◌∷◌, ◌++◌, length, take, drop, slice_get, All}
use Rattle.std.specs.Prelude.{Bool, true, false, nat_le, ◌==◌, ◌&&◌, ◌||◌, Contains}
use Rattle.std.specs.Prelude.{Option, Some, None, Result, Ok, Err}
use Rattle.std.specs.List.{list_any}
use Rattle.looks.specs.declared.refusal.Refusal.{Refusal}
use Rattle.looks.specs.declared.refusal.Refusal.TheVariants.{Conflict, RoomFull, OutOfMemory}
use Rattle.char_files.specs.CharName.{CharName}
use Rattle.operations.specs.Operation.{Operation, Mentions, mentioned_names}
use Rattle.set_laws.specs.Fronts.{file_len, IsHeld, IsHere}
use Rattle.set_laws.specs.Sets.{IsInConflict}
use Rattle.set_laws.specs.Verdict.{HasVerdict, IsNew, wait}
use Rattle.waiting_room.specs.declared.room.Offered.{Offered}
use Rattle.waiting_room.specs.declared.room.Offered.TheVariants.{New, Same}
use Rattle.waiting_room.specs.declared.room.TheConstants.{MAX_WAITING}

-- none waits under the operation's identity, and there is a place
abbrev pub HasPlaceFor : List Operation → Operation → Type 0
HasPlaceFor room op = (¬ IsHeld room op.site op.seq) × (length room < MAX_WAITING)

-- What an offer answers, and the room afterwards: an equal operation waits; another one of this identity does; as
-- many wait as there are places; else it waits as the last, where memory is there.
abbrev pub Offers : List Operation → Operation → Result Offered Refusal → List Operation → Type 0
Offers room op (Ok Same) new = Contains room op × (new ≡ room)
Offers room op (Err Conflict) new = IsInConflict room op × (new ≡ room)
Offers room op (Err RoomFull) new =
    (¬ IsHeld room op.site op.seq) × (length room ≡ MAX_WAITING) × (new ≡ room)
Offers room op (Ok New) new = HasPlaceFor room op × (new ≡ room ++ op ∷ [])
Offers room op (Err OutOfMemory) new = HasPlaceFor room op × (new ≡ room)
Offers room op (Err why) new = ⊥

-- whether an equal operation waits, or another one of this identity; none where no such one does
abbrev pub IsWaitingAs : List Operation → Operation → Option Bool → Type 0
IsWaitingAs room op None = ¬ IsHeld room op.site op.seq
IsWaitingAs room op (Some true) = Contains room op
IsWaitingAs room op (Some false) = IsInConflict room op

-- the entries of a room: each operation stands under its identity, and all have a place
pub record AreInRoom (entries : List ((ℕ × ℕ) × Operation)) : Type 0 where
  pub keyed : All (λ e. e.0 ≡ (e.1.site, e.1.seq)) entries
  pub counted : All (λ e. 0 < e.1.seq) entries
  pub few : length entries ≤ MAX_WAITING

-- the operation stays: its identity isn't held, and the verdict is that it waits
abbrev pub StaysWaiting : List Operation → Operation → Type 0
StaysWaiting ops op = IsNew ops op × HasVerdict ops op wait

-- the first one in order of arrival that doesn't stay stands at this index
pub record IsFirstToLeave (ops room : List Operation) (i : ℕ) : Type 0 where
  pub op : Operation
  pub there : slice_get room i ≡ Some op
  pub leaves : ¬ StaysWaiting ops op
  pub before : All (StaysWaiting ops) (take i room)

-- all but the one at this index
abbrev pub without : List Operation → ℕ → List Operation
without room i = take i room ++ drop (i + 1) room

-- one of these names is the site's, at or past this end of its file
abbrev pub HasNamePast : (CharName → Type 0) → (site end : ℕ) → Type 0
HasNamePast Names site end = (name : CharName) × Names name × (name.site ≡ site) × (end ≤ name.off)

-- whether the operation mentions a name of the site at or past this end of its file
abbrev pub mentions_past : Operation → (site end : ℕ) → Bool
mentions_past op site end = list_any (λ name. name.site == site && nat_le end name.off) (mentioned_names op)

-- whether the operation is one of the site itself, or mentions such a name
abbrev pub is_ahead : Operation → (site end : ℕ) → Bool
is_ahead op site end = op.site == site || mentions_past op site end

-- the same, as a fact
abbrev pub IsAhead : Operation → (site end : ℕ) → Type 0
IsAhead op site end = (op.site ≡ site) ⊎ HasNamePast (Mentions op) site end

-- whether an operation of the site itself waits, or one that mentions a name of the site that isn't here
abbrev pub is_behind : (ops room : List Operation) → ℕ → Bool
is_behind ops room site = list_any (λ op. is_ahead op site (file_len ops site)) room

-- the same, as a fact
abbrev pub IsBehind : (ops room : List Operation) → ℕ → Type 0
IsBehind ops room site =
    (op : Operation) × Contains room op
    × ((op.site ≡ site) ⊎ ((name : CharName) × Mentions op name × (name.site ≡ site) × (¬ IsHere ops name)))
