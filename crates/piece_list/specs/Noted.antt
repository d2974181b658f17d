-- How a note tells what a change of characters makes of what is shown.
use Rattle.std.specs.Prelude.{◌≡◌, ℕ, ◌+◌, ◌*◌, ◌<◌, ◌≤◌, ◌++◌, Bool, true, false, not, List, map, take, drop, length, min, All}
use Rattle.std.specs.Prelude.{Vec, vec_len, vec_capacity}
use Rattle.std.specs.declared.alloc.Global.{Global}
use Rattle.std.specs.List.{sum_by}
use Rattle.char_files.specs.CharName.{CharName}
use Rattle.operations.specs.NameSet.{Range, IsAmong}
use Rattle.list_changes.specs.declared.change.Change.{Change}
use Rattle.list_changes.specs.declared.change.ChangeKind.{ChangeKind}
use Rattle.list_changes.specs.declared.change.ChangeKind.TheVariants.{Insert, Delete, Replace}
use Rattle.list_changes.specs.Changes.{IsOfKind, Leads}
use Rattle.piece_list.specs.declared.setting.Setting.{Setting}
use Rattle.piece_list.specs.declared.setting.Setting.TheVariants.{Switch, Relook}
use Rattle.piece_list.specs.Changing.{unlike}
use Rattle.piece_list.specs.Piece.{Piece}
use Rattle.piece_list.specs.Shown.{Appearance, appearance_of, looks_of}
use Rattle.piece_list.specs.Spelled.{spelled, shown_chars}

-- what the pieces show, character by character
abbrev pub appearances : List (ℕ × Piece) → List Appearance
appearances items = map appearance_of (shown_chars (spelled items))

-- the names of what is shown
abbrev pub names_of_shown : List Appearance → List CharName
names_of_shown shown = map (λ s. s.name) shown

-- the same character, whatever it looks like
abbrev pub SameName : Appearance → Appearance → Type 0
SameName x y = x.name ≡ y.name

-- the note has gained changes, each of this sort, that lead from what was shown to what is shown
pub record Notes (Is : Change → Type 0) (old new : List Change) (was now : List Appearance) : Type 0 where
  pub gained : List Change
  pub kept : new ≡ old ++ gained
  pub each : All Is gained
  pub leads : Leads SameName gained was now

-- other looks for a stretch of what is shown, each character of which has one of these names
abbrev pub IsReplaceOf : List Range → List Appearance → Change → Type 0
IsReplaceOf names shown change =
    IsOfKind Replace change × All (IsAmong names) (drop change.beg (take change.end (names_of_shown shown)))

-- what hides characters deletes them from what is shown, and what shows them again inserts them
abbrev pub switch_kind : Bool → ChangeKind
switch_kind true = Delete
switch_kind false = Insert

-- what a setting does to what is shown
abbrev pub setting_kind : Setting → ChangeKind
setting_kind (Switch hidden key) = switch_kind hidden
setting_kind (Relook sel looks key) = Replace

-- a change of this setting's kind, and a replace of these names alone
abbrev pub IsOf : Setting → List Range → List Appearance → Change → Type 0
IsOf (Switch hidden key) names shown change = IsOfKind (switch_kind hidden) change
IsOf (Relook sel looks key) names shown change = IsReplaceOf names shown change

-- the note tells what the setting makes of what the pieces show
abbrev pub IsNoted : Setting → List Range → (old new : List Change) → (was now : List (ℕ × Piece)) → Type 0
IsNoted setting names old new was now =
    Notes (λ change. IsOf setting names (appearances was) change) old new (appearances was) (appearances now)

-- each entry of a switch is of a piece that is switched, which it isn't again; splits add some pieces
abbrev pub IsSpent : Setting → ℕ → (old new : Vec Change Global) → (was now : List (ℕ × Piece)) → Type 0
IsSpent (Switch hidden key) splits old new was now = vec_len new + unlike hidden now
    ≤ vec_len old + unlike hidden was + splits
IsSpent (Relook sel looks key) splits old new was now = Unit {0}

-- the note tells it where it isn't full then, and gains no more than so many entries, and a switch no more than one a piece
pub record AreNoted (setting : Setting) (names : List Range) (n splits : ℕ) (old new : Vec Change Global)
    (was now : List (ℕ × Piece)) : Type 0 where
  pub told : vec_len new < vec_capacity old → IsNoted setting names old.items new.items was now
  pub grows : vec_len old ≤ vec_len new
  pub few : vec_len new ≤ vec_len old + n
  pub spent : IsSpent setting splits old new was now
  pub capacity : vec_capacity old ≤ vec_capacity new

-- a piece may show something else after the setting: it was hidden and is shown, or the other way round, or it is
-- shown as it was
abbrev pub ShowsOther : Setting → (old new : Piece) → Type 0
ShowsOther (Switch hidden key) old new = (old.hidden.value ≡ not hidden) × (new.hidden.value ≡ hidden)
ShowsOther (Relook sel looks key) old new = (old.hidden.value ≡ false) × (new.hidden.value ≡ false)

-- a piece is hidden as before, or shown as before
abbrev pub ShowsTheSame : (old new : Piece) → Type 0
ShowsTheSame old new =
    (new.hidden.value ≡ old.hidden.value) × (old.hidden.value ≡ false → looks_of new ≡ looks_of old)

-- how many names the ranges have
abbrev pub name_count : List Range → ℕ
name_count ranges = sum_by (λ r. r.len) ranges

-- room in a note for one entry more than it may gain
abbrev pub entry_room : Setting → List Range → List (ℕ × Piece) → ℕ
entry_room (Switch hidden key) names items = min (name_count names) (length items) + 2 * length names + 1
entry_room (Relook sel looks key) names items = name_count names + 1
