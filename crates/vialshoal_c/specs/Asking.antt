-- What the calls that ask answer.
use Rattle.std.specs.Prelude.{◌≡◌, ◌≢◌, ◌↔◌, ◌<◌, ◌≤◌, IfSome, ℕ, List, [], length, map, slice_get, slice_range, nat_lt, nat_le}
use Rattle.std.specs.Prelude.{MatchBool, IsTrue, MatchOption, ◌&&◌, ◌⊎◌, if◌then◌else◌}
use Rattle.char_files.specs.CharName.{CharName}
use Rattle.char_files.specs.declared.TheConstants.{MAX_FILE}
use Rattle.char_files.specs.declared.character.Char.{Char}
use Rattle.char_files.specs.declared.name.Anchor.TheVariants.{At}
use Rattle.list_changes.specs.declared.change.Change.{Change}
use Rattle.list_changes.specs.declared.change.ChangeKind.{ChangeKind}
use Rattle.list_changes.specs.declared.change.ChangeKind.TheVariants.{Insert, Delete, Replace}
use Rattle.looks.specs.Refusal.{number_of}
use Rattle.looks.specs.declared.looks.Looks.{Looks}
use Rattle.looks.specs.declared.refusal.Refusal.TheVariants.{OutOfMemory}
use Rattle.set_laws.specs.Fronts.{AreSites, front_of}
use Rattle.texts.specs.Changes.{TellsOfChanges, all_reported, replacement_of}
use Rattle.texts.specs.Edit.{anchor_before, is_range_in}
use Rattle.texts.specs.Text.{IsAnchor}
use Rattle.texts.specs.TextState.{TextState, all_told, shown_of}
use Rattle.tree_order.specs.Shown.{IsPlace}
use Rattle.vialshoal_c.specs.Outputs.{Puts, PutsNone}
use Rattle.vialshoal_c.specs.SessionState.{KeepsTheRest, SessionState}
use Rattle.vialshoal_c.specs.declared.numbers.TheConstants.{IS_DELETE, IS_INSERT, IS_REPLACE, NO_MESSAGE, NO_NAME, NO_NUMBER}
use Rattle.vialshoal_c.specs.declared.numbers.TheConstants.{OUT_OF_TEXT, STILL_NOTED}
use Rattle.vialshoal_c.specs.declared.outputs.CharName as c_name
use Rattle.vialshoal_c.specs.declared.outputs.LooksRun.{LooksRun}
use Rattle.vialshoal_c.specs.declared.outputs.Place.{Place}
use Rattle.vialshoal_c.specs.declared.outputs.Replacing.{Replacing}
use Rattle.vialshoal_c.specs.declared.outputs.TextChange.{TextChange}

-- the names of some characters, as C sees them
abbrev pub c_names : List Char → List c_name.CharName
c_names chars = map (λ c. record { site = c.name.site; offset = c.name.off }) chars

-- this of the characters shown from beg to end is put there, if they are in the text
abbrev pub PutsShown : {X : Type 0} → (List Char → List X) → TextState → (beg end : ℕ) → (old : List X) → (number need : ℕ)
    → (new : List X) → Type 0
PutsShown of t beg end old number need new =
    MatchBool (is_range_in t beg end) (Puts (of (slice_range (shown_of t) beg end)) old number need new)
    (PutsNone OUT_OF_TEXT old number need new)

-- the message at this index, of those that are kept, is put there, if there is one
abbrev pub PutsMessage : List (List ℕ) → (index : ℕ) → (old : List ℕ) → (number need : ℕ) → (new : List ℕ) → Type 0
PutsMessage sent index old number need new =
    MatchOption (slice_get sent index) (PutsNone NO_MESSAGE old number need new) (λ message. Puts message old number need new)

-- the characters from one position up to another have these looks, and no more after them
pub record IsRun (shown : List Char) (pos end : ℕ) (looks : Looks) : Type 0 where
  pub begins : pos < end
  pub ends : end ≤ length shown
  pub same : (k : ℕ) → pos ≤ k → k < end → IfSome (slice_get shown k) (λ c. c.looks ≡ looks)
  pub longest : end < length shown → IfSome (slice_get shown end) (λ c. c.looks ≢ looks)

-- The looks of the characters from this position on that look alike are written, and the font's name is put into a room, if
-- that is long enough.
abbrev pub TellsRun : TextState → (pos : ℕ) → (before run : LooksRun) → (old : List ℕ) → (number need : ℕ) → (new : List ℕ)
    → Type 0
TellsRun t pos before run old number need new =
    MatchBool (nat_lt pos (length (shown_of t)))
    ((looks : Looks) × IsRun (shown_of t) pos run.end looks × (run.colour ≡ looks.colour) × (run.offset ≡ looks.offset)
    × Puts looks.font old number need new)
    (PutsNone OUT_OF_TEXT old number need new × (run ≡ before))

-- How many shown characters a named one is or has before it, and whether it is shown itself; or it isn't here, and
-- nothing is written.
abbrev pub FindsPlace : TextState → CharName → (number : ℕ) → (old new : Place) → Type 0
FindsPlace t name number old new =
    ((number ≡ 0) × IsAnchor t.operations (At name) × IsPlace t.operations (At name) new.pos
    × (IsTrue new.is_shown ↔ (anchor_before (shown_of t) new.pos ≡ At name)))
    ⊎ ((number ≡ NO_NAME) × (IsAnchor t.operations (At name) → ⊥) × (new ≡ old))

-- the same of these numbers, if they are a name's
abbrev pub FindsName : TextState → (site offset number : ℕ) → (old new : Place) → Type 0
FindsName t site offset number old new =
    MatchBool (nat_lt 0 site && nat_lt offset MAX_FILE) (FindsPlace t (record { site = site; off = offset }) number old new)
    ((number ≡ NO_NUMBER) × (new ≡ old))

-- the front of this site, if the number is a site's
abbrev pub TellsFront : TextState → (site number : ℕ) → (old new : ℕ) → Type 0
TellsFront t site number old new =
    MatchBool (nat_lt 0 site) ((number ≡ 0) × (new ≡ front_of t.operations site)) ((number ≡ NO_NUMBER) × (new ≡ old))

-- the sites of which operations were taken in are put there, rising; or memory was refused
abbrev pub PutsSites : TextState → (old : List ℕ) → (number need : ℕ) → (new : List ℕ) → Type 0
PutsSites t old number need new =
    ((sites : List ℕ) × AreSites t.operations sites × Puts sites old number need new)
    ⊎ PutsNone (number_of OutOfMemory) old number need new

-- the number of what a change does
abbrev pub number_of_kind : ChangeKind → ℕ
number_of_kind Insert = IS_INSERT
number_of_kind Delete = IS_DELETE
number_of_kind Replace = IS_REPLACE

-- changes, as C sees them
abbrev pub changes_of : List Change → List TextChange
changes_of changes = map (λ c. record { kind = number_of_kind c.kind; beg = c.beg; end = c.end }) changes

-- changes that are kept until they are put into a room that is long enough for all of them
abbrev pub Hands : List Change → (old : List TextChange) → (number need : ℕ) → (new : List TextChange) → (kept : List Change)
    → Type 0
Hands changes old number need new kept =
    Puts (changes_of changes) old number need new
    × (kept ≡ (if nat_le (length changes) (length old) then [] else changes))

-- The changes that were asked for before, and wouldn't go into a room; where there are none, what was taken in since
-- they were last asked for changed of what is shown.
abbrev pub TellsChanges : SessionState → (old : List TextChange) → (number need : ℕ) → (new : List TextChange)
    → SessionState → Type 0
TellsChanges s old number need new s' =
    (s'.sent ≡ s.sent)
    × MatchBool (nat_lt 0 (length s.told))
    (Hands s.told old number need new s'.told × (s'.text ≡ s.text))
    ((changes : List Change) × TellsOfChanges s.text changes
    × Hands changes old number need new s'.told × (s'.text ≡ all_told s.text))

-- Where noting has ended, what was reported last gives way to what is shown, and that is reported then; where changes are noted, the
-- number says so, and nothing is written.
abbrev pub TellsReplacement : SessionState → (number : ℕ) → (old new : Replacing) → SessionState → Type 0
TellsReplacement s number old new s' =
    (s'.text ≡ all_reported s.text) × KeepsTheRest s s'
    × MatchOption (replacement_of s.text) ((number ≡ STILL_NOTED) × (new ≡ old))
    (λ r. (number ≡ 0) × (new ≡ record { deleted = r.deleted; inserted = r.inserted }))
