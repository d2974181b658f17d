-- What a text tells of the changes of what is shown, while they are noted and when that has ended.
use Rattle.std.specs.Prelude.{◌≡◌, ℕ, zero, suc, List, [], ◌∷◌, ◌++◌, length, Option, Some, None}
use Rattle.char_files.specs.declared.character.Char.{Char}
use Rattle.list_changes.specs.Changes.{Leads}
use Rattle.list_changes.specs.declared.change.Change.{Change}
use Rattle.list_changes.specs.declared.change.ChangeKind.TheVariants.{Delete}
use Rattle.operations.specs.Operation.{Operation}
use Rattle.taken_text.specs.Noted.{AreChangesSince, SameChar, insertion_of}
use Rattle.texts.specs.TextState.{Asked, TextState, noting, ended, shown_of}
use Rattle.texts.specs.declared.replacement.Replacement.{Replacement}

-- The changes tell what the operations made of what is shown that were taken in since the changes were last asked for; where
-- noting has ended there are none.
abbrev pub AreAskedFor : Asked → List Operation → List Change → (now : List Char) → Type 0
AreAskedFor (noting told) ops changes now = AreChangesSince told ops changes now
AreAskedFor (ended shown) ops changes now = changes ≡ []

-- the same of what a text is asked
abbrev pub TellsOfChanges : TextState → List Change → Type 0
TellsOfChanges t changes = AreAskedFor t.asked t.operations changes (shown_of t)

-- the same text, in which no change is noted any more, and so many characters were reported
abbrev pub noting_ended : TextState → (shown : ℕ) → TextState
noting_ended t shown = record t { asked = ended shown }

-- all that was reported last gives way to so many characters; nothing is told so where changes are noted
abbrev pub replaced_by : ℕ → Asked → Option Replacement
replaced_by len (noting told) = None
replaced_by len (ended shown) = Some (record { deleted = shown; inserted = len })

-- what was reported last of a text gives way to what it shows
abbrev pub replacement_of : TextState → Option Replacement
replacement_of t = replaced_by (length (shown_of t)) t.asked

-- so many characters are reported, if noting has ended
abbrev pub reported_to : ℕ → Asked → Asked
reported_to len (noting told) = noting told
reported_to len (ended shown) = ended len

-- the same text, of which all that it shows was reported
abbrev pub all_reported : TextState → TextState
all_reported t = record t { asked = reported_to (length (shown_of t)) t.asked }

-- one deletion of so many characters; none of no characters
abbrev pub deletion_of : ℕ → List Change
deletion_of zero = []
deletion_of (suc n) = record { kind = Delete; beg = 0; end = suc n } ∷ []

-- a replacement as changes, two of them at most
abbrev pub changes_of_replacement : Replacement → List Change
changes_of_replacement r = deletion_of r.deleted ++ insertion_of r.inserted

-- a replacement leads from whatever has the length that it takes out to whatever has the length that it puts in
abbrev pub ReplacementsLead : Type 0
ReplacementsLead = (r : Replacement) (was now : List Char) → length was ≡ r.deleted → length now ≡ r.inserted
    → Leads SameChar (changes_of_replacement r) was now
