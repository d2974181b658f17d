-- What is read of a shelf and written to it.
use Rattle.std.specs.Prelude.{◌≡◌, ◌≢◌, ◌⊎◌, ℕ, ◌<◌, ◌≤◌, List, length, Option, Result, Ok, Err}
use Rattle.looks.specs.declared.refusal.Refusal.{Refusal}
use Rattle.looks.specs.declared.refusal.Refusal.TheVariants.{BadFile, OutOfMemory, ReadFault, WriteFault}
use Rattle.char_files.specs.Stretch.{Item}
use Rattle.shelf.specs.Files.{Counts, Files, HasFile, IsThere, OthersStay, Write, with_write}
use Rattle.text_file.specs.Files.{IsFileOf, IsNoFile, formatted}
use Rattle.text_file.specs.declared.TheConstants.{MAX_STORED}
use Rattle.texts.specs.Taking.{HasTakenAll}
use Rattle.texts.specs.TextState.{TextState, empty_text, shown_items}
use Rattle.kept_file.specs.KeptFiles.{IsKeptFileOf, IsNoKeptFile, kept_bytes, most_kept}
use Rattle.kept_file.specs.declared.form.KeptForm.{KeptForm}

-- what a shelf tells before a call, or after it: its files, if it tells them, and how many calls have failed
pub record ShelfSeen : Type 0 where
  pub files : Option Files
  pub faults : ℕ

abbrev pub shelf_seen : Option Files → ℕ → ShelfSeen
shelf_seen files faults = record { files = files; faults = faults }

-- why what a file is to tell wasn't read: the shelf failed; or memory was short, of a file that is there; or the file tells
-- no such thing
abbrev pub ReadsNot : (IsNone : List ℕ → Type 0) → (reported reported' : ShelfSeen) → (name : List ℕ) → Refusal → Type 0
ReadsNot IsNone reported reported' name why =
    ((why ≡ ReadFault) × Counts reported.faults reported'.faults)
    ⊎ ((why ≡ OutOfMemory) × IsThere reported.files name × (reported'.faults ≡ reported.faults))
    ⊎ ((why ≡ BadFile) × (reported'.faults ≡ reported.faults) × ((file : List ℕ) × HasFile reported.files name file × IsNone file))

-- the text of a file was read, or not
abbrev pub ReadsText : (reported reported' : ShelfSeen) → (name : List ℕ) → Result (List Item) Refusal → Type 0
ReadsText reported reported' name (Ok items) =
    (file : List ℕ) × HasFile reported.files name file × IsFileOf items file × (reported'.faults ≡ reported.faults)
ReadsText reported reported' name (Err why) = ReadsNot IsNoFile reported reported' name why

-- a text was read from its site's file, with nothing else done to it; or not
abbrev pub ReadsSite : (reported reported' : ShelfSeen) → (name : List ℕ) → Result TextState Refusal → Type 0
ReadsSite reported reported' name (Ok t) = (file : List ℕ) × HasFile reported.files name file × IsKeptFileOf t.text t.site t.operations file
    × HasTakenAll (empty_text t.text t.site) t.operations t × (reported'.faults ≡ reported.faults)
ReadsSite reported reported' name (Err why) = ReadsNot IsNoKeptFile reported reported' name why

-- why a file wasn't written: there is too much for one, and memory may be short, and no file changed; or the shelf failed
abbrev pub WritesNot : (much most : ℕ) → (name : List ℕ) → (reported reported' : ShelfSeen) → Refusal → Type 0
WritesNot much most name reported reported' why =
    ((why ≡ BadFile) × (most < much) × (reported' ≡ reported)) ⊎ ((why ≡ OutOfMemory) × (much ≤ most) × (reported' ≡ reported))
    ⊎ ((why ≡ WriteFault) × (much ≤ most) × OthersStay reported.files reported'.files name × Counts reported.faults reported'.faults)

-- a file was written, and no other file changed; or not
abbrev pub WritesFile : (much most : ℕ) → (name file : List ℕ) → (reported reported' : ShelfSeen) → Result (Unit {0}) Refusal
    → Type 0
WritesFile much most name file reported reported' (Ok _) =
    (much ≤ most) × HasFile reported'.files name file × OthersStay reported.files reported'.files name × (reported'.faults ≡ reported.faults)
WritesFile much most name file reported reported' (Err why) = WritesNot much most name reported reported' why

-- what a text shows was written as a formatted file
abbrev pub WritesText : TextState → (name : List ℕ) → (reported reported' : ShelfSeen) → Result (Unit {0}) Refusal → Type 0
WritesText t name = WritesFile (length (shown_items t)) MAX_STORED name (formatted (shown_items t))

-- all that a text has taken in was written as its site's file in this form
abbrev pub WritesSite : KeptForm → TextState → (name : List ℕ) → (reported reported' : ShelfSeen) → Result (Unit {0}) Refusal → Type 0
WritesSite form t name = WritesFile (length t.operations) (most_kept form) name (kept_bytes form t.text t.site t.operations)

-- The shelf was asked for one write, of this file under this name; or for none, where the file was refused before. What is
-- answered where the shelf fails is answered after the write alone, and nothing else is refused then.
abbrev pub WritesOnce : {X E : Type 0} → (fault : E) → (name file : List ℕ) → (was now : Option (List Write)) → Result X E → Type 0
WritesOnce fault name file was now (Ok _) = now ≡ with_write name file was
WritesOnce fault name file was now (Err why) =
    ((now ≡ was) × (why ≢ fault)) ⊎ ((now ≡ with_write name file was) × (why ≡ fault))
