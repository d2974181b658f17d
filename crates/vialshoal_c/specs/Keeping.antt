-- What the calls that keep a text as its site's file, in either form, open it from there, and save what it shows as a text's
-- file, answer and do.
use Rattle.std.specs.Prelude.{◌≡◌, ◌<◌, ◌≤◌, ◌⊎◌, ℕ, List, length, Option, Some, None}
use Rattle.looks.specs.Refusal.{number_of}
use Rattle.looks.specs.declared.refusal.Refusal.TheVariants.{BadFile, OutOfMemory}
use Rattle.text_file.specs.Files.{formatted}
use Rattle.text_file.specs.declared.TheConstants.{MAX_STORED}
use Rattle.texts.specs.Taking.{HasTakenAll}
use Rattle.texts.specs.TextState.{TextState, empty_text, shown_items}
use Rattle.kept_file.specs.KeptFiles.{IsKeptFileOf, IsNoKeptFile, kept_bytes, most_kept}
use Rattle.kept_file.specs.declared.form.KeptForm.{KeptForm}
use Rattle.vialshoal_c.specs.Outputs.{Puts, PutsNone}
use Rattle.vialshoal_c.specs.SessionState.{SessionState, session_of}
use Rattle.vialshoal_c.specs.declared.numbers.TheConstants.{ALREADY_OPEN}

-- the text is one that has this file, with what the file tells taken in, and nothing else was done to it
abbrev pub IsOfFile : List ℕ → TextState → Type 0
IsOfFile file t =
    IsKeptFileOf t.text t.site t.operations file × HasTakenAll (empty_text t.text t.site) t.operations t

-- The text of a site's file is opened; or the bytes are no site's file; or memory was refused.
abbrev pub OpensFile : List ℕ → (number : ℕ) → Option SessionState → Type 0
OpensFile file number new =
    ((number ≡ 0) × ((t : TextState) × (new ≡ Some (session_of t)) × IsOfFile file t))
    ⊎ (((number ≡ number_of BadFile) × IsNoKeptFile file × (new ≡ None))
    ⊎ ((number ≡ number_of OutOfMemory) × (new ≡ None)))

-- an empty handle opens a file; one that is open stays so
abbrev pub Opens : Option SessionState → (file : List ℕ) → (number : ℕ) → Option SessionState → Type 0
Opens (Some s) file number new = (number ≡ ALREADY_OPEN) × (new ≡ Some s)
Opens None file number new = OpensFile file number new

-- The text's file in this form is put into a room; or it has too much for one; or memory was refused.
abbrev pub PutsFile : KeptForm → TextState → (old : List ℕ) → (number need : ℕ) → (new : List ℕ) → Type 0
PutsFile form t old number need new =
    ((length t.operations ≤ most_kept form) × Puts (kept_bytes form t.text t.site t.operations) old number need new)
    ⊎ (((most_kept form < length t.operations) × PutsNone (number_of BadFile) old number need new)
    ⊎ PutsNone (number_of OutOfMemory) old number need new)

-- The formatted file of what the text shows is put into a room; or that is too much for a file; or memory was refused.
abbrev pub PutsText : TextState → (old : List ℕ) → (number need : ℕ) → (new : List ℕ) → Type 0
PutsText t old number need new =
    ((length (shown_items t) ≤ MAX_STORED) × Puts (formatted (shown_items t)) old number need new)
    ⊎ (((MAX_STORED < length (shown_items t)) × PutsNone (number_of BadFile) old number need new)
    ⊎ PutsNone (number_of OutOfMemory) old number need new)
