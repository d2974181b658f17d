-- What a file makes of a desk's text, and how often the shelf is asked to write one.
use Rattle.std.specs.Prelude.{◌≡◌, ◌⊎◌, ◌==◌, ◌&&◌, ℕ, List, MatchBool, Option, Result, Ok, Err}
use Rattle.looks.specs.declared.refusal.Refusal.TheVariants.{WriteFault, WrongText}
use Rattle.shelf.specs.Files.{Write, with_write}
use Rattle.shelved_texts.specs.Filing.{WritesOnce}
use Rattle.texts.specs.TextState.{TextState, all_told, shown_items}
use Rattle.text_file.specs.Files.{formatted}
use Rattle.kept_file.specs.KeptFiles.{kept_bytes}
use Rattle.kept_file.specs.declared.form.KeptForm.{KeptForm}
use Rattle.texts.specs.declared.edit_refusal.EditRefusal.{EditRefusal}
use Rattle.texts.specs.declared.edit_refusal.EditRefusal.TheVariants.{Whole}
use Rattle.machine.specs.SiteTexts.{IsTextOf, with_text}
use Rattle.commands.specs.Steps.{DeskSeen}
use Rattle.commands.specs.declared.answer.Answer.{Answer}
use Rattle.commands.specs.declared.answer.Answer.TheVariants.{Done}

-- a text begins as it was kept, and has told its changes; or that is another text's, or another site's
abbrev pub BeginsSo : DeskSeen → (text : ℕ) → (kept : TextState) → Result Answer EditRefusal → DeskSeen → Type 0
BeginsSo d text kept result new =
    (t : TextState) × IsTextOf d.texts text t
    × MatchBool (kept.text == t.text && kept.site == t.site)
    ((result ≡ Ok Done) × (new ≡ record d { texts = with_text d.texts text (all_told kept) }))
    ((result ≡ Err (Whole WrongText)) × (new ≡ d))

-- the shelf was asked for one write of what a text shows, or of all that it has taken in; or for none
abbrev pub StoresOnce : TextState → (name : List ℕ) → (was now : Option (List Write)) → Result Answer EditRefusal → Type 0
StoresOnce t name = WritesOnce (Whole WriteFault) name (formatted (shown_items t))

abbrev pub KeepsOnce : KeptForm → TextState → (name : List ℕ) → (was now : Option (List Write)) → Result Answer EditRefusal → Type 0
KeepsOnce form t name = WritesOnce (Whole WriteFault) name (kept_bytes form t.text t.site t.operations)

-- the shelf was asked for one write at most
abbrev pub WritesOnceAtMost : (was now : Option (List Write)) → Type 0
WritesOnceAtMost was now = (now ≡ was) ⊎ ((name : List ℕ) × (file : List ℕ) × (now ≡ with_write name file was))
