-- What a desk's private calls do to one of its texts.
use Rattle.std.specs.Prelude.{◌≡◌, ℕ, ◌-◌, ◌≤◌, ◌⊎◌, List, slice_range, Result, Ok, Err, IsTrue}
use Rattle.looks.specs.declared.refusal.Refusal.{Refusal}
use Rattle.char_files.specs.Stretch.{Item}
use Rattle.char_files.specs.declared.TheConstants.{MAX_FILE}
use Rattle.texts.specs.TextState.{TextState, shown_items}
use Rattle.machine.specs.Events.{refuses}
use Rattle.machine.specs.OnTexts.{CopiesText, CopiesTextShort, is_copy_in}

-- What a copy out of t is to put into u; or why it puts nothing in.
abbrev pub CopiesOut : TextState → (beg end pos : ℕ) → TextState → Result (List Item) Refusal → Type 0
CopiesOut t beg end pos u (Ok items) =
    IsTrue (is_copy_in t u beg end pos) × (end - beg ≤ MAX_FILE)
    × (items ≡ slice_range (shown_items t) beg end)
CopiesOut t beg end pos u (Err why) =
    CopiesText t beg end pos (refuses why) u u ⊎ CopiesTextShort t beg end pos (refuses why) u u
