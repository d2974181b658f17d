-- What is said over what a shelf has.
use Rattle.std.proofs.Common.{ℕ, Option, Some, None, refl}
use Rattle.std.specs.Prelude.{is_some}
use Rattle.shelf.specs.Files.{Files}
use Rattle.shelved_texts.specs.Filing.{ShelfSeen}
use Rattle.script_sites.specs.Seen.{OverBoth, OverFiles}
use Rattle.script_sites.specs.Trace.{Meanwhile, Shelved}

no_files : Files
no_files name = None

same_by : (told : Option Files) (faults : ℕ) (P : Shelved → Shelved → Type 0) → ((has : Shelved) → P has has) → OverBoth told told faults faults P
same_by None faults P holds = (no_files, no_files, holds (record { files = no_files; faults = faults }))
same_by (Some files) faults P holds = holds (record { files = files; faults = faults })

-- over a shelf that stays, what holds over each
pub over_same : (told : ShelfSeen) (P : Shelved → Shelved → Type 0) → ((has : Shelved) → P has has) → OverFiles told told P
over_same told P holds = same_by told.files told.faults P holds

weaker_by : (told told' : Option Files) (faults faults' : ℕ) (P Q : Shelved → Shelved → Type 0) → ((was now : Shelved) → P was now → Q was now)
    → OverBoth told told' faults faults' P → OverBoth told told' faults faults' Q
weaker_by None None faults faults' P Q follows (was, now, holds) =
    (was, now, follows (record { files = was; faults = faults }) (record { files = now; faults = faults' }) holds)
weaker_by None (Some now) faults faults' P Q follows holds = absurd holds
weaker_by (Some was) None faults faults' P Q follows holds = absurd holds
weaker_by (Some was) (Some now) faults faults' P Q follows holds =
    follows (record { files = was; faults = faults }) (record { files = now; faults = faults' }) holds

-- what follows of what holds
pub over_weaker : (told told' : ShelfSeen) (P Q : Shelved → Shelved → Type 0) → ((was now : Shelved) → P was now → Q was now) → OverFiles told told' P → OverFiles told told' Q
over_weaker told told' P Q follows holds = weaker_by told.files told'.files told.faults told'.faults P Q follows holds

then_by : (told between told' : Option Files) (faults middle faults' : ℕ) (P Q R : Shelved → Shelved → Type 0)
    → ((was mid then now : Shelved) → Meanwhile (is_some told) mid then → P was mid → Q then now → R was now)
    → OverBoth told between faults middle P → OverBoth between told' middle faults' Q → OverBoth told told' faults faults' R
then_by None None None faults middle faults' P Q R follows (was, mid, first) (then, now, second) = (
  was,
  now,
  follows (record { files = was; faults = faults }) (record { files = mid; faults = middle }) (record { files = then; faults = middle })
      (record { files = now; faults = faults' }) refl first second,
)
then_by None None (Some now) faults middle faults' P Q R follows first second = absurd second
then_by None (Some then) told' faults middle faults' P Q R follows first second = absurd first
then_by (Some was) None told' faults middle faults' P Q R follows first second = absurd first
then_by (Some was) (Some then) None faults middle faults' P Q R follows first second = absurd second
then_by (Some was) (Some then) (Some now) faults middle faults' P Q R follows first second =
    follows (record { files = was; faults = faults }) (record { files = then; faults = middle }) (record { files = then; faults = middle })
    (record { files = now; faults = faults' }) refl first second

-- one after the other, whatever became of the files between them
pub over_then : (told between told' : ShelfSeen) (P Q R : Shelved → Shelved → Type 0) → ((was mid then now : Shelved) → Meanwhile (is_some told.files) mid then → P was mid → Q then now → R was now)
    → OverFiles told between P → OverFiles between told' Q → OverFiles told told' R
over_then told between told' P Q R follows first second =
    then_by told.files between.files told'.files told.faults between.faults told'.faults P Q R follows first second
