-- The machine of events: what a run's sites may reply to an event, and how the run goes on.
use Rattle.std.specs.Prelude.{◌≡◌, ℕ, ◌-◌, ◌⊎◌, ◌==◌, if◌then◌else◌, List, [], Option, Some, None, MatchOption, slice_get}
use Rattle.std.specs.Prelude.{IsTrue, false, true}
use Rattle.looks.specs.declared.refusal.Refusal.TheVariants.{BadEvent, OutOfMemory}
use Rattle.texts.specs.TextState.{TextState}
use Rattle.machine.specs.Commands.{IsTaskAt}
use Rattle.machine.specs.SiteTexts.{SiteTexts}
use Rattle.machine.specs.Events.{Delivery, Event, Part, Reply, Task, ask, bytes, click, copy, edit, edit_by_names, merge, messages_of}
use Rattle.machine.specs.Events.{query, sent, settle, take, unknown, unpack, untouched}
use Rattle.machine.specs.OnTexts.{CopiesText, CopiesTextShort, EditsNames, EditsNamesShort, MergesText, MergesTextShort, QueriesText}
use Rattle.machine.specs.OnTexts.{SettlesText, TakesText}
use Rattle.machine.specs.OnTexts.{TakesTextShort, UnpacksText, UnpacksTextShort, is_asked_in}
use Rattle.machine.specs.State.{AtText, IsDeskAt, IsTextAt, Refuses, State}
use Rattle.machine.specs.Tasks.{DoesTask, EditsAt, EditsShortAt, ShortTask}
use Rattle.machine.specs.Windows.{Screened}

-- the message that is told; none where that number wasn't sent yet
abbrev pub message_in : State → Delivery → Option (List ℕ)
message_in s (sent k) = if k == 0 then None else slice_get s.sent (k - 1)
message_in s (bytes message) = Some message

-- What an event does where memory is there, with this part of the files: its reply, and the state after it.
abbrev pub Does : State → Event → Part → Reply → State → Type 0
Does s (edit i text e) part r new = (part ≡ untouched) × EditsAt s i text e r new
Does s (edit_by_names i text what names) part r new =
    (part ≡ untouched) × AtText (EditsNames what names r) s i text (messages_of r) new
Does s (copy i text beg end other pos) part r new =
    (part ≡ untouched)
    × ((t : TextState) × IsTextAt s i text t × AtText (CopiesText t beg end pos r) s i other (messages_of r) new)
Does s (take i text d) part r new =
    (part ≡ untouched)
    × MatchOption (message_in s d) (Refuses s BadEvent r new) (λ message. AtText (TakesText message r) s i text [] new)
Does s (unpack i text chunk) part r new = (part ≡ untouched) × AtText (UnpacksText chunk r) s i text [] new
Does s (settle i text) part r new = (part ≡ untouched) × AtText (SettlesText false r) s i text [] new
Does s (merge i text j) part r new =
    (part ≡ untouched) × ((u : TextState) × IsTextAt s j text u × AtText (MergesText u r) s i text [] new)
Does s (query i text q) part r new =
    (part ≡ untouched) × (new ≡ s) × ((t : TextState) × IsTextAt s i text t × QueriesText q r t)
Does s (ask i t) part r new =
    (d : SiteTexts) × (w : Screened) × IsDeskAt s i d w × DoesTask s i d w t part r new
Does s (click i col row) part r new =
    (d : SiteTexts) × (w : Screened) × (t : Task) × IsDeskAt s i d w × IsTaskAt d w col row t × DoesTask s i d w t part r new
Does s unknown part r new = (part ≡ untouched) × Refuses s BadEvent r new

-- What it does where memory was refused, in the shapes that all events share: nothing was done; or the first operations of an
-- edit or a merge stand; or a draining was stopped.
abbrev pub Short : State → Event → Part → Reply → State → Type 0
Short s (edit i text e) part r new = (part ≡ untouched) × EditsShortAt s i text e r new
Short s (edit_by_names i text what names) part r new =
    (part ≡ untouched) × AtText (EditsNamesShort what names r) s i text (messages_of r) new
Short s (copy i text beg end other pos) part r new =
    (part ≡ untouched)
    × ((t : TextState) × IsTextAt s i text t × AtText (CopiesTextShort t beg end pos r) s i other (messages_of r) new)
Short s (take i text d) part r new =
    (part ≡ untouched)
    × ((message : List ℕ) × (message_in s d ≡ Some message) × AtText (TakesTextShort message r) s i text [] new)
Short s (unpack i text chunk) part r new = (part ≡ untouched) × AtText (UnpacksTextShort chunk r) s i text [] new
Short s (settle i text) part r new = (part ≡ untouched) × AtText (SettlesText true r) s i text [] new
Short s (merge i text j) part r new =
    (part ≡ untouched) × ((u : TextState) × IsTextAt s j text u × AtText (MergesTextShort u r) s i text [] new)
Short s (query i text q) part r new =
    (part ≡ untouched) × ((t : TextState) × IsTextAt s i text t × IsTrue (is_asked_in t q)) × Refuses s OutOfMemory r new
Short s (ask i t) part r new =
    (d : SiteTexts) × (w : Screened) × IsDeskAt s i d w × ShortTask s i d w t part r new
Short s (click i col row) part r new =
    (d : SiteTexts) × (w : Screened) × (t : Task) × IsDeskAt s i d w × IsTaskAt d w col row t × ShortTask s i d w t part r new
Short s unknown part r new = ⊥

-- the machine may reply so to the event, with this part of the files, and go on to new
abbrev pub Replies : State → Event → Part → Reply → State → Type 0
Replies s e part r new = Does s e part r new ⊎ Short s e part r new
