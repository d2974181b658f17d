-- One call of a desk is one step of every run in which the desk stands.
use Rattle.std.specs.Prelude.{◌≡◌, ◌⊎◌, ⊤, ℕ, List, [], length, Option, Some, None, Result, Ok, Err, IfOk, slice_set}
use Rattle.looks.specs.declared.refusal.Refusal.{Refusal}
use Rattle.looks.specs.declared.refusal.Refusal.TheVariants.{ReadFault, WriteFault}
use Rattle.reader_scanner.specs.declared.token.TokenValue.{TokenValue}
use Rattle.command_words.specs.declared.command.Command.{Command}
use Rattle.shelf.specs.Files.{Counts, Files}
use Rattle.shelved_texts.specs.Filing.{ShelfSeen}
use Rattle.texts.specs.TextState.{TextState, noting}
use Rattle.texts.specs.declared.edit_refusal.EditRefusal.{EditRefusal}
use Rattle.texts.specs.declared.edit_refusal.EditRefusal.TheVariants.{Whole}
use Rattle.texts.specs.declared.merge_refusal.MergeRefusal.{MergeRefusal}
use Rattle.texts.specs.declared.took.Took.{Took}
use Rattle.machine.specs.SiteTexts.{SiteTexts, IsTextOf}
use Rattle.machine.specs.Commands.{task_of}
use Rattle.machine.specs.Events.{Delivery, Event, Part, Reply, Task, ask, done, edit_reply, forgot, found, merge}
use Rattle.machine.specs.Events.{failed, merge_reply, not_found, opens, prints, refuse, refuses, sends, take, take_reply, untouched, went_well}
use Rattle.machine.specs.Machine.{Replies, message_in}
use Rattle.machine.specs.State.{IsDeskAt, State}
use Rattle.machine.specs.Windows.{Screened}
use Rattle.commands.specs.declared.answer.Answer.{Answer}
use Rattle.commands.specs.declared.answer.Answer.TheVariants.{Sent, Viewer, Found, NotFound, Forgot, Done}

-- a site's desk: its texts, and its screen
pub record DeskSeen : Type 0 where
  pub texts : SiteTexts
  pub screen : Screened

-- each text of the desk has told its changes
abbrev pub AreTold : SiteTexts → Type 0
AreTold d = (text : ℕ) (t : TextState) → IsTextOf d text t → t.asked ≡ noting (length t.operations)

-- the desk stands in the run at this index
abbrev pub StandsIn : State → ℕ → DeskSeen → Type 0
StandsIn s i d = IsDeskAt s i d.texts d.screen

-- the run, with this desk at the index, and these messages sent
abbrev pub with_desk : State → ℕ → DeskSeen → List (List ℕ) → State
with_desk s i d sent = record s {
  desks = slice_set s.desks i d.texts;
  screens = slice_set s.screens i d.screen;
  sent = sent;
}

-- Wherever the desk stands in a run, this event is replied to so, and goes on to the run with the new desk; nothing is sent,
-- and no file asked for.
abbrev pub IsStep : DeskSeen → (ℕ → Event) → Reply → DeskSeen → Type 0
IsStep d event r new = (s : State) (i : ℕ) → StandsIn s i d
    → Replies s (event i) untouched r (with_desk s i new s.sent)

-- the same of an edit, which answers how many messages it put after those that were sent
abbrev pub IsEditStep : DeskSeen → (ℕ → Event) → Result ℕ EditRefusal → DeskSeen
    → (before after : List (List ℕ)) → Type 0
IsEditStep d event result new before after = (messages : List (List ℕ)) × IfOk result (λ count. count ≡ length messages)
    × ((s : State) (i : ℕ) → StandsIn s i d → s.sent ≡ before
    → Replies s (event i) untouched (edit_reply result messages) (with_desk s i new after))

-- the same of a message for one of its texts, however it is told
abbrev pub IsTakeStep : DeskSeen → (text : ℕ) → (message : List ℕ) → Result Took Refusal → DeskSeen → Type 0
IsTakeStep d text message result new = (s : State) (i : ℕ) (delivery : Delivery) → StandsIn s i d
    → message_in s delivery ≡ Some message
    → Replies s (take i text delivery) untouched (take_reply result) (with_desk s i new s.sent)

-- the same of a merge of another desk's text of this number, wherever that stands
abbrev pub IsMergeStep : DeskSeen → (text : ℕ) → (other : DeskSeen) → Result ℕ MergeRefusal → DeskSeen → Type 0
IsMergeStep d text other result new = (s : State) (i j : ℕ) → StandsIn s i d → StandsIn s j other
    → Replies s (merge i text j) untouched (merge_reply result) (with_desk s i new s.sent)

-- in a call in which the files failed a failure was counted, and in no other
abbrev pub Counted : Part → (faults faults' : ℕ) → Type 0
Counted untouched faults faults' = faults' ≡ faults
Counted went_well faults faults' = faults' ≡ faults
Counted (failed left) faults faults' = Counts faults faults'

-- The files that a shelf tells before a call and after it: these; any, where it tells none.
abbrev pub AreFilesOf : (reported reported' : Option Files) → (files files' : Files) → Type 0
AreFilesOf None None files files' = ⊤
AreFilesOf None (Some now) files files' = ⊥
AreFilesOf (Some was) None files files' = ⊥
AreFilesOf (Some was) (Some now) files files' = (files ≡ was) × (files' ≡ now)

-- the reply to a command that answered so, with these messages
abbrev pub answer_reply : Result Answer EditRefusal → List (List ℕ) → Reply
answer_reply (Ok (Sent count)) messages = (sends messages)
answer_reply (Ok (Viewer number)) messages = opens number
answer_reply (Ok (Found at)) messages = found at
answer_reply (Ok NotFound) messages = not_found
answer_reply (Ok (Forgot count)) messages = forgot count
answer_reply (Ok Done) messages = done
answer_reply (Err why) messages = (edit_reply (Err why) messages)

-- what an edit answers, as a command does
abbrev pub sent_answer : Result ℕ EditRefusal → Result Answer EditRefusal
sent_answer (Ok count) = Ok (Sent count)
sent_answer (Err why) = Err why

-- what a writing answers, as a command does
abbrev pub written_answer : Result (Unit {0}) Refusal → Result Answer EditRefusal
written_answer (Ok _) = Ok Done
written_answer (Err why) = Err (Whole why)

-- a command that sent messages answers how many
abbrev pub CountsSent : Result Answer EditRefusal → List (List ℕ) → Type 0
CountsSent (Ok (Sent count)) messages = count ≡ length messages
CountsSent other messages = ⊤

-- Wherever the desk stands in a run, over the files that the shelf tells, this event is replied to so, with some part of the
-- files in it, and goes on to the run with the new desk, over the files that the shelf tells after. Of a shelf that tells
-- none this holds over some files. Where the files failed, the shelf counted it.
abbrev pub IsShelfStep : DeskSeen → (ℕ → Event) → Result Answer EditRefusal → DeskSeen
    → (before after : List (List ℕ)) → (reported reported' : ShelfSeen) → Type 0
IsShelfStep d event result new before after reported reported' =
    (messages : List (List ℕ)) × (part : Part) × (files files' : Files) × CountsSent result messages
    × AreFilesOf reported.files reported'.files files files' × Counted part reported.faults reported'.faults
    × ((s : State) (i : ℕ) → StandsIn s i d → s.sent ≡ before → s.files ≡ files
    → Replies s (event i) part (answer_reply result messages) (record (with_desk s i new after) { files = files' }))

-- a task that sends nothing and asks for no file
abbrev pub IsTaskStep : DeskSeen → Task → Result Answer EditRefusal → DeskSeen → Type 0
IsTaskStep d task result new = CountsSent result [] × IsStep d (λ i. ask i task) (answer_reply result []) new

-- the task of a command in a viewer on a text, whose parameter was told so
abbrev pub task_told : SiteTexts → Screened → Command → Result TokenValue Refusal → (viewer text : ℕ) → Task
task_told d w command (Ok value) viewer text = task_of d w command value viewer text
task_told d w command (Err why) viewer text = refuse why

-- the shelf failed
abbrev pub IsFault : Result Answer EditRefusal → Type 0
IsFault result = (result ≡ Err (Whole ReadFault)) ⊎ (result ≡ Err (Whole WriteFault))

-- the reply to a query or a view that answered so, with these bytes
abbrev pub print_reply : {X : Type 0} → Result X Refusal → (X → List ℕ) → Reply
print_reply (Ok lines) bytes_of = prints (bytes_of lines)
print_reply (Err why) bytes_of = refuses why

-- the reply to an opening
abbrev pub open_reply : Result ℕ Refusal → Reply
open_reply (Ok viewer) = opens viewer
open_reply (Err why) = (refuses why)

-- the reply to another arrangement
abbrev pub done_reply : Result (Unit {0}) Refusal → Reply
done_reply (Ok _) = done
done_reply (Err why) = (refuses why)
