-- What may happen, and what is replied.
use Rattle.std.specs.Prelude.{ℕ, List, [], Bool, Option, Result, Ok, Err}
use Rattle.looks.specs.declared.refusal.Refusal.{Refusal}
use Rattle.looks.specs.declared.refusal.Refusal.TheVariants.{OutOfMemory}
use Rattle.char_files.specs.Stretch.{Item}
use Rattle.operations.specs.NameSet.{Range}
use Rattle.texts.specs.Edit.{Edit}
use Rattle.texts.specs.declared.by_names.ByNames.{ByNames}
use Rattle.texts.specs.declared.edit_refusal.EditRefusal.{EditRefusal}
use Rattle.texts.specs.declared.edit_refusal.EditRefusal.TheVariants.{Whole, Partial}
use Rattle.texts.specs.declared.merge_refusal.MergeRefusal.{MergeRefusal}
use Rattle.texts.specs.declared.merge_refusal.MergeRefusal.TheVariants.{Whole as MergesNothing, Stopped}
use Rattle.texts.specs.declared.took.Took.{Took}
use Rattle.kept_file.specs.declared.form.KeptForm.{KeptForm}
use Rattle.text_chunks.specs.declared.unpacked.UnpackRefusal.{UnpackRefusal}
use Rattle.text_chunks.specs.declared.unpacked.UnpackRefusal.TheVariants.{Whole as UnpacksNothing, Partial as UnpacksPart}
use Rattle.text_chunks.specs.declared.unpacked.Unpacked.{Unpacked}
use Rattle.machine.specs.declared.asked.Arrangement.{Arrangement}
use Rattle.machine.specs.declared.asked.Query.{Query}
use Rattle.machine.specs.declared.asked.View.{View}

-- How a message is told that is taken: as the run's k-th, from 1, or by its bytes.
pub data Delivery : Type 0 where
  sent : (k : ℕ) → Delivery
  bytes : (message : List ℕ) → Delivery

-- What a desk is asked beside the events of its texts. To put characters in, or the recalled stretch, or a file's text, is
-- done at the caret, and a search begins there; a text that is kept is written to its site's file, in one of two forms, with all
-- that it has taken in, and a text in which nothing was done yet begins as such a file tells; a command that can't be done is refused for this.
pub data Task : Type 0 where
  refuse : (why : Refusal) → Task
  insert_at_caret : (items : List Item) → Task
  recall_at_caret : Task
  load : (name : List ℕ) → Task
  store : (text : ℕ) (name : List ℕ) → Task
  search : (bytes : List ℕ) → Task
  change : (text : ℕ) (e : Edit) → Task
  forget : (text : ℕ) → Task
  arrange : (a : Arrangement) → Task
  print : (v : View) → Task
  keep : (form : KeptForm) (text : ℕ) (name : List ℕ) → Task
  reopen : (text : ℕ) (name : List ℕ) → Task

-- What may happen. A desk is told by its index among the run's. An edit is a site's own, of one of its texts, by positions or by
-- names; a copy puts what is shown from beg to end of one of its texts into another one, or the same; a taking hands a message
-- to one of its texts, an unpacking a chunk; a settling drains what waits there; a merge takes in what the text of this number on
-- another desk, or on the same, holds; a query prints a part of a text; a desk is asked a task, or a cell of its screen is clicked;
-- what else a line asks is nothing that there is.
pub data Event : Type 0 where
  edit : (desk text : ℕ) (e : Edit) → Event
  edit_by_names : (desk text : ℕ) (what : ByNames) (names : List Range) → Event
  copy : (desk text beg end other pos : ℕ) → Event
  take : (desk text : ℕ) (d : Delivery) → Event
  unpack : (desk text : ℕ) (chunk : List ℕ) → Event
  settle : (desk text : ℕ) → Event
  merge : (desk text other : ℕ) → Event
  query : (desk text : ℕ) (q : Query) → Event
  ask : (desk : ℕ) (t : Task) → Event
  click : (desk col row : ℕ) → Event
  unknown : Event

-- The files' part in an event: nothing came to them or from them; or they did what they were asked; or they failed, and a
-- file that was to be written is left so.
pub data Part : Type 0 where
  untouched : Part
  went_well : Part
  failed : (left : Option (List ℕ)) → Part

-- What is replied: the messages that an edit of which all operations stand sent; what taking a message or unpacking a chunk did;
-- what draining did; how many operations a merge took in; the lines of a query or of a view; the viewer that was opened; up to where
-- was found what was looked for, or that it wasn't; how many operations that waited were thrown away; that it was done; why
-- nothing was done; the messages of the first operations of an edit or a merge, how many stand, and why the next one doesn't; or
-- how many operations of a chunk were handed in, and why the next one was refused.
pub data Reply : Type 0 where
  sends : (messages : List (List ℕ)) → Reply
  takes : (took : Took) → Reply
  unpacks : (counts : Unpacked) → Reply
  settles : (drained dropped : ℕ) (stopped : Bool) → Reply
  merges : (count : ℕ) → Reply
  prints : (lines : List ℕ) → Reply
  opens : (viewer : ℕ) → Reply
  found : (pos : ℕ) → Reply
  not_found : Reply
  forgot : (count : ℕ) → Reply
  done : Reply
  refuses : (why : Refusal) → Reply
  stops : (messages : List (List ℕ)) (count : ℕ) (why : Refusal) → Reply
  unpacks_first : (count : ℕ) (why : Refusal) → Reply

-- the reply to an edit that answered so, with these messages
abbrev pub edit_reply : Result ℕ EditRefusal → List (List ℕ) → Reply
edit_reply (Ok count) messages = sends messages
edit_reply (Err (Whole why)) messages = refuses why
edit_reply (Err (Partial count why)) messages = stops messages count why

-- the reply to a message that was answered so
abbrev pub take_reply : Result Took Refusal → Reply
take_reply (Ok took) = takes took
take_reply (Err why) = refuses why

-- the reply to a chunk that was answered so
abbrev pub unpack_reply : Result Unpacked UnpackRefusal → Reply
unpack_reply (Ok counts) = unpacks counts
unpack_reply (Err (UnpacksNothing why)) = refuses why
unpack_reply (Err (UnpacksPart count why)) = unpacks_first count why

-- the reply to a merge that was answered so; a merge sends no messages
abbrev pub merge_reply : Result ℕ MergeRefusal → Reply
merge_reply (Ok count) = merges count
merge_reply (Err (MergesNothing why)) = refuses why
merge_reply (Err (Stopped count)) = stops [] count OutOfMemory

-- the messages that a reply tells
abbrev pub messages_of : Reply → List (List ℕ)
messages_of (sends messages) = messages
messages_of (stops messages count why) = messages
messages_of other = []
