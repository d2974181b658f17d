-- Events as the code has them, seen as the machine's.
use Rattle.std.specs.Prelude.{ℕ, ◌<◌, ◌≤◌, Option, length, option_map, unwrap_or}
use Rattle.char_files.specs.Plain.{plain_items}
use Rattle.texts.specs.Edit.{Edit as AskedEdit, deletion, looks_change, recalling, restoration}
use Rattle.machine.specs.Events.{Delivery as AskedDelivery, Event as AskedEvent, arrange, ask, bytes as by_bytes, click, copy}
use Rattle.machine.specs.Events.{edit, edit_by_names, keep, merge, print, insert_at_caret, query, reopen, sent, settle, take, unknown, unpack}
use Rattle.machine.specs.declared.TheConstants.{MAX_TEXT}
use Rattle.machine.specs.declared.asked.Arrangement.{Arrangement}
use Rattle.machine.specs.declared.asked.Arrangement.TheVariants.{Close, Move, Open, Point, Scroll, Select}
use Rattle.script_events.specs.declared.event.Delivery.{Delivery}
use Rattle.script_events.specs.declared.event.Delivery.TheVariants.{Sent, Bytes}
use Rattle.script_events.specs.declared.event.Edit.{Edit}
use Rattle.script_events.specs.declared.event.Edit.TheVariants.{TypeIn, Cut, Looks, Recall, Restore}
use Rattle.script_events.specs.declared.event.Event.{Event}
use Rattle.script_events.specs.declared.event.Event.TheVariants.{AsksAt, Edits, EditsByNames, Saves, Takes, Settles, Merges, Queries}
use Rattle.script_events.specs.declared.event.Event.TheVariants.{Arranges, Clicks, Keeps, Keys, Prints, Reopens, Unpacks}
use Rattle.script_events.specs.Script.{query_at, typing}

-- an edit, with its bytes decoded
abbrev pub edit_of : Edit → AskedEdit
edit_of (TypeIn pos typed) = typing pos typed
edit_of (Cut beg end) = deletion beg end
edit_of (Looks beg end sel looks) = looks_change beg end sel looks
edit_of (Recall pos) = recalling pos
edit_of Restore = restoration

-- how a message is told, with its hex decoded
abbrev pub delivery_of : Delivery → AskedDelivery
delivery_of (Sent k) = sent k
delivery_of (Bytes message) = by_bytes message

-- what was parsed, as the machine's event
abbrev pub event_of : Event → AskedEvent
event_of (Edits desk text e) = edit desk text (edit_of e)
event_of (EditsByNames desk text what names) = edit_by_names desk text what names
event_of (Saves desk text save) = copy desk text save.beg save.end save.other save.pos
event_of (Takes desk text d) = take desk text (delivery_of d)
event_of (Unpacks desk text chunk) = unpack desk text chunk
event_of (Settles desk text) = settle desk text
event_of (Merges desk text other) = merge desk text other
event_of (Queries desk text q) = query desk text q
event_of (AsksAt desk text side fronts) = query desk text (query_at side fronts)
event_of (Keeps desk form text name) = ask desk (keep form text name.now)
event_of (Reopens desk text name) = ask desk (reopen text name.now)
event_of (Arranges desk arrangement) = ask desk (arrange arrangement)
event_of (Prints desk what) = ask desk (print what)
event_of (Keys desk bytes) = ask desk (insert_at_caret (plain_items bytes))
event_of (Clicks desk cell) = click desk cell.col cell.row

-- what was parsed, or nothing that there is
abbrev pub event_or_unknown : Option Event → AskedEvent
event_or_unknown parsed = unwrap_or (option_map event_of parsed) unknown

-- a text that is opened is a desk's
abbrev pub OpensDeskText : Arrangement → Type 0
OpensDeskText (Open track text row) = text ≤ MAX_TEXT
OpensDeskText (Close viewer) = Unit {0}
OpensDeskText (Move viewer row) = Unit {0}
OpensDeskText (Scroll viewer line) = Unit {0}
OpensDeskText (Point cell) = Unit {0}
OpensDeskText (Select beg end) = Unit {0}

-- its desks are of the run's count, and its texts are a desk's
abbrev pub IsInRun : ℕ → Event → Type 0
IsInRun count (Edits desk text e) = (desk < count) × (text ≤ MAX_TEXT)
IsInRun count (EditsByNames desk text what names) = (desk < count) × (text ≤ MAX_TEXT)
IsInRun count (Saves desk text save) = (desk < count) × (text ≤ MAX_TEXT) × (save.other ≤ MAX_TEXT)
IsInRun count (Takes desk text d) = (desk < count) × (text ≤ MAX_TEXT)
IsInRun count (Unpacks desk text chunk) = (desk < count) × (text ≤ MAX_TEXT)
IsInRun count (Settles desk text) = (desk < count) × (text ≤ MAX_TEXT)
IsInRun count (Merges desk text other) = (desk < count) × (text ≤ MAX_TEXT) × (other < count)
IsInRun count (Queries desk text q) = (desk < count) × (text ≤ MAX_TEXT)
IsInRun count (AsksAt desk text side fronts) = (desk < count) × (text ≤ MAX_TEXT)
IsInRun count (Keeps desk form text name) = (desk < count) × (text ≤ MAX_TEXT)
IsInRun count (Reopens desk text name) = (desk < count) × (text ≤ MAX_TEXT)
IsInRun count (Arranges desk arrangement) = (desk < count) × OpensDeskText arrangement
IsInRun count (Prints desk what) = desk < count
IsInRun count (Keys desk bytes) = desk < count
IsInRun count (Clicks desk cell) = desk < count

-- what an edit types has so many bytes at most
abbrev pub TypesAtMost : ℕ → Edit → Type 0
TypesAtMost len (TypeIn pos typed) = length typed ≤ len
TypesAtMost len (Cut beg end) = Unit {0}
TypesAtMost len (Looks beg end sel looks) = Unit {0}
TypesAtMost len (Recall pos) = Unit {0}
TypesAtMost len Restore = Unit {0}

-- a message that is told by its bytes has so many at most
abbrev pub IsDeliveryWithin : ℕ → Delivery → Type 0
IsDeliveryWithin len (Sent k) = Unit {0}
IsDeliveryWithin len (Bytes message) = length message ≤ len

-- the bytes, fronts and names that an event tells are no more than the bytes of a line of this length
abbrev pub IsOfLine : ℕ → Event → Type 0
IsOfLine len (Edits desk text e) = TypesAtMost len e
IsOfLine len (EditsByNames desk text what names) = length names ≤ len
IsOfLine len (Saves desk text save) = Unit {0}
IsOfLine len (Takes desk text d) = IsDeliveryWithin len d
IsOfLine len (Unpacks desk text chunk) = length chunk ≤ len
IsOfLine len (Settles desk text) = Unit {0}
IsOfLine len (Merges desk text other) = Unit {0}
IsOfLine len (Queries desk text q) = Unit {0}
IsOfLine len (AsksAt desk text side fronts) = length fronts ≤ len
IsOfLine len (Keeps desk form text name) = Unit {0}
IsOfLine len (Reopens desk text name) = Unit {0}
IsOfLine len (Arranges desk arrangement) = Unit {0}
IsOfLine len (Prints desk what) = Unit {0}
IsOfLine len (Keys desk bytes) = length bytes ≤ len
IsOfLine len (Clicks desk cell) = Unit {0}
