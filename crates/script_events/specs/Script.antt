-- How events are spelled in a script: words with one blank between them.
use Rattle.std.specs.Prelude.{ℕ, ◌+◌, ◌*◌, ◌&&◌, not, List, [], ◌∷◌, length, map, ◌==◌, if◌then◌else◌}
use Rattle.std.specs.Prelude.{Option, Some, None, option_map, unwrap_or, codes}
use Rattle.std.specs.List.{find, list_any}
use Rattle.std.specs.Option.{option_map_or}
use Rattle.hex.specs.Hex.{hex_digit_value}
use Rattle.looks.specs.Looks.{plain_looks}
use Rattle.char_files.specs.Plain.{plain_items}
use Rattle.operations.specs.NameSet.{Range}
use Rattle.shelf.specs.Names.{is_file_name}
use Rattle.texts.specs.Edit.{Edit, insertion, deletion, looks_change, recalling, restoration}
use Rattle.viewers.specs.declared.screen.Track.{Track}
use Rattle.viewers.specs.declared.screen.Track.TheVariants.{User, System}
use Rattle.kept_file.specs.declared.form.KeptForm.{KeptForm}
use Rattle.kept_file.specs.declared.form.KeptForm.TheVariants.{Messages, Packed}
use Rattle.machine.specs.Events.{Delivery, Event, arrange, ask, bytes as by_bytes, click, copy, edit, edit_by_names}
use Rattle.machine.specs.Events.{keep, merge, print, insert_at_caret, query, reopen, sent as by_number, settle, take as taking, unknown}
use Rattle.machine.specs.Events.{unpack}
use Rattle.machine.specs.declared.asked.Arrangement.{Arrangement}
use Rattle.machine.specs.declared.asked.Arrangement.TheVariants.{Close, Move, Open, Point, Scroll, Select}
use Rattle.machine.specs.declared.asked.Cell.{Cell}
use Rattle.machine.specs.declared.asked.Query.{Query}
use Rattle.machine.specs.declared.asked.Query.TheVariants.{Front, Names, Pack, Past, WhereShown, Runs, Since, Text}
use Rattle.machine.specs.declared.asked.View.TheVariants.{Marks, Show, Views}
use Rattle.texts.specs.declared.by_names.ByNames.{ByNames}
use Rattle.texts.specs.declared.by_names.ByNames.TheVariants.{Delete, Restore}
use Rattle.texts.specs.declared.front.Front.{Front as SiteFront}
use Rattle.script_events.specs.FrontWords.{fronts_in}
use Rattle.script_events.specs.LooksWords.{change_in}
use Rattle.script_events.specs.NameWords.{range_of_words, ranges_in_words}
use Rattle.script_events.specs.Words.{◌>>=◌, some_if, is_word, split_word, front_word, number_in, split_number, desk_in, text_in}
use Rattle.script_events.specs.declared.event.verbs.ArrangeVerb.{ArrangeVerb}
use Rattle.script_events.specs.declared.event.verbs.ArrangeVerb.TheVariants.{Close as Closes, Move as Moves, Open as Opens}
use Rattle.script_events.specs.declared.event.verbs.ArrangeVerb.TheVariants.{Point as Points, Scroll as Scrolls, Select as Selects}
use Rattle.script_events.specs.declared.event.verbs.DeskVerb.{DeskVerb}
use Rattle.script_events.specs.declared.event.verbs.DeskVerb.TheVariants.{Click, Keep, Key, Reopen}
use Rattle.script_events.specs.declared.event.verbs.EditVerb.{EditVerb}
use Rattle.script_events.specs.declared.event.verbs.EditVerb.TheVariants.{Cut, Looks, Recall, TypeIn}
use Rattle.script_events.specs.declared.event.Side.{Side}
use Rattle.script_events.specs.declared.event.Side.TheVariants.{Beyond, Packed, UpTo}
use Rattle.script_events.specs.declared.event.verbs.LongVerb.{LongVerb}
use Rattle.script_events.specs.declared.event.verbs.LongVerb.TheVariants.{Merge, Names as NamesOf, Save, Take, Unpack, Where}
use Rattle.script_events.specs.declared.event.verbs.ShortVerb.{ShortVerb}
use Rattle.script_events.specs.declared.event.verbs.ShortVerb.TheVariants.{Front as FrontOf, Runs as RunsOf, Settle, Text as TextOf}
use Rattle.script_events.specs.declared.event.verbs.Verb.{Verb}
use Rattle.script_events.specs.declared.event.verbs.Verb.TheVariants.{Arrange, ByNames as Named, Desk, Edit as EditOf, Fronts, Long, Prints, Short}

-- the byte of two hex digits
abbrev pub byte_of_digits : ℕ → ℕ → Option ℕ
byte_of_digits high low = hex_digit_value high >>= λ h. hex_digit_value low >>= λ l. Some (16 * h + l)

-- the byte of the two hex digits in front, and what stands after them
abbrev pub split_hex_byte : List ℕ → Option (ℕ × List ℕ)
split_hex_byte (high ∷ low ∷ rest) = option_map (λ byte. (byte, rest)) (byte_of_digits high low)
split_hex_byte _ = None

-- the byte that first spells with what stands after it, and what is left after that
abbrev pub split_byte : ℕ → List ℕ → Option (ℕ × List ℕ)
split_byte first after = if first == 92 then split_hex_byte after else Some (first, after)

-- bytes, in which a backslash and two hex digits stand for one byte, and a backslash for nothing else
unfoldable pub bytes_in : List ℕ → Option (List ℕ)
bytes_in [] = Some []
bytes_in (b ∷ []) = if b == 92 then None else Some (b ∷ [])
bytes_in (b ∷ c ∷ []) = if b == 92 then None else option_map (λ bytes. b ∷ bytes) (bytes_in (c ∷ []))
bytes_in (b ∷ c ∷ d ∷ raw) =
    if b == 92 then (byte_of_digits c d >>= λ byte. option_map (λ bytes. byte ∷ bytes) (bytes_in raw))
    else option_map (λ bytes. b ∷ bytes) (bytes_in (c ∷ d ∷ raw))

-- bytes of two hex digits each
unfoldable pub hex_pairs : List ℕ → Option (List ℕ)
hex_pairs [] = Some []
hex_pairs (digit ∷ []) = None
hex_pairs (high ∷ low ∷ rest) =
    byte_of_digits high low >>= λ byte. option_map (λ after. byte ∷ after) (hex_pairs rest)

-- a message in hex: one byte at least
abbrev pub hex_in : List ℕ → Option (List ℕ)
hex_in word = if length word == 0 then None else hex_pairs word

-- how a message is told: `m` and its number among those that were sent, from 1; or in hex
abbrev pub delivery_in : List ℕ → Option Delivery
delivery_in [] = None
delivery_in (b ∷ word) =
    if b == 109 then option_map (λ k. by_number k) (number_in word)
    else option_map (λ message. by_bytes message) (hex_in (b ∷ word))

-- to put bytes of default looks in
abbrev pub typing : (pos : ℕ) → List ℕ → Edit
typing pos bytes = insertion pos (map (λ b. (b, plain_looks)) bytes)

-- what `type` goes on with after its text: a position and the bytes
abbrev pub type_edit : List ℕ → Option Edit
type_edit rest = do
  pos ← split_number rest
  bytes ← bytes_in pos.1
  Some (typing pos.0 bytes)

-- `cut`: from where to where
abbrev pub cut_edit : List ℕ → Option Edit
cut_edit rest = do
  beg ← split_number rest
  end ← number_in beg.1
  Some (deletion beg.0 end)

-- `looks`: from where to where, and the attributes
abbrev pub looks_edit : List ℕ → Option Edit
looks_edit rest = do
  beg ← split_number rest
  end ← split_number beg.1
  change ← change_in end.1
  Some (looks_change beg.0 end.0 change.0 change.1)

-- `recall`: a position
abbrev pub recall_edit : List ℕ → Option Edit
recall_edit rest = option_map (λ pos. recalling pos) (number_in rest)

-- what `save` goes on with after its text: from where to where, the other text, and a position in that
abbrev pub save_event : (desk text : ℕ) → List ℕ → Option Event
save_event desk text rest = do
  beg ← split_number rest
  end ← split_number beg.1
  cut ← split_word end.1
  other ← text_in cut.0
  pos ← number_in cut.1
  Some (copy desk text beg.0 end.0 other pos)

-- names of a site that end the line
abbrev pub names_in_words : List ℕ → Option Range
names_in_words rest = do
  site ← split_word rest
  at ← split_word site.1
  range_of_words site.0 at.0 at.1

-- `where`: names of a site
abbrev pub where_event : (desk text : ℕ) → List ℕ → Option Event
where_event desk text rest = option_map (λ names. query desk text (WhereShown names)) (names_in_words rest)

-- `names`: from where to where
abbrev pub names_event : (desk text : ℕ) → List ℕ → Option Event
names_event desk text rest = do
  beg ← split_number rest
  end ← number_in beg.1
  Some (query desk text (Names beg.0 end))

-- `merge`: the site whose text is taken over
abbrev pub merge_event : (first count desk text : ℕ) → List ℕ → Option Event
merge_event first count desk text rest = option_map (λ other. merge desk text other) (desk_in first count rest)

-- a track's name
abbrev pub track_in : List ℕ → Option Track
track_in word =
    if is_word word (codes "user") then Some User
    else (if is_word word (codes "system") then Some System else None)

-- two numbers that end the line
abbrev pub pair_in : List ℕ → Option (ℕ × ℕ)
pair_in rest = do
  first ← split_number rest
  second ← number_in first.1
  Some (first.0, second)

-- the column and the row of a cell, which end the line
abbrev pub cell_in : List ℕ → Option Cell
cell_in rest = option_map (λ pair. record { col = pair.0; row = pair.1 }) (pair_in rest)

-- what `open` goes on with after its track: a text, which ends the line or has a row after it
abbrev pub opening_in : Track → List ℕ → Option Arrangement
opening_in track rest =
    option_map_or
    (λ cut. text_in cut.0 >>= λ text. option_map (λ row. Open track text (Some row)) (number_in cut.1))
    (split_word rest) (option_map (λ text. Open track text None) (text_in rest))

-- `open`: a track, a text, and perhaps a row
abbrev pub open_arrangement : List ℕ → Option Arrangement
open_arrangement rest = do
  cut ← split_word rest
  track ← track_in cut.0
  opening_in track cut.1

-- `close`: a viewer
abbrev pub close_arrangement : List ℕ → Option Arrangement
close_arrangement rest = option_map (λ viewer. Close viewer) (number_in rest)

-- `move`: a viewer, and a row
abbrev pub move_arrangement : List ℕ → Option Arrangement
move_arrangement rest = option_map (λ pair. Move pair.0 pair.1) (pair_in rest)

-- `scroll`: a viewer, and a line
abbrev pub scroll_arrangement : List ℕ → Option Arrangement
scroll_arrangement rest = option_map (λ pair. Scroll pair.0 pair.1) (pair_in rest)

-- `point`: a cell
abbrev pub point_arrangement : List ℕ → Option Arrangement
point_arrangement rest = option_map (λ cell. Point cell) (cell_in rest)

-- `select`: the columns and rows of two cells
abbrev pub select_arrangement : List ℕ → Option Arrangement
select_arrangement rest = do
  col ← split_number rest
  row ← split_number col.1
  cell ← cell_in row.1
  Some (Select (record { col = col.0; row = row.0 }) cell)

-- a file's name without a blank
abbrev pub file_in : List ℕ → Option (List ℕ)
file_in word = some_if (is_file_name word && not (list_any (λ b. b == 32) word)) word

-- what `reopen` goes on with: a text, and the file, which ends the line
abbrev pub filing_in : List ℕ → Option (ℕ × List ℕ)
filing_in rest = do
  cut ← split_word rest
  text ← text_in cut.0
  name ← file_in cut.1
  Some (text, name)

-- the form of a file that is told after its name, if one is
abbrev pub form_in : Option (List ℕ) → Option KeptForm
form_in None = Some Messages
form_in (Some word) = some_if (is_word word (codes "packed")) Packed

-- what `keep` goes on with: a text, and the file, after which its form may be told
abbrev pub keeping_in : List ℕ → Option (KeptForm × (ℕ × List ℕ))
keeping_in rest = do
  cut ← split_word rest
  text ← text_in cut.0
  name ← file_in (front_word cut.1).0
  form ← form_in (front_word cut.1).1
  Some (form, (text, name))

-- what a verb asks of a text that ends the line: a row for each verb
abbrev pub short_event : ShortVerb → (desk text : ℕ) → Event
short_event Settle desk text = settle desk text
short_event TextOf desk text = query desk text Text
short_event FrontOf desk text = query desk text Front
short_event RunsOf desk text = query desk text Runs

-- the edit that a verb asks for with what stands after the text: a row for each verb
abbrev pub edit_in : EditVerb → List ℕ → Option Edit
edit_in TypeIn rest = type_edit rest
edit_in Cut rest = cut_edit rest
edit_in Looks rest = looks_edit rest
edit_in Recall rest = recall_edit rest

-- what else a verb asks of a text with what stands after it: a row for each verb
abbrev pub long_event : (first count : ℕ) → LongVerb → (desk text : ℕ) → List ℕ → Option Event
long_event first count Save desk text rest = save_event desk text rest
long_event first count Take desk text rest = option_map (λ message. taking desk text message) (delivery_in rest)
long_event first count Unpack desk text rest = option_map (λ chunk. unpack desk text chunk) (hex_in rest)
long_event first count Merge desk text rest = merge_event first count desk text rest
long_event first count Where desk text rest = where_event desk text rest
long_event first count NamesOf desk text rest = names_event desk text rest

-- what is asked of a text on this side of fronts
abbrev pub query_at : Side → List SiteFront → Query
query_at Beyond fronts = Since fronts
query_at UpTo fronts = Past fronts
query_at Packed fronts = Pack fronts

-- what a query at fronts goes on with after its text: the fronts
abbrev pub fronts_event : Side → (desk text : ℕ) → Option (List ℕ) → Option Event
fronts_event side desk text rest = option_map (λ fronts. query desk text (query_at side fronts)) (fronts_in rest)

-- what an edit by names goes on with after its text: the names; without any, what was cut last is shown again
abbrev pub by_names_event : ByNames → (desk text : ℕ) → Option (List ℕ) → Option Event
by_names_event what desk text (Some words) = option_map (λ names. edit_by_names desk text what names) (ranges_in_words words)
by_names_event Restore desk text None = Some (edit desk text restoration)
by_names_event Delete desk text None = None

-- the arrangement that a verb asks for with what stands after it: a row for each verb
abbrev pub arrangement_in : ArrangeVerb → List ℕ → Option Arrangement
arrangement_in Opens rest = open_arrangement rest
arrangement_in Closes rest = close_arrangement rest
arrangement_in Moves rest = move_arrangement rest
arrangement_in Scrolls rest = scroll_arrangement rest
arrangement_in Points rest = point_arrangement rest
arrangement_in Selects rest = select_arrangement rest

-- what else a verb asks of a desk with what stands after it: a row for each verb
abbrev pub desk_event : DeskVerb → (desk : ℕ) → List ℕ → Option Event
desk_event Keep desk rest = option_map (λ keeping. ask desk (keep keeping.0 keeping.1.0 keeping.1.1)) (keeping_in rest)
desk_event Reopen desk rest = option_map (λ filing. ask desk (reopen filing.0 filing.1)) (filing_in rest)
desk_event Key desk rest = option_map (λ bytes. ask desk (insert_at_caret (plain_items bytes))) (bytes_in rest)
desk_event Click desk rest = option_map (λ cell. click desk cell.col cell.row) (cell_in rest)

-- what a verb asks with what stands after its blank, if it doesn't end the line
abbrev pub verb_event : (first count : ℕ) → Verb → (desk : ℕ) → Option (List ℕ) → Option Event
verb_event first count (Short verb) desk rest =
    rest >>= λ words. option_map (λ text. short_event verb desk text) (text_in words)
verb_event first count (Fronts side) desk rest =
    rest >>= λ words. text_in (front_word words).0 >>= λ text. fronts_event side desk text (front_word words).1
verb_event first count (Named what) desk rest =
    rest >>= λ words. text_in (front_word words).0 >>= λ text. by_names_event what desk text (front_word words).1
verb_event first count (EditOf verb) desk rest =
    rest >>= λ words. split_word words >>= λ cut. text_in cut.0 >>= λ text.
    option_map (λ e. edit desk text e) (edit_in verb cut.1)
verb_event first count (Long verb) desk rest =
    rest >>= λ words. split_word words >>= λ cut. text_in cut.0 >>= λ text. long_event first count verb desk text cut.1
verb_event first count (Arrange verb) desk rest =
    rest >>= λ words. option_map (λ a. ask desk (arrange a)) (arrangement_in verb words)
verb_event first count (Desk verb) desk rest = rest >>= λ words. desk_event verb desk words
verb_event first count (Prints what) desk None = Some (ask desk (print what))
verb_event first count (Prints what) desk (Some words) = None

-- the verbs: a row for each
abbrev pub verbs : List (List ℕ × Verb)
verbs =
    (codes "type", EditOf TypeIn) ∷
    (codes "cut", EditOf Cut) ∷
    (codes "looks", EditOf Looks) ∷
    (codes "recall", EditOf Recall) ∷
    (codes "restore", Named Restore) ∷
    (codes "delete", Named Delete) ∷
    (codes "save", Long Save) ∷
    (codes "take", Long Take) ∷
    (codes "unpack", Long Unpack) ∷
    (codes "settle", Short Settle) ∷
    (codes "merge", Long Merge) ∷
    (codes "text", Short TextOf) ∷
    (codes "front", Short FrontOf) ∷
    (codes "runs", Short RunsOf) ∷
    (codes "where", Long Where) ∷
    (codes "names", Long NamesOf) ∷
    (codes "since", Fronts Beyond) ∷
    (codes "past", Fronts UpTo) ∷
    (codes "pack", Fronts Packed) ∷
    (codes "keep", Desk Keep) ∷
    (codes "reopen", Desk Reopen) ∷
    (codes "open", Arrange Opens) ∷
    (codes "close", Arrange Closes) ∷
    (codes "move", Arrange Moves) ∷
    (codes "scroll", Arrange Scrolls) ∷
    (codes "point", Arrange Points) ∷
    (codes "select", Arrange Selects) ∷
    (codes "key", Desk Key) ∷
    (codes "click", Desk Click) ∷
    (codes "views", Prints Views) ∷
    (codes "marks", Prints Marks) ∷
    (codes "show", Prints Show) ∷ []

-- the verb of a word, among these rows
abbrev pub verb_among : List (List ℕ × Verb) → List ℕ → Option Verb
verb_among rows word = option_map (λ row. row.1) (find (λ row. is_word row.0 word) rows)

-- the verb of a word
abbrev pub verb_in : List ℕ → Option Verb
verb_in word = verb_among verbs word

-- the event that a line spells, if it spells one: a site, a verb, and what the verb goes on with
unfoldable pub spelled_event : (first count : ℕ) → List ℕ → Option Event
spelled_event first count line = do
  site ← split_word line
  verb ← verb_in (front_word site.1).0
  desk ← desk_in first count site.0
  verb_event first count verb desk (front_word site.1).1

-- what a line asks of the run's sites
abbrev pub event_in : (first count : ℕ) → List ℕ → Event
event_in first count line = unwrap_or (spelled_event first count line) unknown
