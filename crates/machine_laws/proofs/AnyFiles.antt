-- An event that asks for no file is answered the same over any files.
use Rattle.std.proofs.Common.{◌≡◌, ℕ, List, [], Bool, false, true, Option, Some, None, Ok, Err, refl, sym, ap, subst, ◌∙◌, inl, inr}
use Rattle.std.specs.Prelude.{MatchBool, MatchOption}
use Rattle.looks.specs.declared.refusal.Refusal.{Refusal}
use Rattle.looks.specs.declared.refusal.Refusal.TheVariants.{BadEvent, BadFile, Conflict, OutOfMemory}
use Rattle.shelf.specs.Files.{Files}
use Rattle.texts.specs.Edit.{Edit, insertion, recalling}
use Rattle.texts.specs.TextState.{TextState}
use Rattle.machine.specs.SiteTexts.{SiteTexts}
use Rattle.machine.specs.Events.{Delivery, Event, Part, Reply, Task, arrange, ask, bytes, change, click, copy, edit, edit_by_names, forget}
use Rattle.machine.specs.Events.{keep, load, merge, messages_of, print, insert_at_caret, recall_at_caret, query, refuse, reopen, search, sent, settle}
use Rattle.machine.specs.Events.{store, take, unknown, unpack, untouched}
use Rattle.machine.specs.Machine.{Does, Replies, Short, message_in}
use Rattle.machine.specs.OnTexts.{CopiesText, CopiesTextShort, EditsNames, EditsNamesShort, EditsText, EditsTextShort, MergesText, MergesTextShort}
use Rattle.machine.specs.OnTexts.{SettlesText, TakesText, TakesTextShort, UnpacksText, UnpacksTextShort}
use Rattle.machine.specs.State.{AtText, IsDeskAt, Refuses, State}
use Rattle.machine.specs.Tasks.{AtCaret, DoesTask, EditSteps, EditsAt, EditsShortAt, IfCaret, Searches, ShortTask}
use Rattle.machine.specs.Tasks.{Writes, text_has_begun}
use Rattle.machine.specs.Windows.{Arranged, Caret, Screened, Window, arranged}
use Rattle.machine.specs.declared.asked.Arrangement.TheVariants.{Close, Move, Open, Point, Scroll, Select}
use Rattle.machine_laws.proofs.OneReply.{ComesTo}
use Rattle.machine_laws.specs.Laws.{AsksForNoFile, TheSameOverAnyFiles}

module _ (now : Files) where
  -- the state over these files
  abbrev over : State → State
  over s = record s { files = now }

  refused_over : (s new : State) (why : Refusal) (r : Reply) → Refuses s why r new → Refuses (over s) why r (over new)
  refused_over s new why r (is, same) = (is, ap over same)

  at_text_over : (F : TextState → TextState → Type 0) (s new : State) (i text : ℕ) (messages : List (List ℕ))
      → AtText F s i text messages new → AtText F (over s) i text messages (over new)
  at_text_over F s new i text messages (d, d', at, does, is) = (d, d', at, does, ap over is)

  -- an edit of a text, in either way
  abbrev EditsOver : EditSteps → Type 0
  EditsOver Steps = (s : State) (i text : ℕ) (e : Edit) (r : Reply) (new : State) → Steps s i text e r new
      → Steps (over s) i text e r (over new)

  edits_over : EditsOver EditsAt
  edits_over s i text e r new does = at_text_over (EditsText e r) s new i text (messages_of r) does

  edits_short_over : EditsOver EditsShortAt
  edits_short_over s i text e r new does = at_text_over (EditsTextShort e r) s new i text (messages_of r) does

  -- the tasks of a desk
  module _ (s : State) (i : ℕ) (d : SiteTexts) (w : Screened) where
    at_caret_over : (Steps : EditSteps) → EditsOver Steps → (c : Caret) (window : Window) (t : TextState)
        (edit_at : ℕ → Edit) (r : Reply) (new : State)
        → AtCaret Steps s i w c window t edit_at r new → AtCaret Steps (over s) i w c window t edit_at r (over new)
    at_caret_over Steps goes c window t edit_at r new (mid, u, does, there, is) =
        (over mid, u, goes s i window.text _ r mid does, there, ap over is)

    if_caret_over : (r : Reply) (new : State) (G H : Caret → Window → TextState → Type 0)
        → ((c : Caret) (window : Window) (t : TextState) → G c window t → H c window t)
        → IfCaret s d w untouched r new G → IfCaret (over s) d w untouched r (over new) H
    if_caret_over r new G H goes (inl (none, free, refused)) = inl (none, free, refused_over s new _ r refused)
    if_caret_over r new G H goes (inr (c, shown, is_c, shows, does)) = inr (c, shown, is_c, shows, goes c shown.0 shown.1 does)

    searched_over : (c : Caret) (t : TextState) (sought : List ℕ) (r : Reply) (new : State)
        → Searches s i w c t sought r new → Searches (over s) i w c t sought r (over new)
    searched_over c t sought r new (inl (q, first, is, same)) = inl (q, first, is, ap over same)
    searched_over c t sought r new (inr (none, is, same)) = inr (none, is, ap over same)

    written_over : (much most : ℕ) (name file : List ℕ) (r : Reply) (new : State)
        → Writes s much most name file untouched r new → Writes (over s) much most name file untouched r (over new)
    written_over much most name file r new (long, refused) = (long, refused_over s new BadFile r refused)

    arranged_over : (out : Arranged) (r : Reply) (new : State) → ComesTo s i out r new → ComesTo (over s) i out r (over new)
    arranged_over (Ok out) r new (is, same) = (is, ap over same)
    arranged_over (Err why) r new refused = refused_over s new why r refused

    reopened_over : (begun : Bool) (r : Reply) (new : State) → MatchBool begun ((untouched ≡ untouched) × Refuses s Conflict r new) ⊥
        → MatchBool begun ((untouched ≡ untouched) × Refuses (over s) Conflict r (over new)) ⊥
    reopened_over true r new (free, refused) = (free, refused_over s new Conflict r refused)
    reopened_over false r new none = absurd none

    task_over : (t : Task) (r : Reply) (new : State) → DoesTask s i d w t untouched r new
        → DoesTask (over s) i d w t untouched r (over new)
    task_over (refuse why) r new (free, refused) = (free, refused_over s new why r refused)
    task_over (insert_at_caret items) r new does = if_caret_over r new _ _
        (λ c window t goes. (goes.0, at_caret_over EditsAt edits_over c window t (λ p. insertion p items) r new goes.1)) does
    task_over recall_at_caret r new does = if_caret_over r new _ _
        (λ c window t goes. (goes.0, at_caret_over EditsAt edits_over c window t recalling r new goes.1)) does
    task_over (load name) r new does = if_caret_over r new _ _ (λ c window t goes. absurd goes) does
    task_over (store text name) r new (t, there, does) = (t, there, written_over _ _ name [] r new does)
    task_over (search sought) r new does = if_caret_over r new _ _
        (λ c window t goes. (goes.0, searched_over c t sought r new goes.1)) does
    task_over (change text e) r new (free, does) = (free, edits_over s i text e r new does)
    task_over (forget text) r new (free, does) = (free, at_text_over _ s new i text [] does)
    task_over (arrange a) r new (free, does) = (free, arranged_over (arranged d w a) r new does)
    task_over (print v) r new (free, is, same) = (free, is, ap over same)
    task_over (keep form text name) r new (t, there, does) = (t, there, written_over _ _ name [] r new does)
    task_over (reopen text name) r new (t, there, does) = (t, there, reopened_over (text_has_begun t) r new does)

    short_over : (t : Task) (r : Reply) (new : State) → ShortTask s i d w t untouched r new
        → ShortTask (over s) i d w t untouched r (over new)
    short_over (refuse why) r new does = absurd does
    short_over (insert_at_caret items) r new (free, (c, shown, is_c, shows, goes)) =
        (free, (c, shown, is_c, shows, at_caret_over EditsShortAt edits_short_over c shown.0 shown.1 (λ p. insertion p items) r new goes))
    short_over recall_at_caret r new (free, (c, shown, is_c, shows, goes)) =
        (free, (c, shown, is_c, shows, at_caret_over EditsShortAt edits_short_over c shown.0 shown.1 recalling r new goes))
    short_over (load name) r new (c, shown, is_c, shows, does) = absurd does
    short_over (store text name) r new (free, there, refused) = (free, there, refused_over s new OutOfMemory r refused)
    short_over (search sought) r new does = absurd does
    short_over (change text e) r new (free, does) = (free, edits_short_over s i text e r new does)
    short_over (forget text) r new does = absurd does
    short_over (arrange (Open track text row)) r new (free, ok, refused) =
        (free, ok, refused_over s new OutOfMemory r refused)
    short_over (arrange (Close v)) r new does = absurd does
    short_over (arrange (Move v row)) r new does = absurd does
    short_over (arrange (Scroll v line)) r new does = absurd does
    short_over (arrange (Point cell)) r new does = absurd does
    short_over (arrange (Select beg end)) r new does = absurd does
    short_over (print v) r new (free, refused) = (free, refused_over s new OutOfMemory r refused)
    short_over (keep form text name) r new (free, there, refused) = (free, there, refused_over s new OutOfMemory r refused)
    short_over (reopen text name) r new (there, does) = absurd does

  at_over : (s : State) (i : ℕ) (d : SiteTexts) (w : Screened) → IsDeskAt s i d w → IsDeskAt (over s) i d w
  at_over s i d w at = record { texts = at.texts; screen = at.screen }

  taken_over : (s new : State) (i text : ℕ) (told : Option (List ℕ)) (r : Reply)
      → MatchOption told (Refuses s BadEvent r new) (λ message. AtText (TakesText message r) s i text [] new)
      → MatchOption told (Refuses (over s) BadEvent r (over new)) (λ message. AtText (TakesText message r) (over s) i text [] (over new))
  taken_over s new i text None r refused = refused_over s new BadEvent r refused
  taken_over s new i text (Some message) r does = at_text_over (TakesText message r) s new i text [] does

  message_over : (s : State) (d : Delivery) → message_in s d ≡ message_in (over s) d
  message_over s (sent k) = refl
  message_over s (bytes message) = refl

  does_over : (s : State) (e : Event) (r : Reply) (new : State) → Does s e untouched r new
      → Does (over s) e untouched r (over new)
  does_over s (edit i text e) r new (free, does) = (free, edits_over s i text e r new does)
  does_over s (edit_by_names i text what names) r new (free, does) =
      (free, at_text_over (EditsNames what names r) s new i text (messages_of r) does)
  does_over s (copy i text beg end other pos) r new (free, (t, there, does)) =
      (free, (t, there, at_text_over (CopiesText t beg end pos r) s new i other (messages_of r) does))
  does_over s (take i text d) r new (free, does) = (
    free,
    subst (λ (m : Option (List ℕ)). MatchOption m
        (Refuses (over s) BadEvent r (over new)) (λ message. AtText (TakesText message r) (over s) i text [] (over new)))
        (message_over s d) (taken_over s new i text (message_in s d) r does),
  )
  does_over s (unpack i text chunk) r new (free, does) = (free, at_text_over (UnpacksText chunk r) s new i text [] does)
  does_over s (settle i text) r new (free, does) = (free, at_text_over (SettlesText false r) s new i text [] does)
  does_over s (merge i text j) r new (free, (u, there, does)) = (free, (u, there, at_text_over (MergesText u r) s new i text [] does))
  does_over s (query i text q) r new (free, same, asked) = (free, ap over same, asked)
  does_over s (ask i t) r new (d, w, at, does) = (d, w, at_over s i d w at, task_over s i d w t r new does)
  does_over s (click i col row) r new (d, w, t, at, is, does) = (d, w, t, at_over s i d w at, is, task_over s i d w t r new does)
  does_over s unknown r new (free, refused) = (free, refused_over s new BadEvent r refused)

  falls_short_over : (s : State) (e : Event) (r : Reply) (new : State) → Short s e untouched r new
      → Short (over s) e untouched r (over new)
  falls_short_over s (edit i text e) r new (free, does) = (free, edits_short_over s i text e r new does)
  falls_short_over s (edit_by_names i text what names) r new (free, does) =
      (free, at_text_over (EditsNamesShort what names r) s new i text (messages_of r) does)
  falls_short_over s (copy i text beg end other pos) r new (free, (t, there, does)) =
      (free, (t, there, at_text_over (CopiesTextShort t beg end pos r) s new i other (messages_of r) does))
  falls_short_over s (take i text d) r new (free, (message, told, does)) =
      (free, (message, sym (message_over s d) ∙ told, at_text_over (TakesTextShort message r) s new i text [] does))
  falls_short_over s (unpack i text chunk) r new (free, does) =
      (free, at_text_over (UnpacksTextShort chunk r) s new i text [] does)
  falls_short_over s (settle i text) r new (free, does) = (free, at_text_over (SettlesText true r) s new i text [] does)
  falls_short_over s (merge i text j) r new (free, (u, there, does)) =
      (free, (u, there, at_text_over (MergesTextShort u r) s new i text [] does))
  falls_short_over s (query i text q) r new (free, inside, refused) =
      (free, inside, refused_over s new OutOfMemory r refused)
  falls_short_over s (ask i t) r new (d, w, at, does) = (d, w, at_over s i d w at, short_over s i d w t r new does)
  falls_short_over s (click i col row) r new (d, w, t, at, is, does) =
      (d, w, t, at_over s i d w at, is, short_over s i d w t r new does)
  falls_short_over s unknown r new does = absurd does

if_caret_asks_for_none : (s new : State) (d : SiteTexts) (w : Screened) (part : Part) (r : Reply) (Goes : Caret → Window → TextState → Type 0)
    → IfCaret s d w part r new (λ c window t. (part ≡ untouched) × Goes c window t) → part ≡ untouched
if_caret_asks_for_none s new d w part r Goes (inl (none, free, refused)) = free
if_caret_asks_for_none s new d w part r Goes (inr (c, shown, is_c, shows, (free, goes))) = free

task_asks_for_none : (s : State) (i : ℕ) (d : SiteTexts) (w : Screened) (t : Task) (part : Part) (r : Reply) (new : State)
    → AsksForNoFile (ask i t) → DoesTask s i d w t part r new → part ≡ untouched
task_asks_for_none s i d w (refuse why) part r new none does = does.0
task_asks_for_none s i d w (insert_at_caret items) part r new none does = if_caret_asks_for_none s new d w part r _ does
task_asks_for_none s i d w recall_at_caret part r new none does = if_caret_asks_for_none s new d w part r _ does
task_asks_for_none s i d w (load name) part r new none does = absurd none
task_asks_for_none s i d w (store text name) part r new none does = absurd none
task_asks_for_none s i d w (search sought) part r new none does = if_caret_asks_for_none s new d w part r _ does
task_asks_for_none s i d w (change text e) part r new none does = does.0
task_asks_for_none s i d w (forget text) part r new none does = does.0
task_asks_for_none s i d w (arrange a) part r new none does = does.0
task_asks_for_none s i d w (print v) part r new none does = does.0
task_asks_for_none s i d w (keep form text name) part r new none does = absurd none
task_asks_for_none s i d w (reopen text name) part r new none does = absurd none

short_task_asks_for_none : (s : State) (i : ℕ) (d : SiteTexts) (w : Screened) (t : Task) (part : Part) (r : Reply) (new : State)
    → AsksForNoFile (ask i t) → ShortTask s i d w t part r new → part ≡ untouched
short_task_asks_for_none s i d w (refuse why) part r new none does = absurd does
short_task_asks_for_none s i d w (insert_at_caret items) part r new none does = does.0
short_task_asks_for_none s i d w recall_at_caret part r new none does = does.0
short_task_asks_for_none s i d w (load name) part r new none does = absurd none
short_task_asks_for_none s i d w (store text name) part r new none does = absurd none
short_task_asks_for_none s i d w (search sought) part r new none does = absurd does
short_task_asks_for_none s i d w (change text e) part r new none does = does.0
short_task_asks_for_none s i d w (forget text) part r new none does = absurd does
short_task_asks_for_none s i d w (arrange (Open track text row)) part r new none does = does.0
short_task_asks_for_none s i d w (arrange (Close v)) part r new none does = absurd does
short_task_asks_for_none s i d w (arrange (Move v row)) part r new none does = absurd does
short_task_asks_for_none s i d w (arrange (Scroll v line)) part r new none does = absurd does
short_task_asks_for_none s i d w (arrange (Point cell)) part r new none does = absurd does
short_task_asks_for_none s i d w (arrange (Select beg end)) part r new none does = absurd does
short_task_asks_for_none s i d w (print v) part r new none does = does.0
short_task_asks_for_none s i d w (keep form text name) part r new none does = absurd none
short_task_asks_for_none s i d w (reopen text name) part r new none does = absurd none

whole_asks_for_none : (s : State) (e : Event) (part : Part) (r : Reply) (new : State) → AsksForNoFile e → Does s e part r new
    → part ≡ untouched
whole_asks_for_none s (edit i text e) part r new none does = does.0
whole_asks_for_none s (edit_by_names i text what names) part r new none does = does.0
whole_asks_for_none s (copy i text beg end other pos) part r new none does = does.0
whole_asks_for_none s (take i text d) part r new none does = does.0
whole_asks_for_none s (unpack i text chunk) part r new none does = does.0
whole_asks_for_none s (settle i text) part r new none does = does.0
whole_asks_for_none s (merge i text j) part r new none does = does.0
whole_asks_for_none s (query i text q) part r new none does = does.0
whole_asks_for_none s (ask i t) part r new none (d, w, at, does) = task_asks_for_none s i d w t part r new none does
whole_asks_for_none s (click i col row) part r new none does = absurd none
whole_asks_for_none s unknown part r new none does = does.0

short_asks_for_none : (s : State) (e : Event) (part : Part) (r : Reply) (new : State) → AsksForNoFile e → Short s e part r new
    → part ≡ untouched
short_asks_for_none s (edit i text e) part r new none does = does.0
short_asks_for_none s (edit_by_names i text what names) part r new none does = does.0
short_asks_for_none s (copy i text beg end other pos) part r new none does = does.0
short_asks_for_none s (take i text d) part r new none does = does.0
short_asks_for_none s (unpack i text chunk) part r new none does = does.0
short_asks_for_none s (settle i text) part r new none does = does.0
short_asks_for_none s (merge i text j) part r new none does = does.0
short_asks_for_none s (query i text q) part r new none does = does.0
short_asks_for_none s (ask i t) part r new none (d, w, at, does) = short_task_asks_for_none s i d w t part r new none does
short_asks_for_none s (click i col row) part r new none does = absurd none
short_asks_for_none s unknown part r new none does = absurd does

pub same_over_any_files : TheSameOverAnyFiles
same_over_any_files s e r new files (inl does) = inl (does_over files s e r new does)
same_over_any_files s e r new files (inr short) = inr (falls_short_over files s e r new short)

-- an event that asks for no file has no part of one
pub asks_for_none : (s : State) (e : Event) (part : Part) (r : Reply) (new : State) → AsksForNoFile e → Replies s e part r new
    → part ≡ untouched
asks_for_none s e part r new none (inl does) = whole_asks_for_none s e part r new none does
asks_for_none s e part r new none (inr short) = short_asks_for_none s e part r new none short
