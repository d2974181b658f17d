-- What an event does is the same whatever messages were sent before, unless it names one of them by its number.
use Rattle.std.proofs.Common.{◌≡◌, ℕ, List, [], ◌++◌, Bool, false, true, Option, Some, Ok, Err, sym, ap, ◌∙◌, inl, inr}
use Rattle.std.proofs.Common.{append_assoc}
use Rattle.std.specs.Prelude.{MatchBool, slice_set}
use Rattle.looks.specs.declared.refusal.Refusal.{Refusal}
use Rattle.looks.specs.declared.refusal.Refusal.TheVariants.{BadEvent, BadFile, Conflict, OutOfMemory, ReadFault, WrongText}
use Rattle.operations.specs.Operation.{Operation}
use Rattle.texts.specs.Edit.{Edit, insertion, recalling}
use Rattle.texts.specs.TextState.{TextState}
use Rattle.machine.specs.SiteTexts.{SiteTexts}
use Rattle.machine.specs.Events.{Event, Part, Reply, Task, arrange, ask, bytes, change, click, copy, edit, edit_by_names, failed, forget}
use Rattle.machine.specs.Events.{insert_at_caret, keep, load, merge, messages_of, print, query, recall_at_caret, refuse, reopen, search, sent, settle}
use Rattle.machine.specs.Events.{store, take, unknown, unpack, untouched, went_well}
use Rattle.machine.specs.Machine.{Does, Replies, Short}
use Rattle.machine.specs.OnTexts.{CopiesText, CopiesTextShort, EditsNames, EditsNamesShort, EditsText, EditsTextShort, MergesText, MergesTextShort}
use Rattle.machine.specs.OnTexts.{SettlesText, TakesText, TakesTextShort, UnpacksText, UnpacksTextShort}
use Rattle.machine.specs.State.{AtText, IsDeskAt, Refuses, State}
use Rattle.machine.specs.Tasks.{AtCaret, BeginsAs, BeginsWith, DoesTask, EditSteps, EditsAt, EditsShortAt, FileBecomes, IfCaret, Loads}
use Rattle.machine.specs.Tasks.{LoadsShort, Reopens, ReopensShort, Searches, ShortTask, Writes, text_has_begun}
use Rattle.machine.specs.Windows.{Arranged, Caret, Screened, Window, arranged}
use Rattle.machine.specs.declared.asked.Arrangement.TheVariants.{Close, Move, Open, Point, Scroll, Select}
use Rattle.machine_laws.proofs.OneReply.{ComesTo}
use Rattle.script_sites.specs.Seen.{Replied, SitesSeen, sent_after, state_of}

-- the event names no message by its number
abbrev pub NamesNone : Event → Type 0
NamesNone (take i text (sent k)) = ⊥
NamesNone other = Unit {0}

module _ (before : List (List ℕ)) where
  -- the state, where these messages were sent before
  abbrev pub later : State → State
  later s = record s { sent = before ++ s.sent }

  refused_later : (s new : State) (why : Refusal) (r : Reply) → Refuses s why r new → Refuses (later s) why r (later new)
  refused_later s new why r (is, same) = (is, ap later same)

  at_text_later : (F : TextState → TextState → Type 0) (s new : State) (i text : ℕ) (messages : List (List ℕ))
      → AtText F s i text messages new → AtText F (later s) i text messages (later new)
  at_text_later F s new i text messages (d, d', at, does, is) = (
    d,
    d',
    at,
    does,
    ap later is ∙ (λ k. record s { desks = slice_set s.desks i d'; sent = sym (append_assoc before s.sent messages) k }),
  )

  -- an edit of a text, in either way
  abbrev EditsLater : EditSteps → Type 0
  EditsLater Steps = (s : State) (i text : ℕ) (e : Edit) (r : Reply) (new : State) → Steps s i text e r new
      → Steps (later s) i text e r (later new)

  edits_later : EditsLater EditsAt
  edits_later s i text e r new does = at_text_later (EditsText e r) s new i text (messages_of r) does

  edits_short_later : EditsLater EditsShortAt
  edits_short_later s i text e r new does = at_text_later (EditsTextShort e r) s new i text (messages_of r) does

  becomes_later : (s : State) (name : List ℕ) (file : Option (List ℕ)) (new : State) → FileBecomes s name file new
      → FileBecomes (later s) name file (later new)
  becomes_later s name file new (files, is, others, same) = (files, is, others, ap later same)

  written_later : (s : State) (much most : ℕ) (name file : List ℕ) (part : Part) (r : Reply) (new : State)
      → Writes s much most name file part r new → Writes (later s) much most name file part r (later new)
  written_later s much most name file untouched r new (long, refused) = (long, refused_later s new BadFile r refused)
  written_later s much most name file went_well r new (few, is, becomes) =
      (few, is, becomes_later s name (Some file) new becomes)
  written_later s much most name file (failed left) r new (few, is, becomes) = (few, is, becomes_later s name left new becomes)

  arranged_later : (s : State) (i : ℕ) (out : Arranged) (r : Reply) (new : State) → ComesTo s i out r new
      → ComesTo (later s) i out r (later new)
  arranged_later s i (Ok out) r new (is, same) = (is, ap later same)
  arranged_later s i (Err why) r new refused = refused_later s new why r refused

  -- a text that begins anew
  begins_later : (s : State) (i text : ℕ) (ops : List Operation) (b : Bool) (r : Reply) (new : State)
      → MatchBool b (BeginsWith s i text ops r new) (Refuses s WrongText r new)
      → MatchBool b (BeginsWith (later s) i text ops r (later new)) (Refuses (later s) WrongText r (later new))
  begins_later s i text ops true r new (begins, is) = (at_text_later _ s new i text [] begins, is)
  begins_later s i text ops false r new refused = refused_later s new WrongText r refused

  begins_as_later : (s : State) (i text : ℕ) (t : TextState) (file : List ℕ) (r : Reply) (new : State)
      → BeginsAs s i text t file r new → BeginsAs (later s) i text t file r (later new)
  begins_as_later s i text t file r new (inl (none, refused)) = inl (none, refused_later s new BadFile r refused)
  begins_as_later s i text t file r new (inr (of_text, of_site, ops, kept, begins)) =
      inr (of_text, of_site, ops, kept, begins_later s i text ops _ r new begins)

  reopens_later : (s : State) (i text : ℕ) (t : TextState) (name : List ℕ) (part : Part) (r : Reply) (new : State)
      → Reopens s i text t name part r new → Reopens (later s) i text t name part r (later new)
  reopens_later s i text t name untouched r new does = absurd does
  reopens_later s i text t name (failed left) r new refused = refused_later s new ReadFault r refused
  reopens_later s i text t name went_well r new (file, is, begins) = (file, is, begins_as_later s i text t file r new begins)

  reopened_later : (s : State) (i text : ℕ) (t : TextState) (name : List ℕ) (part : Part) (begun : Bool) (r : Reply) (new : State)
      → MatchBool begun ((part ≡ untouched) × Refuses s Conflict r new) (Reopens s i text t name part r new)
      → MatchBool begun ((part ≡ untouched) × Refuses (later s) Conflict r (later new)) (Reopens (later s) i text t name part r (later new))
  reopened_later s i text t name part true r new (free, refused) = (free, refused_later s new Conflict r refused)
  reopened_later s i text t name part false r new does = reopens_later s i text t name part r new does

  reopens_short_later : (s : State) (name : List ℕ) (part : Part) (r : Reply) (new : State)
      → ReopensShort s name part r new → ReopensShort (later s) name part r (later new)
  reopens_short_later s name untouched r new does = absurd does
  reopens_short_later s name (failed left) r new does = absurd does
  reopens_short_later s name went_well r new (file, is, refused) = (file, is, refused_later s new OutOfMemory r refused)

  -- the tasks of a desk
  module _ (s : State) (i : ℕ) (d : SiteTexts) (w : Screened) where
    at_caret_later : (Steps : EditSteps) → EditsLater Steps → (c : Caret) (window : Window) (t : TextState)
        (edit_at : ℕ → Edit) (r : Reply) (new : State)
        → AtCaret Steps s i w c window t edit_at r new → AtCaret Steps (later s) i w c window t edit_at r (later new)
    at_caret_later Steps goes c window t edit_at r new (mid, u, does, there, is) =
        (later mid, u, goes s i window.text _ r mid does, there, ap later is)

    if_caret_later : (part : Part) (r : Reply) (new : State) (G H : Caret → Window → TextState → Type 0)
        → ((c : Caret) (window : Window) (t : TextState) → G c window t → H c window t)
        → IfCaret s d w part r new G → IfCaret (later s) d w part r (later new) H
    if_caret_later part r new G H goes (inl (none, free, refused)) = inl (none, free, refused_later s new _ r refused)
    if_caret_later part r new G H goes (inr (c, shown, is_c, shows, does)) = inr (c, shown, is_c, shows, goes c shown.0 shown.1 does)

    searched_later : (c : Caret) (t : TextState) (sought : List ℕ) (r : Reply) (new : State)
        → Searches s i w c t sought r new → Searches (later s) i w c t sought r (later new)
    searched_later c t sought r new (inl (q, first, is, same)) = inl (q, first, is, ap later same)
    searched_later c t sought r new (inr (none, is, same)) = inr (none, is, ap later same)

    loads_later : (name : List ℕ) (part : Part) (c : Caret) (window : Window) (t : TextState) (r : Reply) (new : State)
        → Loads s i w name part c window t r new → Loads (later s) i w name part c window t r (later new)
    loads_later name untouched c window t r new does = absurd does
    loads_later name (failed left) c window t r new refused = refused_later s new ReadFault r refused
    loads_later name went_well c window t r new (file, is, inl (none, refused)) =
        (file, is, inl (none, refused_later s new BadFile r refused))
    loads_later name went_well c window t r new (file, is, inr (items, of, does)) =
        (file, is, inr (items, of, at_caret_later EditsAt edits_later c window t (λ p. insertion p items) r new does))

    loads_short_later : (name : List ℕ) (part : Part) (c : Caret) (window : Window) (t : TextState) (r : Reply) (new : State)
        → LoadsShort s i w name part c window t r new → LoadsShort (later s) i w name part c window t r (later new)
    loads_short_later name untouched c window t r new does = absurd does
    loads_short_later name (failed left) c window t r new does = absurd does
    loads_short_later name went_well c window t r new (file, is, inl refused) =
        (file, is, inl (refused_later s new OutOfMemory r refused))
    loads_short_later name went_well c window t r new (file, is, inr (items, of, does)) =
        (file, is, inr (items, of, at_caret_later EditsShortAt edits_short_later c window t (λ p. insertion p items) r new does))

    task_later : (t : Task) (part : Part) (r : Reply) (new : State) → DoesTask s i d w t part r new
        → DoesTask (later s) i d w t part r (later new)
    task_later (refuse why) part r new (free, refused) = (free, refused_later s new why r refused)
    task_later (insert_at_caret items) part r new does = if_caret_later part r new _ _
        (λ c window t goes. (goes.0, at_caret_later EditsAt edits_later c window t (λ p. insertion p items) r new goes.1)) does
    task_later recall_at_caret part r new does = if_caret_later part r new _ _
        (λ c window t goes. (goes.0, at_caret_later EditsAt edits_later c window t recalling r new goes.1)) does
    task_later (load name) part r new does = if_caret_later part r new _ _
        (λ c window t goes. loads_later name part c window t r new goes) does
    task_later (store text name) part r new (t, there, does) = (t, there, written_later s _ _ name _ part r new does)
    task_later (search sought) part r new does = if_caret_later part r new _ _
        (λ c window t goes. (goes.0, searched_later c t sought r new goes.1)) does
    task_later (change text e) part r new (free, does) = (free, edits_later s i text e r new does)
    task_later (forget text) part r new (free, does) = (free, at_text_later _ s new i text [] does)
    task_later (arrange a) part r new (free, does) = (free, arranged_later s i (arranged d w a) r new does)
    task_later (print v) part r new (free, is, same) = (free, is, ap later same)
    task_later (keep form text name) part r new (t, there, does) = (t, there, written_later s _ _ name _ part r new does)
    task_later (reopen text name) part r new (t, there, does) =
        (t, there, reopened_later s i text t name part (text_has_begun t) r new does)

    short_later : (t : Task) (part : Part) (r : Reply) (new : State) → ShortTask s i d w t part r new
        → ShortTask (later s) i d w t part r (later new)
    short_later (refuse why) part r new does = absurd does
    short_later (insert_at_caret items) part r new (free, (c, shown, is_c, shows, goes)) =
        (free, (c, shown, is_c, shows, at_caret_later EditsShortAt edits_short_later c shown.0 shown.1 (λ p. insertion p items) r new goes))
    short_later recall_at_caret part r new (free, (c, shown, is_c, shows, goes)) =
        (free, (c, shown, is_c, shows, at_caret_later EditsShortAt edits_short_later c shown.0 shown.1 recalling r new goes))
    short_later (load name) part r new (c, shown, is_c, shows, goes) =
        (c, shown, is_c, shows, loads_short_later name part c shown.0 shown.1 r new goes)
    short_later (store text name) part r new (free, there, refused) = (free, there, refused_later s new OutOfMemory r refused)
    short_later (search sought) part r new does = absurd does
    short_later (change text e) part r new (free, does) = (free, edits_short_later s i text e r new does)
    short_later (forget text) part r new does = absurd does
    short_later (arrange (Open track text row)) part r new (free, ok, refused) =
        (free, ok, refused_later s new OutOfMemory r refused)
    short_later (arrange (Close v)) part r new does = absurd does
    short_later (arrange (Move v row)) part r new does = absurd does
    short_later (arrange (Scroll v line)) part r new does = absurd does
    short_later (arrange (Point cell)) part r new does = absurd does
    short_later (arrange (Select beg end)) part r new does = absurd does
    short_later (print v) part r new (free, refused) = (free, refused_later s new OutOfMemory r refused)
    short_later (keep form text name) part r new (free, there, refused) = (free, there, refused_later s new OutOfMemory r refused)
    short_later (reopen text name) part r new (there, does) = (there, reopens_short_later s name part r new does)

  at_later : (s : State) (i : ℕ) (d : SiteTexts) (w : Screened) → IsDeskAt s i d w → IsDeskAt (later s) i d w
  at_later s i d w at = record { texts = at.texts; screen = at.screen }

  does_later : (s : State) (e : Event) (part : Part) (r : Reply) (new : State) → NamesNone e → Does s e part r new
      → Does (later s) e part r (later new)
  does_later s (edit i text e) part r new none (free, does) = (free, edits_later s i text e r new does)
  does_later s (edit_by_names i text what names) part r new none (free, does) =
      (free, at_text_later (EditsNames what names r) s new i text (messages_of r) does)
  does_later s (copy i text beg end other pos) part r new none (free, (t, there, does)) =
      (free, (t, there, at_text_later (CopiesText t beg end pos r) s new i other (messages_of r) does))
  does_later s (take i text (sent k)) part r new none does = absurd none
  does_later s (take i text (bytes message)) part r new none (free, does) =
      (free, at_text_later (TakesText message r) s new i text [] does)
  does_later s (unpack i text chunk) part r new none (free, does) = (free, at_text_later (UnpacksText chunk r) s new i text [] does)
  does_later s (settle i text) part r new none (free, does) = (free, at_text_later (SettlesText false r) s new i text [] does)
  does_later s (merge i text j) part r new none (free, (u, there, does)) =
      (free, (u, there, at_text_later (MergesText u r) s new i text [] does))
  does_later s (query i text q) part r new none (free, same, asked) = (free, ap later same, asked)
  does_later s (ask i t) part r new none (d, w, at, does) = (d, w, at_later s i d w at, task_later s i d w t part r new does)
  does_later s (click i col row) part r new none (d, w, t, at, is, does) =
      (d, w, t, at_later s i d w at, is, task_later s i d w t part r new does)
  does_later s unknown part r new none (free, refused) = (free, refused_later s new BadEvent r refused)

  falls_short_later : (s : State) (e : Event) (part : Part) (r : Reply) (new : State) → NamesNone e → Short s e part r new
      → Short (later s) e part r (later new)
  falls_short_later s (edit i text e) part r new none (free, does) = (free, edits_short_later s i text e r new does)
  falls_short_later s (edit_by_names i text what names) part r new none (free, does) =
      (free, at_text_later (EditsNamesShort what names r) s new i text (messages_of r) does)
  falls_short_later s (copy i text beg end other pos) part r new none (free, (t, there, does)) =
      (free, (t, there, at_text_later (CopiesTextShort t beg end pos r) s new i other (messages_of r) does))
  falls_short_later s (take i text (sent k)) part r new none does = absurd none
  falls_short_later s (take i text (bytes told)) part r new none (free, (message, is, does)) =
      (free, (message, is, at_text_later (TakesTextShort message r) s new i text [] does))
  falls_short_later s (unpack i text chunk) part r new none (free, does) =
      (free, at_text_later (UnpacksTextShort chunk r) s new i text [] does)
  falls_short_later s (settle i text) part r new none (free, does) = (free, at_text_later (SettlesText true r) s new i text [] does)
  falls_short_later s (merge i text j) part r new none (free, (u, there, does)) =
      (free, (u, there, at_text_later (MergesTextShort u r) s new i text [] does))
  falls_short_later s (query i text q) part r new none (free, inside, refused) =
      (free, inside, refused_later s new OutOfMemory r refused)
  falls_short_later s (ask i t) part r new none (d, w, at, does) = (d, w, at_later s i d w at, short_later s i d w t part r new does)
  falls_short_later s (click i col row) part r new none (d, w, t, at, is, does) =
      (d, w, t, at_later s i d w at, is, short_later s i d w t part r new does)
  falls_short_later s unknown part r new none does = absurd does

  -- so each event is replied to, and goes on
  pub replies_later : (s : State) (e : Event) (part : Part) (r : Reply) (new : State) → NamesNone e → Replies s e part r new
      → Replies (later s) e part r (later new)
  replies_later s e part r new none (inl does) = inl (does_later s e part r new none does)
  replies_later s e part r new none (inr short) = inr (falls_short_later s e part r new none short)

  -- so it is with a run's sites
  pub replied_after : (s new : SitesSeen) (e : Event) (r : Reply) → NamesNone e → Replied s e r new
      → Replied (sent_after before s) e r (sent_after before new)
  replied_after s new e r none replied = λ files. replies_later (state_of s files) e untouched r (state_of new files) none (replied files)
