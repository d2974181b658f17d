-- What an event does to the texts and the screens of a run, in the few ways that there are, and which messages it sends.
use Rattle.std.proofs.Common.{◌≡◌, ℕ, ◌+◌, List, [], ◌++◌, All, Bool, false, true, Option, Some, None, Result, Ok, Err, refl, sym, ap, subst}
use Rattle.std.proofs.Common.{◌∙◌, inl, inr, length}
use Rattle.std.proofs.lemmas.List.{append-nil}
use Rattle.std.specs.Option.{option_map_or}
use Rattle.looks.specs.declared.refusal.Refusal.{Refusal}
use Rattle.looks.specs.declared.refusal.Refusal.TheVariants.{BadEvent, BadFile, Conflict, NoCaret, OutOfMemory, OutOfRange}
use Rattle.looks.specs.declared.refusal.Refusal.TheVariants.{ReadFault, WriteFault, WrongText}
use Rattle.std.specs.Prelude.{◌⊎◌, ◌==◌, ◌&&◌, MatchBool, MatchOption, slice_get, slice_set}
use Rattle.std.proofs.lemmas.Bool.{cond_both}
use Rattle.char_files.specs.declared.name.Anchor.{Anchor}
use Rattle.operations.specs.NameSet.{Range}
use Rattle.operations.specs.Operation.{Operation}
use Rattle.operations.specs.Spelling.{HasSpelling}
use Rattle.texts.specs.Edit.{Edit, anchor_before, insertion, recalling}
use Rattle.texts.specs.Taking.{HasTakenAll}
use Rattle.texts.specs.declared.by_names.ByNames.{ByNames}
use Rattle.texts.specs.declared.merge_refusal.MergeRefusal.{MergeRefusal}
use Rattle.texts.specs.declared.merge_refusal.MergeRefusal.TheVariants.{Whole as MergesNothing, Stopped}
use Rattle.texts.specs.declared.took.Took.{Took}
use Rattle.text_chunks.specs.declared.unpacked.UnpackRefusal.{UnpackRefusal}
use Rattle.text_chunks.specs.declared.unpacked.UnpackRefusal.TheVariants.{Whole as UnpacksNothing, Partial as UnpacksPart}
use Rattle.text_chunks.specs.declared.unpacked.Unpacked.{Unpacked}
use Rattle.texts.specs.TextState.{TextState, empty_text, shown_of, with_room}
use Rattle.machine.specs.SiteTexts.{SiteTexts, InText}
use Rattle.kept_file.proofs.KeptFiles.{has_site_file}
use Rattle.machine.specs.Events.{Event, Part, Reply, Task, arrange, ask, change, click, copy, done, edit, edit_by_names, failed, forget}
use Rattle.machine.specs.Events.{forgot, found, keep, load, merge, merge_reply, messages_of, not_found, opens, print, prints}
use Rattle.machine.specs.Events.{insert_at_caret, recall_at_caret, query, refuse, refuses, reopen, search, settle, store, take, take_reply}
use Rattle.machine.specs.Events.{unknown, unpack, unpack_reply, untouched, went_well}
use Rattle.machine.specs.Machine.{Does, Replies, Short, message_in}
use Rattle.machine.specs.OnTexts.{CopiesText, CopiesTextShort, EditsNames, EditsNamesShort, EditsText, EditsTextShort, MergesText, MergesTextShort}
use Rattle.machine.specs.OnTexts.{Prints, SettlesText, TakesText, TakesTextShort, UnpacksText, UnpacksTextShort, is_asked_in}
use Rattle.machine.specs.State.{AtText, IsDeskAt, IsTextAt, Refuses, State, Tells}
use Rattle.machine.specs.Tasks.{AtCaret, BeginsAs, BeginsWith, DoesTask, EditSteps, EditsAt, EditsShortAt, FileBecomes}
use Rattle.machine.specs.Tasks.{Forgets, IfCaret, Loads, LoadsShort, Reopens, ReopensShort, Searches, ShortTask, Writes}
use Rattle.machine.specs.Tasks.{caret_after, lines_of_view, text_has_begun}
use Rattle.machine.specs.Windows.{Arranged, Caret, Screened, Window, arranged, place_in, window_of}
use Rattle.machine.specs.declared.asked.Arrangement.{Arrangement}
use Rattle.machine.specs.declared.asked.Arrangement.TheVariants.{Close, Move, Open, Point, Scroll, Select}
use Rattle.machine.specs.declared.asked.Query.{Query}
use Rattle.machine_laws.proofs.OneOfTexts.{lemma_one_text}
use Rattle.machine_laws.proofs.OneReply.{ComesTo, shown_parts}
use Rattle.machine_laws.proofs.Reopening.{Begins}
use Rattle.machine_laws.proofs.Rooms.{by_test}

-- The ways in which an event may change a text of the run: an edit, by positions or by names, in either way; a copy out of another one; a message; a
-- chunk; a settling; a merge of a text that is there; its room is emptied; or nothing was done in it yet, and it begins anew with
-- operations that messages tell.
pub data TextGoes (s : State) (t u : TextState) : Type 0 where
  edits : (e : Edit) (r : Reply) → EditsText e r t u → TextGoes s t u
  edits_short : (e : Edit) (r : Reply) → EditsTextShort e r t u → TextGoes s t u
  edits_names : (what : ByNames) (names : List Range) (r : Reply) → EditsNames what names r t u → TextGoes s t u
  edits_names_short : (what : ByNames) (names : List Range) (r : Reply) → EditsNamesShort what names r t u → TextGoes s t u
  copies : (from : TextState) (beg end pos : ℕ) (r : Reply) → CopiesText from beg end pos r t u → TextGoes s t u
  copies_short : (from : TextState) (beg end pos : ℕ) (r : Reply) → CopiesTextShort from beg end pos r t u → TextGoes s t u
  takes : (message : List ℕ) (r : Reply) → TakesText message r t u → TextGoes s t u
  takes_short : (message : List ℕ) (r : Reply) → TakesTextShort message r t u → TextGoes s t u
  unpacks_so : (chunk : List ℕ) (r : Reply) → UnpacksText chunk r t u → TextGoes s t u
  unpacks_short : (chunk : List ℕ) (r : Reply) → UnpacksTextShort chunk r t u → TextGoes s t u
  settles_so : (stopped : Bool) (r : Reply) → SettlesText stopped r t u → TextGoes s t u
  merges_so : (j text : ℕ) (other : TextState) (r : Reply) → IsTextAt s j text other → MergesText other r t u → TextGoes s t u
  merges_short : (j text : ℕ) (other : TextState) (r : Reply) → IsTextAt s j text other → MergesTextShort other r t u
      → TextGoes s t u
  empties : u ≡ with_room t [] → TextGoes s t u
  begins : (ops : List Operation) → All HasSpelling ops → Begins ops t u → TextGoes s t u

-- The texts stay; or one of them goes on so, and has told its changes.
pub data TextsGo (s new : State) : Type 0 where
  as_they_are : new.desks ≡ s.desks → TextsGo s new
  by_text : (i text : ℕ) (d d' : SiteTexts) → slice_get s.desks i ≡ Some d → InText (Tells (TextGoes s)) d text d'
      → new.desks ≡ slice_set s.desks i d' → TextsGo s new

-- a place in a text is what it was, or is after a character that the text shows now, or at its beginning
abbrev pub PlaceGoes : TextState → (old new : Anchor) → Type 0
PlaceGoes t old new = (new ≡ old) ⊎ ((n : ℕ) × (new ≡ anchor_before (shown_of t) n))

-- No screen changes; or one is arranged, and no text changes; or the caret of one goes to another place of its text.
pub data ScreensGo (s new : State) : Type 0 where
  no_screen : new.screens ≡ s.screens → ScreensGo s new
  by_arranging : (i : ℕ) (d : SiteTexts) (w : Screened) (a : Arrangement) (out : Screened × Option ℕ) → IsDeskAt s i d w
      → arranged d w a ≡ Ok out → new.desks ≡ s.desks → new.screens ≡ slice_set s.screens i out.0 → ScreensGo s new
  by_caret : (i : ℕ) (d : SiteTexts) (w : Screened) (c : Caret) (shown : Window × TextState) (t : TextState) (anchor : Anchor)
      → IsDeskAt s i d w → w.caret ≡ Some c → window_of d w c.viewer ≡ Some shown → IsTextAt new i shown.0.text t
      → PlaceGoes t c.anchor anchor
      → new.screens ≡ slice_set s.screens i (record w { caret = Some (record c { anchor = anchor }) }) → ScreensGo s new

-- the messages sent are those before and those that the reply tells
abbrev pub SendsTold : State → Reply → State → Type 0
SendsTold s r new = new.sent ≡ s.sent ++ messages_of r

-- what an event does to the texts, and what to the screens, and what it sends
abbrev pub Goes : State → Reply → State → Type 0
Goes s r new = TextsGo s new × ScreensGo s new × SendsTold s r new

-- a reply that tells no messages, where none were sent
none_told : (s new : State) (r is : Reply) → r ≡ is → messages_of is ≡ [] → new.sent ≡ s.sent → SendsTold s r new
none_told s new r is told none same =
    same ∙ sym (append-nil s.sent) ∙ ap (λ (m : List (List ℕ)). s.sent ++ m) (sym none ∙ ap messages_of (sym told))

same_goes : (s new : State) (r is : Reply) → r ≡ is → messages_of is ≡ [] → new ≡ s → Goes s r new
same_goes s new r is told none same = (
  as_they_are (ap (λ (x : State). x.desks) same),
  no_screen (ap (λ (x : State). x.screens) same),
  none_told s new r is told none (ap (λ (x : State). x.sent) same),
)

refused_goes : (s new : State) (why : Refusal) (r : Reply) → Refuses s why r new → Goes s r new
refused_goes s new why r refused = same_goes s new r (refuses why) refused.0 refl refused.1

-- what a text does in one of these ways lets the run's texts go on
text_goes : (F : TextState → TextState → Type 0) (s new : State) (i text : ℕ) (messages : List (List ℕ))
    → ((t u : TextState) → IsTextAt s i text t → F t u → TextGoes s t u) → AtText F s i text messages new → TextsGo s new
text_goes F s new i text messages goes (d, d', at, (t, u, of_d, (t', does, is_u), is_d'), is) =
    by_text i text d d' at (t, u, of_d, (t', goes t t' (d, at, of_d) does, is_u), is_d') (ap (λ (x : State). x.desks) is)

-- and changes no screen, and sends the messages
at_text_goes : (F : TextState → TextState → Type 0) (s new : State) (i text : ℕ) (r : Reply)
    → ((t u : TextState) → F t u → TextGoes s t u) → AtText F s i text (messages_of r) new → Goes s r new
at_text_goes F s new i text r goes does = (
  text_goes F s new i text (messages_of r) (λ t u there. goes t u) does,
  no_screen (ap (λ (x : State). x.screens) does.4),
  ap (λ (x : State). x.sent) does.4,
)

-- the same of a reply that tells no messages
silent_goes : (F : TextState → TextState → Type 0) (s new : State) (i text : ℕ) (r : Reply)
    → ((t u : TextState) → IsTextAt s i text t → F t u → TextGoes s t u × (messages_of r ≡ []))
    → AtText F s i text [] new → Goes s r new
silent_goes F s new i text r goes (d, d', at, (t, u, of_d, (t', does, is_u), is_d'), is) =
    let (way, none) = goes t t' (d, at, of_d) does in (
      by_text i text d d' at (t, u, of_d, (t', way, is_u), is_d') (ap (λ (x : State). x.desks) is),
      no_screen (ap (λ (x : State). x.screens) is),
      none_told s new r r refl none (ap (λ (x : State). x.sent) is ∙ append-nil s.sent),
    )

-- what an answer to a message, or to a merge, tells
take_tells : (result : Result Took Refusal) → messages_of (take_reply result) ≡ []
take_tells (Ok took) = refl
take_tells (Err why) = refl

unpack_tells : (result : Result Unpacked UnpackRefusal) → messages_of (unpack_reply result) ≡ []
unpack_tells (Ok counts) = refl
unpack_tells (Err (UnpacksNothing why)) = refl
unpack_tells (Err (UnpacksPart count why)) = refl

merge_tells : (result : Result ℕ MergeRefusal) → messages_of (merge_reply result) ≡ []
merge_tells (Ok count) = refl
merge_tells (Err (MergesNothing why)) = refl
merge_tells (Err (Stopped count)) = refl

-- an edit of a text, in either way
abbrev EditsGo : EditSteps → Type 0
EditsGo Steps = (s : State) (i text : ℕ) (e : Edit) (r : Reply) (new : State) → Steps s i text e r new → Goes s r new

edit_goes : EditsGo EditsAt
edit_goes s i text e r new does = at_text_goes (EditsText e r) s new i text r (λ t u. edits e r) does

edit_goes_short : EditsGo EditsShortAt
edit_goes_short s i text e r new short = at_text_goes (EditsTextShort e r) s new i text r (λ t u. edits_short e r) short

-- after an edit the caret goes on
caret_goes : (t u : TextState) (was : ℕ) (old : Anchor) → PlaceGoes u old (caret_after t u was old)
caret_goes t u was old = cond_both (length (shown_of u) == length (shown_of t)) _ _ (PlaceGoes u old)
    (λ e. inl refl) (λ e. inr (_, refl))

-- the texts of two states with the same desks go on alike
as_mid : (s mid new : State) → new.desks ≡ mid.desks → TextsGo s mid → TextsGo s new
as_mid s mid new same (as_they_are is) = as_they_are (same ∙ is)
as_mid s mid new same (by_text i text d d' at does is) = by_text i text d d' at does (same ∙ is)

-- the tasks of a desk
module _ (s : State) (i : ℕ) (d : SiteTexts) (w : Screened) (at : IsDeskAt s i d w) where
  at_caret : (Steps : EditSteps) → EditsGo Steps → ((text : ℕ) (e : Edit) (r : Reply) (mid : State)
      → Steps s i text e r mid → mid.screens ≡ s.screens) → (c : Caret) (shown : Window × TextState)
      (edit_at : ℕ → Edit) (r : Reply) (new : State) → w.caret ≡ Some c → window_of d w c.viewer ≡ Some shown
      → AtCaret Steps s i w c shown.0 shown.1 edit_at r new → Goes s r new
  at_caret Steps go kept c shown edit_at r new is_c shows (mid, u, does, there, is_new) =
      let was : ℕ = place_in shown.1 c.anchor in
      let (texts, screens, sends) = go s i shown.0.text (edit_at was) r mid does in
      let desks : new.desks ≡ mid.desks = ap (λ (x : State). x.desks) is_new in (
        as_mid s mid new desks texts,
        by_caret i d w c shown u (caret_after shown.1 u was c.anchor) at is_c shows
            (let (e, at_e, of_e) = there in (e, ap (λ (ds : List SiteTexts). slice_get ds i) desks ∙ at_e, of_e))
            (caret_goes shown.1 u was c.anchor)
            (ap (λ (x : State). x.screens) is_new ∙ ap (λ (ws : List Screened). slice_set ws i (record w
            { caret = Some (record c { anchor = caret_after shown.1 u was c.anchor }) }))
            (kept shown.0.text (edit_at was) r mid does)),
        ap (λ (x : State). x.sent) is_new ∙ sends,
      )

  at_caret_whole : (c : Caret) (shown : Window × TextState)
      (edit_at : ℕ → Edit) (r : Reply) (new : State) → w.caret ≡ Some c → window_of d w c.viewer ≡ Some shown
      → AtCaret EditsAt s i w c shown.0 shown.1 edit_at r new → Goes s r new
  at_caret_whole = at_caret EditsAt edit_goes (λ text e r mid does. ap (λ (x : State). x.screens) does.4)

  at_caret_short : (c : Caret) (shown : Window × TextState)
      (edit_at : ℕ → Edit) (r : Reply) (new : State) → w.caret ≡ Some c → window_of d w c.viewer ≡ Some shown
      → AtCaret EditsShortAt s i w c shown.0 shown.1 edit_at r new → Goes s r new
  at_caret_short = at_caret EditsShortAt edit_goes_short (λ text e r mid does. ap (λ (x : State). x.screens) does.4)

  if_caret : (part : Part) (r : Reply) (new : State) (G : Caret → Window → TextState → Type 0)
      → ((c : Caret) (shown : Window × TextState) → w.caret ≡ Some c → window_of d w c.viewer ≡ Some shown
      → G c shown.0 shown.1 → Goes s r new)
      → IfCaret s d w part r new G → Goes s r new
  if_caret part r new G next (inl (none, free, refused)) = refused_goes s new NoCaret r refused
  if_caret part r new G next (inr (c, shown, is_c, shows, goes)) = next c shown is_c shows goes

  searched : (c : Caret) (shown : Window × TextState) (bytes : List ℕ) (r : Reply) (new : State)
      → w.caret ≡ Some c → window_of d w c.viewer ≡ Some shown → Searches s i w c shown.1 bytes r new → Goes s r new
  searched c shown bytes r new is_c shows (inl (q, first, is, is_new)) =
      let desks : new.desks ≡ s.desks = ap (λ (x : State). x.desks) is_new in (
        as_they_are desks,
        by_caret i d w c shown shown.1 (anchor_before (shown_of shown.1) (q + length bytes)) at is_c shows (
          d,
          ap (λ (ds : List SiteTexts). slice_get ds i) desks ∙ at.texts,
          (shown_parts d w c.viewer shown shows).1,
        ) (inr (q + length bytes, refl)) (ap (λ (x : State). x.screens) is_new),
        none_told s new r (found (q + length bytes)) is refl (ap (λ (x : State). x.sent) is_new),
      )
  searched c shown bytes r new is_c shows (inr (none, is, is_new)) = same_goes s new r not_found is refl is_new

  loaded : (name : List ℕ) (part : Part) (c : Caret) (shown : Window × TextState) (r : Reply) (new : State)
      → w.caret ≡ Some c → window_of d w c.viewer ≡ Some shown → Loads s i w name part c shown.0 shown.1 r new → Goes s r new
  loaded name untouched c shown r new is_c shows does = absurd does
  loaded name (failed left) c shown r new is_c shows does = refused_goes s new ReadFault r does
  loaded name went_well c shown r new is_c shows (file, there, inl (none, refused)) = refused_goes s new BadFile r refused
  loaded name went_well c shown r new is_c shows (file, there, inr (items, is, goes)) =
      at_caret_whole c shown (λ p. insertion p items) r new is_c shows goes

  loaded_short : (name : List ℕ) (part : Part) (c : Caret) (shown : Window × TextState) (r : Reply) (new : State)
      → w.caret ≡ Some c → window_of d w c.viewer ≡ Some shown → LoadsShort s i w name part c shown.0 shown.1 r new
      → Goes s r new
  loaded_short name untouched c shown r new is_c shows does = absurd does
  loaded_short name (failed left) c shown r new is_c shows does = absurd does
  loaded_short name went_well c shown r new is_c shows (file, there, inl refused) = refused_goes s new OutOfMemory r refused
  loaded_short name went_well c shown r new is_c shows (file, there, inr (items, is, goes)) =
      at_caret_short c shown (λ p. insertion p items) r new is_c shows goes

  became : (name : List ℕ) (file : Option (List ℕ)) (r is : Reply) (new : State) → r ≡ is → messages_of is ≡ []
      → FileBecomes s name file new → Goes s r new
  became name file r is new told none (files, there, rest, is_new) = (
    as_they_are (ap (λ (x : State). x.desks) is_new),
    no_screen (ap (λ (x : State). x.screens) is_new),
    none_told s new r is told none (ap (λ (x : State). x.sent) is_new),
  )

  written : (much most : ℕ) (name file : List ℕ) (part : Part) (r : Reply) (new : State)
      → Writes s much most name file part r new → Goes s r new
  written much most name file untouched r new (long, refused) = refused_goes s new BadFile r refused
  written much most name file went_well r new (few, is, now) = became name (Some file) r done new is refl now
  written much most name file (failed left) r new (few, is, now) =
      became name left r ((refuses WriteFault)) new is refl now

  -- a text in which nothing was done begins anew
  module _ (text : ℕ) (t : TextState) (there : IsTextAt s i text t) (fresh : text_has_begun t ≡ false) where
    begins_with : (ops : List Operation) (r : Reply) (new : State) → All HasSpelling ops
        → BeginsWith s i text ops r new → Goes s r new
    begins_with ops r new spelled (does, is) = silent_goes (λ t u. HasTakenAll (empty_text t.text t.site) ops u) s new i text r
        (λ u v here taken.
        let same : t ≡ u = lemma_one_text s i text t u there here in
        (begins ops spelled (subst (λ (x : TextState). text_has_begun x ≡ false) same fresh, taken), ap messages_of is)) does

    begins_as : (file : List ℕ) (r : Reply) (new : State) → BeginsAs s i text t file r new → Goes s r new
    begins_as file r new (inl (none, refused)) = refused_goes s new BadFile r refused
    begins_as file r new (inr (number, site, ops, is, goes)) =
        elim (by_test (number == t.text && site == t.site) _ _ goes) [
          | inl its ↦ begins_with ops r new (has_site_file number site ops file is).spelled its.1
          | inr other ↦ refused_goes s new WrongText r other.1
        ]

    reopened : (name : List ℕ) (part : Part) (r : Reply) (new : State) → Reopens s i text t name part r new
        → Goes s r new
    reopened name untouched r new does = absurd does
    reopened name (failed left) r new does = refused_goes s new ReadFault r does
    reopened name went_well r new (file, there', does) = begins_as file r new does

  reopened_short : (name : List ℕ) (part : Part) (r : Reply) (new : State) → ReopensShort s name part r new
      → Goes s r new
  reopened_short name untouched r new short = absurd short
  reopened_short name (failed left) r new short = absurd short
  reopened_short name went_well r new (file, there, refused) = refused_goes s new OutOfMemory r refused

  forgot_room : (text : ℕ) (r : Reply) (new : State) → Forgets s i text r new → Goes s r new
  forgot_room text r new does =
      silent_goes (λ t u. (r ≡ forgot (length t.waiting_room)) × (u ≡ with_room t [])) s new i text r
      (λ t u there is. (empties is.1, ap messages_of is.0)) does

  -- what an arrangement replies tells no messages
  arranged_tells : (o : Option ℕ) → messages_of (option_map_or (λ v. opens v) o done) ≡ []
  arranged_tells None = refl
  arranged_tells (Some v) = refl

  arranges : (a : Arrangement) (out : Arranged) (r : Reply) (new : State) → arranged d w a ≡ out → ComesTo s i out r new
      → Goes s r new
  arranges a (Ok out) r new is_out (is, is_new) =
      let desks : new.desks ≡ s.desks = ap (λ (x : State). x.desks) is_new in (
        as_they_are desks,
        by_arranging i d w a out at is_out desks (ap (λ (x : State). x.screens) is_new),
        none_told s new r _ is (arranged_tells out.1) (ap (λ (x : State). x.sent) is_new),
      )
  arranges a (Err why) r new is_out refused = refused_goes s new why r refused

  task_goes : (t : Task) (part : Part) (r : Reply) (new : State) → DoesTask s i d w t part r new → Goes s r new
  task_goes (refuse why) part r new does = refused_goes s new why r does.1
  task_goes (insert_at_caret items) part r new does = if_caret part r new _
      (λ c shown is_c shows goes. at_caret_whole c shown (λ p. insertion p items) r new is_c shows goes.1) does
  task_goes recall_at_caret part r new does = if_caret part r new _
      (λ c shown is_c shows goes. at_caret_whole c shown recalling r new is_c shows goes.1) does
  task_goes (load name) part r new does = if_caret part r new _
      (λ c shown is_c shows goes. loaded name part c shown r new is_c shows goes) does
  task_goes (store text name) part r new (t, there, does) = written _ _ name _ part r new does
  task_goes (search bytes) part r new does = if_caret part r new _
      (λ c shown is_c shows goes. searched c shown bytes r new is_c shows goes.1) does
  task_goes (change text e) part r new does = edit_goes s i text e r new does.1
  task_goes (forget text) part r new does = forgot_room text r new does.1
  task_goes (arrange a) part r new does = arranges a (arranged d w a) r new refl does.1
  task_goes (print v) part r new (free, is, is_new) = same_goes s new r (prints (lines_of_view d w v)) is refl is_new
  task_goes (keep form text name) part r new (t, there, does) = written _ _ name _ part r new does
  task_goes (reopen text name) part r new (t, there, does) = elim (by_test (text_has_begun t) _ _ does) [
    | inl begun ↦ refused_goes s new Conflict r begun.1.1
    | inr fresh ↦ reopened text t there fresh.0 name part r new fresh.1
  ]

  task_goes_short : (t : Task) (part : Part) (r : Reply) (new : State) → ShortTask s i d w t part r new → Goes s r new
  task_goes_short (refuse why) part r new does = absurd does
  task_goes_short (insert_at_caret items) part r new (free, (c, shown, is_c, shows, goes)) =
      at_caret_short c shown (λ p. insertion p items) r new is_c shows goes
  task_goes_short recall_at_caret part r new (free, (c, shown, is_c, shows, goes)) =
      at_caret_short c shown recalling r new is_c shows goes
  task_goes_short (load name) part r new (c, shown, is_c, shows, goes) =
      loaded_short name part c shown r new is_c shows goes
  task_goes_short (store text name) part r new (free, there, refused) = refused_goes s new OutOfMemory r refused
  task_goes_short (search bytes) part r new does = absurd does
  task_goes_short (change text e) part r new does = edit_goes_short s i text e r new does.1
  task_goes_short (forget text) part r new does = absurd does
  task_goes_short (arrange (Open track text row)) part r new (free, ok, refused) = refused_goes s new OutOfMemory r refused
  task_goes_short (arrange (Close v)) part r new does = absurd does
  task_goes_short (arrange (Move v row)) part r new does = absurd does
  task_goes_short (arrange (Scroll v line)) part r new does = absurd does
  task_goes_short (arrange (Point cell)) part r new does = absurd does
  task_goes_short (arrange (Select beg end)) part r new does = absurd does
  task_goes_short (print v) part r new (free, refused) = refused_goes s new OutOfMemory r refused
  task_goes_short (keep form text name) part r new (free, there, refused) = refused_goes s new OutOfMemory r refused
  task_goes_short (reopen text name) part r new (there, short) = reopened_short name part r new short

-- a message that is told, or not
taken_goes : (s new : State) (i text : ℕ) (message : Option (List ℕ)) (r : Reply)
    → MatchOption message (Refuses s BadEvent r new) (λ bytes. AtText (TakesText bytes r) s i text [] new) → Goes s r new
taken_goes s new i text None r refused = refused_goes s new BadEvent r refused
taken_goes s new i text (Some bytes) r does = silent_goes (TakesText bytes r) s new i text r
    (λ t u there taken. (takes bytes r taken, ap messages_of taken.2 ∙ take_tells taken.0)) does

-- a query, of which the positions lie in the text, or not
query_goes : (s new : State) (r : Reply) (t : TextState) (q : Query) (inside : Bool)
    → MatchBool inside ((lines : List ℕ) × Prints q t lines × (r ≡ prints lines)) (r ≡ refuses OutOfRange) → new ≡ s
    → Goes s r new
query_goes s new r t q true (lines, prints_so, is) same = same_goes s new r (prints lines) is refl same
query_goes s new r t q false is same = refused_goes s new OutOfRange r (is, same)

does_go : (s : State) (e : Event) (part : Part) (r : Reply) (new : State) → Does s e part r new → Goes s r new
does_go s (edit i text e) part r new does = edit_goes s i text e r new does.1
does_go s (edit_by_names i text what names) part r new does =
    at_text_goes (EditsNames what names r) s new i text r (λ t u. edits_names what names r) does.1
does_go s (copy i text beg end other pos) part r new (free, (t, there, does)) =
    at_text_goes (CopiesText t beg end pos r) s new i other r (λ u v. copies t beg end pos r) does
does_go s (take i text d) part r new does = taken_goes s new i text (message_in s d) r does.1
does_go s (unpack i text chunk) part r new does = silent_goes (UnpacksText chunk r) s new i text r
    (λ t u there unpacked. (unpacks_so chunk r unpacked, ap messages_of unpacked.2 ∙ unpack_tells unpacked.0)) does.1
does_go s (settle i text) part r new does = silent_goes (SettlesText false r) s new i text r
    (λ t u there settled. (settles_so false r settled, ap messages_of settled.3)) does.1
does_go s (merge i text j) part r new (free, (other, there, does)) = silent_goes (MergesText other r) s new i text r
    (λ t u here merged. (merges_so j text other r there merged, ap messages_of merged.2 ∙ merge_tells merged.0)) does
does_go s (query i text q) part r new (free, same, (t, there, asks)) = query_goes s new r t q (is_asked_in t q) asks same
does_go s (ask i t) part r new (d, w, at, does) = task_goes s i d w at t part r new does
does_go s (click i col row) part r new (d, w, t, at, is, does) = task_goes s i d w at t part r new does
does_go s unknown part r new does = refused_goes s new BadEvent r does.1

short_goes : (s : State) (e : Event) (part : Part) (r : Reply) (new : State) → Short s e part r new → Goes s r new
short_goes s (edit i text e) part r new short = edit_goes_short s i text e r new short.1
short_goes s (edit_by_names i text what names) part r new short =
    at_text_goes (EditsNamesShort what names r) s new i text r (λ t u. edits_names_short what names r) short.1
short_goes s (copy i text beg end other pos) part r new (free, (t, there, short)) =
    at_text_goes (CopiesTextShort t beg end pos r) s new i other r (λ u v. copies_short t beg end pos r) short
short_goes s (take i text d) part r new (free, (message, told, short)) = silent_goes (TakesTextShort message r) s new i text r
    (λ t u there taken. (takes_short message r taken, ap messages_of taken.2 ∙ take_tells taken.0)) short
short_goes s (unpack i text chunk) part r new short = silent_goes (UnpacksTextShort chunk r) s new i text r
    (λ t u there unpacked. (unpacks_short chunk r unpacked, ap messages_of unpacked.2 ∙ unpack_tells unpacked.0)) short.1
short_goes s (settle i text) part r new short = silent_goes (SettlesText true r) s new i text r
    (λ t u there settled. (settles_so true r settled, ap messages_of settled.3)) short.1
short_goes s (merge i text j) part r new (free, (other, there, short)) = silent_goes (MergesTextShort other r) s new i text r
    (λ t u here merged. (merges_short j text other r there merged, ap messages_of merged.2 ∙ merge_tells merged.0)) short
short_goes s (query i text q) part r new (free, inside, refused) = refused_goes s new OutOfMemory r refused
short_goes s (ask i t) part r new (d, w, at, does) = task_goes_short s i d w at t part r new does
short_goes s (click i col row) part r new (d, w, t, at, is, does) = task_goes_short s i d w at t part r new does
short_goes s unknown part r new short = absurd short

-- so each event goes
pub replies_go : (s : State) (e : Event) (part : Part) (r : Reply) (new : State) → Replies s e part r new → Goes s r new
replies_go s e part r new (inl does) = does_go s e part r new does
replies_go s e part r new (inr short) = short_goes s e part r new short
