-- An event has one reply: each part of a step is one thing.
use Rattle.std.proofs.Common.{◌≡◌, ℕ, ◌+◌, ◌-◌, ◌<◌, ◌≤◌, true, false, Bool, List, [], ◌++◌, map, Option, Some, None}
use Rattle.std.proofs.Common.{Result, Ok, Err, refl, sym, ap, subst, ◌∙◌, inl, inr, append-nil, le_antisymm, length}
use Rattle.std.proofs.Common.{true≢false}
use Rattle.std.specs.Prelude.{◌⊎◌, ◌≢◌, ◌==◌, ◌&&◌, if◌then◌else◌, MatchBool, MatchOption, MatchResult, bytes_eq, option_map}
use Rattle.std.specs.Prelude.{slice_get, slice_set, take}
use Rattle.std.specs.Option.{option_map_or}
use Rattle.std.proofs.lemmas.Bool.{cases_lt, eq-eqb}
use Rattle.std.proofs.lemmas.Option.{none-some, option_and_then_some, same_Some}
use Rattle.std.proofs.lemmas.Slice.Eq.{bytes_eq-Decides}
use Rattle.looks.specs.declared.refusal.Refusal.{Refusal}
use Rattle.looks.specs.declared.refusal.Refusal.TheVariants.{BadEvent, BadFile, Conflict, NoCaret, NoSelection, NoViewer}
use Rattle.looks.specs.declared.refusal.Refusal.TheVariants.{OutOfMemory, ReadFault, UnknownCommand, WrongText}
use Rattle.char_files.specs.Stretch.{Item}
use Rattle.char_files.specs.declared.name.Anchor.{Anchor}
use Rattle.reader_scanner.proofs.OneToken.{lemma_one_token}
use Rattle.reader_scanner.specs.Tokens.{IsTokenAt}
use Rattle.reader_scanner.specs.declared.token.Token.{Token}
use Rattle.reader_scanner.specs.declared.token.TokenValue.{TokenValue}
use Rattle.command_words.proofs.OneCall.{one_call}
use Rattle.command_words.specs.Calls.{IsCallAt, NoCallAt}
use Rattle.command_words.specs.Commands.{has_parameter}
use Rattle.command_words.specs.declared.calls.Call.{Call}
use Rattle.text_file.specs.Files.{IsFileOf, OneText}
use Rattle.operations.specs.Operation.{Operation}
use Rattle.operations.specs.Spelling.{spelling}
use Rattle.texts.specs.Edit.{Edit, anchor_before, insertion, plan, recalling}
use Rattle.kept_file.specs.KeptFiles.{OneKept}
use Rattle.chunks.specs.Laws.{OneChunk}
use Rattle.texts.specs.Taking.{HasTakenAll}
use Rattle.texts.specs.TextState.{TextState, all_told, empty_text, shown_of, with_room}
use Rattle.texts.specs.declared.took.Took.TheVariants.{Repeat, Taken, Waits}
use Rattle.convergence.specs.Outcomes.{DrainsOneWay, EditsOneWay, MergesOneWay, TakesOneWay}
use Rattle.char_files.specs.Runs.{NoOtherRuns}
use Rattle.machine.specs.Commands.{Clicked, IsParameter, IsTaskAt, IsTaskOfCall, clicked, is_caret_sign, task_of}
use Rattle.machine.specs.SiteTexts.{SiteTexts, InText, IsTextOf}
use Rattle.machine.specs.Events.{Event, Part, Reply, Task, arrange, ask, change, click, copy, done, edit, edit_by_names, failed, forget}
use Rattle.machine.specs.Events.{forgot, found, keep, load, merge, merges, messages_of, not_found, opens, print, prints, insert_at_caret}
use Rattle.machine.specs.Events.{recall_at_caret, query, refuse, refuses, reopen, search, sends, settle, settles, stops, store}
use Rattle.machine.specs.Events.{take as taking, takes, unknown, unpack, unpacks, unpacks_first, untouched, went_well}
use Rattle.machine.specs.Machine.{Does, Short}
use Rattle.machine.specs.State.{AtText, IsDeskAt, IsTextAt, Refuses, State, Tells, with_screen_at}
use Rattle.machine.specs.Tasks.{AtCaret, BeginsAs, BeginsWith, DoesTask, EditSteps, EditsAt, EditsShortAt, FileBecomes}
use Rattle.machine.specs.Tasks.{Forgets, IfCaret, IsFirstFrom, Keeps, Loads, LoadsShort, Reopens, ReopensShort, Searches}
use Rattle.machine.specs.Tasks.{ShortTask, Stores, WithCaret, Writes, caret_after, text_has_begun}
use Rattle.machine.specs.Windows.{Arranged, Caret, Marked, Screened, Window, arranged, bytes_shown, marked, place_in}
use Rattle.machine.specs.Windows.{shown_by, text_of, window_of}
use Rattle.machine.specs.declared.asked.Arrangement.TheVariants.{Close, Move, Open, Point, Scroll, Select}
use Rattle.machine_laws.proofs.OneOfTexts.{IsPartOfEdit, by_case, in_text, one_copy, one_copy_short, one_edit, one_edit_by_names}
use Rattle.machine_laws.proofs.OneOfTexts.{one_edit_by_names_short, one_edit_short}
use Rattle.machine_laws.proofs.OneOfTexts.{one_element, one_merge, one_merge_short, one_query, one_settling}
use Rattle.machine_laws.proofs.OneOfTexts.{one_settling_short, one_take, one_take_short, one_unpack, one_unpack_short, lemma_one_text, part_of_edit}
use Rattle.machine_laws.proofs.Reopening.{one_begun}
use Rattle.machine_laws.proofs.Telling.{put_back, told_same}
use Rattle.machine_laws.specs.Laws.{AreTexts, EachEventHasOneReply, HaveOneShape, HaveTold, IsLoad, MayLoad}

no_element : {A : Type 0} (o : Option A) (x : A) → o ≡ None → o ≡ Some x → ⊥
no_element o x nope at_x = none-some x (sym nope ∙ at_x)

abbrev AreSame : Reply → Reply → State → State → Type 0
AreSame r r' new new' = (r ≡ r') × (new ≡ new')

-- an edit that is replied to by r and by r' is one
abbrev EditsOne : EditSteps → State → Reply → Reply → Type 0
EditsOne Steps s r r' = (i text : ℕ) (e : Edit) (mid mid' : State) → Steps s i text e r mid → Steps s i text e r' mid'
    → (r ≡ r') × (mid ≡ mid')

refuses_one : (s : State) (why : Refusal) (r r' : Reply) (new new' : State) → Refuses s why r new
    → Refuses s why r' new' → AreSame r r' new new'
refuses_one s why r r' new new' a b = (a.0 ∙ sym b.0, a.1 ∙ sym b.1)

-- at the caret

at_caret : (Steps : EditSteps) (s : State) (i : ℕ) (w : Screened) (c : Caret) (window : Window) (t : TextState)
    (edit_at : ℕ → Edit) (r r' : Reply) (new new' : State) → EditsOne Steps s r r'
    → AtCaret Steps s i w c window t edit_at r new → AtCaret Steps s i w c window t edit_at r' new'
    → AreSame r r' new new'
at_caret Steps s i w c window t edit_at r r' new new' one (mid, u, does, there, is_new) (mid', u', does', there', is_new') =
    let same = one i window.text (edit_at (place_in t c.anchor)) mid mid' does does' in
    let texts : u ≡ u' = lemma_one_text mid' i window.text u u'
    (subst (λ (x : State). IsTextAt x i window.text u) same.1 there) there' in (
      same.0,
      is_new ∙ (λ k. with_screen_at (same.1 k) i (record w
          { caret = Some (record c { anchor = caret_after t (texts k) (place_in t c.anchor) c.anchor }) })) ∙ sym is_new',
    )

with_caret : (d : SiteTexts) (w : Screened) (G H : Caret → Window → TextState → Type 0) (R : Type 0)
    → ((c : Caret) (window : Window) (t : TextState) → w.caret ≡ Some c → window_of d w c.viewer ≡ Some (window, t)
    → G c window t → H c window t → R) → WithCaret d w G → WithCaret d w H → R
with_caret d w G H R one (c, shown, at, there, goes) (c', shown', at', there', goes') =
    let carets : c' ≡ c = one_element w.caret c' c at' at in
    let windows : shown' ≡ shown = one_element (window_of d w c.viewer) shown' shown
    (subst (λ (x : Caret). window_of d w x.viewer ≡ Some shown') carets there') there in
    one c shown.0 shown.1 at there goes (subst (λ (x : Window × TextState). H c x.0 x.1) windows
    (subst (λ (x : Caret). H x shown'.0 shown'.1) carets goes'))

if_caret : (s : State) (d : SiteTexts) (w : Screened) (part : Part) (r r' : Reply) (new new' : State)
    (G H : Caret → Window → TextState → Type 0)
    → ((c : Caret) (window : Window) (t : TextState) → G c window t → H c window t → AreSame r r' new new')
    → IfCaret s d w part r new G → IfCaret s d w part r' new' H → AreSame r r' new new'
if_caret s d w part r r' new new' G H one (inl (nope, p, q)) (inl (nope', p', q')) =
    refuses_one s NoCaret r r' new new' q q'
if_caret s d w part r r' new new' G H one (inl (nope, p, q)) (inr (c, shown, at, there, goes)) =
    absurd (no_element w.caret c nope at)
if_caret s d w part r r' new new' G H one (inr (c, shown, at, there, goes)) (inl (nope, p, q)) =
    absurd (no_element w.caret c nope at)
if_caret s d w part r r' new new' G H one (inr a) (inr b) =
    with_caret d w G H (AreSame r r' new new') (λ c window t at there. one c window t) a b

-- what a viewer shows is a window of its own on a text of the desk
pub shown_parts : (d : SiteTexts) (w : Screened) (v : ℕ) (shown : Window × TextState) → window_of d w v ≡ Some shown
    → (shown_by v w.windows ≡ Some shown.0) × IsTextOf d shown.0.text shown.1
shown_parts d w v shown is = option_and_then_some {P = (shown_by v w.windows ≡ Some shown.0) × IsTextOf d shown.0.text shown.1}
    (λ (x : Window). option_map {U = Window × TextState} (λ t. (x, t)) (text_of d x.text)) (shown_by v w.windows) shown is
    (λ window at is'. by window at (text_of d window.text) refl is')
  where
    by : (window : Window) → shown_by v w.windows ≡ Some window → (o : Option TextState) → text_of d window.text ≡ o
        → option_map {U = Window × TextState} (λ t. (window, t)) o ≡ Some shown
        → (shown_by v w.windows ≡ Some shown.0) × IsTextOf d shown.0.text shown.1
    by window at None there is = absurd (none-some shown is)
    by window at (Some t) there is =
        subst (λ (x : Window × TextState). (shown_by v w.windows ≡ Some x.0) × IsTextOf d x.0.text x.1)
        (same_Some (window, t) shown is) (at, there)

-- a search

first_from : (bytes text : List ℕ) (from q q' : ℕ) → IsFirstFrom bytes text from q → IsFirstFrom bytes text from q'
    → q ≡ q'
first_from bytes text from q q' a b = by (cases_lt q q') (cases_lt q' q)
  where
    by : (q < q') ⊎ (q' ≤ q) → (q' < q) ⊎ (q ≤ q') → q ≡ q'
    by (inl below) more = absurd (b.first q a.after below a.there)
    by (inr le) (inl below) = absurd (a.first q' b.after below b.there)
    by (inr le) (inr ge) = le_antisymm ge le

searches : (s : State) (i : ℕ) (w : Screened) (c : Caret) (t : TextState) (bytes : List ℕ) (r r' : Reply)
    (new new' : State) → Searches s i w c t bytes r new → Searches s i w c t bytes r' new' → AreSame r r' new new'
searches s i w c t bytes r r' new new' (inl (q, first, is, is_new)) (inl (q', first', is', is_new')) =
    let same : q ≡ q' = first_from bytes (bytes_shown t) (place_in t c.anchor) q q' first first' in (
      is ∙ (λ k. found (same k + length bytes)) ∙ sym is',
      is_new ∙ (λ k. with_screen_at s i (record w
          { caret = Some (record c { anchor = anchor_before (shown_of t) (same k + length bytes) }) })) ∙ sym is_new',
    )
searches s i w c t bytes r r' new new' (inl (q, first, is, is_new)) (inr (none, is', is_new')) =
    absurd (none q first.after first.there)
searches s i w c t bytes r r' new new' (inr (none, is, is_new)) (inl (q, first, is', is_new')) =
    absurd (none q first.after first.there)
searches s i w c t bytes r r' new new' (inr (none, is, is_new)) (inr (none', is', is_new')) =
    (is ∙ sym is', is_new ∙ sym is_new')

-- files

becomes : (s : State) (name : List ℕ) (file : Option (List ℕ)) (new new' : State) → FileBecomes s name file new
    → FileBecomes s name file new' → new ≡ new'
becomes s name file new new' (files, at, rest, is) (files', at', rest', is') =
    let same : files ≡ files' = λ k other. each other (bytes_eq other name) refl k in
    is ∙ (λ k. record s { files = same k }) ∙ sym is'
  where
    each : (other : List ℕ) (is : Bool) → bytes_eq other name ≡ is → files other ≡ files' other
    each other true same =
        subst (λ (x : List ℕ). files x ≡ files' x) (sym ((bytes_eq-Decides other name).0 same)) (at ∙ sym at')
    each other false differ =
        let apart : other ≢ name = λ e. true≢false (sym ((bytes_eq-Decides other name).1 e) ∙ differ) in
        rest other apart ∙ sym (rest' other apart)

writes : (s : State) (much most : ℕ) (name file : List ℕ) (part : Part) (r r' : Reply) (new new' : State)
    → Writes s much most name file part r new → Writes s much most name file part r' new' → AreSame r r' new new'
writes s much most name file untouched r r' new new' a b = refuses_one s BadFile r r' new new' a.1 b.1
writes s much most name file went_well r r' new new' (few, is, now) (few', is', now') =
    (is ∙ sym is', becomes s name (Some file) new new' now now')
writes s much most name file (failed left) r r' new new' (few, is, now) (few', is', now') =
    (is ∙ sym is', becomes s name left new new' now now')

-- texts of a file put in as two loads tell them are put in as one tells
loaded_so : OneText → (Puts : List Item → Type 0) (s : State) (name file file' : List ℕ) (items items' : List Item)
    → s.files name ≡ Some file → s.files name ≡ Some file' → IsFileOf items file → IsFileOf items' file' → Puts items'
    → Puts items
loaded_so one Puts s name file file' items items' at at' is is' =
    subst Puts (one items' items file
    (subst (λ (x : List ℕ). IsFileOf items' x) (one_element (s.files name) file' file at' at) is') is)

loads : OneText → (s : State) (i : ℕ) (w : Screened) (name : List ℕ) (part : Part) (c : Caret) (window : Window)
    (t : TextState) (r r' : Reply) (new new' : State) → EditsOne EditsAt s r r'
    → Loads s i w name part c window t r new → Loads s i w name part c window t r' new' → AreSame r r' new new'
loads file_so s i w name untouched c window t r r' new new' one a b = absurd a
loads file_so s i w name (failed left) c window t r r' new new' one a b = refuses_one s ReadFault r r' new new' a b
loads file_so s i w name went_well c window t r r' new new' one (file, at, inl a) (file', at', inl b) =
    refuses_one s BadFile r r' new new' a.1 b.1
loads file_so s i w name went_well c window t r r' new new' one (file, at, inl a) (file', at', inr (items, is, goes)) =
    absurd (a.0 items (subst (λ (x : List ℕ). IsFileOf items x) (one_element (s.files name) file' file at' at) is))
loads file_so s i w name went_well c window t r r' new new' one (file, at, inr (items, is, goes)) (file', at', inl b) =
    absurd (b.0 items (subst (λ (x : List ℕ). IsFileOf items x) (one_element (s.files name) file file' at at') is))
loads file_so s i w name went_well c window t r r' new new' one (file, at, inr (items, is, goes))
    (file', at', inr (items', is', goes')) =
    at_caret EditsAt s i w c window t (λ p. insertion p items) r r' new new' one goes
    (loaded_so file_so (λ x. AtCaret EditsAt s i w c window t (λ p. insertion p x) r' new') s name file file' items items' at
    at' is is' goes')

-- where a text can do but one thing, and tells one reply, the run goes on in one way
at_text_one : (F : Reply → TextState → TextState → Type 0)
    → ((r r' : Reply) (t u u' : TextState) → F r t u → F r' t u' → (r ≡ r') × (u ≡ u')) → (s new new' : State) (i text : ℕ)
    (r r' : Reply) → AtText (F r) s i text [] new → AtText (F r') s i text [] new' → AreSame r r' new new'
at_text_one F one s new new' i text r r' (d, x, at, does, is) (d', x', at', does', is') =
    let ds : d' ≡ d = one_element (slice_get s.desks i) d' d at' at in
    let both = in_text (Tells (F r)) (Tells (F r')) (r ≡ r') d x x' text
    (λ t u u' there (v, goes, is_u) (v', goes', is_u').
    let same = one r r' t v v' goes goes' in (same.0, is_u ∙ ap all_told same.1 ∙ sym is_u')) does
    (subst (λ (y : SiteTexts). InText (Tells (F r')) y text x') ds does') in
    (both.0, is ∙ (λ k. record s { desks = slice_set s.desks i (both.1 k); sent = s.sent ++ [] }) ∙ sym is')

-- a beginning of a text anew

begins_with : (s : State) (i text : ℕ) (ops : List Operation) (r r' : Reply) (new new' : State)
    → BeginsWith s i text ops r new → BeginsWith s i text ops r' new' → AreSame r r' new new'
begins_with s i text ops r r' new new' (does, is) (does', is') =
    let same = at_text_one (λ q t u. HasTakenAll (empty_text t.text t.site) ops u × (q ≡ done))
    (λ q q' t u u' a b. (a.1 ∙ sym b.1, one_begun (empty_text t.text t.site) u u' ops a.0 b.0)) s new new' i text r r'
    (with_reply r new does is) (with_reply r' new' does' is') in
    same
  where
    with_reply : (q : Reply) (x : State)
        → AtText (λ t u. HasTakenAll (empty_text t.text t.site) ops u) s i text [] x → q ≡ done
        → AtText (λ t u. HasTakenAll (empty_text t.text t.site) ops u × (q ≡ done)) s i text [] x
    with_reply q x (d, d', at, (t, u, of_d, (v, taken, is_u), is_d), is_x) is_q =
        (d, d', at, (t, u, of_d, (v, (taken, is_q), is_u), is_d), is_x)

-- a text begins as a site's file tells, or is refused as another's
abbrev pub BeginsOf : State → (i text : ℕ) → TextState → (number site : ℕ) → List Operation → Reply → State → Type 0
BeginsOf s i text t number site ops r new = MatchBool (number == t.text && site == t.site)
    (BeginsWith s i text ops r new) (Refuses s WrongText r new)

begins_of : (s : State) (i text : ℕ) (t : TextState) (number site : ℕ) (ops : List Operation) (r r' : Reply)
    (new new' : State) → BeginsOf s i text t number site ops r new → BeginsOf s i text t number site ops r' new'
    → AreSame r r' new new'
begins_of s i text t number site ops r r' new new' = by_case (number == t.text && site == t.site) _ _ _ _ _
    (begins_with s i text ops r r' new new') (refuses_one s WrongText r r' new new')

begins_as : OneKept → (s : State) (i text : ℕ) (t : TextState) (file : List ℕ) (r r' : Reply) (new new' : State)
    → BeginsAs s i text t file r new → BeginsAs s i text t file r' new' → AreSame r r' new new'
begins_as kept_so s i text t file r r' new new' (inl a) (inl b) = refuses_one s BadFile r r' new new' a.1 b.1
begins_as kept_so s i text t file r r' new new' (inl a) (inr (number, site, ops, is, goes)) =
    absurd (a.0 number site ops is)
begins_as kept_so s i text t file r r' new new' (inr (number, site, ops, is, goes)) (inl b) =
    absurd (b.0 number site ops is)
begins_as kept_so s i text t file r r' new new' (inr (number, site, ops, is, goes))
    (inr (number', site', ops', is', goes')) =
    let same = kept_so file number' site' number site ops' ops is' is in
    begins_of s i text t number site ops r r' new new' goes
    (subst (λ (x : List Operation). BeginsOf s i text t number site x r' new') same.2
    (subst (λ (x : ℕ). BeginsOf s i text t number x ops' r' new') same.1
    (subst (λ (x : ℕ). BeginsOf s i text t x site' ops' r' new') same.0 goes')))

reopens : OneKept → (s : State) (i text : ℕ) (t : TextState) (name : List ℕ) (part : Part) (r r' : Reply)
    (new new' : State) → Reopens s i text t name part r new → Reopens s i text t name part r' new' → AreSame r r' new new'
reopens kept_so s i text t name untouched r r' new new' a b = absurd a
reopens kept_so s i text t name (failed left) r r' new new' a b = refuses_one s ReadFault r r' new new' a b
reopens kept_so s i text t name went_well r r' new new' (file, at, a) (file', at', b) =
    begins_as kept_so s i text t file r r' new new' a (subst (λ (x : List ℕ). BeginsAs s i text t x r' new')
    (one_element (s.files name) file' file at' at) b)

-- a text in which something was done already isn't reopened, and one in which nothing was yet is
abbrev pub ReopensBy : State → (i text : ℕ) → TextState → (name : List ℕ) → Part → (begun : Bool) → Reply → State
    → Type 0
ReopensBy s i text t name part begun r new =
    MatchBool begun ((part ≡ untouched) × Refuses s Conflict r new) (Reopens s i text t name part r new)

reopens_by : OneKept → (s : State) (i text : ℕ) (t : TextState) (name : List ℕ) (part : Part) (r r' : Reply)
    (new new' : State) → ReopensBy s i text t name part (text_has_begun t) r new
    → ReopensBy s i text t name part (text_has_begun t) r' new' → AreSame r r' new new'
reopens_by kept_so s i text t name part r r' new new' = by_case (text_has_begun t) _ _ _ _ _
    (λ a b. refuses_one s Conflict r r' new new' a.1 b.1) (reopens kept_so s i text t name part r r' new new')

reopens_short : (s : State) (name : List ℕ) (part : Part) (r r' : Reply) (new new' : State)
    → ReopensShort s name part r new → ReopensShort s name part r' new' → AreSame r r' new new'
reopens_short s name untouched r r' new new' a b = absurd a
reopens_short s name (failed left) r r' new new' a b = absurd a
reopens_short s name went_well r r' new new' (file, at, a) (file', at', b) = refuses_one s OutOfMemory r r' new new' a b

-- an emptying of a room, and an arrangement

forgets : (s : State) (i text : ℕ) (r r' : Reply) (new new' : State) → Forgets s i text r new
    → Forgets s i text r' new' → AreSame r r' new new'
forgets s i text r r' new new' a b =
    at_text_one (λ q t u. (q ≡ forgot (length t.waiting_room)) × (u ≡ with_room t []))
    (λ q q' t u u' x y. (x.0 ∙ sym y.0, x.1 ∙ sym y.1)) s new new' i text r r' a b

-- an arrangement that comes to this
abbrev pub ComesTo : State → ℕ → Arranged → Reply → State → Type 0
ComesTo s i out r new =
    MatchResult out (λ out. (r ≡ option_map_or (λ v. opens v) out.1 done) × (new ≡ with_screen_at s i out.0))
    (λ why. Refuses s why r new)

arranges : (s : State) (i : ℕ) (out : Arranged) (r r' : Reply) (new new' : State) → ComesTo s i out r new
    → ComesTo s i out r' new' → AreSame r r' new new'
arranges s i (Ok out) r r' new new' a b = (a.0 ∙ sym b.0, a.1 ∙ sym b.1)
arranges s i (Err why) r r' new new' a b = (a.0 ∙ sym b.0, a.1 ∙ sym b.1)

-- what a desk is asked, where memory is there
tasks : OneText → OneKept → (s : State) (i : ℕ) (d : SiteTexts) (w : Screened) (t : Task) (part : Part) (r r' : Reply)
    (new new' : State) → EditsOne EditsAt s r r' → DoesTask s i d w t part r new → DoesTask s i d w t part r' new'
    → AreSame r r' new new'
tasks file_so kept_so s i d w (refuse why) part r r' new new' one a b = refuses_one s why r r' new new' a.1 b.1
tasks file_so kept_so s i d w (insert_at_caret items) part r r' new new' one a b = if_caret s d w part r r' new new' _ _
    (λ c window t x y. at_caret EditsAt s i w c window t (λ p. insertion p items) r r' new new' one x.1 y.1) a b
tasks file_so kept_so s i d w recall_at_caret part r r' new new' one a b = if_caret s d w part r r' new new' _ _
    (λ c window t x y. at_caret EditsAt s i w c window t recalling r r' new new' one x.1 y.1) a b
tasks file_so kept_so s i d w (load name) part r r' new new' one a b = if_caret s d w part r r' new new' _ _
    (λ c window t x y. loads file_so s i w name part c window t r r' new new' one x y) a b
tasks file_so kept_so s i d w (store text name) part r r' new new' one (t, there, a) (t', there', b) =
    writes s _ _ name _ part r r' new new' a (subst (λ (x : TextState). Stores s x name part r' new')
    (lemma_one_text s i text t' t there' there) b)
tasks file_so kept_so s i d w (search bytes) part r r' new new' one a b = if_caret s d w part r r' new new' _ _
    (λ c window t x y. searches s i w c t bytes r r' new new' x.1 y.1) a b
tasks file_so kept_so s i d w (change text e) part r r' new new' one a b =
    one i text e new new' a.1 b.1
tasks file_so kept_so s i d w (forget text) part r r' new new' one a b = forgets s i text r r' new new' a.1 b.1
tasks file_so kept_so s i d w (arrange x) part r r' new new' one a b =
    arranges s i (arranged d w x) r r' new new' a.1 b.1
tasks file_so kept_so s i d w (print v) part r r' new new' one (p, is, is_new) (p', is', is_new') =
    (is ∙ sym is', is_new ∙ sym is_new')
tasks file_so kept_so s i d w (keep form text name) part r r' new new' one (t, there, a) (t', there', b) =
    writes s _ _ name _ part r r' new new' a (subst (λ (x : TextState). Keeps s form x name part r' new')
    (lemma_one_text s i text t' t there' there) b)
tasks file_so kept_so s i d w (reopen text name) part r r' new new' one (t, there, a) (t', there', b) =
    reopens_by kept_so s i text t name part r r' new new' a
    (subst (λ (x : TextState). ReopensBy s i text x name part (text_has_begun x) r' new')
    (lemma_one_text s i text t' t there' there) b)

-- a click's task

abbrev pub IsParameterBy : Token → Bool → Option Marked → Result TokenValue Refusal → Type 0
IsParameterBy token sign m told = MatchBool sign (MatchOption m (told ≡ Err NoSelection)
    (λ m. (there : Token) × IsTokenAt (bytes_shown m.text) m.beg there × (told ≡ Ok there.value))) (told ≡ Ok token.value)

parameter : (d : SiteTexts) (w : Screened) (token : Token) (told told' : Result TokenValue Refusal)
    → IsParameter d w token told → IsParameter d w token told' → told ≡ told'
parameter d w token told told' a b = by (is_caret_sign token.value) (marked d w) a b
  where
    by : (sign : Bool) (m : Option Marked) → IsParameterBy token sign m told → IsParameterBy token sign m told'
        → told ≡ told'
    by true None a b = a ∙ sym b
    by true (Some m) (there, at, is) (there', at', is') =
        is ∙ (λ k. Ok ((lemma_one_token (bytes_shown m.text) m.beg there there' at at' k).value)) ∙ sym is'
    by false m a b = a ∙ sym b

abbrev pub IsTaskFor : SiteTexts → Screened → Call → ℕ → ℕ → Task → Result TokenValue Refusal → Type 0
IsTaskFor d w call v text x told =
    MatchResult told (λ value. x ≡ task_of d w call.command value v text) (λ why. x ≡ refuse why)

abbrev pub IsTaskBy : SiteTexts → Screened → Call → ℕ → ℕ → Bool → Task → Type 0
IsTaskBy d w call v text has x = MatchBool has
    ((told : Result TokenValue Refusal) × IsParameter d w call.token told × IsTaskFor d w call v text x told)
    (x ≡ task_of d w call.command call.token.value v text)

call_task : (d : SiteTexts) (w : Screened) (call : Call) (v text : ℕ) (t t' : Task) → IsTaskOfCall d w call v text t
    → IsTaskOfCall d w call v text t' → t ≡ t'
call_task d w call v text t t' a b = by (has_parameter call.command) a b
  where
    both : (told : Result TokenValue Refusal) → IsTaskFor d w call v text t told → IsTaskFor d w call v text t' told
        → t ≡ t'
    both (Ok value) a b = a ∙ sym b
    both (Err why) a b = a ∙ sym b

    by : (has : Bool) → IsTaskBy d w call v text has t → IsTaskBy d w call v text has t' → t ≡ t'
    by true (told, is, a) (told', is', b) =
        both told a (subst (λ (x : Result TokenValue Refusal). IsTaskFor d w call v text t' x)
        (parameter d w call.token told' told is' is) b)
    by false a b = a ∙ sym b

abbrev pub IsTaskIn : SiteTexts → Screened → Option Clicked → Task → Type 0
IsTaskIn d w at x = MatchOption at (x ≡ refuse NoViewer)
    (λ at. (NoCallAt at.bytes at.pos × (x ≡ refuse UnknownCommand))
    ⊎ ((call : Call) × IsCallAt at.bytes at.pos call × IsTaskOfCall d w call at.viewer at.text x))

task_at : (d : SiteTexts) (w : Screened) (col row : ℕ) (t t' : Task) → IsTaskAt d w col row t → IsTaskAt d w col row t'
    → t ≡ t'
task_at d w col row t t' a b = by (clicked d w col row) a b
  where
    by : (at : Option Clicked) → IsTaskIn d w at t → IsTaskIn d w at t' → t ≡ t'
    by None a b = a ∙ sym b
    by (Some at) (inl a) (inl b) = a.1 ∙ sym b.1
    by (Some at) (inl a) (inr (call, is, goes)) = absurd (a.0 call is)
    by (Some at) (inr (call, is, goes)) (inl b) = absurd (b.0 call is)
    by (Some at) (inr (call, is, goes)) (inr (call', is', goes')) =
        call_task d w call at.viewer at.text t t' goes (subst (λ (x : Call). IsTaskOfCall d w x at.viewer at.text t')
        (one_call at.bytes at.pos call' call is' is) goes')

-- a desk and a screen, told twice, are one
at_desk : (Of : SiteTexts → Screened → Type 0) (s : State) (i : ℕ) (d d' : SiteTexts) (w w' : Screened)
    → IsDeskAt s i d w → IsDeskAt s i d' w' → Of d' w' → Of d w
at_desk Of s i d d' w w' at at' is =
    subst (λ (x : Screened). Of d x) (one_element (slice_get s.screens i) w' w at'.screen at.screen)
    (subst (λ (x : SiteTexts). Of x w') (one_element (slice_get s.desks i) d' d at'.texts at.texts) is)

-- what follows of a task that was clicked twice
at_task : (Of : SiteTexts → Screened → Task → Type 0) (s : State) (i col row : ℕ) (d d' : SiteTexts) (w w' : Screened)
    (t t' : Task) → IsDeskAt s i d w → IsDeskAt s i d' w' → IsTaskAt d w col row t → IsTaskAt d' w' col row t'
    → Of d' w' t' → Of d w t
at_task Of s i col row d d' w w' t t' at at' is is' does =
    subst (λ (x : Task). Of d w x)
    (task_at d w col row t' t (at_desk (λ d w. IsTaskAt d w col row t') s i d d' w w' at at' is') is)
    (at_desk (λ d w. Of d w t') s i d d' w w' at at' does)

module _ (edits_so : EditsOneWay) (takes_so : TakesOneWay) (drains_so : DrainsOneWay) (merges_so : MergesOneWay)
    (only : NoOtherRuns) (file_so : OneText) (kept_so : OneKept) (chunk_so : OneChunk) (s : State) (are : AreTexts s)
    (part : Part) (r r' : Reply) (new new' : State) where
  one_whole : (e : Event) → Does s e part r new → Does s e part r' new' → AreSame r r' new new'
  one_whole (edit i text e) a b = one_edit edits_so s i text e are r r' new new' a.1 b.1
  one_whole (edit_by_names i text what names) a b = one_edit_by_names s i text what names are r r' new new' a.1 b.1
  one_whole (copy i text beg end other pos) a b =
      one_copy edits_so takes_so drains_so merges_so only s are part r r' new new' i text beg end other pos a b
  one_whole (taking i text d) a b =
      one_take edits_so takes_so drains_so merges_so only s are part r r' new new' i text d a b
  one_whole (unpack i text chunk) a b =
      one_unpack edits_so takes_so drains_so merges_so only s are part r r' new new' chunk_so i text chunk a b
  one_whole (settle i text) a b =
      one_settling edits_so takes_so drains_so merges_so only s are part r r' new new' i text a b
  one_whole (merge i text j) a b =
      one_merge edits_so takes_so drains_so merges_so only s are part r r' new new' i text j a b
  one_whole (query i text q) a b =
      one_query edits_so takes_so drains_so merges_so only s are part r r' new new' i text q a b
  one_whole (ask i t) (d, w, at, does) (d', w', at', does') =
      tasks file_so kept_so s i d w t part r r' new new'
      (λ i text e mid mid'. one_edit edits_so s i text e are r r' mid mid') does
      (at_desk (λ d w. DoesTask s i d w t part r' new') s i d d' w w' at at' does')
  one_whole (click i col row) (d, w, t, at, is, does) (d', w', t', at', is', does') =
      tasks file_so kept_so s i d w t part r r' new new'
      (λ i text e mid mid'. one_edit edits_so s i text e are r r' mid mid') does
      (at_task (λ d w t. DoesTask s i d w t part r' new') s i col row d d' w w' t t' at at' is is' does')
  one_whole unknown a b = refuses_one s BadEvent r r' new new' a.1 b.1

-- where memory was refused

-- the reply refuses
abbrev IsRefusal : Reply → Type 0
IsRefusal told = (why : Refusal) × (told ≡ refuses why)

neither : {A : Type 0} → ⊥ ⊎ ⊥ → A
neither (inl one) = absurd one
neither (inr other) = absurd other

refusal : (r : Reply) (why : Refusal) → HaveOneShape r (refuses why) ⊎ HaveOneShape (refuses why) r → IsRefusal r
refusal (refuses why) other shape = (why, refl)
refusal (sends a) other shape = neither shape
refusal (takes (Taken a b c)) other shape = neither shape
refusal (takes Waits) other shape = neither shape
refusal (takes Repeat) other shape = neither shape
refusal (unpacks a) other shape = neither shape
refusal (settles a b c) other shape = neither shape
refusal (merges a) other shape = neither shape
refusal (prints a) other shape = neither shape
refusal (opens a) other shape = neither shape
refusal (found a) other shape = neither shape
refusal not_found other shape = neither shape
refusal (forgot a) other shape = neither shape
refusal done other shape = neither shape
refusal (stops a b c) other shape = neither shape
refusal (unpacks_first a b) other shape = neither shape

-- a reply that has one shape with a refusal refuses
refused_first : (r r' : Reply) (why : Refusal) → r' ≡ refuses why → HaveOneShape r r' → IsRefusal r
refused_first r r' why is shape = refusal r why (inl (subst (λ (x : Reply). HaveOneShape r x) is shape))

refused_second : (r r' : Reply) (why : Refusal) → r ≡ refuses why → HaveOneShape r r' → IsRefusal r'
refused_second r r' why is shape = refusal r' why (inr (subst (λ (x : Reply). HaveOneShape x r') is shape))

-- an edit that memory refused wholly left the texts as they were, where they had told their changes
stays : (s : State) → HaveTold s → (i text : ℕ) (e : Edit) (r : Reply) (mid : State) → IsRefusal r
    → EditsShortAt s i text e r mid → (r ≡ refuses OutOfMemory) × (mid ≡ s)
stays s told_all i text e r mid (why, is_why) (d, x, at, (t, u, of_d, (v, short, is_u), is_x), is_mid) =
    by (part_of_edit e r t v short)
  where
    by : IsPartOfEdit t (plan t e) r v → (r ≡ refuses OutOfMemory) × (mid ≡ s)
    by (inl (is, is_v)) =
        let same : u ≡ t = is_u ∙ ap all_told is_v ∙ told_same t (told_all i text t (d, at, of_d)) in
        let desk : x ≡ d = is_x ∙ (λ k. record d
        { texts = (ap (slice_set d.texts (text - 1)) same ∙ put_back d.texts (text - 1) t of_d) k }) in
        let desks : slice_set s.desks i x ≡ s.desks = ap (slice_set s.desks i) desk ∙ put_back s.desks i d at in
        let sent : s.sent ++ messages_of r ≡ s.sent =
        ap (λ (r : Reply). s.sent ++ messages_of r) is ∙ append-nil s.sent in
        (is, is_mid ∙ (λ k. record s { desks = desks k; sent = sent k }))
    by (inr (n, is, is_v)) =
        let apart : refuses why ≡ stops (map spelling (take n (plan t e))) n OutOfMemory = sym is_why ∙ is in absurd cc

-- so did one at the caret, which stands where it stood
caret_stays : (s : State) → HaveTold s → (i : ℕ) (w : Screened) (c : Caret) (window : Window) (t : TextState) (edit_at : ℕ → Edit)
    (r : Reply) (new : State) → slice_get s.screens i ≡ Some w → w.caret ≡ Some c
    → IsTextAt s i window.text t → IsRefusal r
    → AtCaret EditsShortAt s i w c window t edit_at r new → Refuses s OutOfMemory r new
caret_stays s told_all i w c window t edit_at r new screen caret here refusal (mid, u, does, there, is_new) =
    let stay = stays s told_all i window.text (edit_at (place_in t c.anchor)) r mid refusal does in
    let texts : u ≡ t = lemma_one_text s i window.text u t
    (subst (λ (x : State). IsTextAt x i window.text u) stay.1 there) here in
    let anchor : caret_after t u (place_in t c.anchor) c.anchor ≡ c.anchor =
    ap (λ (x : TextState). caret_after t x (place_in t c.anchor) c.anchor) texts
    ∙ ap (λ (b : Bool). if b then c.anchor
    else anchor_before (shown_of t) (place_in t c.anchor + (length (shown_of t) - length (shown_of t))))
    (eq-eqb (length (shown_of t)) (length (shown_of t)) refl) in
    let screens : slice_set s.screens i
    (record w { caret = Some (record c { anchor = caret_after t u (place_in t c.anchor) c.anchor }) }) ≡ s.screens =
    ap (λ (a : Anchor). slice_set s.screens i (record w { caret = Some (record c { anchor = a }) })) anchor
    ∙ (λ k. slice_set s.screens i (record w { caret = sym caret k })) ∙ put_back s.screens i w screen in (
      stay.0,
      is_new ∙ ap (λ (x : State). with_screen_at x i (record w
          { caret = Some (record c { anchor = caret_after t u (place_in t c.anchor) c.anchor }) })) stay.1
          ∙ (λ k. record s { screens = screens k }),
    )

loads_short : OneText → (s : State) → HaveTold s → (i : ℕ) (w : Screened) (name : List ℕ) (part : Part) (c : Caret)
    (window : Window) (t : TextState) (r r' : Reply) (new new' : State) → slice_get s.screens i ≡ Some w
    → w.caret ≡ Some c → IsTextAt s i window.text t → HaveOneShape r r' → EditsOne EditsShortAt s r r'
    → LoadsShort s i w name part c window t r new → LoadsShort s i w name part c window t r' new'
    → AreSame r r' new new'
loads_short file_so s told_all i w name untouched c window t r r' new new' screen caret here shape one a b = absurd a
loads_short file_so s told_all i w name (failed left) c window t r r' new new' screen caret here shape one a b = absurd a
loads_short file_so s told_all i w name went_well c window t r r' new new' screen caret here shape one (file, at, inl a)
    (file', at', inl b) = refuses_one s OutOfMemory r r' new new' a b
loads_short file_so s told_all i w name went_well c window t r r' new new' screen caret here shape one (file, at, inl a)
    (file', at', inr (items, is, goes)) =
    refuses_one s OutOfMemory r r' new new' a
    (caret_stays s told_all i w c window t (λ p. insertion p items) r' new' screen caret here
    (refused_second r r' OutOfMemory a.0 shape) goes)
loads_short file_so s told_all i w name went_well c window t r r' new new' screen caret here shape one
    (file, at, inr (items, is, goes)) (file', at', inl b) =
    refuses_one s OutOfMemory r r' new new'
    (caret_stays s told_all i w c window t (λ p. insertion p items) r new screen caret here
    (refused_first r r' OutOfMemory b.0 shape) goes) b
loads_short file_so s told_all i w name went_well c window t r r' new new' screen caret here shape one
    (file, at, inr (items, is, goes)) (file', at', inr (items', is', goes')) =
    at_caret EditsShortAt s i w c window t (λ p. insertion p items) r r' new new' one goes
    (loaded_so file_so (λ x. AtCaret EditsShortAt s i w c window t (λ p. insertion p x) r' new') s name file file' items items'
    at at' is is' goes')

-- what a desk is asked
tasks_short : OneText → (s : State) (i : ℕ) (d : SiteTexts) (w : Screened) (t : Task) → (IsLoad t → HaveTold s) → (part : Part) (r r' : Reply)
    (new new' : State) → IsDeskAt s i d w → HaveOneShape r r' → EditsOne EditsShortAt s r r'
    → ShortTask s i d w t part r new → ShortTask s i d w t part r' new' → AreSame r r' new new'
tasks_short file_so s i d w (refuse why) told part r r' new new' at shape one a b = absurd a
tasks_short file_so s i d w (insert_at_caret items) told part r r' new new' at shape one a b = with_caret d w _ _ _
    (λ c window t caret shows x y. at_caret EditsShortAt s i w c window t (λ p. insertion p items) r r' new new' one x y) a.1 b.1
tasks_short file_so s i d w recall_at_caret told part r r' new new' at shape one a b = with_caret d w _ _ _
    (λ c window t caret shows x y. at_caret EditsShortAt s i w c window t recalling r r' new new' one x y) a.1 b.1
tasks_short file_so s i d w (load name) told part r r' new new' at shape one a b = with_caret d w _ _ _
    (λ c window t caret shows x y. loads_short file_so s (told tt) i w name part c window t r r' new new' at.screen caret
    (d, at.texts, (shown_parts d w c.viewer (window, t) shows).1) shape one x y) a b
tasks_short file_so s i d w (store text name) told part r r' new new' at shape one (p, there, a) (p', there', b) =
    refuses_one s OutOfMemory r r' new new' a b
tasks_short file_so s i d w (search bytes) told part r r' new new' at shape one a b = absurd a
tasks_short file_so s i d w (change text e) told part r r' new new' at shape one a b =
    one i text e new new' a.1 b.1
tasks_short file_so s i d w (forget text) told part r r' new new' at shape one a b = absurd a
tasks_short file_so s i d w (arrange (Open track text row)) told part r r' new new' at shape one (p, ok, a) (p', ok', b) =
    refuses_one s OutOfMemory r r' new new' a b
tasks_short file_so s i d w (arrange (Close v)) told part r r' new new' at shape one a b = absurd a
tasks_short file_so s i d w (arrange (Move v row)) told part r r' new new' at shape one a b = absurd a
tasks_short file_so s i d w (arrange (Scroll v line)) told part r r' new new' at shape one a b = absurd a
tasks_short file_so s i d w (arrange (Point cell)) told part r r' new new' at shape one a b = absurd a
tasks_short file_so s i d w (arrange (Select beg end)) told part r r' new new' at shape one a b = absurd a
tasks_short file_so s i d w (print v) told part r r' new new' at shape one (p, a) (p', b) =
    refuses_one s OutOfMemory r r' new new' a b
tasks_short file_so s i d w (keep form text name) told part r r' new new' at shape one (p, there, a) (p', there', b) =
    refuses_one s OutOfMemory r r' new new' a b
tasks_short file_so s i d w (reopen text name) told part r r' new new' at shape one (there, a) (there', b) =
    reopens_short s name part r r' new new' a b

-- what a click comes to may be a load
module _ (edits_so : EditsOneWay) (takes_so : TakesOneWay) (drains_so : DrainsOneWay) (merges_so : MergesOneWay)
    (file_so : OneText) (s : State) (are : AreTexts s) (part : Part) (r r' : Reply) (new new' : State)
    (shape : HaveOneShape r r') where
  one_short : (e : Event) → (MayLoad e → HaveTold s) → Short s e part r new → Short s e part r' new' → AreSame r r' new new'
  one_short (edit i text e) told a b = one_edit_short s i text e are r r' new new' shape a.1 b.1
  one_short (edit_by_names i text what names) told a b = one_edit_by_names_short s i text what names are r r' new new' a.1 b.1
  one_short (copy i text beg end other pos) told a b =
      one_copy_short takes_so drains_so merges_so s are part r r' new new' shape i text beg end other pos a b
  one_short (taking i text d) told a b =
      one_take_short takes_so drains_so merges_so s are part r r' new new' shape i text d a b
  one_short (unpack i text chunk) told a b =
      one_unpack_short takes_so drains_so merges_so s are part r r' new new' shape i text chunk a b
  one_short (settle i text) told a b =
      one_settling_short takes_so drains_so merges_so s are part r r' new new' shape i text a b
  one_short (merge i text j) told a b =
      one_merge_short takes_so drains_so merges_so s are part r r' new new' shape i text j a b
  one_short (query i text q) told (free, inside, a) (free', inside', b) = refuses_one s OutOfMemory r r' new new' a b
  one_short (ask i t) told (d, w, at, does) (d', w', at', does') =
      tasks_short file_so s i d w t told part r r' new new' at shape
      (λ i text e mid mid'. one_edit_short s i text e are r r' mid mid' shape) does
      (at_desk (λ d w. ShortTask s i d w t part r' new') s i d d' w w' at at' does')
  one_short (click i col row) told (d, w, t, at, is, does) (d', w', t', at', is', does') =
      tasks_short file_so s i d w t (λ load. told tt) part r r' new new' at shape
      (λ i text e mid mid'. one_edit_short s i text e are r r' mid mid' shape) does
      (at_task (λ d w t. ShortTask s i d w t part r' new') s i col row d d' w w' t t' at at' is is' does')
  one_short unknown told a b = absurd a

-- each event has one reply
pub one_reply : EditsOneWay → TakesOneWay → DrainsOneWay → MergesOneWay → NoOtherRuns → OneText → OneKept → OneChunk
    → EachEventHasOneReply
one_reply edits_so takes_so drains_so merges_so only file_so kept_so chunk_so s e part are = record {
  whole = λ r r' new new'.
      one_whole edits_so takes_so drains_so merges_so only file_so kept_so chunk_so s are part r r' new new' e;
  short = λ told r r' new new' a b shape.
      one_short edits_so takes_so drains_so merges_so file_so s are part r r' new new' shape e told a b;
}
