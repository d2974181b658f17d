-- No task and no click lacks a rule.
use Rattle.std.proofs.Common.{◌≡◌, ℕ, zero, suc, ◌+◌, ◌-◌, ◌<◌, ◌≤◌, true, false, Bool, List, [], ◌++◌, map, Option}
use Rattle.std.proofs.Common.{Some, None, Result, Ok, Err, refl, sym, ap, subst, ◌∙◌, inl, inr, length, take, drop, arith, true≢false}
use Rattle.std.specs.Prelude.{◌⊎◌, MatchBool, IsTrue, bytes_eq, option_map, slice_set, nat_lt}
use Rattle.std.specs.Prelude.{◌==◌, ◌&&◌, if◌then◌else◌}
use Rattle.std.specs.Option.{option_and_then, option_map_or}
use Rattle.std.proofs.lemmas.Bool.{and_parts, cases_lt, cond_both, eqb-true, false_from_ne_true}
use Rattle.std.proofs.lemmas.List.{append_assoc, drop_at, length-append, length-take-le, take-append-drop, take_at}
use Rattle.std.proofs.lemmas.Option.{cond_some, none-some, option_and_then_some, same_Some}
use Rattle.std.proofs.lemmas.Slice.Eq.{bytes_eq-Decides}
use Rattle.looks.specs.declared.refusal.Refusal.{Refusal}
use Rattle.looks.specs.declared.refusal.Refusal.TheVariants.{BadFile, Conflict, NoCaret, NoSelection, NoViewer}
use Rattle.looks.specs.declared.refusal.Refusal.TheVariants.{OutOfRange, ReadFault, UnknownCommand, WriteFault, WrongText}
use Rattle.char_files.specs.Stretch.{Item}
use Rattle.reader_scanner.proofs.OneToken.{token_there}
use Rattle.reader_scanner.specs.declared.token.Token.{Token}
use Rattle.reader_scanner.specs.declared.token.TokenValue.{TokenValue}
use Rattle.command_words.proofs.SomeCall.{call_or_none}
use Rattle.command_words.specs.Calls.{IsCallAt, NoCallAt}
use Rattle.command_words.specs.Commands.{has_parameter}
use Rattle.command_words.specs.declared.calls.Call.{Call}
use Rattle.command_words.specs.declared.command.Command.{Command}
use Rattle.command_words.specs.declared.command.Command.TheVariants as command
use Rattle.text_file.specs.Files.{IsFileOf, IsNoFile, formatted}
use Rattle.text_file.specs.declared.TheConstants.{MAX_STORED}
use Rattle.operations.specs.Operation.{Operation}
use Rattle.operations.specs.Spelling.{spelling}
use Rattle.texts.specs.Edit.{Edit, after, insertion, is_in_text, looks_change, plan, recalling}
use Rattle.texts.specs.Laws.{OwnEditsArePlain}
use Rattle.texts.specs.Outcome.{Edits, Shows, count_standing, first_refusal}
use Rattle.texts.specs.SiteFiles.{HasSiteFile}
use Rattle.texts.specs.Text.{IsText}
use Rattle.texts.specs.Taking.{HasTakenAll}
use Rattle.texts.specs.TextState.{TextState, all_told, empty_text, shown_items, with_room}
use Rattle.kept_file.specs.KeptFiles.{IsKeptFileOf, IsNoKeptFile, kept_bytes, most_kept}
use Rattle.kept_file.proofs.KeptFiles.{has_site_file}
use Rattle.texts.specs.declared.edit_refusal.EditRefusal.{EditRefusal}
use Rattle.texts.specs.declared.edit_refusal.EditRefusal.TheVariants.{Whole, Partial}
use Rattle.convergence.proofs.OwnOperations.{standing_within}
use Rattle.viewers.specs.Screen.{area_of}
use Rattle.viewers.specs.declared.screen.Area.{Area}
use Rattle.machine.specs.Commands.{Change, Clicked, IsParameter, IsTaskAt, IsTaskOfCall, bytes_parameter, clicked, clicked_in}
use Rattle.machine.specs.Commands.{colour_parameter, dress_marked, file_parameter, font_parameter, is_caret_sign, offset_parameter, task_of}
use Rattle.machine.specs.Commands.{task_with_value, text_parameter}
use Rattle.machine.specs.SiteTexts.{SiteTexts, with_text}
use Rattle.machine.specs.Events.{Part, Reply, Task, arrange, change, done, edit_reply, failed, forget, forgot, found, keep}
use Rattle.machine.specs.Events.{load, messages_of, not_found, opens, print, prints, insert_at_caret, recall_at_caret, refuse, refuses}
use Rattle.machine.specs.Events.{reopen, search, store, untouched, went_well}
use Rattle.machine.specs.OnTexts.{EditsText}
use Rattle.machine.specs.State.{AtText, IsDeskAt, IsTextAt, Refuses, State, with_screen_at}
use Rattle.machine.specs.Tasks.{AtCaret, BeginsAs, BeginsWith, DoesTask, EditsAt, FileBecomes, Forgets, IfCaret, IsFirstFrom}
use Rattle.machine.specs.Tasks.{Loads, Searches, StandsAt, lines_of_view, text_has_begun}
use Rattle.machine.specs.Windows.{Arranged, Caret, Marked, Screened, Window, arranged, bytes_shown, marked, marked_as}
use Rattle.machine.specs.Windows.{place_in, stretch_in, viewer_with, window_of}
use Rattle.machine_laws.proofs.OneOfTexts.{lemma_one_text}
use Rattle.machine_laws.proofs.OneReply.{BeginsOf, ComesTo, IsParameterBy, IsTaskBy, IsTaskIn, IsTaskFor, ReopensBy}
use Rattle.machine_laws.proofs.OneReply.{shown_parts}
use Rattle.machine_laws.proofs.Reopening.{some_begun}
use Rattle.machine_laws.proofs.Telling.{put_there}
use Rattle.machine_laws.specs.Laws.{AnswersAll, AreTexts, CaretHasText, EachTaskIsAnswered, HasText, MayHavePart}

-- an edit of a text

-- what an edit comes to, by what is refused first
edit_done : OwnEditsArePlain → (t : TextState) (e : Edit) → IsText t → IsTrue (is_in_text t e)
    → (result : Result ℕ EditRefusal) × (messages : List (List ℕ)) × (new : TextState)
    × Edits t (plan t e) result new messages × Shows t e result new
edit_done plain t e is within = by (first_refusal t (plan t e)) refl
  where
    by : (o : Option (ℕ × Refusal)) → first_refusal t (plan t e) ≡ o → (result : Result ℕ EditRefusal)
        × (messages : List (List ℕ)) × (new : TextState) × Edits t (plan t e) result new messages × Shows t e result new
    by None none =
        let n = length (plan t e) in (
          Ok n,
          map spelling (take n (plan t e)),
          after t (take n (plan t e)),
          (none, refl, record { text = refl; told = refl }),
          (plain t e n is within (omega arith)).whole refl,
        )
    by (Some (zero, why)) first = (
      Err (Whole why),
      map spelling (take 0 (plan t e)),
      t,
      (first, record { text = refl; told = refl }),
      refl,
    )
    by (Some (suc n, why)) first =
        let count : count_standing t (plan t e) ≡ suc n =
        ap (λ (stop : Option (ℕ × Refusal)). option_map_or (λ stop. stop.0) stop (length (plan t e))) first in (
          Err (Partial (suc n) why),
          map spelling (take (suc n) (plan t e)),
          after t (take (suc n) (plan t e)),
          (omega arith, first, record { text = refl; told = refl }),
          (plain t e (suc n) is within (omega (arith, count, standing_within t (plan t e)))).part (omega arith),
        )

-- an edit that lies in the text or past it, as it is told
abbrev IsToldBy : (t : TextState) → Edit → Bool → Reply → TextState → Type 0
IsToldBy t e b r new = MatchBool b ((result : Result ℕ EditRefusal) × (messages : List (List ℕ))
    × Edits t (plan t e) result new messages × Shows t e result new × (r ≡ edit_reply result messages))
    ((r ≡ refuses OutOfRange) × (new ≡ t))

edit_answered : OwnEditsArePlain → (t : TextState) (e : Edit) → IsText t
    → (r : Reply) × (new : TextState) × EditsText e r t new
edit_answered plain t e is = by (is_in_text t e) refl
  where
    by : (b : Bool) → is_in_text t e ≡ b → (r : Reply) × (new : TextState) × IsToldBy t e b r new
    by true within =
        let (result, messages, new, stand, shows) = edit_done plain t e is within in
        (edit_reply result messages, new, (result, messages, stand, shows, refl))
    by false past = (refuses OutOfRange, t, (refl, refl))

-- where a text that is there can do so, the run can
goes_at : (F : TextState → TextState → Type 0) (s : State) (i text : ℕ) (messages : List (List ℕ)) (t u : TextState)
    → IsTextAt s i text t → F t u → (new : State) × AtText F s i text messages new × IsTextAt new i text (all_told u)
goes_at F s i text messages t u (d, at, there) does =
    let D : SiteTexts = with_text d text (all_told u) in (
      record s { desks = slice_set s.desks i D; sent = s.sent ++ messages },
      (d, D, at, (t, all_told u, there, (u, does, refl), refl), refl),
      (D, put_there s.desks i d D at, put_there d.texts (text - 1) t (all_told u) there),
    )

-- each edit of a text that is there is answered, and the text is there then
edits : OwnEditsArePlain → (s : State) (i text : ℕ) (e : Edit) (t : TextState) → AreTexts s → IsTextAt s i text t
    → (r : Reply) × (mid : State) × (u : TextState) × EditsAt s i text e r mid × IsTextAt mid i text u
edits plain s i text e t are there =
    let (r, u, does) = edit_answered plain t e (are i text t there) in
    let (mid, goes, later) = goes_at (EditsText e r) s i text (messages_of r) t u there does in
    (r, mid, all_told u, goes, later)

-- a search

-- bytes stand at a position, or don't
stands_or_not : (bytes text : List ℕ) (q : ℕ) → q ≤ length text → StandsAt bytes text q ⊎ (StandsAt bytes text q → ⊥)
stands_or_not bytes text q within = by (bytes_eq (take (length bytes) (drop q text)) bytes) refl
  where
    by : (b : Bool) → bytes_eq (take (length bytes) (drop q text)) bytes ≡ b
        → StandsAt bytes text q ⊎ (StandsAt bytes text q → ⊥)
    by true same =
        let here : take (length bytes) (drop q text) ≡ bytes =
        (bytes_eq-Decides (take (length bytes) (drop q text)) bytes).0 same in
        let rest : drop q text ≡ bytes ++ drop (length bytes) (drop q text) =
        sym (take-append-drop (length bytes) (drop q text))
        ∙ ap (λ (x : List ℕ). x ++ drop (length bytes) (drop q text)) here in
        inl (
          take q text,
          drop (length bytes) (drop q text),
          sym (take-append-drop q text) ∙ ap (λ (x : List ℕ). take q text ++ x) rest
              ∙ sym (append_assoc (take q text) bytes (drop (length bytes) (drop q text))),
          length-take-le q text within,
        )
    by false differ = inr (λ stands.
        let (earlier, later, is, len) = stands in
        let here : take (length bytes) (drop q text) ≡ bytes =
        ap (λ (x : List ℕ). take (length bytes) (drop q x)) (is ∙ append_assoc earlier bytes later)
        ∙ ap (take (length bytes)) (drop_at earlier (bytes ++ later) q len) ∙ take_at bytes later (length bytes) refl in
        true≢false (sym ((bytes_eq-Decides (take (length bytes) (drop q text)) bytes).1 here) ∙ differ))

-- no bytes stand past the end
stands_within : (bytes text : List ℕ) (q : ℕ) → StandsAt bytes text q → q ≤ length text
stands_within bytes text q (earlier, later, is, len) =
    omega (arith, ap length (is ∙ append_assoc earlier bytes later), length-append earlier (bytes ++ later), len)

abbrev FirstOrNone : (bytes text : List ℕ) → ℕ → Type 0
FirstOrNone bytes text from = ((q : ℕ) × IsFirstFrom bytes text from q)
    ⊎ ((q : ℕ) → from ≤ q → StandsAt bytes text q → ⊥)

-- bytes stand somewhere from a position on, or nowhere there
first_after : (bytes text : List ℕ) (from n q : ℕ) → from ≤ q → n + q ≡ length text + 1
    → ((other : ℕ) → from ≤ other → other < q → StandsAt bytes text other → ⊥) → FirstOrNone bytes text from
first_after bytes text from zero q later all none = inr (λ other from_le stands.
    none other from_le (omega (arith, all, stands_within bytes text other stands)) stands)
first_after bytes text from (suc n) q later all none = elim (stands_or_not bytes text q (omega (arith, all))) [
  | inl here ↦ inl (q, record { after = later; there = here; first = none })
  | inr not_here ↦ first_after bytes text from n (suc q) (omega (arith, later)) (omega (arith, all))
      (λ other from_le lt stands. elim (cases_lt other q) [
        | inl earlier ↦ none other from_le earlier stands
        | inr le ↦ let same : other ≡ q = omega (arith, lt, le) in
            not_here (subst (StandsAt bytes text) same stands)
      ])
]

first_or_none : (bytes text : List ℕ) (from : ℕ) → FirstOrNone bytes text from
first_or_none bytes text from = elim (cases_lt (length text) from) [
  | inl past ↦ inr (λ q from_le stands. absurd (omega (arith, past, from_le, stands_within bytes text q stands)))
  | inr le ↦ first_after bytes text from (length text + 1 - from) from (omega arith) (omega (arith, le))
      (λ other from_le lt. absurd (omega (arith, from_le, lt)))
]

searches : (s : State) (i : ℕ) (w : Screened) (c : Caret) (t : TextState) (bytes : List ℕ)
    → (r : Reply) × (new : State) × Searches s i w c t bytes r new
searches s i w c t bytes = by (first_or_none bytes (bytes_shown t) (place_in t c.anchor))
  where
    by : FirstOrNone bytes (bytes_shown t) (place_in t c.anchor)
        → (r : Reply) × (new : State) × Searches s i w c t bytes r new
    by (inl (q, first)) = (found (q + length bytes), _, inl (q, first, refl, refl))
    by (inr none) = (not_found, s, inr (none, refl, refl))

-- what a desk is asked

-- a task is answered, with this part
abbrev Answers : State → ℕ → SiteTexts → Screened → Task → Part → Type 0
Answers s i d w t part = (r : Reply) × (new : State) × DoesTask s i d w t part r new

arranges : (s : State) (i : ℕ) (out : Arranged) → (r : Reply) × (new : State) × ComesTo s i out r new
arranges s i (Ok out) = (option_map_or (λ v. opens v) out.1 done, with_screen_at s i out.0, (refl, refl))
arranges s i (Err why) = ((refuses why), s, (refl, refl))

-- a click is into the text that the viewer shows
clicked_number : (v : ℕ) (area : Area) (col row : ℕ) (shown : Window × TextState)
    → shown.0.text ≡ (clicked_in v area col row shown).text
clicked_number v area col row shown =
    cond_both (row == area.top) _ _ (λ (x : Clicked). shown.0.text ≡ x.text) (λ e. refl) (λ e. refl)

-- at a desk whose caret has a text
module _ (plain : OwnEditsArePlain) (s : State) (i : ℕ) (d : SiteTexts) (w : Screened) (are : AreTexts s)
    (at : IsDeskAt s i d w) (has : CaretHasText d w) where
  -- what a viewer shows is one of the texts
  shown_at : (v : ℕ) (window : Window) (t : TextState) → window_of d w v ≡ Some (window, t)
      → IsTextAt s i window.text t
  shown_at v window t shows = (d, at.texts, (shown_parts d w v (window, t) shows).1)

  at_caret : (c : Caret) (window : Window) (t : TextState) (edit_at : ℕ → Edit) → IsTextAt s i window.text t
      → (r : Reply) × (new : State) × AtCaret EditsAt s i w c window t edit_at r new
  at_caret c window t edit_at here =
      let (r, mid, u, step, there) = edits plain s i window.text (edit_at (place_in t c.anchor)) t are here in
      (r, _, (mid, u, step, there, refl))

  -- where a caret is needed
  with_caret : (part : Part) (Goes : Reply → State → Caret → Window → TextState → Type 0)
      → ((c : Caret) (window : Window) (t : TextState) → w.caret ≡ Some c → IsTextAt s i window.text t
      → (r : Reply) × (new : State) × Goes r new c window t) → (o : Option Caret) → w.caret ≡ o
      → (o ≡ None → part ≡ untouched) → (r : Reply) × (new : State) × IfCaret s d w part r new (Goes r new)
  with_caret part Goes goes None is free = ((refuses NoCaret), s, inl (is, free refl, (refl, refl)))
  with_caret part Goes goes (Some c) is free =
      let (shown, shows) = has c is in
      let (r, new, g) = goes c shown.0 shown.1 is (shown_at c.viewer shown.0 shown.1 shows) in
      (r, new, inr (c, shown, is, shows, g))

  loads : (name file : List ℕ) (c : Caret) (window : Window) (t : TextState) → s.files name ≡ Some file
      → IsNoFile file ⊎ ((items : List Item) × IsFileOf items file) → IsTextAt s i window.text t
      → (r : Reply) × (new : State) × Loads s i w name went_well c window t r new
  loads name file c window t there (inl none) here =
      ((refuses BadFile), s, (file, there, inl (none, (refl, refl))))
  loads name file c window t there (inr (items, is)) here =
      let (r, new, goes) = at_caret c window t (λ p. insertion p items) here in
      (r, new, (file, there, inr (items, is, goes)))

  -- a reopening of a text in which nothing was done, where a file was read
  begins_with : (text : ℕ) (t : TextState) (ops : List Operation) → IsTextAt s i text t
      → HasSiteFile t.text t.site ops → (r : Reply) × (new : State) × BeginsWith s i text ops r new
  begins_with text t ops there has_file =
      let (u, taken) = some_begun t.text t.site ops has_file in
      let (new, goes, later) = goes_at (λ t u. HasTakenAll (empty_text t.text t.site) ops u) s i text [] t u there taken in
      (done, new, (goes, refl))

  begins_of : (text : ℕ) (t : TextState) (number site : ℕ) (ops : List Operation) → IsTextAt s i text t
      → HasSiteFile number site ops → (r : Reply) × (new : State) × BeginsOf s i text t number site ops r new
  begins_of text t number site ops there has_file = by (number == t.text && site == t.site) refl
    where
      by : (its : Bool) → (number == t.text && site == t.site) ≡ its → (r : Reply) × (new : State)
          × MatchBool its (BeginsWith s i text ops r new) (Refuses s WrongText r new)
      by true is =
          let both = and_parts (number == t.text) (site == t.site) is in
          begins_with text t ops there (subst (λ (x : ℕ). HasSiteFile x t.site ops) (eqb-true number t.text both.0)
          (subst (λ (x : ℕ). HasSiteFile number x ops) (eqb-true site t.site both.1) has_file))
      by false other = ((refuses WrongText), s, (refl, refl))

  begins_as : (text : ℕ) (t : TextState) (file : List ℕ) → IsTextAt s i text t
      → IsNoKeptFile file ⊎ ((number site : ℕ) × (ops : List Operation) × IsKeptFileOf number site ops file)
      → (r : Reply) × (new : State) × BeginsAs s i text t file r new
  begins_as text t file there (inl none) = ((refuses BadFile), s, inl (none, (refl, refl)))
  begins_as text t file there (inr (number, site, ops, is)) =
      let (r, new, goes) = begins_of text t number site ops there (has_site_file number site ops file is) in
      (r, new, inr (number, site, ops, is, goes))

  -- what is done where something was done in the text already, or nothing was yet
  by_begun : (text : ℕ) (t : TextState) (name : List ℕ) (part : Part) (r : Reply) (new : State) (begun : Bool)
      → text_has_begun t ≡ begun → ReopensBy s i text t name part begun r new → ReopensBy s i text t name part (text_has_begun t) r new
  by_begun text t name part r new begun is goes =
      subst (λ (b : Bool). ReopensBy s i text t name part b r new) (sym is) goes

  -- what a store leaves
  abbrev with_file : List ℕ → Option (List ℕ) → State
  with_file name left = record s { files = λ other. if bytes_eq other name then left else s.files other }

  becomes : (name : List ℕ) (left : Option (List ℕ)) → FileBecomes s name left (with_file name left)
  becomes name left = (
    λ other. if bytes_eq other name then left else s.files other,
    ap (λ (b : Bool). if b then left else s.files name) ((bytes_eq-Decides name name).1 refl),
    λ other apart. ap (λ (b : Bool). if b then left else s.files other)
        (false_from_ne_true (bytes_eq other name) (λ same. apart ((bytes_eq-Decides other name).0 same))),
    refl,
  )

  -- a room that is emptied tells how many waited there
  forgotten : (text : ℕ) (t : TextState) → IsTextAt s i text t → (new : State)
      → AtText (λ x u. (forgot (length x.waiting_room) ≡ forgot (length x.waiting_room)) × (u ≡ with_room x [])) s i text [] new
      → Forgets s i text (forgot (length t.waiting_room)) new
  forgotten text t there new (e, e', at_e, (u, v, of_e, (v', (same, is_v'), is_v), is_e'), is_new) =
      let here : t ≡ u = lemma_one_text s i text t u there (e, at_e, of_e) in
      (e, e', at_e, (u, v, of_e, (v', (ap (λ (x : TextState). forgot (length x.waiting_room)) here, is_v'), is_v), is_e'), is_new)

  tasks : (t : Task) (part : Part) → HasText s i t → MayHavePart s i w t part → Answers s i d w t part
  tasks (refuse why) part text free = ((refuses why), s, (free, (refl, refl)))
  tasks (insert_at_caret items) part text free = with_caret part _
      (λ c window t is here. let (r, new, g) = at_caret c window t (λ p. insertion p items) here in (r, new, (free, g)))
      w.caret refl (λ e. free)
  tasks recall_at_caret part text free = with_caret part _
      (λ c window t is here. let (r, new, g) = at_caret c window t recalling here in (r, new, (free, g)))
      w.caret refl (λ e. free)
  tasks (load name) untouched text free = ((refuses NoCaret), s, inl (free, refl, (refl, refl)))
  tasks (load name) went_well text (caret, (file, there, told)) = with_caret went_well _
      (λ c window t is here. loads name file c window t there told here) w.caret refl (λ e. absurd (caret e))
  tasks (load name) (failed left) text caret = with_caret (failed left) _
      (λ c window t is here. ((refuses ReadFault), s, (refl, refl))) w.caret refl (λ e. absurd (caret e))
  tasks (store text name) untouched lemma_has_text (t, there, long) = ((refuses BadFile), s, (t, there, (long, (refl, refl))))
  tasks (store text name) went_well lemma_has_text (t, there, few) = (
    done,
    with_file name (Some (formatted (shown_items t))),
    (t, there, (few, refl, becomes name (Some (formatted (shown_items t))))),
  )
  tasks (store text name) (failed left) lemma_has_text (t, there, few) =
      ((refuses WriteFault), with_file name left, (t, there, (few, refl, becomes name left)))
  tasks (search bytes) part text free = with_caret part _
      (λ c window t is here. let (r, new, g) = searches s i w c t bytes in (r, new, (free, g)))
      w.caret refl (λ e. free)
  tasks (change text e) part (t, there) free =
      let (r, mid, u, step, later) = edits plain s i text e t are there in (r, mid, (free, step))
  tasks (forget text) part (t, there) free =
      let (new, goes, later) = goes_at (λ t u. (forgot (length t.waiting_room) ≡ forgot (length t.waiting_room))
      × (u ≡ with_room t [])) s i text [] t (with_room t []) there (refl, refl) in
      (forgot (length t.waiting_room), new, (free, forgotten text t there new goes))
  tasks (arrange a) part text free = let (r, new, g) = arranges s i (arranged d w a) in (r, new, (free, g))
  tasks (print v) part text free = (prints (lines_of_view d w v), s, (free, refl, refl))
  tasks (keep form text name) untouched lemma_has_text (t, there, long) = ((refuses BadFile), s, (t, there, (long, (refl, refl))))
  tasks (keep form text name) went_well lemma_has_text (t, there, few) =
      let file : List ℕ = kept_bytes form t.text t.site t.operations in
      (done, with_file name (Some file), (t, there, (few, refl, becomes name (Some file))))
  tasks (keep form text name) (failed left) lemma_has_text (t, there, few) =
      ((refuses WriteFault), with_file name left, (t, there, (few, refl, becomes name left)))
  tasks (reopen text name) untouched lemma_has_text (t, there, begun) =
      ((refuses Conflict), s, (t, there, by_begun text t name untouched _ s true begun (refl, (refl, refl))))
  tasks (reopen text name) went_well lemma_has_text ((t, there, fresh), (file, at_name, told)) =
      let (r, new, goes) = begins_as text t file there told in
      (r, new, (t, there, by_begun text t name went_well r new false fresh (file, at_name, goes)))
  tasks (reopen text name) (failed left) lemma_has_text (t, there, fresh) =
      ((refuses ReadFault), s, (t, there, by_begun text t name (failed left) _ s false fresh (refl, refl)))

  -- a part that may be
  parts : (t : Task) → HasText s i t → (part : Part) × MayHavePart s i w t part
  parts (refuse why) text = (untouched, refl)
  parts (insert_at_caret items) text = (untouched, refl)
  parts recall_at_caret text = (untouched, refl)
  parts (load name) text = by w.caret refl
    where
      by : (o : Option Caret) → w.caret ≡ o → (part : Part) × MayHavePart s i w (load name) part
      by None none = (untouched, none)
      by (Some c) is = (failed None, λ none. none-some c (sym none ∙ is))
  parts (store text name) (t, there) = elim (cases_lt MAX_STORED (length (shown_items t))) [
    | inl long ↦ (untouched, (t, there, long))
    | inr few ↦ (went_well, (t, there, few))
  ]
  parts (search bytes) text = (untouched, refl)
  parts (change text e) lemma_has_text = (untouched, refl)
  parts (forget text) lemma_has_text = (untouched, refl)
  parts (arrange a) text = (untouched, refl)
  parts (print v) text = (untouched, refl)
  parts (keep form text name) (t, there) = elim (cases_lt (most_kept form) (length t.operations)) [
    | inl long ↦ (untouched, (t, there, long))
    | inr few ↦ (went_well, (t, there, few))
  ]
  parts (reopen text name) (t, there) = by (text_has_begun t) refl
    where
      by : (begun : Bool) → text_has_begun t ≡ begun → (part : Part) × MayHavePart s i w (reopen text name) part
      by true begun = (untouched, (t, there, begun))
      by false fresh = (failed None, (t, there, fresh))

  -- a click's task

  parameter : (token : Token) → (told : Result TokenValue Refusal) × IsParameter d w token told
  parameter token = by (is_caret_sign token.value) (marked d w)
    where
      by : (sign : Bool) (m : Option Marked) → (told : Result TokenValue Refusal) × IsParameterBy token sign m told
      by true None = (Err NoSelection, refl)
      by true (Some m) =
          let (there, is) = token_there (bytes_shown m.text) m.beg in (Ok there.value, (there, is, refl))
      by false m = (Ok token.value, refl)

  call_task : (call : Call) (v text : ℕ) → (t : Task) × IsTaskOfCall d w call v text t
  call_task call v text = by (has_parameter call.command)
    where
      of_told : (told : Result TokenValue Refusal) → (t : Task) × IsTaskFor d w call v text t told
      of_told (Ok value) = (task_of d w call.command value v text, refl)
      of_told (Err why) = (refuse why, refl)

      by : (has : Bool) → (t : Task) × IsTaskBy d w call v text has t
      by true =
          let (told, is) = parameter call.token in
          let (t, goes) = of_told told in
          (t, (told, is, goes))
      by false = (task_of d w call.command call.token.value v text, refl)

  -- the text of what is marked is there
  marked_text : (m : Marked) → marked d w ≡ Some m → IsTextAt s i m.window.text m.text
  marked_text m is = option_and_then_some (λ s. option_and_then (marked_as s) (window_of d w s.viewer)) w.selected m is
      (λ selected at_selected is'. option_and_then_some (marked_as selected) (window_of d w selected.viewer) m is'
      (λ shown shows is''.
      let same = (cond_some (nat_lt (stretch_in shown.1 selected).0 (stretch_in shown.1 selected).1) _ m is'').1 in
      subst (λ (x : Marked). IsTextAt s i x.window.text x.text) same
      (shown_at selected.viewer shown.0 shown.1 shows)))

  told_text : {X : Type 0} (o : Option X) (task : X → Task) → ((x : X) → HasText s i (task x))
      → HasText s i (task_with_value o task)
  told_text None task lemma_has_text = tt
  told_text (Some x) task lemma_has_text = lemma_has_text x

  dressed_text : (change_to : Change) → HasText s i (dress_marked d w change_to)
  dressed_text change_to = by (marked d w) refl
    where
      by : (o : Option Marked) → marked d w ≡ o → HasText s i (option_map_or
          (λ m. change m.window.text (looks_change m.beg m.end change_to.0 change_to.1)) o (refuse NoSelection))
      by None is = tt
      by (Some m) is = (m.text, marked_text m is)

  -- the text that a command's task names is there
  command_text : (c : Command) (told : TokenValue) (v text : ℕ) (t : TextState) → IsTextAt s i text t
      → HasText s i (task_of d w c told v text)
  command_text command.SystemOpen told v text t there = told_text (text_parameter told) _ (λ n. tt)
  command_text command.SystemClose told v text t there = tt
  command_text command.EditOpen told v text t there = told_text (text_parameter told) _ (λ n. tt)
  command_text command.EditLoad told v text t there = told_text (file_parameter told) _ (λ name. tt)
  command_text command.EditStore told v text t there = told_text (file_parameter told) _ (λ name. (t, there))
  command_text command.EditRecall told v text t there = tt
  command_text command.EditRestore told v text t there = (t, there)
  command_text command.EditChangeFont told v text t there = told_text (font_parameter told) _ dressed_text
  command_text command.EditChangeColor told v text t there = told_text (colour_parameter told) _ dressed_text
  command_text command.EditChangeOffset told v text t there = told_text (offset_parameter told) _ dressed_text
  command_text command.EditSearch told v text t there = told_text (bytes_parameter told) _ (λ bytes. tt)
  command_text command.ShareForget told v text t there = (t, there)

  -- so is that of a call's task
  call_text : (call : Call) (v text : ℕ) (t : TextState) (task : Task) → IsTextAt s i text t
      → IsTaskOfCall d w call v text task → HasText s i task
  call_text call v text t task there is = by (has_parameter call.command) is
    where
      of_told : (told : Result TokenValue Refusal) → IsTaskFor d w call v text task told → HasText s i task
      of_told (Ok value) e = subst (HasText s i) (sym e) (command_text call.command value v text t there)
      of_told (Err why) e = subst (HasText s i) (sym e) tt

      by : (has : Bool) → IsTaskBy d w call v text has task → HasText s i task
      by true (told, is, e) = of_told told e
      by false e = subst (HasText s i) (sym e) (command_text call.command call.token.value v text t there)

  -- and that of what a click meets
  clicked_text : (col row : ℕ) (c : Clicked) → clicked d w col row ≡ Some c → (t : TextState) × IsTextAt s i c.text t
  clicked_text col row c is = option_and_then_some _ (viewer_with w col row) c is
      (λ v at_v is'. option_and_then_some _ (area_of w.tracks v) c is'
      (λ area at_area is''. clicked_shown v area (window_of d w v) refl is''))
    where
      clicked_shown : (v : ℕ) (area : Area) (o : Option (Window × TextState)) → window_of d w v ≡ o
          → option_map (clicked_in v area col row) o ≡ Some c → (t : TextState) × IsTextAt s i c.text t
      clicked_shown v area None shows is = absurd (none-some c is)
      clicked_shown v area (Some shown) shows is =
          let same = ap (λ (x : Clicked). x.text) (same_Some (clicked_in v area col row shown) c is) in (
            shown.1,
            subst (λ (x : ℕ). IsTextAt s i x shown.1) (clicked_number v area col row shown ∙ same)
                (shown_at v shown.0 shown.1 shows),
          )

  task_at : (col row : ℕ) → (t : Task) × IsTaskAt d w col row t × HasText s i t
  task_at col row = by (clicked d w col row) refl
    where
      at_call : (at : Clicked) → ((t : TextState) × IsTextAt s i at.text t)
          → NoCallAt at.bytes at.pos ⊎ ((call : Call) × IsCallAt at.bytes at.pos call)
          → (t : Task) × IsTaskIn d w (Some at) t × HasText s i t
      at_call at text (inl none) = (refuse UnknownCommand, inl (none, refl), tt)
      at_call at (t, there) (inr (call, is)) =
          let (task, goes) = call_task call at.viewer at.text in
          (task, inr (call, is, goes), call_text call at.viewer at.text t task there goes)

      by : (at : Option Clicked) → clicked d w col row ≡ at → (t : Task) × IsTaskIn d w at t × HasText s i t
      by None is = (refuse NoViewer, refl, tt)
      by (Some at) is = at_call at (clicked_text col row at is) (call_or_none at.bytes at.pos)

  all_answered : AnswersAll s i d w
  all_answered = record {
    parts = parts;
    tasks = λ t part text may.
        let (r, new, does) = tasks t part text may in (r, new, (d, w, at, does));
    clicks = λ col row.
        let (t, is, text) = task_at col row in (
          t,
          is,
          text,
          λ part may. let (r, new, does) = tasks t part text may in (r, new, (d, w, t, at, is, does)),
        );
  }

-- each task and each click is answered
pub each_answered : OwnEditsArePlain → EachTaskIsAnswered
each_answered plain s i d w are at has = all_answered plain s i d w are at has
