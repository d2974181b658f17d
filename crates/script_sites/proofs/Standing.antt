-- From a desk to the run in which it stands.
use Rattle.std.proofs.Common.{◌≡◌, ℕ, List, ◌<◌, ◌++◌, length, map, Result, Some, refl, sym, ap, subst, ◌∙◌, inl, zero, suc, ◌+◌, ◌⊎◌, [], ◌∷◌, Option, None, drop}
use Rattle.std.specs.Prelude.{option_map, replicate, slice_get, slice_index_or, slice_set}
use Rattle.std.specs.List.{range_with_len}
use Rattle.std.proofs.lemmas.List.{map-set}
use Rattle.std.proofs.lemmas.Option.{slice_get-map, slice_get_read}
use Rattle.looks.specs.declared.refusal.Refusal.{Refusal}
use Rattle.looks.specs.declared.refusal.Refusal.TheVariants.{BadEvent}
use Rattle.set_laws.proofs.Fronts.{lemma_are_held_to_the_front}
use Rattle.texts.specs.Text.{IsText}
use Rattle.texts.specs.TextState.{TextState, noting}
use Rattle.texts.specs.declared.edit_refusal.EditRefusal.{EditRefusal}
use Rattle.texts.specs.declared.merge_refusal.MergeRefusal.{MergeRefusal}
use Rattle.texts.specs.declared.took.Took.{Took}
use Rattle.shelf.specs.Files.{Files}
use Rattle.machine.specs.SiteTexts.{SiteTexts, IsTextOf, fresh_texts}
use Rattle.machine.specs.Events.{Delivery, Event, Part, Reply, arrange, ask, edit_reply, merge, merge_reply, merges, refuses, sent}
use Rattle.machine.specs.Events.{take, take_reply, untouched}
use Rattle.machine.specs.Machine.{Replies, message_in}
use Rattle.machine.specs.State.{State, new_state}
use Rattle.machine.specs.Windows.{Screened, blank_screen}
use Rattle.machine.specs.declared.asked.Arrangement.{Arrangement}
use Rattle.machine_laws.proofs.Telling.{put_back}
use Rattle.shelved_texts.specs.Filing.{ShelfSeen}
use Rattle.commands.specs.Steps.{Counted, DeskSeen, IsEditStep, IsMergeStep, IsShelfStep, IsStep, IsTakeStep, StandsIn, answer_reply, with_desk}
use Rattle.commands.specs.declared.answer.Answer.{Answer}
use Rattle.script_sites.proofs.Before.{NamesNone, replies_later}
use Rattle.script_sites.proofs.Merging.{merged_itself}
use Rattle.script_sites.proofs.Replying.{answer_step, no_message, other_step}
use Rattle.script_sites.specs.Answers.{reply_lines}
use Rattle.script_sites.specs.Seen.{OverBoth, OverFiles, Replied, SitesSeen, Stepped, run_seen, sent_after, state_of}
use Rattle.script_sites.specs.Trace.{Shelved, Step}

-- a desk's texts, and its screen
abbrev texts_of : DeskSeen → SiteTexts
texts_of d = d.texts

abbrev screen_of : DeskSeen → Screened
screen_of d = d.screen

-- the sites, with this desk at the index, and these messages sent
abbrev pub with_seen : SitesSeen → ℕ → DeskSeen → List (List ℕ) → SitesSeen
with_seen s i d messages = record s { desks = slice_set s.desks i d; sent = messages }

-- a desk of the sites stands in their run
pub stands : (s : SitesSeen) (files : Files) (i : ℕ) (d : DeskSeen) → slice_get s.desks i ≡ Some d → StandsIn (state_of s files) i d
stands s files i d at = record {
  texts = slice_get-map texts_of s.desks i ∙ ap (option_map texts_of) at;
  screen = slice_get-map screen_of s.desks i ∙ ap (option_map screen_of) at;
}

-- a desk that is put into the run is put into the sites
pub put_in : (s : SitesSeen) (files : Files) (i : ℕ) (d : DeskSeen) (messages : List (List ℕ)) → with_desk (state_of s files) i d messages ≡ state_of (with_seen s i d messages) files
put_in s files i d messages =
    let texts : slice_set (map texts_of s.desks) i d.texts ≡ map texts_of (slice_set s.desks i d) = sym (map-set texts_of s.desks i d) in
    let screens : slice_set (map screen_of s.desks) i d.screen ≡ map screen_of (slice_set s.desks i d) = sym (map-set screen_of s.desks i d) in
    λ k. record { first = s.first; desks = texts k; screens = screens k; sent = messages; files = files }

module _ (s : SitesSeen) (i : ℕ) (d : DeskSeen) (at : slice_get s.desks i ≡ Some d) where
  -- a step of the desk is one of the sites
  pub replied : (event : ℕ → Event) (r : Reply) (new : DeskSeen) → IsStep d event r new → Replied s (event i) r (with_seen s i new s.sent)
  replied event r new step = λ files.
      subst (Replies (state_of s files) (event i) untouched r) (put_in s files i new s.sent) (step (state_of s files) i (stands s files i d at))

  -- a step that leaves the desk as it was leaves the sites so
  pub replied_same : (event : ℕ → Event) (r : Reply) → IsStep d event r d → Replied s (event i) r s
  replied_same event r step =
      let same : with_seen s i d s.sent ≡ s = λ k. record s { desks = put_back s.desks i d at k } in
      subst (Replied s (event i) r) same (replied event r d step)

  -- an arrangement's step, printed
  pub arranged_step : (a : Arrangement) (r : Reply) (new : DeskSeen) → IsStep d (λ i. ask i (arrange a)) r new
      → Stepped s (ask i (arrange a)) (reply_lines (length s.sent) r) (with_seen s i new s.sent)
  arranged_step a r new step = other_step s (with_seen s i new s.sent) (ask i (arrange a)) r (replied (λ i. ask i (arrange a)) r new step)

  -- what the desk's step leads to, over the files that a shelf tells, where these messages were sent before
  abbrev StepsTo : (before : List (List ℕ)) (event : ℕ → Event) (result : Result Answer EditRefusal) (new : DeskSeen) (after : List (List ℕ)) → Shelved → Shelved → Type 0
  StepsTo before event result new after was now =
      Step (run_seen (sent_after before s) was) (event i)
      (reply_lines (length (before ++ s.sent)) (answer_reply result (drop (length (before ++ s.sent)) (before ++ after)))) (run_seen (sent_after before (with_seen s i new after)) now)

  -- a step over what the shelf has, printed, where these messages were sent before
  step_over : (before : List (List ℕ)) (was now : Shelved) (event : ℕ → Event) (part : Part) (result : Result Answer EditRefusal) (messages : List (List ℕ)) (new : DeskSeen) (after : List (List ℕ))
      → NamesNone (event i)
      → Replies (state_of s was.files) (event i) part (answer_reply result messages) (record (with_desk (state_of s was.files) i new after) { files = now.files })
      → Counted part was.faults now.faults → StepsTo before event result new after was now
  step_over before was now event part result messages new after none replies counted =
      let there : State = state_of (with_seen s i new after) now.files in
      let same : record (with_desk (state_of s was.files) i new after) { files = now.files } ≡ there = λ k. record (put_in s was.files i new after k) { files = now.files } in
      answer_step (run_seen (sent_after before s) was) (run_seen (sent_after before (with_seen s i new after)) now) (event i) part result messages
      (replies_later before (state_of s was.files) (event i) part (answer_reply result messages) there none
      (subst (Replies (state_of s was.files) (event i) part (answer_reply result messages)) same replies)) counted

  filed_by : (before : List (List ℕ)) (event : ℕ → Event) (result : Result Answer EditRefusal) (new : DeskSeen) (after : List (List ℕ)) (told told' : Option Files) (faults faults' : ℕ)
      → NamesNone (event i) → IsShelfStep d event result new s.sent after (record { files = told; faults = faults }) (record { files = told'; faults = faults' })
      → OverBoth told told' faults faults' (StepsTo before event result new after)
  filed_by before event result new after None None faults faults' none (messages, part, files, files', counts, of_files, counted, goes) = (
    files,
    files',
    step_over before (record { files = files; faults = faults }) (record { files = files'; faults = faults' }) event part result messages new after none
        (goes (state_of s files) i (stands s files i d at) refl refl) counted,
  )
  filed_by before event result new after None (Some now) faults faults' none (messages, part, files, files', counts, of_files, counted, goes) = absurd of_files
  filed_by before event result new after (Some was) None faults faults' none (messages, part, files, files', counts, of_files, counted, goes) = absurd of_files
  filed_by before event result new after (Some was) (Some now) faults faults' none (messages, part, files, files', counts, (is_was, is_now), counted, goes) =
      step_over before (record { files = was; faults = faults }) (record { files = now; faults = faults' }) event part result messages new after none
      (subst (λ (f : Files). Replies (state_of s was) (event i) part (answer_reply result messages) (record (with_desk (state_of s was) i new after) { files = f })) is_now
      (goes (state_of s was) i (stands s was i d at) refl (sym is_was))) counted

  -- and over what it has
  pub filed_step : (before : List (List ℕ)) (event : ℕ → Event) (result : Result Answer EditRefusal) (new : DeskSeen) (after : List (List ℕ)) (told told' : ShelfSeen)
      → NamesNone (event i) → IsShelfStep d event result new s.sent after told told' → OverFiles told told' (StepsTo before event result new after)
  filed_step before event result new after told told' none step = filed_by before event result new after told.files told'.files told.faults told'.faults none step

  -- one that leaves the desk as it was leaves the sites so
  pub filed_same : (before : List (List ℕ)) (event : ℕ → Event) (result : Result Answer EditRefusal) (told told' : ShelfSeen)
      → NamesNone (event i) → IsShelfStep d event result d s.sent s.sent told told'
      → OverFiles told told' (λ was now. Step (run_seen (sent_after before s) was) (event i)
      (reply_lines (length (before ++ s.sent)) (answer_reply result (drop (length (before ++ s.sent)) (before ++ s.sent)))) (run_seen (sent_after before s) now))
  filed_same before event result told told' none step =
      let same : with_seen s i d s.sent ≡ s = λ k. record s { desks = put_back s.desks i d at k } in
      subst (λ (new : SitesSeen). OverFiles told told' (λ was now. Step (run_seen (sent_after before s) was) (event i)
      (reply_lines (length (before ++ s.sent)) (answer_reply result (drop (length (before ++ s.sent)) (before ++ s.sent)))) (run_seen (sent_after before new) now))) same
      (filed_step before event result d s.sent told told' none step)

  -- an edit's step
  pub replied_edit : (event : ℕ → Event) (result : Result ℕ EditRefusal) (new : DeskSeen) (after : List (List ℕ)) → IsEditStep d event result new s.sent after
      → (messages : List (List ℕ)) × Replied s (event i) (edit_reply result messages) (with_seen s i new after)
  replied_edit event result new after (messages, count, step) =
      (messages, λ files. subst (Replies (state_of s files) (event i) untouched (edit_reply result messages)) (put_in s files i new after) (step (state_of s files) i (stands s files i d at) refl))

  -- a taking's step, however its message is told
  pub replied_take : (text : ℕ) (told : Delivery) (message : List ℕ) (result : Result Took Refusal) (new : DeskSeen) → ((files : Files) → message_in (state_of s files) told ≡ Some message)
      → IsTakeStep d text message result new → Replied s (take i text told) (take_reply result) (with_seen s i new s.sent)
  replied_take text told message result new is step = λ files.
      subst (Replies (state_of s files) (take i text told) untouched (take_reply result)) (put_in s files i new s.sent) (step (state_of s files) i told (stands s files i d at) (is files))

  -- a merge's step
  pub replied_merge : (text j : ℕ) (other : DeskSeen) (result : Result ℕ MergeRefusal) (new : DeskSeen) → slice_get s.desks j ≡ Some other
      → IsMergeStep d text other result new → Replied s (merge i text j) (merge_reply result) (with_seen s i new s.sent)
  replied_merge text j other result new at_j step = λ files.
      subst (Replies (state_of s files) (merge i text j) untouched (merge_reply result)) (put_in s files i new s.sent) (step (state_of s files) i j (stands s files i d at) (stands s files j other at_j))

-- the desk that is read at an index in the run
pub desk_read : (s : SitesSeen) (i : ℕ) (d : DeskSeen) → i < length s.desks → d ≡ slice_index_or s.desks i d → slice_get s.desks i ≡ Some d
desk_read s i d within read = slice_get_read s.desks (length s.desks) i d refl within read

-- a text that is merged into itself stays as it is
pub merged_still : (s : SitesSeen) (i text : ℕ) (d : DeskSeen) (t : TextState) → slice_get s.desks i ≡ Some d → IsTextOf d.texts text t → IsText t → t.asked ≡ noting (length t.operations)
    → Replied s (merge i text i) (merges 0) s
merged_still s i text d t at there is told = λ files.
    merged_itself (state_of s files) i text d.texts (stands s files i d at).texts t there is told lemma_are_held_to_the_front

-- a message that wasn't sent yet is none
pub unsent_still : (s : SitesSeen) (i text k : ℕ) → (k ≡ 0) ⊎ (length s.sent < k)
    → Replied s (take i text (sent k)) (refuses BadEvent) s
unsent_still s i text k unsent = λ files. inl (refl, rw (no_message (state_of s files) k unsent) (refl, refl))

-- the sites as a run of them begins
abbrev pub new_seen : Screened → ℕ → DeskSeen
new_seen w site = record { texts = fresh_texts site; screen = w }

-- their screens are blank
blank_screens : (w : Screened) (first count : ℕ) → map screen_of (map (new_seen w) (range_with_len first count)) ≡ replicate count w
blank_screens w first zero = refl
blank_screens w first (suc count) = ap (λ (ws : List Screened). w ∷ ws) (blank_screens w (first + 1) count)

-- and their texts are empty
empty_texts : (w : Screened) (sites : List ℕ) → map texts_of (map (new_seen w) sites) ≡ map (λ site. fresh_texts site) sites
empty_texts w [] = refl
empty_texts w (site ∷ sites) = ap (λ (ds : List SiteTexts). fresh_texts site ∷ ds) (empty_texts w sites)

pub begins_new : (first count width height : ℕ) (files : Files)
    → state_of (record { first = first; desks = map (new_seen (blank_screen width height)) (range_with_len first count); sent = [] }) files ≡ new_state first count width height files
begins_new first count width height files = λ k. record {
  first = first;
  desks = empty_texts (blank_screen width height) (range_with_len first count) k;
  sent = [];
  screens = blank_screens (blank_screen width height) first count k;
  files = files;
}
