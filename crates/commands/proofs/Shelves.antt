-- Steps of the run over the files that a shelf tells.
use Rattle.std.proofs.Common.{◌≡◌, ◌≢◌, ◌⊎◌, ℕ, ◌≤◌, List, [], length, Option, Some, None, Result, Ok, Err, refl, sym, ap, subst, ◌∙◌, inl, inr}
use Rattle.std.specs.Prelude.{IfOk, IsSome, slice_get}
use Rattle.std.proofs.lemmas.Bool.{false≢true}
use Rattle.looks.specs.declared.refusal.Refusal.{Refusal}
use Rattle.looks.specs.declared.refusal.Refusal.TheVariants.{BadFile, NoCaret, OutOfMemory, ReadFault, WriteFault}
use Rattle.char_files.specs.Stretch.{Item}
use Rattle.text_file.specs.Files.{IsFileOf, IsNoFile, formatted}
use Rattle.text_file.specs.declared.TheConstants.{MAX_STORED}
use Rattle.command_words.specs.declared.command.Command.{Command}
use Rattle.reader_scanner.specs.declared.token.TokenValue.{TokenValue}
use Rattle.shelf.specs.Files.{Counts, Files, HasFile, IsThere, OthersStay, SameFiles}
use Rattle.texts.specs.TextState.{TextState, shown_items}
use Rattle.kept_file.specs.KeptFiles.{kept_bytes, most_kept}
use Rattle.kept_file.specs.declared.form.KeptForm.{KeptForm}
use Rattle.texts.specs.declared.edit_refusal.EditRefusal.{EditRefusal}
use Rattle.texts.specs.declared.edit_refusal.EditRefusal.TheVariants.{Whole}
use Rattle.machine.specs.SiteTexts.{SiteTexts, IsTextOf}
use Rattle.machine.specs.Commands.{IsTaskAt, task_of}
use Rattle.machine.specs.Events.{Part, Reply, Task, ask, click, done, edit_reply, failed, keep, load, insert_at_caret, refuses, store}
use Rattle.machine.specs.Events.{untouched, went_well}
use Rattle.machine.specs.Machine.{Replies}
use Rattle.machine.specs.State.{IsDeskAt, Refuses, State}
use Rattle.machine.specs.Tasks.{DoesTask, FileBecomes, ShortTask, Writes}
use Rattle.machine.specs.Windows.{Caret, Screened, Window, window_of}
use Rattle.machine_laws.proofs.OneOfTexts.{one_element}
use Rattle.commands.proofs.Steps.{run_stays}
use Rattle.shelved_texts.specs.Filing.{ReadsText, WritesFile, WritesNot, WritesSite, WritesText}
use Rattle.commands.specs.declared.answer.Answer.{Answer}
use Rattle.commands.specs.declared.answer.Answer.TheVariants.{Done}
use Rattle.shelved_texts.specs.Filing.{ShelfSeen}
use Rattle.commands.specs.Steps.{AreFilesOf, Counted, CountsSent, DeskSeen, IsEditStep, IsShelfStep, IsTaskStep, StandsIn, answer_reply, sent_answer}
use Rattle.commands.specs.Steps.{with_desk, written_answer}

-- some files that a shelf tells
abbrev pub files_of : Option Files → Files
files_of None = λ name. None
files_of (Some files) = files

pub same_of : (told : Option Files) → AreFilesOf told told (files_of told) (files_of told)
same_of None = tt
same_of (Some files) = (refl, refl)

-- a run over these files is as it was
pub over_files : (s : State) (i : ℕ) (new : DeskSeen) (sent : List (List ℕ)) (files files' : Files) → s.files ≡ files
    → files' ≡ files → with_desk s i new sent ≡ record (with_desk s i new sent) { files = files' }
over_files s i new sent files files' is same = λ k. record (with_desk s i new sent) { files = (is ∙ sym same) k }

-- and one in which nothing changed is itself
run_over : (s : State) (i : ℕ) (seen : DeskSeen) → StandsIn s i seen → (sent : List (List ℕ)) (files files' : Files)
    → s.sent ≡ sent → s.files ≡ files → files' ≡ files → s ≡ record (with_desk s i seen sent) { files = files' }
run_over s i seen stands sent files files' same is stay =
    run_stays s i seen.texts seen.screen stands ∙ (λ k. with_desk s i seen (same k))
    ∙ over_files s i seen sent files files' is stay

-- an edit that was answered is replied to so
sent_counts : (result : Result ℕ EditRefusal) (messages : List (List ℕ)) → IfOk result (λ count. count ≡ length messages)
    → CountsSent (sent_answer result) messages
sent_counts (Ok count) messages counts = counts
sent_counts (Err why) messages counts = tt

pub sent_replies : (result : Result ℕ EditRefusal) (messages : List (List ℕ))
    → (edit_reply result messages) ≡ answer_reply (sent_answer result) messages
sent_replies (Ok count) messages = refl
sent_replies (Err why) messages = refl

-- a task that asks for no file is a step over any
module _ (seen new : DeskSeen) (task : Task) (told : ShelfSeen) where
  pub task_over : (result : Result Answer EditRefusal) (sent : List (List ℕ)) → IsTaskStep seen task result new
      → IsShelfStep seen (λ i. ask i task) result new sent sent told told
  task_over result sent (counts, steps) = (
    [],
    untouched,
    files_of told.files,
    files_of told.files,
    counts,
    same_of told.files,
    refl,
    λ s i stands same is. subst (Replies s (ask i task) untouched (answer_reply result []))
        ((λ k. with_desk s i new (same k)) ∙ over_files s i new sent (files_of told.files) (files_of told.files) is refl)
        (steps s i stands),
  )

  -- so is one that edits a text
  pub edit_over : (result : Result ℕ EditRefusal) (before after : List (List ℕ))
      → IsEditStep seen (λ i. ask i task) result new before after
      → IsShelfStep seen (λ i. ask i task) (sent_answer result) new before after told told
  edit_over result before after (messages, counts, steps) = (
    messages,
    untouched,
    files_of told.files,
    files_of told.files,
    sent_counts result messages counts,
    same_of told.files,
    refl,
    λ s i stands same is.
        subst (λ (r : Reply). Replies s (ask i task) untouched r (record (with_desk s i new after) { files = files_of told.files }))
        (sent_replies result messages)
        (subst (Replies s (ask i task) untouched (edit_reply result messages))
        (over_files s i new after (files_of told.files) (files_of told.files) is refl) (steps s i stands same)),
  )

-- files of a shelf from which this one was read
pub files_read : (told told' : Option Files) (name file : List ℕ) → SameFiles told told' → HasFile told name file
    → (files files' : Files) × AreFilesOf told told' files files' × (files' ≡ files) × (files name ≡ Some file)
files_read None None name file same has = (λ _. Some file, λ _. Some file, tt, refl, refl)
files_read None (Some now) name file same has = absurd same
files_read (Some was) None name file same has = absurd same
files_read (Some was) (Some now) name file same has =
    (was, now, (refl, refl), λ k. λ other. same other k, has)

-- or nothing was
pub files_same : (told told' : Option Files) → SameFiles told told'
    → (files files' : Files) × AreFilesOf told told' files files' × (files' ≡ files)
files_same None None same = (λ _. None, λ _. None, tt, refl)
files_same None (Some now) same = absurd same
files_same (Some was) None same = absurd same
files_same (Some was) (Some now) same = (was, now, (refl, refl), λ k. λ other. same other k)

value_of : (x : Option (List ℕ)) → IsSome x → (file : List ℕ) × (x ≡ Some file)
value_of None none = absurd (false≢true none)
value_of (Some file) some = (file, refl)

-- or memory was refused to one that is there
pub files_there : (told told' : Option Files) (name : List ℕ) → SameFiles told told' → IsThere told name
    → (files files' : Files) × AreFilesOf told told' files files' × (files' ≡ files)
    × ((file : List ℕ) × (files name ≡ Some file))
files_there None None name same there = (λ _. Some [], λ _. Some [], tt, refl, ([], refl))
files_there None (Some now) name same there = absurd same
files_there (Some was) None name same there = absurd same
files_there (Some was) (Some now) name same there =
    (was, now, (refl, refl), λ k. λ other. same other k, value_of (was name) there)

-- files of a shelf to which this one was written
pub files_written : (told told' : Option Files) (name file : List ℕ) → OthersStay told told' name → HasFile told' name file
    → (files files' : Files) × AreFilesOf told told' files files' × (files' name ≡ Some file)
    × ((other : List ℕ) → other ≢ name → files' other ≡ files other)
files_written None None name file stay has = (λ _. Some file, λ _. Some file, tt, refl, λ other apart. refl)
files_written None (Some now) name file stay has = absurd stay
files_written (Some was) None name file stay has = absurd stay
files_written (Some was) (Some now) name file stay has = (was, now, (refl, refl), has, stay)

-- or one that failed
pub files_failed : (told told' : Option Files) (name : List ℕ) → OthersStay told told' name
    → (files files' : Files) × AreFilesOf told told' files files'
    × ((other : List ℕ) → other ≢ name → files' other ≡ files other)
files_failed None None name stay = (λ _. None, λ _. None, tt, λ other apart. refl)
files_failed None (Some now) name stay = absurd stay
files_failed (Some was) None name stay = absurd stay
files_failed (Some was) (Some now) name stay = (was, now, (refl, refl), stay)

-- a task of a desk that is refused, over the files that the shelf tells
module _ (d : SiteTexts) (w : Screened) (task : Task) (told told' : ShelfSeen) where
  abbrev its_desk : DeskSeen
  its_desk = record { texts = d; screen = w }

  -- the task goes so where nothing changes
  abbrev GoesSo : (part : Part) (why : Refusal) (files : Files) → Type 0
  GoesSo part why files = (s : State) (i : ℕ) (new : State) → IsDeskAt s i d w → s.files ≡ files
      → Refuses s why (refuses why) new
      → DoesTask s i d w task part (refuses why) new ⊎ ShortTask s i d w task part (refuses why) new

  replies_so : (s : State) (i : ℕ) (part : Part) (r : Reply) (new : State) → IsDeskAt s i d w
      → DoesTask s i d w task part r new ⊎ ShortTask s i d w task part r new → Replies s (ask i task) part r new
  replies_so s i part r new stands (inl does) = inl (d, w, stands, does)
  replies_so s i part r new stands (inr short) = inr (d, w, stands, short)

  pub refused_over : (part : Part) (why : Refusal) (files files' : Files) (sent : List (List ℕ))
      → AreFilesOf told.files told'.files files files' → Counted part told.faults told'.faults → files' ≡ files → GoesSo part why files
      → IsShelfStep its_desk (λ i. ask i task) (Err (Whole why)) its_desk sent sent told told'
  refused_over part why files files' sent are counted stay goes = (
    [],
    part,
    files,
    files',
    tt,
    are,
    counted,
    λ s i stands same is. replies_so s i part (refuses why) (record (with_desk s i its_desk sent) { files = files' })
        stands
        (goes s i (record (with_desk s i its_desk sent) { files = files' }) stands is
        (refl, sym (run_over s i its_desk stands sent files files' same is stay))),
  )

-- a load at the caret
module _ (d : SiteTexts) (w : Screened) (name : List ℕ) (told told' : ShelfSeen) (same : SameFiles told.files told'.files) where
  abbrev LoadsSo : Result Answer EditRefusal → DeskSeen → (before after : List (List ℕ)) → Type 0
  LoadsSo result new before after =
      IsShelfStep (record { texts = d; screen = w }) (λ i. ask i (load name)) result new before after told told'

  module _ (c : Caret) (shown : Window × TextState) (caret : w.caret ≡ Some c) (at : window_of d w c.viewer ≡ Some shown) where
    -- the shelf fails
    load_unread : (sent : List (List ℕ)) → Counts told.faults told'.faults
        → LoadsSo (Err (Whole ReadFault)) (record { texts = d; screen = w }) sent sent
    load_unread sent counted =
        let (files, files', are, stay) = files_same told.files told'.files same in
        refused_over d w (load name) told told' (failed None) ReadFault files files' sent are counted stay
        (λ s i new stands is refused. inl (inr (c, shown, caret, at, refused)))

    -- memory is short
    load_short : (sent : List (List ℕ)) → IsThere told.files name → told'.faults ≡ told.faults
        → LoadsSo (Err (Whole OutOfMemory)) (record { texts = d; screen = w }) sent sent
    load_short sent there unfailed =
        let (files, files', are, stay, (file, has)) = files_there told.files told'.files name same there in
        refused_over d w (load name) told told' went_well OutOfMemory files files' sent are unfailed stay
        (λ s i new stands is refused.
        inr (c, shown, caret, at, (file, ap (λ (f : Files). f name) is ∙ has, inl refused)))

    -- the file is no text's
    load_bad : (file : List ℕ) (sent : List (List ℕ)) → told'.faults ≡ told.faults → HasFile told.files name file → IsNoFile file
        → LoadsSo (Err (Whole BadFile)) (record { texts = d; screen = w }) sent sent
    load_bad file sent unfailed has no_file =
        let (files, files', are, stay, there) = files_read told.files told'.files name file same has in
        refused_over d w (load name) told told' went_well BadFile files files' sent are unfailed stay
        (λ s i new stands is refused.
        inl (inr (c, shown, caret, at, (file, ap (λ (f : Files). f name) is ∙ there, inl (no_file, refused)))))

    pub load_fails : (why : Refusal) (sent : List (List ℕ)) → ReadsText told told' name (Err why)
        → LoadsSo (Err (Whole why)) (record { texts = d; screen = w }) sent sent
    load_fails why sent (inl (fault, counted)) =
        subst (λ (e : Refusal). LoadsSo (Err (Whole e)) (record { texts = d; screen = w }) sent sent) (sym fault)
        (load_unread sent counted)
    load_fails why sent (inr (inl (short, there, unfailed))) =
        subst (λ (e : Refusal). LoadsSo (Err (Whole e)) (record { texts = d; screen = w }) sent sent) (sym short)
        (load_short sent there unfailed)
    load_fails why sent (inr (inr (bad, unfailed, (file, has, no_file)))) =
        subst (λ (e : Refusal). LoadsSo (Err (Whole e)) (record { texts = d; screen = w }) sent sent) (sym bad)
        (load_bad file sent unfailed has no_file)

    -- the file's characters are put in
    module _ (file : List ℕ) (items : List Item) (of : IsFileOf items file) where
      put_loads : (s : State) (i : ℕ) (r : Reply) (new : State) → IsDeskAt s i d w → s.files name ≡ Some file
          → Replies s (ask i (insert_at_caret items)) untouched r new → Replies s (ask i (load name)) went_well r new
      put_loads s i r new stands there (inl (d', w', stands', inl (none, part, refused))) =
          let one : w' ≡ w = one_element (slice_get s.screens i) w' w stands'.screen stands.screen in
          let lost : w.caret ≡ None = ap (λ (x : Screened). x.caret) (sym one) ∙ none in
          absurd cc
      put_loads s i r new stands there (inl (d', w', stands', inr (c', shown', caret', at', (part, does)))) =
          inl (d', w', stands', inr (c', shown', caret', at', (file, there, inr (items, of, does))))
      put_loads s i r new stands there (inr (d', w', stands', (part, (c', shown', caret', at', short)))) =
          inr (d', w', stands', (c', shown', caret', at', (file, there, inr (items, of, short))))

      pub load_inserts : (new : DeskSeen) (result : Result ℕ EditRefusal) (before after : List (List ℕ)) → HasFile told.files name file
          → told'.faults ≡ told.faults → IsEditStep (record { texts = d; screen = w }) (λ i. ask i (insert_at_caret items)) result new before after
          → LoadsSo (sent_answer result) new before after
      load_inserts new result before after has unfailed (messages, counts, steps) =
          let (files, files', are, stay, there) = files_read told.files told'.files name file same has in (
            messages,
            went_well,
            files,
            files',
            sent_counts result messages counts,
            are,
            unfailed,
            λ s i stands sent is.
                put_loads s i (answer_reply (sent_answer result) messages) (record (with_desk s i new after) { files = files' }) stands
                (ap (λ (f : Files). f name) is ∙ there)
                (subst (λ (r : Reply). Replies s (ask i (insert_at_caret items)) untouched r (record (with_desk s i new after) { files = files' }))
                (sent_replies result messages)
                (subst (Replies s (ask i (insert_at_caret items)) untouched (edit_reply result messages))
                (over_files s i new after files files' is stay) (steps s i stands sent))),
          )

-- without a caret nothing is read
pub load_without_caret : (d : SiteTexts) (w : Screened) (name : List ℕ) (told : ShelfSeen) (sent : List (List ℕ))
    → w.caret ≡ None
    → IsShelfStep (record { texts = d; screen = w }) (λ i. ask i (load name)) (Err (Whole NoCaret))
    (record { texts = d; screen = w }) sent sent told told
load_without_caret d w name told sent none =
    refused_over d w (load name) told told untouched NoCaret (files_of told.files) (files_of told.files) sent (same_of told.files) refl refl
    (λ s i new stands is refused. inl (inl (none, refl, refused)))

-- a task that writes a file, if there isn't too much for one
module _ (d : SiteTexts) (w : Screened) (task : Task) (much most : ℕ) (name file : List ℕ) (told told' : ShelfSeen)
    (sent : List (List ℕ))
    (does : (s : State) (i : ℕ) (part : Part) (r : Reply) (new : State) → IsDeskAt s i d w
    → Writes s much most name file part r new → DoesTask s i d w task part r new)
    (short : (s : State) (i : ℕ) (r : Reply) (new : State) → IsDeskAt s i d w → much ≤ most
    → Refuses s OutOfMemory r new → ShortTask s i d w task untouched r new) where
  abbrev WritesSo : Result Answer EditRefusal → Type 0
  WritesSo result = IsShelfStep (record { texts = d; screen = w }) (λ i. ask i task) result
      (record { texts = d; screen = w }) sent sent told told'

  -- where no file changed
  kept : told' ≡ told → AreFilesOf told.files told'.files (files_of told.files) (files_of told.files)
  kept same =
      subst (λ (o : ShelfSeen). AreFilesOf told.files o.files (files_of told.files) (files_of told.files)) (sym same) (same_of told.files)

  -- the run with other files
  becomes : (s : State) (i : ℕ) (files files' : Files) (its : Option (List ℕ))
      → StandsIn s i (record { texts = d; screen = w }) → s.sent ≡ sent → s.files ≡ files → files' name ≡ its
      → ((other : List ℕ) → other ≢ name → files' other ≡ files other)
      → FileBecomes s name its (record (with_desk s i (record { texts = d; screen = w }) sent) { files = files' })
  becomes s i files files' its stands same is there others =
      let stays : with_desk s i (record { texts = d; screen = w }) sent ≡ s =
      (λ k. with_desk s i (record { texts = d; screen = w }) (sym same k)) ∙ sym (run_stays s i d w stands) in (
        files',
        there,
        λ other apart. others other apart ∙ ap (λ (f : Files). f other) (sym is),
        λ k. record (stays k) { files = files' },
      )

  writes_well : much ≤ most → HasFile told'.files name file → OthersStay told.files told'.files name → told'.faults ≡ told.faults
      → WritesSo (Ok Done)
  writes_well few has stay unfailed =
      let (files, files', are, there, others) = files_written told.files told'.files name file stay has in (
        [],
        went_well,
        files,
        files',
        tt,
        are,
        unfailed,
        λ s i stands same is. inl (
          d,
          w,
          stands,
          does s i went_well done (record (with_desk s i (record { texts = d; screen = w }) sent) { files = files' }) stands
              (few, refl, becomes s i files files' (Some file) stands same is there others),
        ),
      )

  writes_not : (why : Refusal) → WritesNot much most name told told' why → WritesSo (Err (Whole why))
  writes_not why (inl (bad, long, same)) =
      subst (λ (e : Refusal). WritesSo (Err (Whole e))) (sym bad)
      (refused_over d w task told told' untouched BadFile (files_of told.files) (files_of told.files) sent (kept same)
      (ap (λ (o : ShelfSeen). o.faults) same) refl
      (λ s i new stands is refused. inl (does s i untouched (refuses BadFile) new stands (long, refused))))
  writes_not why (inr (inl (memory, few, same))) =
      subst (λ (e : Refusal). WritesSo (Err (Whole e))) (sym memory)
      (refused_over d w task told told' untouched OutOfMemory (files_of told.files) (files_of told.files) sent (kept same)
      (ap (λ (o : ShelfSeen). o.faults) same) refl
      (λ s i new stands is refused. inr (short s i (refuses OutOfMemory) new stands few refused)))
  writes_not why (inr (inr (fault, few, stay, counted))) =
      let (files, files', are, others) = files_failed told.files told'.files name stay in
      subst (λ (e : Refusal). WritesSo (Err (Whole e))) (sym fault) (
        [],
        failed (files' name),
        files,
        files',
        tt,
        are,
        counted,
        λ s i stands same is. inl (
          d,
          w,
          stands,
          does s i (failed (files' name)) (refuses WriteFault)
              (record (with_desk s i (record { texts = d; screen = w }) sent) { files = files' }) stands
              (few, refl, becomes s i files files' (files' name) stands same is refl others),
        ),
      )

  writes_step : (result : Result (Unit {0}) Refusal) → WritesFile much most name file told told' result
      → WritesSo (written_answer result)
  writes_step (Ok _) (few, has, stay, unfailed) = writes_well few has stay unfailed
  writes_step (Err why) not = writes_not why not

-- a store of what a text shows, and a keeping of all that it has taken in
module _ (d : SiteTexts) (w : Screened) (text : ℕ) (t : TextState) (there : IsTextOf d text t) (name : List ℕ)
    (told told' : ShelfSeen) (sent : List (List ℕ)) (result : Result (Unit {0}) Refusal) where
  pub store_step : WritesText t name told told' result
      → IsShelfStep (record { texts = d; screen = w }) (λ i. ask i (store text name)) (written_answer result)
      (record { texts = d; screen = w }) sent sent told told'
  store_step writes =
      writes_step d w (store text name) (length (shown_items t)) MAX_STORED name (formatted (shown_items t)) told told' sent
      (λ s i part r new stands does. (t, (d, stands.texts, there), does))
      (λ s i r new stands few refused. (refl, (t, (d, stands.texts, there), few), refused)) result writes

  pub keep_step : (form : KeptForm) → WritesSite form t name told told' result
      → IsShelfStep (record { texts = d; screen = w }) (λ i. ask i (keep form text name)) (written_answer result)
      (record { texts = d; screen = w }) sent sent told told'
  keep_step form writes =
      writes_step d w (keep form text name) (length t.operations) (most_kept form) name (kept_bytes form t.text t.site t.operations) told told' sent
      (λ s i part r new stands does. (t, (d, stands.texts, there), does))
      (λ s i r new stands few refused. (refl, (t, (d, stands.texts, there), few), refused)) result writes

-- the task that stands in a cell of the desk stands there in the run
task_at_it : (seen : DeskSeen) (s : State) (i col row : ℕ) (task : Task) (d : SiteTexts) (w : Screened) → StandsIn s i seen
    → IsDeskAt s i d w → IsTaskAt seen.texts seen.screen col row task → IsTaskAt d w col row task
task_at_it seen s i col row task d w stands there is =
    let desk : seen.texts ≡ d = one_element (slice_get s.desks i) seen.texts d stands.texts there.texts in
    let screen : seen.screen ≡ w = one_element (slice_get s.screens i) seen.screen w stands.screen there.screen in
    subst (λ (x : Screened). IsTaskAt d x col row task) screen
    (subst (λ (x : SiteTexts). IsTaskAt x seen.screen col row task) desk is)

-- a click does the task that stands in its cell
click_does : (seen : DeskSeen) (s : State) (i col row : ℕ) (task : Task) (part : Part) (r : Reply) (new : State)
    → StandsIn s i seen → IsTaskAt seen.texts seen.screen col row task → Replies s (ask i task) part r new
    → Replies s (click i col row) part r new
click_does seen s i col row task part r new stands is (inl (d, w, there, does)) =
    inl (d, w, task, there, task_at_it seen s i col row task d w stands there is, does)
click_does seen s i col row task part r new stands is (inr (d, w, there, short)) =
    inr (d, w, task, there, task_at_it seen s i col row task d w stands there is, short)

-- a command's task, by which one it is
pub commanded : (Goes : Task → Type 0) (d : SiteTexts) (w : Screened) (c c' : Command) (told : TokenValue) (v text : ℕ) → c ≡ c'
    → Goes (task_of d w c' told v text) → Goes (task_of d w c told v text)
commanded Goes d w c c' told v text is goes = subst (λ (x : Command). Goes (task_of d w x told v text)) (sym is) goes

pub click_step : (seen new : DeskSeen) (col row : ℕ) (task : Task) (result : Result Answer EditRefusal)
    (before after : List (List ℕ)) (told told' : ShelfSeen) → IsTaskAt seen.texts seen.screen col row task
    → IsShelfStep seen (λ i. ask i task) result new before after told told'
    → IsShelfStep seen (λ i. click i col row) result new before after told told'
click_step seen new col row task result before after told told' is (messages, part, files, files', counts, are, counted, steps) = (
  messages,
  part,
  files,
  files',
  counts,
  are,
  counted,
  λ s i stands same over. click_does seen s i col row task part (answer_reply result messages)
      (record (with_desk s i new after) { files = files' }) stands is (steps s i stands same over),
)
