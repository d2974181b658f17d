-- A text that begins as its site's file tells is a step of the run.
use Rattle.std.proofs.Common.{◌≡◌, ℕ, ◌+◌, ◌-◌, Bool, true, false, List, [], ◌∷◌, ◌++◌, length, None, Result, Ok, Err, refl, sym, ap, subst, ◌∙◌, inl, inr, append-nil, arith}
use Rattle.std.specs.Prelude.{◌==◌, ◌&&◌, MatchBool, nat_lt, slice_get, slice_set}
use Rattle.std.proofs.lemmas.Bool.{and_parts}
use Rattle.looks.specs.declared.refusal.Refusal.{Refusal}
use Rattle.looks.specs.declared.refusal.Refusal.TheVariants.{BadFile, Conflict, OutOfMemory, ReadFault, WrongText}
use Rattle.operations.specs.Operation.{Operation}
use Rattle.shelf.specs.Files.{Counts, Files, HasFile, IsThere, SameFiles}
use Rattle.texts.specs.Taking.{HasTakenAll}
use Rattle.texts.specs.Text.{IsText}
use Rattle.texts.specs.TextState.{TextState, all_told, empty_text, noting}
use Rattle.texts.specs.declared.edit_refusal.EditRefusal.{EditRefusal}
use Rattle.texts.specs.declared.edit_refusal.EditRefusal.TheVariants.{Whole}
use Rattle.kept_file.specs.KeptFiles.{IsKeptFileOf, IsNoKeptFile}
use Rattle.machine.specs.SiteTexts.{SiteTexts, InText, IsTextOf, with_text}
use Rattle.machine.specs.Events.{Part, Reply, ask, done, failed, refuses, reopen, untouched, went_well}
use Rattle.machine.specs.State.{IsDeskAt, State}
use Rattle.machine.specs.Tasks.{BeginsWith, DoesTask, Reopens, text_has_begun}
use Rattle.machine.specs.Windows.{Screened}
use Rattle.machine_laws.proofs.OneOfTexts.{one_element}
use Rattle.machine_laws.proofs.Telling.{put_back}
use Rattle.machine_laws.specs.Growing.{Grows}
use Rattle.commands.proofs.Following.{is_new}
use Rattle.commands.proofs.Lifting.{HasText}
use Rattle.commands.proofs.Shelves.{files_of, files_read, files_same, files_there, refused_over, same_of}
use Rattle.shelved_texts.specs.Filing.{ReadsNot}
use Rattle.commands.specs.Filing.{BeginsSo}
use Rattle.commands.specs.declared.answer.Answer.{Answer}
use Rattle.commands.specs.declared.answer.Answer.TheVariants.{Done}
use Rattle.shelved_texts.specs.Filing.{ShelfSeen}
use Rattle.commands.specs.Steps.{AreTold, DeskSeen, IsShelfStep, StandsIn, with_desk}

-- a text in which nothing was done yet has no operations
pub none_taken : (ops waiting : List Operation) → nat_lt 0 (length ops + length waiting) ≡ false → ops ≡ []
none_taken [] waiting fresh = refl
none_taken (op ∷ ops) waiting fresh = absurd (grind (arith, fresh))

-- a text that begins as it was kept grows by that
pub kept_grows : (t kept : TextState) → IsText t → text_has_begun t ≡ false → t.asked ≡ noting (length t.operations)
    → HasTakenAll (empty_text kept.text kept.site) kept.operations kept → Grows t kept
kept_grows t kept is fresh told taken =
    let none : t.operations ≡ [] = none_taken t.operations t.waiting_room fresh in record {
      was = is;
      is = taken.is;
      more = kept.operations;
      taken = ap (λ (ops : List Operation). ops ++ kept.operations) (sym none);
      asked = ap (λ (x : TextState). x.asked) taken.grown ∙ ap (λ (ops : List Operation). noting (length ops)) (sym none) ∙ sym told;
    }

-- so does a desk's text in the place of which it is put
pub replaced_grows : (d d' : SiteTexts) (text : ℕ) (kept : TextState) → HasText d text → AreTold d
    → ((t : TextState) → IsTextOf d text t → text_has_begun t ≡ false)
    → HasTakenAll (empty_text kept.text kept.site) kept.operations kept → InText (λ _ u. u ≡ kept) d text d'
    → InText Grows d text d'
replaced_grows d d' text kept (t, at, is) told fresh taken (u, v, there, is_set, changed) =
    let same : t ≡ u = one_element (slice_get d.texts (text - 1)) t u at there in (
      u,
      v,
      there,
      subst (Grows u) (sym is_set) (kept_grows u kept (subst IsText same is) (fresh u there) (told text u there) taken),
      changed,
    )

-- and has it then, with its changes told
pub replaced_now : (d d' new : SiteTexts) (text : ℕ) (kept : TextState) → HasText d text → AreTold d
    → ((t : TextState) → IsTextOf d text t → text_has_begun t ≡ false)
    → HasTakenAll (empty_text kept.text kept.site) kept.operations kept → InText (λ _ u. u ≡ kept) d text d'
    → InText (λ t u. u ≡ all_told t) d' text new → new ≡ with_text d text (all_told kept)
unfolding replaced_grows
replaced_now d d' new text kept (t, at, is) told fresh taken (u, v, there, is_set, changed) asked =
    is_new d d' new text told (replaced_grows d d' text kept (t, at, is) told fresh taken (u, v, there, is_set, changed)) asked
    ∙ ap (λ (x : TextState). with_text d text (all_told x)) is_set

-- what becomes of it
pub begins_apart : (seen : DeskSeen) (text : ℕ) (t kept : TextState) (told : Bool) → IsTextOf seen.texts text t
    → told ≡ (kept.text == t.text && kept.site == t.site) → told ≡ false
    → BeginsSo seen text kept (Err (Whole WrongText)) seen
begins_apart seen text t kept false there is apart = (t, there, rw (sym is) (refl, refl))
begins_apart seen text t kept true there is apart = absurd cc

pub begins_its_own : (d new : SiteTexts) (w w' : Screened) (text : ℕ) (t kept : TextState) (told : Bool) → IsTextOf d text t
    → told ≡ (kept.text == t.text && kept.site == t.site) → told ≡ true → new ≡ with_text d text (all_told kept) → w' ≡ w
    → BeginsSo (record { texts = d; screen = w }) text kept (Ok Done) (record { texts = new; screen = w' })
begins_its_own d new w w' text t kept true there is own now same =
    (t, there, rw (sym is) (refl, λ k. record { texts = now k; screen = same k }))
begins_its_own d new w w' text t kept false there is own now same = absurd cc

module _ (d : SiteTexts) (w : Screened) (text : ℕ) (t : TextState) (there : IsTextOf d text t) (name : List ℕ) where
  abbrev pub seen : DeskSeen
  seen = record { texts = d; screen = w }

  abbrev ReopensSo : Result Answer EditRefusal → DeskSeen → (sent : List (List ℕ)) → (told told' : ShelfSeen) → Type 0
  ReopensSo result new sent told told' = IsShelfStep seen (λ i. ask i (reopen text name)) result new sent sent told told'

  -- one in which something was done isn't reopened, and no file is read
  pub begun_step : (told : ShelfSeen) (sent : List (List ℕ)) → text_has_begun t ≡ true
      → ReopensSo (Err (Whole Conflict)) seen sent told told
  begun_step told sent begun =
      refused_over d w (reopen text name) told told untouched Conflict (files_of told.files) (files_of told.files) sent
      (same_of told.files) refl refl
      (λ s i new stands is refused. inl (t, (d, stands.texts, there), rw begun (refl, refused)))

  module _ (fresh : text_has_begun t ≡ false) (told told' : ShelfSeen) (same : SameFiles told.files told'.files) (sent : List (List ℕ)) where
    -- what it begins with
    reopens : (s : State) (i : ℕ) (part : Part) (r : Reply) (new : State) → IsDeskAt s i d w
        → Reopens s i text t name part r new → DoesTask s i d w (reopen text name) part r new
    reopens s i part r new stands goes = (t, (d, stands.texts, there), rw fresh goes)

    -- the shelf fails
    unread : Counts told.faults told'.faults → ReopensSo (Err (Whole ReadFault)) seen sent told told'
    unread counted =
        let (files, files', are, stay) = files_same told.files told'.files same in
        refused_over d w (reopen text name) told told' (failed None) ReadFault files files' sent are counted stay
        (λ s i new stands is refused. inl (reopens s i (failed None) (refuses ReadFault) new stands refused))

    -- memory is short
    short : IsThere told.files name → told'.faults ≡ told.faults → ReopensSo (Err (Whole OutOfMemory)) seen sent told told'
    short has unfailed =
        let (files, files', are, stay, (file, read)) = files_there told.files told'.files name same has in
        refused_over d w (reopen text name) told told' went_well OutOfMemory files files' sent are unfailed stay
        (λ s i new stands is refused.
        inr ((t, (d, stands.texts, there), fresh), (file, ap (λ (f : Files). f name) is ∙ read, refused)))

    -- the file is no site's
    bad : (file : List ℕ) → told'.faults ≡ told.faults → HasFile told.files name file → IsNoKeptFile file
        → ReopensSo (Err (Whole BadFile)) seen sent told told'
    bad file unfailed has none =
        let (files, files', are, stay, read) = files_read told.files told'.files name file same has in
        refused_over d w (reopen text name) told told' went_well BadFile files files' sent are unfailed stay
        (λ s i new stands is refused. inl (reopens s i went_well (refuses BadFile) new stands
        (file, ap (λ (f : Files). f name) is ∙ read, inl (none, refused))))

    pub unread_step : (why : Refusal) → ReadsNot IsNoKeptFile told told' name why → ReopensSo (Err (Whole why)) seen sent told told'
    unread_step why (inl (fault, counted)) =
        subst (λ (e : Refusal). ReopensSo (Err (Whole e)) seen sent told told') (sym fault) (unread counted)
    unread_step why (inr (inl (memory, has, unfailed))) =
        subst (λ (e : Refusal). ReopensSo (Err (Whole e)) seen sent told told') (sym memory) (short has unfailed)
    unread_step why (inr (inr (is_bad, unfailed, (file, has, none)))) =
        subst (λ (e : Refusal). ReopensSo (Err (Whole e)) seen sent told told') (sym is_bad) (bad file unfailed has none)

    module _ (kept : TextState) (file : List ℕ) (has : HasFile told.files name file)
        (of : IsKeptFileOf kept.text kept.site kept.operations file)
        (taken : HasTakenAll (empty_text kept.text kept.site) kept.operations kept)
        (unfailed : told'.faults ≡ told.faults) where
      -- it is another text's, or another site's
      other : (kept.text == t.text && kept.site == t.site) ≡ false → ReopensSo (Err (Whole WrongText)) seen sent told told'
      other apart =
          let (files, files', are, stay, read) = files_read told.files told'.files name file same has in
          refused_over d w (reopen text name) told told' went_well WrongText files files' sent are unfailed stay
          (λ s i new stands is refused. inl (reopens s i went_well (refuses WrongText) new stands
          (file, ap (λ (f : Files). f name) is ∙ read, inr (kept.text, kept.site, kept.operations, of, rw apart refused))))

      abbrev now : DeskSeen
      now = record { texts = with_text d text (all_told kept); screen = w }

      -- the text and the site are this one's
      its_own : (kept.text == t.text && kept.site == t.site) ≡ true → HasTakenAll (empty_text t.text t.site) kept.operations kept
      its_own same_copy =
          let (text_is, site_is) = and_parts (kept.text == t.text) (kept.site == t.site) same_copy in
          subst (λ (n : ℕ). HasTakenAll (empty_text n t.site) kept.operations kept) (grind (arith, text_is))
          (subst (λ (n : ℕ). HasTakenAll (empty_text kept.text n) kept.operations kept) (grind (arith, site_is)) taken)

      -- so it begins, and tells its changes
      begins_with : (s : State) (i : ℕ) (files files' : Files) → StandsIn s i seen → s.sent ≡ sent → s.files ≡ files
          → files' ≡ files → HasTakenAll (empty_text t.text t.site) kept.operations kept
          → BeginsWith s i text kept.operations done (record (with_desk s i now sent) { files = files' })
      begins_with s i files files' stands is_sent is stay its = (
        (
          d,
          now.texts,
          stands.texts,
          (t, all_told kept, there, (kept, its, refl), refl),
          (λ k. record s {
            desks = slice_set s.desks i now.texts;
            screens = put_back s.screens i w stands.screen k;
            sent = (sym is_sent ∙ sym (append-nil s.sent)) k;
            files = (stay ∙ sym is) k;
          }),
        ),
        refl,
      )

      begins : (kept.text == t.text && kept.site == t.site) ≡ true → ReopensSo (Ok Done) now sent told told'
      begins same_copy =
          let (files, files', are, stay, read) = files_read told.files told'.files name file same has in (
            [],
            went_well,
            files,
            files',
            tt,
            are,
            unfailed,
            λ s i stands is_sent is. inl (
              d,
              w,
              stands,
              reopens s i went_well done (record (with_desk s i now sent) { files = files' }) stands (
                file,
                ap (λ (f : Files). f name) is ∙ read,
                inr (
                  kept.text,
                  kept.site,
                  kept.operations,
                  of,
                  rw same_copy (begins_with s i files files' stands is_sent is stay (its_own same_copy)),
                ),
              ),
            ),
          )

      abbrev BeginsBy : Bool → Result Answer EditRefusal → DeskSeen → Type 0
      BeginsBy own result new = MatchBool own ((result ≡ Ok Done) × (new ≡ now)) ((result ≡ Err (Whole WrongText)) × (new ≡ seen))

      begins_by : (own : Bool) (result : Result Answer EditRefusal) (new : DeskSeen)
          → (kept.text == t.text && kept.site == t.site) ≡ own → BeginsBy own result new → ReopensSo result new sent told told'
      begins_by true result new own (is, is_new) =
          subst (λ (x : DeskSeen). ReopensSo result x sent told told') (sym is_new)
          (subst (λ (r : Result Answer EditRefusal). ReopensSo r now sent told told') (sym is) (begins own))
      begins_by false result new own (is, is_new) =
          subst (λ (x : DeskSeen). ReopensSo result x sent told told') (sym is_new)
          (subst (λ (r : Result Answer EditRefusal). ReopensSo r seen sent told told') (sym is) (other own))

      pub begun_as : (result : Result Answer EditRefusal) (new : DeskSeen)
          → BeginsBy (kept.text == t.text && kept.site == t.site) result new → ReopensSo result new sent told told'
      begun_as result new so = begins_by (kept.text == t.text && kept.site == t.site) result new refl so
