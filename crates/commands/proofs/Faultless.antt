-- A task in which the files have no part doesn't answer that the shelf failed.
use Rattle.std.proofs.Common.{◌≡◌, ℕ, Bool, true, false, List, [], ◌∷◌, Option, Some, None, Result, Ok, Err, refl, sym, subst, inl, inr}
use Rattle.std.specs.Prelude.{⊤, if◌then◌else◌, MatchResult, ◌==◌, ◌&&◌}
use Rattle.std.specs.Option.{option_map_or}
use Rattle.looks.specs.declared.refusal.Refusal.{Refusal}
use Rattle.looks.specs.declared.refusal.Refusal.TheVariants.{Behind, FileSpent, NoRoom, NoSelection, NoViewer, OutOfRange, ReadFault}
use Rattle.looks.specs.declared.refusal.Refusal.TheVariants.{Scattered, SeqSpent, StampsSpent, WriteFault}
use Rattle.operations.specs.Operation.{Operation}
use Rattle.texts.specs.Edit.{Edit, insertion, is_in_text, looks_change, plan, recalling, with_operation}
use Rattle.texts.specs.Outcome.{Edits, EditsShort, first_refusal, refusal_for, refusal_or}
use Rattle.texts.specs.TextState.{TextState}
use Rattle.texts.specs.declared.edit_refusal.EditRefusal.{EditRefusal}
use Rattle.texts.specs.declared.edit_refusal.EditRefusal.TheVariants.{Whole, Partial}
use Rattle.viewers.specs.declared.screen.Track.{Track}
use Rattle.machine.specs.SiteTexts.{SiteTexts}
use Rattle.machine.specs.Commands.{Change, dress_marked, task_with_value}
use Rattle.machine.specs.Events.{Reply, Task, arrange, ask, change, done, edit_reply, forget, keep, load, opens, print}
use Rattle.machine.specs.Events.{insert_at_caret, recall_at_caret, refuse, refuses, reopen, search, store, untouched}
use Rattle.machine.specs.Machine.{Replies}
use Rattle.machine.specs.OnTexts.{EditsText, EditsTextShort}
use Rattle.machine.specs.State.{Refuses, State, with_screen_at}
use Rattle.machine.specs.Tasks.{DoesTask, EditsAt, EditsShortAt, ShortTask}
use Rattle.machine.specs.Windows.{Arranged, Marked, Screened, closed_at, marked, opened_at, place_in}
use Rattle.machine.specs.declared.asked.Arrangement.TheVariants.{Close, Move, Open, Point, Scroll, Select}
use Rattle.machine_laws.proofs.Rooms.{by_test}
use Rattle.commands.proofs.Shelves.{sent_replies}
use Rattle.commands.specs.declared.answer.Answer.{Answer}
use Rattle.commands.specs.Filing.{BeginsSo}
use Rattle.commands.specs.Steps.{DeskSeen, IsEditStep, IsFault, IsTaskStep, answer_reply, sent_answer, with_desk}

-- whether it is the shelf that failed
abbrev is_fault : Refusal → Bool
is_fault ReadFault = true
is_fault WriteFault = true
is_fault other = false

abbrev IsSound : Refusal → Type 0
IsSound why = is_fault why ≡ false

-- a reply doesn't tell that
abbrev IsSoundReply : Reply → Type 0
IsSoundReply (refuses why) = IsSound why
IsSoundReply other = ⊤

-- ---- edits

abbrev AreSound : Option Refusal → Type 0
AreSound None = ⊤
AreSound (Some why) = IsSound why

abbrev IsSoundStop : Option (ℕ × Refusal) → Type 0
IsSoundStop None = ⊤
IsSoundStop (Some stop) = IsSound stop.1

tests_sound : (a b c d e : Bool) → AreSound (
    if a then Some Behind
    else (if b then Some SeqSpent else (if c then Some StampsSpent else (if d then Some FileSpent else (if e then Some Scattered else None))))
    )
tests_sound true b c d e = refl
tests_sound false true c d e = refl
tests_sound false false true d e = refl
tests_sound false false false true e = refl
tests_sound false false false false true = refl
tests_sound false false false false false = tt

or_sound : (first : Option Refusal) (later : Option (ℕ × Refusal)) → AreSound first → IsSoundStop later
    → IsSoundStop (refusal_or first later)
or_sound (Some why) later sound more = sound
or_sound None None sound more = tt
or_sound None (Some stop) sound more = more

first_sound : (t : TextState) (ops : List Operation) → IsSoundStop (first_refusal t ops)
first_sound t [] = tt
first_sound t (op ∷ ops) =
    or_sound (refusal_for t op.kind) (first_refusal (with_operation t op) ops) (tests_sound _ _ _ _ _)
    (first_sound (with_operation t op) ops)

edit_sound : (t : TextState) (ops : List Operation) (result : Result ℕ EditRefusal) (new : TextState) (messages : List (List ℕ))
    → Edits t ops result new messages → IsSoundReply (edit_reply result messages)
edit_sound t ops (Ok n) new messages edits = tt
edit_sound t ops (Err (Whole why)) new messages (first, stand) = subst IsSoundStop first (first_sound t ops)
edit_sound t ops (Err (Partial n why)) new messages edits = tt

edit_sound_short : (t : TextState) (ops : List Operation) (result : Result ℕ EditRefusal) (new : TextState)
    (messages : List (List ℕ)) → EditsShort t ops result new messages → IsSoundReply (edit_reply result messages)
edit_sound_short t ops (Ok n) new messages short = tt
edit_sound_short t ops (Err (Whole why)) new messages (is, takes_it, stand) = subst IsSound (sym is) refl
edit_sound_short t ops (Err (Partial n why)) new messages short = tt

text_sound : (e : Edit) (r : Reply) (t new : TextState) → EditsText e r t new → IsSoundReply r
text_sound e r t new does =
    elim (by_test (is_in_text t e) _ _ does) [
      | inl whole ↦ (
          let (result, messages, edits, shows, replied) = whole.1 in
          subst IsSoundReply (sym replied) (edit_sound t (plan t e) result new messages edits))
      | inr left ↦ subst IsSoundReply (sym left.1.0) refl
    ]

text_sound_short : (e : Edit) (r : Reply) (t new : TextState) → EditsTextShort e r t new → IsSoundReply r
text_sound_short e r t new (within, (result, messages, edits, shows, replied)) =
    subst IsSoundReply (sym replied) (edit_sound_short t (plan t e) result new messages edits)

-- an edit of a run's text
run_sound : (s : State) (i text : ℕ) (e : Edit) (r : Reply) (mid : State) → EditsAt s i text e r mid → IsSoundReply r
run_sound s i text e r mid (d, d', at, (t, u, there, (t', edits, told), changed), is_mid) = text_sound e r t t' edits

run_sound_short : (s : State) (i text : ℕ) (e : Edit) (r : Reply) (mid : State) → EditsShortAt s i text e r mid
    → IsSoundReply r
run_sound_short s i text e r mid (d, d', at, (t, u, there, (t', edits, told), changed), is_mid) =
    text_sound_short e r t t' edits

-- ---- arrangements

abbrev IsSoundOut : Arranged → Type 0
IsSoundOut (Ok out) = ⊤
IsSoundOut (Err why) = IsSound why

opened_sound : (w : Screened) (track : Track) (text : ℕ) (row : Option ℕ) → IsSoundOut (opened_at w track text row)
opened_sound w track text row = by _ _ _
  where
    by : (below room : Bool) (out : Screened × Option ℕ)
        → IsSoundOut (if below then Err OutOfRange else (if room then Ok out else Err NoRoom))
    by true room out = refl
    by false true out = tt
    by false false out = refl

closed_sound : (w : Screened) (v : ℕ) → IsSoundOut (closed_at w v)
closed_sound w v = by _ _
  where
    by : (stands : Bool) (out : Screened × Option ℕ) → IsSoundOut (if stands then Ok out else Err NoViewer)
    by true out = tt
    by false out = refl

arranged_sound : (out : Arranged) (s : State) (i : ℕ) (r : Reply) (new : State) → IsSoundOut out
    → MatchResult out (λ x. (r ≡ option_map_or (λ v. opens v) x.1 done) × (new ≡ with_screen_at s i x.0))
    (λ why. Refuses s why r new) → IsSoundReply r
arranged_sound (Ok (w, None)) s i r new sound (is, is_new) = subst IsSoundReply (sym is) tt
arranged_sound (Ok (w, Some v)) s i r new sound (is, is_new) = subst IsSoundReply (sym is) tt
arranged_sound (Err why) s i r new sound (is, is_new) = subst IsSoundReply (sym is) sound

-- ---- tasks

-- a refusal is for another reason, and no more is arranged or filed than a command asks for
abbrev IsSoundTask : Task → Type 0
IsSoundTask (refuse why) = IsSound why
IsSoundTask (insert_at_caret items) = ⊤
IsSoundTask recall_at_caret = ⊤
IsSoundTask (load name) = ⊤
IsSoundTask (store text name) = ⊤
IsSoundTask (search bytes) = ⊤
IsSoundTask (change text e) = ⊤
IsSoundTask (forget text) = ⊤
IsSoundTask (arrange (Open track text row)) = ⊤
IsSoundTask (arrange (Close v)) = ⊤
IsSoundTask (arrange (Move v row)) = ⊥
IsSoundTask (arrange (Scroll v line)) = ⊥
IsSoundTask (arrange (Point cell)) = ⊥
IsSoundTask (arrange (Select beg end)) = ⊥
IsSoundTask (print v) = ⊤
IsSoundTask (keep form text name) = ⊥
IsSoundTask (reopen text name) = ⊥

module _ (s : State) (i : ℕ) (d : SiteTexts) (w : Screened) where
  does_sound : (task : Task) (r : Reply) (new : State) → IsSoundTask task → DoesTask s i d w task untouched r new
      → IsSoundReply r
  does_sound (refuse why) r new sound (part, (is, same)) = subst IsSoundReply (sym is) sound
  does_sound (insert_at_caret items) r new sound (inl (none, part, (is, same))) = subst IsSoundReply (sym is) refl
  does_sound (insert_at_caret items) r new sound (inr (c, shown, caret, at, (part, (mid, t', does, there, is_new)))) =
      run_sound s i shown.0.text (insertion (place_in shown.1 c.anchor) items) r mid does
  does_sound recall_at_caret r new sound (inl (none, part, (is, same))) = subst IsSoundReply (sym is) refl
  does_sound recall_at_caret r new sound (inr (c, shown, caret, at, (part, (mid, t', does, there, is_new)))) =
      run_sound s i shown.0.text (recalling (place_in shown.1 c.anchor)) r mid does
  does_sound (load name) r new sound (inl (none, part, (is, same))) = subst IsSoundReply (sym is) refl
  does_sound (load name) r new sound (inr (c, shown, caret, at, loads)) = absurd loads
  does_sound (store text name) r new sound (t, at, (long, (is, same))) = subst IsSoundReply (sym is) refl
  does_sound (search bytes) r new sound (inl (none, part, (is, same))) = subst IsSoundReply (sym is) refl
  does_sound (search bytes) r new sound (inr (c, shown, caret, at, (part, inl (q, first, is, is_new)))) =
      subst IsSoundReply (sym is) tt
  does_sound (search bytes) r new sound (inr (c, shown, caret, at, (part, inr (none, is, same)))) =
      subst IsSoundReply (sym is) tt
  does_sound (change text e) r new sound (part, does) = run_sound s i text e r new does
  does_sound (forget text) r new sound (part, (e, e', at, (t, u, there, (t', (is, emptied), told), changed), is_new)) =
      subst IsSoundReply (sym is) tt
  does_sound (arrange (Open track text row)) r new sound (part, out) =
      arranged_sound (opened_at w track text row) s i r new (opened_sound w track text row) out
  does_sound (arrange (Close v)) r new sound (part, out) =
      arranged_sound (closed_at w v) s i r new (closed_sound w v) out
  does_sound (arrange (Move v row)) r new sound does = absurd sound
  does_sound (arrange (Scroll v line)) r new sound does = absurd sound
  does_sound (arrange (Point cell)) r new sound does = absurd sound
  does_sound (arrange (Select beg end)) r new sound does = absurd sound
  does_sound (print v) r new sound (part, is, same) = subst IsSoundReply (sym is) tt
  does_sound (keep form text name) r new sound does = absurd sound
  does_sound (reopen text name) r new sound does = absurd sound

  short_sound : (task : Task) (r : Reply) (new : State) → ShortTask s i d w task untouched r new → IsSoundReply r
  short_sound (refuse why) r new short = absurd short
  short_sound (insert_at_caret items) r new (part, (c, shown, caret, at, (mid, t', does, there, is_new))) =
      run_sound_short s i shown.0.text (insertion (place_in shown.1 c.anchor) items) r mid does
  short_sound recall_at_caret r new (part, (c, shown, caret, at, (mid, t', does, there, is_new))) =
      run_sound_short s i shown.0.text (recalling (place_in shown.1 c.anchor)) r mid does
  short_sound (load name) r new (c, shown, caret, at, does) = absurd does
  short_sound (store text name) r new (part, long, (is, same)) = subst IsSoundReply (sym is) refl
  short_sound (search bytes) r new short = absurd short
  short_sound (change text e) r new (part, does) = run_sound_short s i text e r new does
  short_sound (forget text) r new short = absurd short
  short_sound (arrange (Open track text row)) r new (part, well, (is, same)) = subst IsSoundReply (sym is) refl
  short_sound (arrange (Close v)) r new short = absurd short
  short_sound (arrange (Move v row)) r new short = absurd short
  short_sound (arrange (Scroll v line)) r new short = absurd short
  short_sound (arrange (Point cell)) r new short = absurd short
  short_sound (arrange (Select beg end)) r new short = absurd short
  short_sound (print v) r new (part, (is, same)) = subst IsSoundReply (sym is) refl
  short_sound (keep form text name) r new (part, few, (is, same)) = subst IsSoundReply (sym is) refl
  short_sound (reopen text name) r new (fresh, does) = absurd does

replies_sound : (s : State) (i : ℕ) (task : Task) (r : Reply) (new : State) → IsSoundTask task
    → Replies s (ask i task) untouched r new → IsSoundReply r
replies_sound s i task r new sound (inl (d, w, stands, does)) = does_sound s i d w task r new sound does
replies_sound s i task r new sound (inr (d, w, stands, short)) = short_sound s i d w task r new short

-- an answer that the shelf failed isn't sound
no_fault : (result : Result Answer EditRefusal) (messages : List (List ℕ)) → IsSoundReply (answer_reply result messages)
    → IsFault result → ⊥
no_fault result messages sound (inl is) =
    let lost : true ≡ false = subst (λ (x : Result Answer EditRefusal). IsSoundReply (answer_reply x messages)) is sound in
    absurd cc
no_fault result messages sound (inr is) =
    let lost : true ≡ false = subst (λ (x : Result Answer EditRefusal). IsSoundReply (answer_reply x messages)) is sound in
    absurd cc

-- the begin of a text as it was kept isn't a fault
pub begins_unfailed : (d : DeskSeen) (text : ℕ) (kept : TextState) (result : Result Answer EditRefusal) (new : DeskSeen)
    → BeginsSo d text kept result new → IsFault result → ⊥
begins_unfailed d text kept result new (t, at, begins) =
    elim (by_test (kept.text == t.text && kept.site == t.site) _ _ begins) [
      | inl own ↦ no_fault result [] (subst (λ (x : Result Answer EditRefusal). IsSoundReply (answer_reply x [])) (sym own.1.0) tt)
      | inr other ↦ no_fault result [] (subst (λ (x : Result Answer EditRefusal). IsSoundReply (answer_reply x [])) (sym other.1.0) refl)
    ]

-- a missing selection isn't a fault
pub no_selection_sound : (why : Refusal) → why ≡ NoSelection → IsFault (Err (Whole why)) → ⊥
no_selection_sound why is = no_fault (Err (Whole why)) [] (subst IsSound (sym is) refl)

-- the run of a desk alone
abbrev run_of : DeskSeen → List (List ℕ) → State
run_of seen sent = record {
  first = seen.texts.site;
  desks = seen.texts ∷ [];
  screens = seen.screen ∷ [];
  sent = sent;
  files = λ name. None;
}

-- so neither a task in which nothing is sent nor an edit answers that the shelf failed
pub task_sound : (seen new : DeskSeen) (task : Task) (result : Result Answer EditRefusal) → IsSoundTask task
    → IsTaskStep seen task result new → IsFault result → ⊥
task_sound seen new task result sound (counts, steps) =
    no_fault result []
    (replies_sound (run_of seen []) 0 task (answer_reply result []) (with_desk (run_of seen []) 0 new []) sound
    (steps (run_of seen []) 0 (record { texts = refl; screen = refl })))

pub edit_step_sound : (seen new : DeskSeen) (task : Task) (result : Result ℕ EditRefusal) (before after : List (List ℕ))
    → IsSoundTask task → IsEditStep seen (λ i. ask i task) result new before after → IsFault (sent_answer result) → ⊥
edit_step_sound seen new task result before after sound (messages, counts, steps) =
    no_fault (sent_answer result) messages
    (subst IsSoundReply (sent_replies result messages)
    (replies_sound (run_of seen before) 0 task (edit_reply result messages) (with_desk (run_of seen before) 0 new after)
    sound (steps (run_of seen before) 0 (record { texts = refl; screen = refl }) refl)))

-- ---- the tasks of commands

pub told_sound : {X : Type 0} (told : Option X) (task : X → Task) → ((x : X) → IsSoundTask (task x))
    → IsSoundTask (task_with_value told task)
told_sound None task sound = refl
told_sound (Some x) task sound = sound x

pub dressed_sound : (d : SiteTexts) (w : Screened) (to : Change) → IsSoundTask (dress_marked d w to)
dressed_sound d w to = by (marked d w)
  where
    by : (o : Option Marked)
        → IsSoundTask (option_map_or (λ m. change m.window.text (looks_change m.beg m.end to.0 to.1)) o (refuse NoSelection))
    by None = refl
    by (Some m) = tt
