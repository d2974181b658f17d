-- What a task does is a step of the run: refusals, edits, a search, and an emptied room.
use Rattle.std.proofs.Common.{◌≡◌, ℕ, ◌+◌, ◌-◌, ◌≤◌, List, [], length, Option, Some, None, Result, Ok, Err, refl, sym, ap, subst, ◌∙◌, inl, inr, append-nil, arith, Contains}
use Rattle.std.specs.Prelude.{slice_get}
use Rattle.std.specs.Option.{option_map_or}
use Rattle.std.proofs.lemmas.List.Elements.{All-nil}
use Rattle.looks.specs.declared.refusal.Refusal.{Refusal}
use Rattle.looks.specs.declared.refusal.Refusal.TheVariants.{BadParameter, NoCaret, NoSelection}
use Rattle.operations.specs.Operation.{Operation}
use Rattle.set_laws.specs.Sets.{AreIdentified}
use Rattle.convergence.proofs.OneWay.{text_with_room}
use Rattle.texts.specs.Edit.{Edit, looks_change}
use Rattle.text_frames.proofs.Places.{place_within}
use Rattle.texts.specs.Text.{IsAnchor, IsText}
use Rattle.texts.specs.TextState.{TextState, shown_of, with_room}
use Rattle.texts.specs.declared.edit_refusal.EditRefusal.{EditRefusal}
use Rattle.texts.specs.declared.edit_refusal.EditRefusal.TheVariants.{Whole}
use Rattle.machine.specs.SiteTexts.{SiteTexts, InText, IsTextOf}
use Rattle.machine.specs.Commands.{Change, dress_marked, task_with_value}
use Rattle.machine.specs.Events.{Reply, Task, ask, change, edit, edit_reply, forget, forgot, refuse, refuses, search}
use Rattle.machine.specs.Events.{untouched}
use Rattle.machine.specs.Machine.{Replies}
use Rattle.machine.specs.State.{State, with_screen_at}
use Rattle.machine.specs.Tasks.{IsFirstFrom, StandsAt}
use Rattle.machine.specs.Windows.{Marked, Screened, bytes_shown, marked, place_in, window_of}
use Rattle.machine_laws.proofs.OneOfTexts.{one_element}
use Rattle.machine_laws.proofs.OneReply.{shown_parts}
use Rattle.machine_laws.specs.Growing.{Grows}
use Rattle.desk_windows.specs.Windows.{AreOf, HasMovedTo, IsCaretPlace, WindowsSeen, screened}
use Rattle.commands.proofs.AtCaret.{anchored}
use Rattle.commands.proofs.Lifting.{HasText}
use Rattle.commands.proofs.Steps.{Asked, at_text_silent, run_arranged, run_stays}
use Rattle.commands.specs.declared.answer.Answer.{Answer}
use Rattle.commands.specs.declared.answer.Answer.TheVariants.{Found, NotFound, Forgot}
use Rattle.commands.specs.Steps.{DeskSeen, IsEditStep, IsStep, IsTaskStep, StandsIn, with_desk}

-- a parameter that tells nothing, and one that tells this
pub untold : {X : Type 0} (Goes : Task → Type 0) (told : Option X) (task : X → Task) → told ≡ None
    → Goes (refuse BadParameter) → Goes (task_with_value told task)
untold Goes told task none goes = subst (λ (o : Option _). Goes (task_with_value o task)) (sym none) goes

pub told_so : {X : Type 0} (Goes : Task → Type 0) (told : Option X) (x : X) (task : X → Task) → told ≡ Some x
    → Goes (task x) → Goes (task_with_value told task)
told_so Goes told x task is goes = subst (λ (o : Option _). Goes (task_with_value o task)) (sym is) goes

-- a refusal changes nothing
module _ (seen : DeskSeen) (why : Refusal) where
  pub refuse_step : IsStep seen (λ i. ask i (refuse why)) (refuses why) seen
  refuse_step = λ s i stands.
      subst (Replies s (ask i (refuse why)) untouched (refuses why)) (run_stays s i seen.texts seen.screen stands)
      (inl (seen.texts, seen.screen, stands, (refl, (refl, refl))))

  pub refused_task : IsTaskStep seen (refuse why) (Err (Whole why)) seen
  refused_task = (tt, refuse_step)

  pub refused_edit : (sent : List (List ℕ)) → IsEditStep seen (λ i. ask i (refuse why)) (Err (Whole why)) seen sent sent
  refused_edit sent = (
    [],
    tt,
    λ s i stands same. subst (λ (x : List (List ℕ)). Replies s (ask i (refuse why)) untouched (refuses why)
        (with_desk s i seen x)) same (refuse_step s i stands),
  )

-- an edit of a text is a task
changes_so : (s : State) (i : ℕ) (seen : DeskSeen) (text : ℕ) (e : Edit) (r : Reply) (new : State)
    → StandsIn s i seen → Replies s (edit i text e) untouched r new
    → Replies s (ask i (change text e)) untouched r new
changes_so s i seen text e r new stands (inl does) = inl (seen.texts, seen.screen, stands, does)
changes_so s i seen text e r new stands (inr short) = inr (seen.texts, seen.screen, stands, short)

pub change_step : (seen new : DeskSeen) (text : ℕ) (e : Edit) (result : Result ℕ EditRefusal) (before after : List (List ℕ))
    → IsEditStep seen (λ i. (edit i text e)) result new before after
    → IsEditStep seen (λ i. ask i (change text e)) result new before after
change_step seen new text e result before after (messages, count, steps) = (
  messages,
  count,
  λ s i stands same. changes_so s i seen text e (edit_reply result messages) (with_desk s i new after) stands
      (steps s i stands same),
)

-- where something is marked its looks are changed, else that is refused
pub dresses_none : (d : SiteTexts) (w : Screened) (dressed : Change) → marked d w ≡ None
    → dress_marked d w dressed ≡ refuse NoSelection
dresses_none d w dressed none =
    ap (λ (o : Option Marked). option_map_or (λ m. change m.window.text (looks_change m.beg m.end dressed.0 dressed.1)) o
    (refuse NoSelection)) none

pub dresses : (d : SiteTexts) (w : Screened) (dressed : Change) (at : Marked) → marked d w ≡ Some at
    → dress_marked d w dressed ≡ change at.window.text (looks_change at.beg at.end dressed.0 dressed.1)
dresses d w dressed at is =
    ap (λ (o : Option Marked). option_map_or (λ m. change m.window.text (looks_change m.beg m.end dressed.0 dressed.1)) o
    (refuse NoSelection)) is

pub dressed_step : (seen new : DeskSeen) (dressed : Change) (at : Marked) (text beg end : ℕ) (result : Result ℕ EditRefusal)
    (before after : List (List ℕ)) → marked seen.texts seen.screen ≡ Some at → text ≡ at.window.text → beg ≡ at.beg
    → end ≡ at.end
    → IsEditStep seen (λ i. (edit i text (looks_change beg end dressed.0 dressed.1))) result new before after
    → IsEditStep seen (λ i. ask i (dress_marked seen.texts seen.screen dressed)) result new before after
dressed_step seen new dressed at text beg end result before after is text_is beg_is end_is step =
    subst (λ (task : Task). IsEditStep seen (λ i. ask i task) result new before after)
    ((λ k. change (text_is k) (looks_change (beg_is k) (end_is k) dressed.0 dressed.1))
    ∙ sym (dresses seen.texts seen.screen dressed at is))
    (change_step seen new text (looks_change beg end dressed.0 dressed.1) result before after step)

-- a search, from the caret's place on
module _ (seen : DeskSeen) (d : SiteTexts) (old : WindowsSeen) (is : record { texts = d; screen = screened old } ≡ seen) where
  seen_so : (task : Task) (result : Result Answer EditRefusal) (new : DeskSeen)
      → IsTaskStep (record { texts = d; screen = screened old }) task result new → IsTaskStep seen task result new
  seen_so task result new step = subst (λ (x : DeskSeen). IsTaskStep x task result new) is step

  pub no_caret_task : (bytes : List ℕ) → old.caret ≡ None → IsTaskStep seen (search bytes) (Err (Whole NoCaret)) seen
  no_caret_task bytes none =
      subst (λ (x : DeskSeen). IsTaskStep x (search bytes) (Err (Whole NoCaret)) x) is (
        tt,
        λ s i stands. inl (
          d,
          screened old,
          stands,
          inl (none, refl, (refl, sym (run_stays s i d (screened old) stands))),
        ),
      )

  module _ (bytes : List ℕ) (place : ℕ × ℕ) (t : TextState) (caret : IsCaretPlace d old (Some place)) (at : IsTextOf d place.0 t) where
    text_is : caret.1.1 ≡ t
    text_is =
        one_element (slice_get d.texts (caret.1.0.text - 1)) caret.1.1 t
        (shown_parts d (screened old) caret.0.viewer caret.1 caret.3).1
        (subst (λ (n : ℕ). IsTextOf d n t) caret.4 at)

    place_is : place.1 ≡ place_in t caret.0.anchor
    place_is = caret.5 ∙ ap (λ (x : TextState). place_in x caret.0.anchor) text_is

    shown_is : window_of d (screened old) caret.0.viewer ≡ Some (caret.1.0, t)
    shown_is = caret.3 ∙ ap (λ (x : TextState). Some (caret.1.0, x)) text_is

    -- it lies in the text
    pub place_within_text : AreOf d old → IsText t → place.1 ≤ length (shown_of t)
    place_within_text are well =
        subst (λ (n : ℕ). n ≤ length (shown_of t)) (sym place_is)
        (place_within t well caret.0.anchor
        (subst (λ (x : TextState). IsAnchor x.operations caret.0.anchor) text_is
        (anchored d old caret.0 caret.1 are caret.2 caret.3)))

    pub not_found_task : ((q : ℕ) → place.1 ≤ q → StandsAt bytes (bytes_shown t) q → ⊥)
        → IsTaskStep seen (search bytes) (Ok NotFound) seen
    not_found_task none =
        subst (λ (x : DeskSeen). IsTaskStep x (search bytes) (Ok NotFound) x) is (
          tt,
          λ s i stands. inl (
            d,
            screened old,
            stands,
            inr (
              caret.0,
              (caret.1.0, t),
              caret.2,
              shown_is,
              (
                refl,
                inr (
                  subst (λ (from : ℕ). (q : ℕ) → from ≤ q → StandsAt bytes (bytes_shown t) q → ⊥) place_is none,
                  refl,
                  sym (run_stays s i d (screened old) stands),
                ),
              ),
            ),
          ),
        )

    pub found_task : (q : ℕ) (new : WindowsSeen) → IsFirstFrom bytes (bytes_shown t) place.1 q
        → HasMovedTo d old (q + length bytes) new
        → IsTaskStep seen (search bytes) (Ok (Found (q + length bytes))) (record { texts = d; screen = screened new })
    found_task q new first moved =
        seen_so (search bytes) (Ok (Found (q + length bytes))) (record { texts = d; screen = screened new }) (
          tt,
          λ s i stands. inl (
            d,
            screened old,
            stands,
            inr (
              caret.0,
              (caret.1.0, t),
              caret.2,
              shown_is,
              (
                refl,
                inl (
                  q,
                  subst (λ (from : ℕ). IsFirstFrom bytes (bytes_shown t) from q) place_is first,
                  refl,
                  sym (run_arranged s i d (screened old) stands (screened new))
                      ∙ ap (with_screen_at s i) (moved caret.0 (caret.1.0, t) caret.2 shown_is),
                ),
              ),
            ),
          ),
        )

-- a room in which nothing waits
none_there : (op : Operation) → Contains [] op → ⊥
none_there op held = absurd (omega arith)

none_identified : AreIdentified []
none_identified = record {
  counted = λ op held. absurd (none_there op held);
  unique = λ a b held other site seq. absurd (none_there a held);
}

-- leaves what a text shows as it is
room_grows : (t : TextState) → IsText t → Grows t (with_room t [])
room_grows t is = record {
  was = is;
  is = text_with_room t [] is (record { of_text = All-nil _; identified = none_identified; few = omega arith });
  more = [];
  taken = sym (append-nil t.operations);
  asked = refl;
}

pub forgets_grow : (d d' : SiteTexts) (text count : ℕ) → HasText d text
    → InText (λ t new. (count ≡ length t.waiting_room) × (new ≡ with_room t [])) d text d' → InText Grows d text d'
forgets_grow d d' text count (t, at, is) (u, new, at', (counted, emptied), changed) =
    let same : t ≡ u = one_element (slice_get d.texts (text - 1)) t u at at' in (
      u,
      new,
      at',
      subst (Grows u) (sym emptied) (room_grows u (subst IsText same is)),
      changed,
    )

-- so what waited for a text is forgotten
pub forget_task : (seen : DeskSeen) (d d' new : SiteTexts) (w w' : Screened) (text count : ℕ)
    → record { texts = d; screen = w } ≡ seen
    → InText (λ t u. (count ≡ length t.waiting_room) × (u ≡ with_room t [])) d text d' → Asked d' text new → w' ≡ w
    → IsTaskStep seen (forget text) (Ok (Forgot count)) (record { texts = new; screen = w' })
forget_task seen d d' new w w' text count is (t, u, at, (counted, emptied), changed) asked same =
    subst (λ (x : DeskSeen). IsTaskStep x (forget text) (Ok (Forgot count)) (record { texts = new; screen = w' })) is (
      tt,
      λ s i stands. inl (
        d,
        w,
        stands,
        (
          refl,
          at_text_silent s i d w stands
              (λ t u. (forgot count ≡ forgot (length t.waiting_room)) × (u ≡ with_room t [])) text d' new w'
              (t, u, at, (ap forgot counted, emptied), changed) asked same,
        ),
      ),
    )
