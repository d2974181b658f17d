-- What is put in at the caret: one step of the run, after which the caret stands after the last character that came in.
use Rattle.std.proofs.Common.{◌≡◌, ◌⊎◌, ℕ, ◌+◌, ◌-◌, ◌≤◌, ◌<◌, true, false, Bool, List, [], ◌++◌, length, take, drop, Option, Some}
use Rattle.std.proofs.Common.{None, Result, Ok, Err, refl, sym, ap, subst, ◌∙◌, inl, inr, arith, length-append}
use Rattle.std.specs.Prelude.{◌==◌, if◌then◌else◌, option_map, slice_get, slice_set}
use Rattle.std.proofs.lemmas.Bool.Decides.{Decides-eqb}
use Rattle.std.proofs.lemmas.List.{set-set, take-append-drop}
use Rattle.looks.specs.declared.refusal.Refusal.TheVariants.{NoCaret}
use Rattle.char_files.specs.Stretch.{Item}
use Rattle.char_files.specs.declared.character.Char.{Char}
use Rattle.char_files.specs.declared.name.Anchor.{Anchor}
use Rattle.text_frames.proofs.Places.{place_within}
use Rattle.texts.specs.Edit.{anchor_before, is_in_text}
use Rattle.texts.specs.Order.{with_inserted}
use Rattle.texts.specs.Outcome.{Shows}
use Rattle.texts.specs.Text.{IsAnchor, IsText}
use Rattle.texts.specs.TextState.{TextState, all_told, shown_of}
use Rattle.texts.specs.declared.edit_refusal.EditRefusal.{EditRefusal}
use Rattle.texts.specs.declared.edit_refusal.EditRefusal.TheVariants.{Whole, Partial}
use Rattle.machine.specs.SiteTexts.{SiteTexts, InText, IsTextOf}
use Rattle.machine.specs.Events.{Reply, ask, edit_reply, messages_of, refuses, untouched}
use Rattle.machine.specs.Machine.{Replies}
use Rattle.machine.specs.OnTexts.{EditsSite, EditsText, EditsTextShort}
use Rattle.machine.specs.State.{IsTextAt, Refuses, State, with_screen_at}
use Rattle.machine.specs.Tasks.{AtCaret, DoesTask, EditsAt, EditsShortAt, ShortTask, caret_after}
use Rattle.machine.specs.Windows.{Caret, Screened, Window, place_in, shown_by, window_of}
use Rattle.machine_laws.proofs.Arranging.{shows_so}
use Rattle.machine_laws.proofs.OneOfTexts.{one_element}
use Rattle.machine_laws.proofs.OneReply.{shown_parts}
use Rattle.machine_laws.proofs.Rooms.{by_test}
use Rattle.machine_laws.proofs.Telling.{put_there}
use Rattle.desk_windows.proofs.Scrolling.{shown_is}
use Rattle.desk_windows.specs.Windows.{AreOf, HasMovedTo, IsCaretPlace, WindowsSeen, screened, windows_of}
use Rattle.desk_windows.specs.Windows.{seen_window as seen_as}
use Rattle.commands.proofs.Lifting.{HasText}
use Rattle.commands.proofs.Steps.{Asked, at_text, run_stays}
use Rattle.commands.specs.Inserting.{edit_inserting, task_of_insertion}
use Rattle.commands.specs.Steps.{DeskSeen, IsEditStep, StandsIn, with_desk}

-- what puts characters in shows no less

put_not_shorter : (xs : List Char) (n : ℕ) (run : List Char) → length xs ≤ length (with_inserted xs n run)
put_not_shorter xs n run =
    let all = length-append (take n xs ++ run) (drop n xs) in
    let before = length-append (take n xs) run in
    let parts = length-append (take n xs) (drop n xs) in
    let whole : length (take n xs ++ drop n xs) ≡ length xs = ap (length {A = Char}) (take-append-drop n xs) in
    omega arith

shows_no_less : (t u : TextState) (pos : ℕ) (what : Option (List Item)) (result : Result ℕ EditRefusal)
    → Shows t (edit_inserting what pos) result u → length (shown_of t) ≤ length (shown_of u)
shows_no_less t u pos (Some items) (Ok n) shows =
    subst (λ (l : List Char). length (shown_of t) ≤ length l) (sym shows) (put_not_shorter (shown_of t) pos _)
shows_no_less t u pos (Some items) (Err (Whole why)) shows =
    let same : length (shown_of u) ≡ length (shown_of t) = ap (length {A = Char}) shows in omega arith
shows_no_less t u pos (Some items) (Err (Partial n why)) shows =
    subst (λ (l : List Char). length (shown_of t) ≤ length l) (sym shows) (put_not_shorter (shown_of t) pos _)
shows_no_less t u pos None (Ok n) shows =
    subst (λ (l : List Char). length (shown_of t) ≤ length l) (sym shows) (put_not_shorter (shown_of t) pos _)
shows_no_less t u pos None (Err (Whole why)) shows =
    let same : length (shown_of u) ≡ length (shown_of t) = ap (length {A = Char}) shows in omega arith
shows_no_less t u pos None (Err (Partial n why)) shows =
    subst (λ (l : List Char). length (shown_of t) ≤ length l) (sym shows) (put_not_shorter (shown_of t) pos _)

stays_as_long : (t u : TextState) → u ≡ t → length (shown_of t) ≤ length (shown_of u)
stays_as_long t u same =
    let long : length (shown_of u) ≡ length (shown_of t) = ap (λ (x : TextState). length (shown_of x)) same in omega arith

inserts_no_less : (t u : TextState) (pos : ℕ) (what : Option (List Item)) (r : Reply)
    → EditsText (edit_inserting what pos) r t u ⊎ EditsTextShort (edit_inserting what pos) r t u
    → length (shown_of t) ≤ length (shown_of u)
inserts_no_less t u pos what r (inl does) =
    elim (by_test (is_in_text t (edit_inserting what pos)) _ _ does) [
      | inl done ↦ let (result, messages, edits, shows, replied) = done.1 in shows_no_less t u pos what result shows
      | inr left ↦ stays_as_long t u left.1.1
    ]
inserts_no_less t u pos what r (inr (within, (result, messages, edits, shows, replied))) =
    shows_no_less t u pos what result shows

equal_is : (a b : ℕ) → a ≡ b → (a == b) ≡ true
equal_is a b same = (Decides-eqb a b).1 same

unequal_is : (a b : ℕ) → (a ≡ b → ⊥) → (a == b) ≡ false
unequal_is a b other = by (a == b) refl
  where
    by : (r : Bool) → (a == b) ≡ r → (a == b) ≡ false
    by true is = absurd (other ((Decides-eqb a b).0 is))
    by false is = is

-- the caret after an edit: it stays where nothing came in, else it stands after what did
caret_stays : (t u : TextState) (was : ℕ) (old : Anchor) → length (shown_of u) ≡ length (shown_of t)
    → caret_after t u was old ≡ old
caret_stays t u was old same =
    ap (λ (b : Bool). if b then old else anchor_before (shown_of u) (was + (length (shown_of u) - length (shown_of t))))
    (equal_is (length (shown_of u)) (length (shown_of t)) same)

caret_moves : (t u : TextState) (was : ℕ) (old : Anchor) → length (shown_of t) < length (shown_of u)
    → caret_after t u was old ≡ anchor_before (shown_of u) (was + (length (shown_of u) - length (shown_of t)))
caret_moves t u was old more =
    ap (λ (b : Bool). if b then old else anchor_before (shown_of u) (was + (length (shown_of u) - length (shown_of t))))
    (unequal_is (length (shown_of u)) (length (shown_of t)) (λ same. omega arith))

-- what is put in at the caret is the task's
module _ (s : State) (i : ℕ) (d : SiteTexts) (w : Screened) (c : Caret) (shown : Window × TextState) where
  put_does : (what : Option (List Item)) (r : Reply) (new : State) → w.caret ≡ Some c
      → window_of d w c.viewer ≡ Some shown → AtCaret EditsAt s i w c shown.0 shown.1 (edit_inserting what) r new
      → DoesTask s i d w (task_of_insertion what) untouched r new
  put_does (Some items) r new caret at does = inr (c, shown, caret, at, (refl, does))
  put_does None r new caret at does = inr (c, shown, caret, at, (refl, does))

  put_short : (what : Option (List Item)) (r : Reply) (new : State) → w.caret ≡ Some c
      → window_of d w c.viewer ≡ Some shown → AtCaret EditsShortAt s i w c shown.0 shown.1 (edit_inserting what) r new
      → ShortTask s i d w (task_of_insertion what) untouched r new
  put_short (Some items) r new caret at short = (refl, (c, shown, caret, at, short))
  put_short None r new caret at short = (refl, (c, shown, caret, at, short))

-- without a caret it is refused
put_without_caret : (s : State) (i : ℕ) (d : SiteTexts) (w : Screened) (what : Option (List Item)) (r : Reply)
    (new : State) → w.caret ≡ None → Refuses s NoCaret r new → DoesTask s i d w (task_of_insertion what) untouched r new
put_without_caret s i d w (Some items) r new none refused = inl (none, refl, refused)
put_without_caret s i d w None r new none refused = inl (none, refl, refused)

-- The caret stands in a viewer of a text of the desk, at a position of that, where characters were put in; and the windows
-- were told.
pub record IsInsertedIn (d d' new : SiteTexts) (old mid : WindowsSeen) (place : ℕ × ℕ) (what : Option (List Item))
    (result : Result ℕ EditRefusal) (before after : List (List ℕ)) : Type 0 where
  pub c : Caret
  pub window : Window
  pub t : TextState
  pub caret : old.caret ≡ Some c
  pub shown : window_of d (screened old) c.viewer ≡ Some (window, t)
  pub is : IsText t
  pub anchor : IsAnchor t.operations c.anchor
  pub on : place.0 ≡ window.text
  pub at : place.1 ≡ place_in t c.anchor
  pub edited : EditsSite d window.text (edit_inserting what (place_in t c.anchor)) result d' before after
  pub told : Asked d' window.text new
  pub same : screened mid ≡ screened old

-- a caret's character is one of the text that its viewer shows
pub anchored : (d : SiteTexts) (w : WindowsSeen) (c : Caret) (shown : Window × TextState) → AreOf d w → w.caret ≡ Some c
    → window_of d (screened w) c.viewer ≡ Some shown → IsAnchor shown.1.operations c.anchor
anchored d w c shown are is_caret shows =
    let (x, t, there, at, anchor) = are.caret c is_caret in
    let (by, its) = shown_parts d (screened w) c.viewer shown shows in
    let window : shown.0 ≡ seen_as x =
    one_element (shown_by c.viewer (windows_of w.viewers.contents)) shown.0 (seen_as x) by
    (shown_is w.viewers.contents c.viewer ∙ ap (option_map seen_as) there) in
    let text : shown.0.text ≡ x.text = ap (λ (y : Window). y.text) window in
    let one : t ≡ shown.1 = one_element (slice_get d.texts (x.text - 1)) t shown.1 at
    (subst (λ (n : ℕ). IsTextOf d n shown.1) text its) in
    subst (λ (y : TextState). IsAnchor y.operations c.anchor) one anchor

-- what is put in at the caret's place is put in so
pub put_at : (d d' new : SiteTexts) (old mid : WindowsSeen) (place : ℕ × ℕ) (what : Option (List Item)) (result : Result ℕ EditRefusal)
    (before after : List (List ℕ)) → AreOf d old → IsCaretPlace d old (Some place) → HasText d place.0
    → EditsSite d place.0 (edit_inserting what place.1) result d' before after → Asked d' place.0 new
    → screened mid ≡ screened old → IsInsertedIn d d' new old mid place what result before after
put_at d d' new old mid place what result before after are (c, shown, caret, shows, text, pos) (t, at, is) edited told same =
    let one : t ≡ shown.1 = one_element (slice_get d.texts (shown.0.text - 1)) t shown.1
    (subst (λ (n : ℕ). IsTextOf d n t) text at) (shown_parts d (screened old) c.viewer shown shows).1 in
    record {
      c = c;
      window = shown.0;
      t = shown.1;
      caret = caret;
      shown = shows;
      is = subst IsText one is;
      anchor = anchored d old c shown are caret shows;
      on = text;
      at = pos;
      edited = subst (λ (n : ℕ). EditsSite d n (edit_inserting what (place_in shown.1 c.anchor)) result d' before after) text
          (subst (λ (n : ℕ). EditsSite d place.0 (edit_inserting what n) result d' before after) pos edited);
      told = subst (λ (n : ℕ). Asked d' n new) text told;
      same = same;
    }

module _ {d d' new : SiteTexts} {old mid : WindowsSeen} {place : ℕ × ℕ} {what : Option (List Item)}
    {result : Result ℕ EditRefusal} {before after : List (List ℕ)}
    (k : IsInsertedIn d d' new old mid place what result before after) where
  open k use {c, window, t, caret, shown, edited, told, same}

  parts : (shown_by c.viewer (screened old).windows ≡ Some window) × IsTextOf d window.text t
  parts = shown_parts d (screened old) c.viewer (window, t) shown

  abbrev messages : List (List ℕ)
  messages = edited.3.0

  put_so : InText (λ x u. EditsText (edit_inserting what (place_in t c.anchor)) (edit_reply result messages) x u
      ⊎ EditsTextShort (edit_inserting what (place_in t c.anchor)) (edit_reply result messages) x u) d window.text d'
  put_so = (edited.0, edited.1, edited.2, edited.3.3, edited.4)

  pub text_then : TextState
  text_then = put_so.1

  there_then : IsTextOf d' window.text text_then
  unfolding text_then
  there_then =
      ap (λ (x : SiteTexts). slice_get x.texts (window.text - 1)) put_so.4
      ∙ put_there d.texts (window.text - 1) put_so.0 put_so.1 put_so.2

  in_new : IsTextOf new window.text (all_told text_then)
  in_new =
      let one : told.0 ≡ text_then = one_element (slice_get d'.texts (window.text - 1)) told.0 text_then told.2 there_then in
      ap (λ (x : SiteTexts). slice_get x.texts (window.text - 1)) told.4
      ∙ put_there d'.texts (window.text - 1) told.0 told.1 told.2 ∙ ap Some (told.3 ∙ ap all_told one)

  no_less : length (shown_of t) ≤ length (shown_of text_then)
  unfolding text_then
  no_less =
      let one : put_so.0 ≡ t = one_element (slice_get d.texts (window.text - 1)) put_so.0 t put_so.2 parts.1 in
      subst (λ (x : TextState). length (shown_of x) ≤ length (shown_of put_so.1)) one
      (inserts_no_less put_so.0 put_so.1 (place_in t c.anchor) what (edit_reply result messages) put_so.3)

  caret_there : mid.caret ≡ Some c
  caret_there = ap (λ (w : Screened). w.caret) same ∙ caret

  -- the caret's viewer shows that text then, and no other
  shows_then : window_of new (screened mid) c.viewer ≡ Some (window, all_told text_then)
  shows_then =
      shows_so new (screened mid) c.viewer window (all_told text_then)
      (ap (λ (w : Screened). shown_by c.viewer w.windows) same ∙ parts.0) in_new

  one_shown : (other : Caret) (seen : Window × TextState) → mid.caret ≡ Some other
      → window_of new (screened mid) other.viewer ≡ Some seen → seen ≡ (window, all_told text_then)
  one_shown other seen is_caret shows =
      let one : other ≡ c = one_element mid.caret other c is_caret caret_there in
      one_element (window_of new (screened mid) c.viewer) seen (window, all_told text_then)
      (ap (λ (x : Caret). window_of new (screened mid) x.viewer) (sym one) ∙ shows) shows_then

  -- there is room for the caret after what came in
  place_then : place_in t c.anchor + (length (shown_of text_then) - length (shown_of t)) ≤ length (shown_of text_then)
  place_then =
      let within : place_in t c.anchor ≤ length (shown_of t) = place_within t k.is c.anchor k.anchor in
      let longer : length (shown_of t) ≤ length (shown_of text_then) = no_less in
      omega arith

  -- the screen then, with the caret where it is to stand
  abbrev CaretIsSet : Screened → Type 0
  CaretIsSet w = w ≡ record (screened old)
      { caret = Some (record c { anchor = caret_after t text_then (place_in t c.anchor) c.anchor }) }

  set_by_none : length (shown_of text_then) ≤ length (shown_of t) → CaretIsSet (screened mid)
  set_by_none none =
      let longer : length (shown_of t) ≤ length (shown_of text_then) = no_less in
      let as_long : length (shown_of text_then) ≡ length (shown_of t) = omega arith in
      same ∙ (λ k. record (screened old) { caret = caret k })
      ∙ (λ k. record (screened old) {
        caret = Some (record c { anchor = sym (caret_stays t text_then (place_in t c.anchor) c.anchor as_long) k });
      })

  set_by_move : (end : WindowsSeen) → length (shown_of t) < length (shown_of text_then)
      → screened end ≡ record (screened mid) {
        caret = Some (record c {
          anchor = anchor_before (shown_of text_then)
              (place_in t c.anchor + (length (shown_of text_then) - length (shown_of t)));
        });
      }
      → CaretIsSet (screened end)
  set_by_move end more moved =
      moved ∙ (λ k. record (same k) {
        caret = Some (record c { anchor = sym (caret_moves t text_then (place_in t c.anchor) c.anchor more) k });
      })

  -- the run with the texts as they are then
  abbrev mid_of : State → ℕ → State
  mid_of s i = with_desk s i (record { texts = new; screen = screened old }) after

  -- so what is put in is one step of every run in which the desk stands
  put_step : (seen : DeskSeen) (w : Screened) → record { texts = d; screen = screened old } ≡ seen → CaretIsSet w
      → IsEditStep seen (λ i. ask i (task_of_insertion what)) result (record { texts = new; screen = w }) before after
  put_step seen w is set =
      subst (λ (x : DeskSeen). IsEditStep x (λ i. ask i (task_of_insertion what)) result (record { texts = new; screen = w }) before after) is
      (messages, edited.3.1, steps)
    where
      there_in_mid : (s : State) (i : ℕ) → StandsIn s i (record { texts = d; screen = screened old })
          → IsTextAt (mid_of s i) i window.text (all_told text_then)
      there_in_mid s i stands = (new, put_there s.desks i d new stands.texts, in_new)

      set_in_mid : (s : State) (i : ℕ) → with_desk s i (record { texts = new; screen = w }) after
          ≡ with_screen_at (mid_of s i) i (record (screened old)
          { caret = Some (record c { anchor = caret_after t (all_told text_then) (place_in t c.anchor) c.anchor }) })
      set_in_mid s i = λ k. record s {
        desks = slice_set s.desks i new;
        screens = (ap (slice_set s.screens i) set ∙ sym (set-set s.screens i (screened old) (record (screened old)
            { caret = Some (record c { anchor = caret_after t (all_told text_then) (place_in t c.anchor) c.anchor }) }))) k;
        sent = after;
      }

      steps : (s : State) (i : ℕ) → StandsIn s i (record { texts = d; screen = screened old }) → s.sent ≡ before
          → Replies s (ask i (task_of_insertion what)) untouched (edit_reply result messages)
          (with_desk s i (record { texts = new; screen = w }) after)
      steps s i stands sent =
          let more : after ≡ s.sent ++ messages_of (edit_reply result messages) =
          edited.3.2 ∙ ap (λ (all : List (List ℕ)). all ++ messages_of (edit_reply result messages)) (sym sent) in
          let run = with_desk s i (record { texts = new; screen = w }) after in
          let e = edit_inserting what (place_in t c.anchor) in
          elim (edited.3.3) [
            | inl does ↦ inl (
              d,
              screened old,
              stands,
              put_does s i d (screened old) c (window, t) what (edit_reply result messages) run caret shown (
                mid_of s i,
                all_told text_then,
                at_text s i d (screened old) stands (EditsText e (edit_reply result messages)) window.text d' new (screened old)
                    (messages_of (edit_reply result messages)) after (edited.0, edited.1, edited.2, does, edited.4) told refl more,
                there_in_mid s i stands,
                set_in_mid s i,
              ),
            )
            | inr short ↦ inr (
              d,
              screened old,
              stands,
              put_short s i d (screened old) c (window, t) what (edit_reply result messages) run caret shown (
                mid_of s i,
                all_told text_then,
                at_text s i d (screened old) stands (EditsTextShort e (edit_reply result messages)) window.text d' new
                    (screened old) (messages_of (edit_reply result messages)) after
                    (edited.0, edited.1, edited.2, short, edited.4) told refl more,
                there_in_mid s i stands,
                set_in_mid s i,
              ),
            )
          ]

  -- its lengths before it and after it, as the desk tells them
  pub was_long : (x : TextState) (n : ℕ) → IsTextOf d place.0 x → n ≡ length (shown_of x) → n ≡ length (shown_of t)
  was_long x n at is =
      is ∙ ap (λ (y : TextState). length (shown_of y)) (one_element (slice_get d.texts (window.text - 1)) x t
      (subst (λ (number : ℕ). IsTextOf d number x) k.on at) parts.1)

  pub is_long : (x : TextState) (n : ℕ) → IsTextOf new place.0 x → n ≡ length (shown_of x)
      → n ≡ length (shown_of text_then)
  is_long x n at is =
      is ∙ ap (λ (y : TextState). length (shown_of y)) (one_element (slice_get new.texts (window.text - 1)) x (all_told text_then)
      (subst (λ (number : ℕ). IsTextOf new number x) k.on at) in_new)

  module _ (n m : ℕ) (was : n ≡ length (shown_of t)) (now : m ≡ length (shown_of text_then)) where
    goes : place.1 + (m - n) ≡ place_in t c.anchor + (length (shown_of text_then) - length (shown_of t))
    goes = λ j. k.at j + (now j - was j)

    -- there is room for the caret after what came in
    pub room_then : place.1 + (m - n) ≤ m
    room_then =
        let room : place_in t c.anchor + (length (shown_of text_then) - length (shown_of t)) ≤ length (shown_of text_then) =
        place_then in
        subst (λ (x : ℕ). x ≤ m) (sym goes) (omega arith)

    pub in_text : (other : Caret) (seen : Window × TextState) → mid.caret ≡ Some other
        → window_of new (screened mid) other.viewer ≡ Some seen → place.1 + (m - n) ≤ length (shown_of seen.1)
    in_text other seen is_caret shows =
        subst (λ (x : ℕ). place.1 + (m - n) ≤ x)
        (now ∙ sym (ap (λ (x : Window × TextState). length (shown_of x.1)) (one_shown other seen is_caret shows))) room_then

    -- the caret moves where the text has become longer
    pub moved_step : (seen : DeskSeen) (end : WindowsSeen) → record { texts = d; screen = screened old } ≡ seen → n < m
        → HasMovedTo new mid (place.1 + (m - n)) end
        → IsEditStep seen (λ i. ask i (task_of_insertion what)) result (record { texts = new; screen = screened end }) before after
    moved_step seen end is more moved =
        put_step seen (screened end) is (set_by_move end (omega arith)
        (moved c (window, all_told text_then) caret_there shows_then ∙ (λ j. record (screened mid) {
          caret = Some (record c { anchor = anchor_before (shown_of text_then) (goes j) });
        })))

    -- and else it stays
    pub stayed_step : (seen : DeskSeen) → record { texts = d; screen = screened old } ≡ seen → m ≤ n
        → IsEditStep seen (λ i. ask i (task_of_insertion what)) result (record { texts = new; screen = screened mid }) before after
    stayed_step seen is no_more = put_step seen (screened mid) is (set_by_none (omega arith))

-- without a caret nothing is put in
pub no_caret_step : (seen : DeskSeen) (d : SiteTexts) (w : Screened) → record { texts = d; screen = w } ≡ seen
    → w.caret ≡ None → (what : Option (List Item)) (sent : List (List ℕ))
    → IsEditStep seen (λ i. ask i (task_of_insertion what)) (Err (Whole NoCaret)) seen sent sent
no_caret_step seen d w is none what sent =
    subst (λ (x : DeskSeen). IsEditStep x (λ i. ask i (task_of_insertion what)) (Err (Whole NoCaret)) x sent sent) is (
      [],
      tt,
      λ s i stands same. inl (
        d,
        w,
        stands,
        put_without_caret s i d w what (refuses NoCaret) (with_desk s i (record { texts = d; screen = w }) sent) none (
          refl,
          (λ k. with_desk s i (record { texts = d; screen = w }) (sym same k)) ∙ sym (run_stays s i d w stands),
        ),
      ),
    )
