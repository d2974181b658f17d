-- Windows that are the desk's stay so, where each viewer goes on to show its text.
use Rattle.std.proofs.Common.{◌≡◌, ℕ, ◌-◌, List, [], ◌∷◌, ◌++◌, Bool, true, false, cond, eqb, eqb-true, eq-eqb, ne_eqb, refl, sym, ap, ◌∙◌, subst, Option, Some, None}
use Rattle.std.specs.Prelude.{◌==◌, not, option_map, slice_get, if◌then◌else◌}
use Rattle.std.specs.Option.{option_and_then}
use Rattle.std.proofs.lemmas.Option.{same_Some, slice_get_within}
use Rattle.rank_index.proofs.Homes.{get-set_other, get-set_same}
use Rattle.char_files.specs.declared.name.Anchor.{Anchor}
use Rattle.char_files.specs.declared.name.Anchor.TheVariants.{At}
use Rattle.list_changes.specs.declared.change.Change.{Change}
use Rattle.viewers.specs.declared.screen.Track.{Track}
use Rattle.viewers.specs.Viewers.{ViewersSeen, after_opening, content_of, contents_without, has_room, with_entry, with_top, with_viewer, without_viewer}
use Rattle.texts.specs.Text.{IsAnchor}
use Rattle.texts.specs.TextState.{TextState}
use Rattle.machine.specs.SiteTexts.{SiteTexts, InText, IsTextOf, with_text}
use Rattle.machine.specs.Windows.{Caret, Selected, Window, shown_by}
use Rattle.desk_windows.specs.Windows.{AreOf, AreSameWindows, FollowsChanges, ShowTexts, WindowSeen, WindowsSeen, seen_window, windows_of}
use Rattle.desk_windows.proofs.Entries.{apart_at}
use Rattle.desk_windows.proofs.Said.{closed_windows}
use Rattle.desk_windows.proofs.Scrolling.{shown_is}

-- what these viewers show is shown by those too: the same text, which has all characters that it had
abbrev pub GoesOn : (d d' : SiteTexts) → (old new : List (ℕ × WindowSeen)) → ℕ → Type 0
GoesOn d d' old new u = (w : WindowSeen) (t : TextState) → content_of old u ≡ Some w → IsTextOf d w.text t
    → (x : WindowSeen) × (t' : TextState) × (content_of new u ≡ Some x) × IsTextOf d' x.text t'
    × ((anchor : Anchor) → IsAnchor t.operations anchor → IsAnchor t'.operations anchor)

-- caret and selection are those that were, or gone, and what their viewers show goes on
pub still_of : (d d' : SiteTexts) (old new : WindowsSeen) → AreOf d old → ShowTexts d' new.viewers
    → ((c : Caret) → new.caret ≡ Some c
    → (old.caret ≡ Some c) × GoesOn d d' old.viewers.contents new.viewers.contents c.viewer)
    → ((s : Selected) → new.selected ≡ Some s
    → (old.selected ≡ Some s) × GoesOn d d' old.viewers.contents new.viewers.contents s.viewer)
    → AreOf d' new
still_of d d' old new are shown caret selected = record {
  shown = shown;
  caret = λ c is.
      let from = caret c is in let was = are.caret c from.0 in
      let goes = from.1 was.0 was.1 was.2 was.3 in
      (goes.0, goes.1, goes.2, goes.3, goes.4 c.anchor was.4);
  selected = λ s is.
      let from = selected s is in let was = are.selected s from.0 in
      let goes = from.1 was.0 was.1 was.2 was.3 in
      (goes.0, goes.1, goes.2, goes.3, (goes.4 (At s.first) was.4.0, goes.4 (At s.last) was.4.1));
}

-- all goes on where caret and selection stay
pub all_of : (d d' : SiteTexts) (old new : WindowsSeen) → AreOf d old → ShowTexts d' new.viewers → new.caret ≡ old.caret
    → new.selected ≡ old.selected → ((u : ℕ) → GoesOn d d' old.viewers.contents new.viewers.contents u) → AreOf d' new
all_of d d' old new are shown caret selected goes =
    still_of d d' old new are shown (λ c is. (sym caret ∙ is, goes c.viewer)) (λ s is. (sym selected ∙ is, goes s.viewer))

-- from one to the next
pub goes_through : (d d' : SiteTexts) (a b c : List (ℕ × WindowSeen)) (u : ℕ) → GoesOn d d a b u → GoesOn d d' b c u
    → GoesOn d d' a c u
goes_through d d' a b c u first next w t is at =
    let f = first w t is at in let n = next f.0 f.1 f.2 f.3 in
    (n.0, n.1, n.2, n.3, λ anchor char. n.4 anchor (f.4 anchor char))

module _ {C D : Type 0} (f : C → D) where
  pub mapped_some : (o : Option C) (y : D) → option_map f o ≡ Some y → (x : C) × (o ≡ Some x) × (f x ≡ y)
  mapped_some (Some x) y e = (x, refl, same_Some (f x) y e)
  mapped_some None y e = cc

-- the window with which a viewer shows the same
same_window : (a b : List (ℕ × WindowSeen)) (u : ℕ) (w : WindowSeen) → windows_of b ≡ windows_of a → content_of a u ≡ Some w
    → (x : WindowSeen) × (content_of b u ≡ Some x) × (seen_window x ≡ seen_window w)
same_window a b u w same is =
    mapped_some seen_window (content_of b u) (seen_window w)
    (sym (shown_is b u) ∙ (ap (shown_by u) same ∙ (shown_is a u ∙ ap (option_map seen_window) is)))

-- windows that are the same go on
pub goes_same : (d : SiteTexts) (a b : List (ℕ × WindowSeen)) → windows_of b ≡ windows_of a → (u : ℕ) → GoesOn d d a b u
goes_same d a b same u w t is at =
    let x = same_window a b u w same is in
    (x.0, t, x.1, subst (λ (n : ℕ). IsTextOf d n t) (sym (ap (λ (y : Window). y.text) x.2)) at, λ anchor char. char)

-- another viewer opens, or finds no room
content_before : (contents : List (ℕ × WindowSeen)) (n u : ℕ) (c w : WindowSeen) → content_of contents u ≡ Some w
    → content_of (contents ++ (n, c) ∷ []) u ≡ Some w
content_before [] n u c w is = cc
content_before (entry ∷ rest) n u c w is = by_test (content_before rest n u c w) (eqb entry.0 u) is
  where
    by_test : (content_of rest u ≡ Some w → content_of (rest ++ (n, c) ∷ []) u ≡ Some w) → (b : Bool)
        → cond b (Some entry.1) (content_of rest u) ≡ Some w
        → cond b (Some entry.1) (content_of (rest ++ (n, c) ∷ []) u) ≡ Some w
    by_test more true is = is
    by_test more false is = more is

pub goes_opened : (d : SiteTexts) (s : ViewersSeen WindowSeen) (track : Track) (row : Option ℕ) (c : WindowSeen) (u : ℕ)
    → GoesOn d d s.contents (after_opening s track row c).contents u
goes_opened d s track row c u w t is at = by_test (has_room s track row)
  where
    by_test : (b : Bool) → (x : WindowSeen) × (t' : TextState)
        × (content_of (cond b (with_viewer s track row c) s).contents u ≡ Some x) × IsTextOf d x.text t'
        × ((anchor : Anchor) → IsAnchor t.operations anchor → IsAnchor t'.operations anchor)
    by_test true = (w, t, content_before s.contents s.next u c w is, at, λ anchor char. char)
    by_test false = (w, t, is, at, λ anchor char. char)

-- another viewer closes
content_left : (contents : List (ℕ × WindowSeen)) (v u : ℕ) (w : WindowSeen) → (u ≡ v → ⊥) → content_of contents u ≡ Some w
    → content_of (contents_without contents v) u ≡ Some w
content_left [] v u w apart is = is
content_left (entry ∷ rest) v u w apart is =
    by_tests (content_left rest v u w apart) (eqb entry.0 v) (eqb entry.0 u) refl refl is
  where
    by_tests : (content_of rest u ≡ Some w → content_of (contents_without rest v) u ≡ Some w) → (a d : Bool)
        → eqb entry.0 v ≡ a → eqb entry.0 u ≡ d → cond d (Some entry.1) (content_of rest u) ≡ Some w
        → content_of (cond (not a) (entry ∷ contents_without rest v) (contents_without rest v)) u ≡ Some w
    by_tests more true true first third is =
        absurd (apart (sym (eqb-true entry.0 u third) ∙ eqb-true entry.0 v first))
    by_tests more true false first third is = more is
    by_tests more false true first third is = rw third is
    by_tests more false false first third is = rw third (more is)

pub goes_closed : (d : SiteTexts) (contents : List (ℕ × WindowSeen)) (v u : ℕ) → (u ≡ v → ⊥)
    → GoesOn d d contents (contents_without contents v) u
goes_closed d contents v u apart w t is at = (w, t, content_left contents v u w apart is, at, λ anchor char. char)

-- what isn't let go where it stands in a viewer stands in another
pub kept_caret : (caret : Option Caret) (v : ℕ) (c : Caret)
    → option_and_then (λ c. if c.viewer == v then None else Some c) caret ≡ Some c
    → (caret ≡ Some c) × (c.viewer ≡ v → ⊥)
kept_caret None v c is = cc
kept_caret (Some old) v c is = by_test (eqb old.viewer v) refl is
  where
    by_test : (b : Bool) → eqb old.viewer v ≡ b → ◌≡◌ {A = Option Caret} (cond b None (Some old)) (Some c)
        → (Some old ≡ Some c) × (c.viewer ≡ v → ⊥)
    by_test true at is = cc
    by_test false at is =
        (is, λ e. apart_at old.viewer v at (ap (λ (x : Caret). x.viewer) (same_Some old c is) ∙ e))

pub kept_selection : (selected : Option Selected) (v : ℕ) (s : Selected)
    → option_and_then (λ s. if s.viewer == v then None else Some s) selected ≡ Some s
    → (selected ≡ Some s) × (s.viewer ≡ v → ⊥)
kept_selection None v s is = cc
kept_selection (Some old) v s is = by_test (eqb old.viewer v) refl is
  where
    by_test : (b : Bool) → eqb old.viewer v ≡ b → ◌≡◌ {A = Option Selected} (cond b None (Some old)) (Some s)
        → (Some old ≡ Some s) × (s.viewer ≡ v → ⊥)
    by_test true at is = cc
    by_test false at is =
        (is, λ e. apart_at old.viewer v at (ap (λ (x : Selected). x.viewer) (same_Some old s is) ∙ e))

-- a viewer shows something else, and others what they showed
content_apart : (contents : List (ℕ × WindowSeen)) (v u : ℕ) (c : WindowSeen) → (u ≡ v → ⊥)
    → content_of (with_entry contents v c) u ≡ content_of contents u
content_apart [] v u c apart = refl
content_apart (entry ∷ rest) v u c apart =
    by_test (content_apart rest v u c apart) (eqb entry.0 v) refl
  where
    not_v : eqb v u ≡ false
    not_v = ne_eqb v u (λ e. apart (sym e))

    by_test : (content_of (with_entry rest v c) u ≡ content_of rest u) → (a : Bool) → eqb entry.0 v ≡ a
        → content_of (cond a (v, c) entry ∷ with_entry rest v c) u ≡ content_of (entry ∷ rest) u
    by_test more true first =
        let other : eqb entry.0 u ≡ false = ap (λ (n : ℕ). eqb n u) (eqb-true entry.0 v first) ∙ not_v in
        rw not_v (rw other more)
    by_test more false first = ap (λ (o : Option WindowSeen). cond (eqb entry.0 u) (Some entry.1) o) more

content_there : (contents : List (ℕ × WindowSeen)) (v : ℕ) (x c : WindowSeen) → content_of contents v ≡ Some x
    → content_of (with_entry contents v c) v ≡ Some c
content_there [] v x c is = cc
content_there (entry ∷ rest) v x c is = by_test (content_there rest v x c) (eqb entry.0 v) refl is
  where
    by_test : (content_of rest v ≡ Some x → content_of (with_entry rest v c) v ≡ Some c) → (a : Bool)
        → eqb entry.0 v ≡ a → cond a (Some entry.1) (content_of rest v) ≡ Some x
        → content_of (cond a (v, c) entry ∷ with_entry rest v c) v ≡ Some c
    by_test more true first is = rw (eq-eqb v v refl) refl
    by_test more false first is = rw first (more is)

pub goes_set : (d : SiteTexts) (contents : List (ℕ × WindowSeen)) (v : ℕ) (x c : WindowSeen) → content_of contents v ≡ Some x
    → c.text ≡ x.text → (u : ℕ) → GoesOn d d contents (with_entry contents v c) u
goes_set d contents v x c there text u w t is at = by_test (eqb u v) refl
  where
    by_test : (b : Bool) → eqb u v ≡ b → (y : WindowSeen) × (t' : TextState)
        × (content_of (with_entry contents v c) u ≡ Some y) × IsTextOf d y.text t'
        × ((anchor : Anchor) → IsAnchor t.operations anchor → IsAnchor t'.operations anchor)
    by_test true same =
        let here = eqb-true u v same in
        let shown : x ≡ w = same_Some x w (sym there ∙ (ap (content_of contents) (sym here) ∙ is)) in (
          c,
          t,
          ap (content_of (with_entry contents v c)) here ∙ content_there contents v x c there,
          subst (λ (n : ℕ). IsTextOf d n t) (sym (text ∙ ap (λ (z : WindowSeen). z.text) shown)) at,
          λ anchor char. char,
        )
    by_test false apart = (w, t, content_apart contents v u c (apart_at u v apart) ∙ is, at, λ anchor char. char)

-- a text changes, and its characters stay
pub goes_changed : (d d' : SiteTexts) (number : ℕ) (changes : List Change) (contents : List (ℕ × WindowSeen))
    → InText (FollowsChanges changes) d number d' → (u : ℕ) → GoesOn d d' contents contents u
goes_changed d d' number changes contents in_text u w t is at = by_index (eqb (w.text - 1) (number - 1)) refl
  where
    by_index : (e : Bool) → eqb (w.text - 1) (number - 1) ≡ e → (x : WindowSeen) × (t' : TextState)
        × (content_of contents u ≡ Some x) × IsTextOf d' x.text t'
        × ((anchor : Anchor) → IsAnchor t.operations anchor → IsAnchor t'.operations anchor)
    by_index true same =
        let index = eqb-true (w.text - 1) (number - 1) same in
        let was : t ≡ in_text.0 =
        same_Some t in_text.0 (sym at ∙ (ap (slice_get d.texts) index ∙ in_text.2)) in (
          w,
          in_text.1,
          is,
          ap (λ (e : SiteTexts). slice_get e.texts (w.text - 1)) in_text.4
              ∙ (ap (slice_get (with_text d number in_text.1).texts) index
              ∙ get-set_same d.texts (number - 1) in_text.1 (slice_get_within d.texts (number - 1) in_text.0 in_text.2)),
          λ anchor char. in_text.3.kept anchor (subst (λ (y : TextState). IsAnchor y.operations anchor) was char),
        )
    by_index false apart = (
      w,
      t,
      is,
      ap (λ (e : SiteTexts). slice_get e.texts (w.text - 1)) in_text.4
          ∙ (get-set_other d.texts (number - 1) (w.text - 1) in_text.1 (apart_at (w.text - 1) (number - 1) apart) ∙ at),
      λ anchor char. char,
    )

-- windows that are those of the desk stay so as a viewer closes, opens, or its top moves, and all get their rows
goes_landed : (d : SiteTexts) (old : List (ℕ × WindowSeen)) (x a b : ViewersSeen WindowSeen) (u : ℕ) → GoesOn d d old x.contents u
    → a ≡ x → AreSameWindows a b → GoesOn d d old b.contents u
goes_landed d old x a b u goes is same =
    goes_through d d old x.contents b.contents u goes
    (goes_same d x.contents b.contents (same.windows ∙ ap (λ (s : ViewersSeen WindowSeen). windows_of s.contents) is) u)

pub closed_are : (d : SiteTexts) (old : WindowsSeen) (v : ℕ) (a : ViewersSeen WindowSeen) (new : WindowsSeen) → AreOf d old
    → a ≡ without_viewer old.viewers v → AreSameWindows a new.viewers → ShowTexts d new.viewers
    → new.caret ≡ (closed_windows old v).caret → new.selected ≡ (closed_windows old v).selected → AreOf d new
closed_are d old v a new are is same shown caret selected =
    still_of d d old new are shown
    (λ c here.
    let kept = kept_caret old.caret v c (sym caret ∙ here) in
    (kept.0, goes c.viewer kept.1))
    (λ s here.
    let kept = kept_selection old.selected v s (sym selected ∙ here) in
    (kept.0, goes s.viewer kept.1))
  where
    goes : (u : ℕ) → (u ≡ v → ⊥) → GoesOn d d old.viewers.contents new.viewers.contents u
    goes u apart =
        goes_landed d old.viewers.contents (without_viewer old.viewers v) a new.viewers u
        (goes_closed d old.viewers.contents v u apart) is same

pub opened_are : (d : SiteTexts) (old : WindowsSeen) (track : Track) (row : Option ℕ) (c : WindowSeen) (a : ViewersSeen WindowSeen)
    (new : WindowsSeen) → AreOf d old → a ≡ after_opening old.viewers track row c → AreSameWindows a new.viewers
    → ShowTexts d new.viewers → new.caret ≡ old.caret → new.selected ≡ old.selected → AreOf d new
opened_are d old track row c a new are is same shown caret selected =
    all_of d d old new are shown caret selected
    (λ u. goes_landed d old.viewers.contents (after_opening old.viewers track row c) a new.viewers u
    (goes_opened d old.viewers track row c u) is same)

pub moved_are : (d : SiteTexts) (old : WindowsSeen) (v row : ℕ) (a : ViewersSeen WindowSeen) (new : WindowsSeen) → AreOf d old
    → a ≡ with_top old.viewers v row → AreSameWindows a new.viewers → ShowTexts d new.viewers
    → new.caret ≡ old.caret → new.selected ≡ old.selected → AreOf d new
moved_are d old v row a new are is same shown caret selected =
    all_of d d old new are shown caret selected
    (λ u. goes_landed d old.viewers.contents (with_top old.viewers v row) a new.viewers u
    (λ w t here at. (w, t, here, at, λ anchor char. char)) is same)

pub told_are : (d d' : SiteTexts) (number : ℕ) (changes : List Change) (old new : WindowsSeen) → AreOf d old
    → InText (FollowsChanges changes) d number d' → ShowTexts d' new.viewers
    → windows_of new.viewers.contents ≡ windows_of old.viewers.contents → new.caret ≡ old.caret
    → new.selected ≡ old.selected → AreOf d' new
told_are d d' number changes old new are in_text shown same caret selected =
    all_of d d' old new are shown caret selected
    (λ u. goes_through d d' old.viewers.contents new.viewers.contents new.viewers.contents u
    (goes_same d old.viewers.contents new.viewers.contents same u)
    (goes_changed d d' number changes new.viewers.contents in_text u))
