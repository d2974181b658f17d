-- What an arrangement of a screen leaves: all that is pointed at are characters of the texts that are shown.
use Rattle.std.proofs.Common.{◌≡◌, ℕ, ◌+◌, ◌-◌, true, false, Bool, List, [], ◌∷◌, ◌++◌, map, filter, Option, Some}
use Rattle.std.proofs.Common.{None, Ok, Err, refl, sym, ap, subst, ◌∙◌, inl, inr, length, true≢false}
use Rattle.std.specs.Prelude.{◌⊎◌, ◌==◌, if◌then◌else◌, not, max, min, nat_le, option_map, slice_get}
use Rattle.std.specs.Option.{option_and_then, option_map_or}
use Rattle.std.proofs.lemmas.Bool.{cond_both, eq-eqb, eqb-true, false_from_ne_true}
use Rattle.std.proofs.lemmas.List.Elements.{All-contains}
use Rattle.std.proofs.lemmas.Option.{get_or_from_slice_get, none-some, option_and_then_some, same_Some, slice_get-map}
use Rattle.std.proofs.lemmas.Option.{slice_get_within}
use Rattle.looks.specs.declared.refusal.Refusal.TheVariants.{OutOfRange}
use Rattle.char_files.specs.CharName.{CharName}
use Rattle.char_files.specs.declared.character.Char.{Char}
use Rattle.char_files.specs.declared.name.Anchor.TheVariants.{Root, At}
use Rattle.operations.specs.Operation.{Operation}
use Rattle.tree_order.specs.Tree.{IsChar}
use Rattle.viewers.specs.Screen.{area_of, seats_of}
use Rattle.viewers.specs.Tracks.{can_move, closed, seat_index as seat_of}
use Rattle.viewers.specs.declared.screen.Track.{Track}
use Rattle.viewers.specs.declared.screen.Area.{Area}
use Rattle.texts.specs.Edit.{anchor_before}
use Rattle.texts.specs.Text.{IsAnchor, IsText}
use Rattle.texts.specs.TextState.{TextState, shown_of}
use Rattle.texts.proofs.Chars.{shown_are_chars}
use Rattle.machine.specs.SiteTexts.{SiteTexts, IsTextOf}
use Rattle.machine.specs.Windows.{Arranged, Caret, Pointed, Screened, Selected, Window, arranged, closed_at, screen_has_room}
use Rattle.machine.specs.Windows.{is_open, is_row_below, line_anchor, moved_to, opened_at, pointed, pointed_in, pointed_to}
use Rattle.machine.specs.Windows.{scrolled_in, seats_of_viewer, selected_between, selected_by, selected_from, shown_by, text_of}
use Rattle.machine.specs.Windows.{track_of, viewer_with, window_of, with_next, with_track}
use Rattle.machine.specs.declared.asked.Arrangement.{Arrangement}
use Rattle.machine.specs.declared.asked.Arrangement.TheVariants.{Close, Move, Open, Point, Scroll, Select}
use Rattle.machine_laws.proofs.OneOfTexts.{one_element}
use Rattle.machine_laws.proofs.OneReply.{shown_parts}
use Rattle.machine_laws.specs.Laws.{ShowsTextOf, StandsByChars}

-- what a text shows at a place is a character
shown_char : (t : TextState) → IsText t → (k : ℕ) (c : Char) → slice_get (shown_of t) k ≡ Some c → IsChar t.operations c.name
shown_char t is k c at =
    let names : List CharName = map (λ (s : Char). s.name) (shown_of t) in
    let here : slice_get names k ≡ Some c.name =
    slice_get-map (λ (s : Char). s.name) (shown_of t) k ∙ ap (option_map (λ (s : Char). s.name)) at in
    All-contains (IsChar t.operations) names c.name (shown_are_chars t is)
    (k, slice_get_within names k c.name here, get_or_from_slice_get names k c.name c.name here)

-- what stands before a position is one, or the root
pub anchor_stands : (t : TextState) → IsText t → (at : ℕ) → IsAnchor t.operations (anchor_before (shown_of t) at)
anchor_stands t is at = by (at == 0) (slice_get (shown_of t) (at - 1)) refl
  where
    by : (b : Bool) (o : Option Char) → slice_get (shown_of t) (at - 1) ≡ o
        → IsAnchor t.operations (if b then Root else option_map_or (λ (c : Char). At c.name) o Root)
    by true o here = tt
    by false None here = tt
    by false (Some c) here = shown_char t is (at - 1) c here

-- a viewer that shows this window shows its text
pub shows_so : (d : SiteTexts) (w : Screened) (v : ℕ) (window : Window) (t : TextState) → shown_by v w.windows ≡ Some window
    → IsTextOf d window.text t → window_of d w v ≡ Some (window, t)
shows_so d w v window t at there =
    ap (option_and_then {U = Window × TextState}
    (λ (x : Window). option_map {U = Window × TextState} (λ t. (x, t)) (text_of d x.text))) at
    ∙ ap (option_map {U = Window × TextState} (λ t. (window, t))) there

-- a viewer shows its text on another screen where it has its window
shows_more : (d : SiteTexts) (w w' : Screened) (v : ℕ) (Has : List Operation → Type 0)
    → ((window : Window) → shown_by v w.windows ≡ Some window → shown_by v w'.windows ≡ Some window)
    → ShowsTextOf d w v Has → ShowsTextOf d w' v Has
shows_more d w w' v Has more (shown, shows, has) =
    let (at, there) = shown_parts d w v shown shows in
    (shown, shows_so d w' v shown.0 shown.1 (more shown.0 at) there, has)

option_both : {A B : Type 0} (P : B → Type 0) (f : A → B) (z : B) (o : Option A) → ((x : A) → o ≡ Some x → P (f x))
    → P z → P (option_map_or f o z)
option_both P f z None some none = none
option_both P f z (Some x) some none = some x refl

-- after windows more a viewer shows what it showed
shown_more : (v : ℕ) (ws more : List (ℕ × Window)) (window : Window) → shown_by v ws ≡ Some window
    → shown_by v (ws ++ more) ≡ Some window
shown_more v [] more window at = absurd (none-some window at)
shown_more v (e ∷ ws) more window at = by (e.0 == v) (shown_more v ws more window) at
  where
    by : (b : Bool) → (shown_by v ws ≡ Some window → shown_by v (ws ++ more) ≡ Some window)
        → (if b then Some e.1 else shown_by v ws) ≡ Some window
        → (if b then Some e.1 else shown_by v (ws ++ more)) ≡ Some window
    by true rest at = at
    by false rest at = rest at

-- after one more it shows that one, or what it showed
shown_or_last : (v n : ℕ) (last : Window) (ws : List (ℕ × Window)) (window : Window)
    → shown_by v (ws ++ (n, last) ∷ []) ≡ Some window → (shown_by v ws ≡ Some window) ⊎ (window ≡ last)
shown_or_last v n last [] window at = by (n == v) at
  where
    by : (b : Bool) → (if b then Some last else None) ≡ Some window
        → (shown_by v [] ≡ Some window) ⊎ (window ≡ last)
    by true is = inr (sym (same_Some last window is))
    by false is = absurd (none-some window is)
shown_or_last v n last (e ∷ ws) window at = by (e.0 == v) (shown_or_last v n last ws window) at
  where
    by : (b : Bool)
        → (shown_by v (ws ++ (n, last) ∷ []) ≡ Some window → (shown_by v ws ≡ Some window) ⊎ (window ≡ last))
        → (if b then Some e.1 else shown_by v (ws ++ (n, last) ∷ [])) ≡ Some window
        → ((if b then Some e.1 else shown_by v ws) ≡ Some window) ⊎ (window ≡ last)
    by true rest is = inl is
    by false rest is = rest is

-- the windows of all viewers but one
abbrev without_viewer : ℕ → List (ℕ × Window) → List (ℕ × Window)
without_viewer v ws = filter (λ (e : ℕ × Window). not (e.0 == v)) ws

-- another viewer shows what it showed
shown_others : (v u : ℕ) (ws : List (ℕ × Window)) → (u == v) ≡ false → shown_by u (without_viewer v ws) ≡ shown_by u ws
shown_others v u [] apart = refl
shown_others v u (e ∷ ws) apart = by (e.0 == v) refl (shown_others v u ws apart)
  where
    by : (b : Bool) → (e.0 == v) ≡ b → shown_by u (without_viewer v ws) ≡ shown_by u ws
        → shown_by u (if not b then e ∷ without_viewer v ws else without_viewer v ws)
        ≡ (if e.0 == u then Some e.1 else shown_by u ws)
    by true same rest =
        let not_u : (e.0 == u) ≡ false = false_from_ne_true (e.0 == u) (λ is.
        true≢false (sym (eq-eqb u v (sym (eqb-true e.0 u is) ∙ eqb-true e.0 v same)) ∙ apart)) in
        rest ∙ sym (ap (λ (b : Bool). if b then Some e.1 else shown_by u ws) not_u)
    by false differ rest = ap (λ (o : Option Window). if e.0 == u then Some e.1 else o) rest

-- and that one nothing
shown_none : (v : ℕ) (ws : List (ℕ × Window)) → shown_by v (without_viewer v ws) ≡ None
shown_none v [] = refl
shown_none v (e ∷ ws) = by (e.0 == v) refl (shown_none v ws)
  where
    by : (b : Bool) → (e.0 == v) ≡ b → shown_by v (without_viewer v ws) ≡ None
        → shown_by v (if not b then e ∷ without_viewer v ws else without_viewer v ws) ≡ None
    by true same rest = rest
    by false differ rest =
        ap (λ (b : Bool). if b then Some e.1 else shown_by v (without_viewer v ws)) differ ∙ rest

-- the windows with this one of a viewer
abbrev scroll_to : ℕ → Window → List (ℕ × Window) → List (ℕ × Window)
scroll_to v new ws = map (λ e. if e.0 == v then (v, new) else e) ws

-- the viewer shows that one
scrolled_own : (v : ℕ) (new old : Window) (ws : List (ℕ × Window)) → shown_by v ws ≡ Some old
    → shown_by v (scroll_to v new ws) ≡ Some new
scrolled_own v new old [] at = absurd (none-some old at)
scrolled_own v new old (e ∷ ws) at = by (e.0 == v) refl (scrolled_own v new old ws)
  where
    by : (b : Bool) → (e.0 == v) ≡ b → (shown_by v ws ≡ Some old → shown_by v (scroll_to v new ws) ≡ Some new)
        → shown_by v ((if b then (v, new) else e) ∷ scroll_to v new ws) ≡ Some new
    by true same rest = ap (λ (b : Bool). if b then Some new else shown_by v (scroll_to v new ws)) (eq-eqb v v refl)
    by false differ rest =
        ap (λ (b : Bool). if b then Some e.1 else shown_by v (scroll_to v new ws)) differ
        ∙ rest (sym (ap (λ (b : Bool). if b then Some e.1 else shown_by v ws) differ) ∙ at)

-- and another one what it showed
scrolled_other : (v u : ℕ) (new : Window) (ws : List (ℕ × Window)) → (v == u) ≡ false
    → shown_by u (scroll_to v new ws) ≡ shown_by u ws
scrolled_other v u new [] apart = refl
scrolled_other v u new (e ∷ ws) apart = by (e.0 == v) refl (scrolled_other v u new ws apart)
  where
    by : (b : Bool) → (e.0 == v) ≡ b → shown_by u (scroll_to v new ws) ≡ shown_by u ws
        → shown_by u ((if b then (v, new) else e) ∷ scroll_to v new ws) ≡ (if e.0 == u then Some e.1 else shown_by u ws)
    by true same rest =
        ap (λ (b : Bool). if b then Some new else shown_by u (scroll_to v new ws)) apart ∙ rest
        ∙ sym (ap (λ (b : Bool). if b then Some e.1 else shown_by u ws)
        (ap (λ (k : ℕ). k == u) (eqb-true e.0 v same) ∙ apart))
    by false differ rest = ap (λ (o : Option Window). if e.0 == u then Some e.1 else o) rest

-- a caret that is set by a character
pub caret_set : (d : SiteTexts) (w : Screened) (c : Caret) → ShowsTextOf d w c.viewer (λ ops. IsAnchor ops c.anchor)
    → StandsByChars d w → StandsByChars d (record w { caret = Some c })
caret_set d w c shows has = record {
  caret = λ x is.
      subst (λ (y : Caret). ShowsTextOf d w y.viewer (λ ops. IsAnchor ops y.anchor)) (same_Some c x is) shows;
  selection = has.selection;
  windows = has.windows;
}

-- and a selection
selection_set : (d : SiteTexts) (w : Screened) (x : Selected)
    → ShowsTextOf d w x.viewer (λ ops. IsChar ops x.first × IsChar ops x.last) → StandsByChars d w
    → StandsByChars d (record w { selected = Some x })
selection_set d w x shows has = record {
  caret = has.caret;
  selection = λ y is.
      subst (λ (z : Selected). ShowsTextOf d w z.viewer (λ ops. IsChar ops z.first × IsChar ops z.last)) (same_Some x y is)
      shows;
  windows = has.windows;
}

-- the screen that an arrangement comes to stands by characters
abbrev pub LeavesChars : SiteTexts → Arranged → Type 0
LeavesChars d (Ok out) = StandsByChars d out.0
LeavesChars d (Err why) = Unit {0}

module _ (d : SiteTexts) (w : Screened) (are : (n : ℕ) (t : TextState) → IsTextOf d n t → IsText t)
    (has : StandsByChars d w) where
  -- what a viewer shows is what its operations define
  shown_text : (v : ℕ) (shown : Window × TextState) → window_of d w v ≡ Some shown → IsText shown.1
  shown_text v shown shows = are shown.0.text shown.1 (shown_parts d w v shown shows).1

  opened_leaves : (track : Track) (text : ℕ) (row : Option ℕ) → LeavesChars d (opened_at w track text row)
  opened_leaves track text row = cond_both (is_row_below w row) _ _ (LeavesChars d) (λ e. tt)
      (λ e. cond_both (screen_has_room w (seats_of w.tracks track) row) _ _ (LeavesChars d) (λ e. with_one_more) (λ e. tt))
    where
      more : (v : ℕ) (Has : List Operation → Type 0) → ShowsTextOf d w v Has
          → ShowsTextOf d (with_next w track (seats_of w.tracks track) text row) v Has
      more v Has = shows_more d w (with_next w track (seats_of w.tracks track) text row) v Has
          (λ window at. shown_more v w.windows _ window at)

      with_one_more : StandsByChars d (with_next w track (seats_of w.tracks track) text row)
      with_one_more = record {
        caret = λ c is. more c.viewer (λ ops. IsAnchor ops c.anchor) (has.caret c is);
        selection = λ x is. more x.viewer (λ ops. IsChar ops x.first × IsChar ops x.last) (has.selection x is);
        windows = λ v shown shows.
            let (at, there) = shown_parts d (with_next w track (seats_of w.tracks track) text row) v shown shows in
            elim (shown_or_last v w.next (record { text = text; anchor = Root }) w.windows shown.0 at) [
              | inl before ↦ has.windows v shown (shows_so d w v shown.0 shown.1 before there)
              | inr last ↦ subst (λ (y : Window). IsAnchor shown.1.operations y.anchor) (sym last) tt
            ];
      }

  -- the screen without a viewer
  abbrev closed_screen : ℕ → Screened
  closed_screen v = record (with_track w (track_of w v) (closed (seats_of_viewer w v) (seat_of (seats_of_viewer w v) v))) {
    windows = without_viewer v w.windows;
    caret = option_and_then (λ (c : Caret). if c.viewer == v then None else Some c) w.caret;
    selected = option_and_then (λ (x : Selected). if x.viewer == v then None else Some x) w.selected;
  }

  -- what is kept where what stands in a viewer goes stands in another one
  kept : {X : Type 0} (v : ℕ) (x y : X) (b : Bool) → (if b then None else Some x) ≡ Some y → (b ≡ false) × (x ≡ y)
  kept v x y true is = absurd (none-some y is)
  kept v x y false is = (refl, same_Some x y is)

  closed_leaves : (v : ℕ) → LeavesChars d (closed_at w v)
  closed_leaves v = cond_both (is_open w v) _ _ (LeavesChars d) (λ e. without) (λ e. tt)
    where
      others : (u : ℕ) (Has : List Operation → Type 0) → (u == v) ≡ false → ShowsTextOf d w u Has
          → ShowsTextOf d (closed_screen v) u Has
      others u Has apart = shows_more d w (closed_screen v) u Has (λ window at. shown_others v u w.windows apart ∙ at)

      windows_left : (u : ℕ) (shown : Window × TextState) (b : Bool) → (u == v) ≡ b
          → shown_by u (without_viewer v w.windows) ≡ Some shown.0 → IsTextOf d shown.0.text shown.1
          → IsAnchor shown.1.operations shown.0.anchor
      windows_left u shown true same at there =
          let none : shown_by u (without_viewer v w.windows) ≡ None =
          subst (λ (k : ℕ). shown_by k (without_viewer v w.windows) ≡ None) (sym (eqb-true u v same)) (shown_none v w.windows) in
          absurd (none-some shown.0 (sym none ∙ at))
      windows_left u shown false apart at there =
          has.windows u shown (shows_so d w u shown.0 shown.1 (sym (shown_others v u w.windows apart) ∙ at) there)

      without : StandsByChars d (closed_screen v)
      without = record {
        caret = λ y is. option_and_then_some (λ (c : Caret). if c.viewer == v then None else Some c) w.caret y is
            (λ c at is'.
            let (apart, same) = kept v c y (c.viewer == v) is' in
            subst (λ (z : Caret). ShowsTextOf d (closed_screen v) z.viewer (λ ops. IsAnchor ops z.anchor)) same
            (others c.viewer (λ ops. IsAnchor ops c.anchor) apart (has.caret c at)));
        selection = λ y is. option_and_then_some (λ (x : Selected). if x.viewer == v then None else Some x) w.selected y is
            (λ x at is'.
            let (apart, same) = kept v x y (x.viewer == v) is' in
            subst (λ (z : Selected). ShowsTextOf d (closed_screen v) z.viewer (λ ops. IsChar ops z.first × IsChar ops z.last))
            same (others x.viewer (λ ops. IsChar ops x.first × IsChar ops x.last) apart (has.selection x at)));
        windows = λ u shown shows.
            let (at, there) = shown_parts d (closed_screen v) u shown shows in
            windows_left u shown (u == v) refl at there;
      }

  moved_leaves : (v row : ℕ) → LeavesChars d (moved_to w v row)
  moved_leaves v row = cond_both (is_open w v) _ _ (LeavesChars d)
      (λ e. cond_both (nat_le w.tracks.height row) _ _ (LeavesChars d) (λ e. tt)
      (λ e. cond_both (can_move (seats_of_viewer w v) (seat_of (seats_of_viewer w v) v) row) _ _ (LeavesChars d)
      (λ e. record { caret = has.caret; selection = has.selection; windows = has.windows }) (λ e. tt))) (λ e. tt)

  -- a viewer that is scrolled
  module _ (v line : ℕ) (shown : Window × TextState) (shows : window_of d w v ≡ Some shown) where
    abbrev scrolled_to : Window
    scrolled_to = record { text = shown.0.text; anchor = line_anchor shown.1 line }

    abbrev scrolled_screen : Screened
    scrolled_screen = record w { windows = scroll_to v scrolled_to w.windows }

    now_shows : (u : ℕ) → (v == u) ≡ true → shown_by u (scroll_to v scrolled_to w.windows) ≡ Some scrolled_to
    now_shows u same = subst (λ (k : ℕ). shown_by k (scroll_to v scrolled_to w.windows) ≡ Some scrolled_to) (eqb-true v u same)
        (scrolled_own v scrolled_to shown.0 w.windows (shown_parts d w v shown shows).0)

    -- each viewer shows the text that it showed
    still_shows : (u : ℕ) (Has : List Operation → Type 0) → ShowsTextOf d w u Has → ShowsTextOf d scrolled_screen u Has
    still_shows u Has (old, shows_old, is) = by (v == u) refl
      where
        by : (b : Bool) → (v == u) ≡ b → ShowsTextOf d scrolled_screen u Has
        by true same =
            let one : old ≡ shown = one_element (window_of d w u) old shown shows_old
            (subst (λ (k : ℕ). window_of d w k ≡ Some shown) (eqb-true v u same) shows) in
            let there : IsTextOf d shown.0.text old.1 =
            subst (λ (x : Window × TextState). IsTextOf d x.0.text old.1) one (shown_parts d w u old shows_old).1 in
            ((scrolled_to, old.1), shows_so d scrolled_screen u scrolled_to old.1 (now_shows u same) there, is)
        by false apart =
            let (at, there) = shown_parts d w u old shows_old in (
              old,
              shows_so d scrolled_screen u old.0 old.1 (scrolled_other v u scrolled_to w.windows apart ∙ at) there,
              is,
            )

    -- and begins after a character
    windows_stand : (u : ℕ) (x : Window × TextState) (b : Bool) → (v == u) ≡ b
        → shown_by u (scroll_to v scrolled_to w.windows) ≡ Some x.0 → IsTextOf d x.0.text x.1
        → IsAnchor x.1.operations x.0.anchor
    windows_stand u x true same at there =
        let window : scrolled_to ≡ x.0 =
        one_element (shown_by u (scroll_to v scrolled_to w.windows)) scrolled_to x.0 (now_shows u same) at in
        let text : shown.1 ≡ x.1 = one_element (text_of d shown.0.text) shown.1 x.1 (shown_parts d w v shown shows).1
        (subst (λ (y : Window). IsTextOf d y.text x.1) (sym window) there) in
        subst (λ (y : Window). IsAnchor x.1.operations y.anchor) window
        (subst (λ (t : TextState). IsAnchor t.operations (line_anchor shown.1 line)) text
        (anchor_stands shown.1 (shown_text v shown shows) _))
    windows_stand u x false apart at there =
        has.windows u x
        (shows_so d w u x.0 x.1 (sym (scrolled_other v u scrolled_to w.windows apart) ∙ at) there)

    scrolled_stands : StandsByChars d scrolled_screen
    scrolled_stands = record {
      caret = λ c is. still_shows c.viewer (λ ops. IsAnchor ops c.anchor) (has.caret c is);
      selection = λ x is. still_shows x.viewer (λ ops. IsChar ops x.first × IsChar ops x.last) (has.selection x is);
      windows = λ u x shows_x.
          let (at, there) = shown_parts d scrolled_screen u x shows_x in windows_stand u x (v == u) refl at there;
    }

  scrolled_leaves : (v line : ℕ) → LeavesChars d (scrolled_in d w v line)
  scrolled_leaves v line =
      option_both (LeavesChars d) _ _ (window_of d w v) (λ shown shows. scrolled_stands v line shown shows) tt

  -- what is pointed at is the text that its viewer shows
  pointed_shows : (col row : ℕ) (p : Pointed) → pointed d w col row ≡ Some p
      → window_of d w p.viewer ≡ Some (p.window, p.text)
  pointed_shows col row p is = option_and_then_some _ (viewer_with w col row) p is
      (λ v at_v is'. option_and_then_some _ (area_of w.tracks v) p is'
      (λ area at_area is''. below v area (row == area.top) (window_of d w v) refl is''))
    where
      below : (v : ℕ) (area : Area) (b : Bool) (o : Option (Window × TextState)) → window_of d w v ≡ o
          → (if b then None else option_map (pointed_in v area col row) o) ≡ Some p
          → window_of d w p.viewer ≡ Some (p.window, p.text)
      below v area true o shows is = absurd (none-some p is)
      below v area false None shows is = absurd (none-some p is)
      below v area false (Some shown) shows is =
          subst (λ (x : Pointed). window_of d w x.viewer ≡ Some (x.window, x.text))
          (same_Some (pointed_in v area col row shown) p is) shows

  point_leaves : (col row : ℕ) → LeavesChars d (pointed_to d w col row)
  point_leaves col row = option_both (LeavesChars d) _ _ (pointed d w col row)
      (λ p is.
      let shows = pointed_shows col row p is in
      caret_set d w (record { viewer = p.viewer; anchor = anchor_before (shown_of p.text) p.pos })
      ((p.window, p.text), shows, anchor_stands p.text (shown_text p.viewer (p.window, p.text) shows) p.pos) has) tt

  -- a selection is from a character that is shown to another
  selected_chars : (v : ℕ) (window : Window) (t : TextState) (beg end : ℕ) (x : Selected) → window_of d w v ≡ Some (window, t)
      → selected_from v t beg end ≡ Some x → ShowsTextOf d w x.viewer (λ ops. IsChar ops x.first × IsChar ops x.last)
  selected_chars v window t beg end x shows is = option_and_then_some _ (slice_get (shown_of t) beg) x is
      (λ first at_first is'. by first at_first (slice_get (shown_of t) (end - 1)) refl is')
    where
      by : (first : Char) → slice_get (shown_of t) beg ≡ Some first → (o : Option Char)
          → slice_get (shown_of t) (end - 1) ≡ o
          → option_map {U = Selected} (λ (last : Char). record { viewer = v; first = first.name; last = last.name }) o ≡ Some x
          → ShowsTextOf d w x.viewer (λ ops. IsChar ops x.first × IsChar ops x.last)
      by first at_first None at_last is = absurd (none-some x is)
      by first at_first (Some last) at_last is =
          let text = shown_text v (window, t) shows in
          subst (λ (y : Selected). ShowsTextOf d w y.viewer (λ ops. IsChar ops y.first × IsChar ops y.last))
          (same_Some (record { viewer = v; first = first.name; last = last.name }) x is)
          ((window, t), shows, (shown_char t text beg first at_first, shown_char t text (end - 1) last at_last))

  between_leaves : (p : Pointed) (to : ℕ) → window_of d w p.viewer ≡ Some (p.window, p.text)
      → LeavesChars d (selected_between w p to)
  between_leaves p to shows = option_both (LeavesChars d) (λ (x : Selected). Ok (record w { selected = Some x }, None))
      (Err OutOfRange) (selected_from p.viewer p.text (min p.pos to) (min (max p.pos to + 1) (length (shown_of p.text))))
      (λ x is. selection_set d w x (selected_chars p.viewer p.window p.text _ _ x shows is) has) tt

  selected_leaves : (col row col' row' : ℕ) → LeavesChars d (selected_by d w col row col' row')
  selected_leaves col row col' row' = option_both (LeavesChars d) _ _ (pointed d w col row)
      (λ p is. option_both (LeavesChars d) _ _ (pointed d w col' row')
      (λ q is'. cond_both (p.viewer == q.viewer) _ _ (LeavesChars d)
      (λ e. between_leaves p q.pos (pointed_shows col row p is)) (λ e. tt)) tt) tt

  -- so it is with each arrangement
  pub arranged_leaves : (a : Arrangement) → LeavesChars d (arranged d w a)
  arranged_leaves (Open track text row) = opened_leaves track text row
  arranged_leaves (Close v) = closed_leaves v
  arranged_leaves (Move v row) = moved_leaves v row
  arranged_leaves (Scroll v line) = scrolled_leaves v line
  arranged_leaves (Point cell) = point_leaves cell.col cell.row
  arranged_leaves (Select beg end) = selected_leaves beg.col beg.row end.col end.row
