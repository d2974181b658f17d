-- What cells point at, and windows whose caret or selection is set by characters of what a viewer shows.
use Rattle.std.proofs.Common.{◌≡◌, ℕ, suc, ◌+◌, ◌-◌, ◌<◌, ◌==◌, length, Bool, true, false, cond, eq-eqb, ne_eqb, nat_lt, refl, sym, ap, ◌∙◌, subst, inl, inr, arith, Option, Some, None, Ok, Err, slice_get, if◌then◌else◌}
use Rattle.std.specs.Prelude.{max, min, option_map}
use Rattle.std.specs.Option.{option_and_then, option_map_or}
use Rattle.std.proofs.lemmas.Bool.{lt-ltb}
use Rattle.std.proofs.lemmas.Option.{same_Some}
use Rattle.looks.specs.declared.refusal.Refusal.TheVariants.{NoViewer, OutOfRange}
use Rattle.char_files.specs.declared.character.Char.{Char}
use Rattle.char_files.specs.declared.name.Anchor.{Anchor}
use Rattle.char_files.specs.declared.name.Anchor.TheVariants.{Root, At}
use Rattle.tree_order.specs.Tree.{IsChar}
use Rattle.viewers.specs.declared.screen.Area.{Area}
use Rattle.viewers.specs.Screen.{area_of, viewer_at}
use Rattle.viewers.specs.Viewers.{AreViewers, content_of}
use Rattle.texts.specs.Edit.{anchor_before}
use Rattle.texts.specs.Text.{IsAnchor, IsText}
use Rattle.texts.specs.TextState.{TextState, shown_of}
use Rattle.machine.specs.SiteTexts.{SiteTexts, IsTextOf}
use Rattle.command_words.specs.Commands.{menu_of}
use Rattle.machine.specs.Commands.{Clicked as ClickedSeen, clicked, clicked_in}
use Rattle.machine.specs.Windows.{Caret, Marked, Pointed, Selected, Window, bytes_shown, marked, marked_as, place_in}
use Rattle.machine.specs.Windows.{pointed, pointed_in, position_in, selected_between, selected_by, selected_from, stretch_in}
use Rattle.machine.specs.Windows.{window_of as shown_window}
use Rattle.text_frames.specs.Frames.{IsDrawn}
use Rattle.text_frames.specs.Marks.{range_in}
use Rattle.text_frames.proofs.Preceding.{before_is_anchor}
use Rattle.desk_windows.specs.Pointing.{IsCaretSpot, IsClicked, IsInWindow, IsMarked, IsTargetIn, IsPointed, IsSpot, ShowsThis, spot_at}
use Rattle.desk_windows.specs.declared.pointing.CellTarget.{CellTarget}
use Rattle.desk_windows.specs.declared.pointing.CellTarget.TheVariants.{Menu, Text}
use Rattle.desk_windows.specs.declared.pointing.Spot.{Spot}
use Rattle.desk_windows.specs.Windows.{AreOf, ShowTexts, ShowsSo, ShowsText, WindowSeen, WindowsSeen, screened, seen_window}
use Rattle.desk_windows.proofs.Cells.{HasCell, cell_of, position_within}
use Rattle.desk_windows.proofs.Scrolling.{shown_nothing, shown_text}

-- a viewer's window is as wide as its cells
pub cell_width : (d : SiteTexts) (w : WindowsSeen) (col row v : ℕ) (a : Area) (x : WindowSeen) → HasCell w.viewers.tracks v col row a
    → ShowsText d w.viewers.tracks v x → x.frame.width ≡ a.width
cell_width d w col row v a x cell shows = elim cell.track [
  | inl user ↦ shows.in_user user.0 ∙ sym user.1
  | inr system ↦ shows.in_system system.0 ∙ sym system.1
]

module _ (d : SiteTexts) (w : WindowsSeen) (col row v : ℕ) (a : Area) (viewers : AreViewers w.viewers) (lt : row < w.viewers.tracks.height)
    (at : viewer_at w.viewers.tracks col row ≡ Some v) (is : area_of w.viewers.tracks v ≡ Some a) where
  pub in_window : (x : WindowSeen) → ShowTexts d w.viewers → content_of w.viewers.contents v ≡ Some x → IsInWindow a x col row
  in_window x shows shown =
      let cell = cell_of w.viewers col row v a viewers lt at is in
      let wide = cell_width d w col row v a x cell (shows.texts v x shown) in
      let high = shows.high v x a shown is in
      let left = cell.left in let right = cell.right in let above = cell.above in let below = cell.below in
      record {
        left = left;
        above = above;
        in_columns = omega (arith, wide, left, right);
        in_rows = λ apart. (omega (arith, above, apart), omega (arith, above, below, high, apart));
      }

  cell_points : pointed d (screened w) col row
      ≡ (if row == a.top then None else option_map (pointed_in v a col row) (shown_window d (screened w) v))
  cell_points =
      let here = ap (λ (b : Bool). cond b (viewer_at w.viewers.tracks col row) None) (lt-ltb row w.viewers.tracks.height lt) ∙ at in
      ap (option_and_then (λ v. option_and_then (λ area.
      if row == area.top then None else option_map (pointed_in v area col row) (shown_window d (screened w) v))
      (area_of w.viewers.tracks v))) here
      ∙ ap (option_and_then (λ area.
      if row == area.top then None else option_map (pointed_in v area col row) (shown_window d (screened w) v))) is

  -- where the viewer shows nothing, the cell points at nothing
  pub points_nowhere : content_of w.viewers.contents v ≡ None → pointed d (screened w) col row ≡ None
  points_nowhere none =
      cell_points
      ∙ ap (λ (o : Option (Window × TextState)). if row == a.top then None else option_map (pointed_in v a col row) o)
      (shown_nothing d w v 0 none)
      ∙ by_test (row == a.top)
    where
      by_test : (b : Bool) → ◌≡◌ {A = Option Pointed} (cond b None None) None
      by_test true = refl
      by_test false = refl

  pub points_there : (x : WindowSeen) (pos : ℕ) → AreOf d w → content_of w.viewers.contents v ≡ Some x
      → (row ≡ a.top → ⊥)
      → ((t : TextState) → IsDrawn x.frame t → pos ≡ position_in t x.frame.anchor x.frame.width (col - a.col) (row - a.top - 1))
      → (p : Pointed) × (pointed d (screened w) col row ≡ Some p) × IsSpot d w p (record { viewer = v; text = x.text; pos = pos })
  points_there x pos are shown apart placed =
      let shows : ShowsText d w.viewers.tracks v x = are.shown.texts v x shown in
      let t = shows.text in
      let cell = cell_of w.viewers col row v a viewers lt at is in
      let wide = cell_width d w col row v a x cell shows in
      let p : Pointed = pointed_in v a col row (seen_window x, shows.text) in
      let place = placed shows.text shows.drawn
      ∙ ap (λ (n : ℕ). position_in shows.text x.frame.anchor n (col - a.col) (row - a.top - 1)) wide in (
        p,
        cell_points
            ∙ (ap (λ (b : Bool). cond b None (option_map (pointed_in v a col row) (shown_window d (screened w) v))) (ne_eqb row a.top apart)
            ∙ ap (option_map (pointed_in v a col row)) (shown_text d w v 0 x x shows.text shown shows.at)),
        record {
          viewer = refl;
          pos = place;
          shows = record { window = x; shown = shown; number_is = refl; text = shows.at; on_desk = shows.on_desk };
          in_text = position_within shows.text x.frame.anchor a.width (col - a.col) (row - a.top - 1);
        },
      )

  cell_clicks : clicked d (screened w) col row ≡ option_map (clicked_in v a col row) (shown_window d (screened w) v)
  cell_clicks =
      let here = ap (λ (b : Bool). cond b (viewer_at w.viewers.tracks col row) None) (lt-ltb row w.viewers.tracks.height lt) ∙ at in
      ap (option_and_then (λ v. option_and_then (λ area. option_map (clicked_in v area col row) (shown_window d (screened w) v))
      (area_of w.viewers.tracks v))) here
      ∙ ap (option_and_then (λ area. option_map (clicked_in v area col row) (shown_window d (screened w) v))) is

  -- and a click there meets nothing
  pub clicks_nothing : content_of w.viewers.contents v ≡ None → clicked d (screened w) col row ≡ None
  clicks_nothing none = cell_clicks ∙ ap (option_map (clicked_in v a col row)) (shown_nothing d w v 0 none)

  -- a cell of the viewer's window
  module _ (x : WindowSeen) (are : AreOf d w) (shown : content_of w.viewers.contents v ≡ Some x) where
    abbrev its_text : TextState
    its_text = (are.shown.texts v x shown).text

    abbrev seen_in : Bool → ClickedSeen
    seen_in menu = cond menu
        (record { viewer = v; text = x.text; bytes = menu_of v x.text; pos = col - a.col })
        (record {
          viewer = v;
          text = x.text;
          bytes = bytes_shown its_text;
          pos = position_in its_text x.frame.anchor a.width (col - a.col) (row - a.top - 1);
        })

    clicks_window : (menu : Bool) → (row == a.top) ≡ menu → clicked d (screened w) col row ≡ Some (seen_in menu)
    clicks_window menu is_menu =
        let shows : ShowsText d w.viewers.tracks v x = are.shown.texts v x shown in
        cell_clicks ∙ ap (option_map (clicked_in v a col row)) (shown_text d w v 0 x x shows.text shown shows.at)
        ∙ ap (λ (b : Bool). Some (seen_in b)) is_menu

    -- is what a click there meets
    pub clicks_there : (place : CellTarget) → IsTargetIn a x col row place
        → IsClicked d w col row (Some (record { viewer = v; text = x.text; place = place }))
    clicks_there (Menu pos) (first, is_pos) = (
      seen_in true,
      clicks_window true (eq-eqb row a.top first),
      record {
        viewer = refl;
        text = refl;
        on_desk = (are.shown.texts v x shown).on_desk;
        place = (refl, sym is_pos);
      },
    )
    clicks_there (Text pos) (apart, placed) =
        let shows : ShowsText d w.viewers.tracks v x = are.shown.texts v x shown in
        let wide = cell_width d w col row v a x (cell_of w.viewers col row v a viewers lt at is) shows in
        let pos_is = placed shows.text shows.drawn
        ∙ ap (λ (n : ℕ). position_in shows.text x.frame.anchor n (col - a.col) (row - a.top - 1)) wide in (
          seen_in false,
          clicks_window false (ne_eqb row a.top apart),
          record {
            viewer = refl;
            text = refl;
            on_desk = shows.on_desk;
            place = (shows.text, shows.at, refl, sym pos_is);
          },
        )

    -- and below the menu is what the cell points at
    pub points_so : (place : CellTarget) → IsTargetIn a x col row place → IsPointed d w col row (spot_at v x.text place)
    points_so (Menu pos) (first, is_pos) =
        cell_points
        ∙ ap (λ (b : Bool). cond b None (option_map (pointed_in v a col row) (shown_window d (screened w) v)))
        (eq-eqb row a.top first)
    points_so (Text pos) (apart, placed) = points_there x pos are shown apart placed

-- the text is the one that is shown
pub same_text : (d : SiteTexts) (number : ℕ) (t u : TextState) → IsTextOf d number t → IsTextOf d number u → t ≡ u
same_text d number t u at other = same_Some t u (sym at ∙ other)

-- windows stay the desk's with the caret after a character of what a viewer shows
pub caret_set : (d : SiteTexts) (w : WindowsSeen) (v number : ℕ) (t : TextState) (anchor : Anchor) → AreOf d w
    → ShowsThis d w v number t → IsAnchor t.operations anchor
    → AreOf d (record { viewers = w.viewers; caret = Some (record { viewer = v; anchor = anchor }); selected = w.selected })
caret_set d w v number t anchor are shows char = record {
  shown = are.shown;
  caret = λ c is.
      let there : Caret = record { viewer = v; anchor = anchor } in
      subst (λ (c : Caret). ShowsSo d w.viewers c.viewer (λ t. IsAnchor t.operations c.anchor)) (same_Some there c is)
      (shows.window, t, shows.shown, subst (λ (n : ℕ). IsTextOf d n t) shows.number_is shows.text, char);
  selected = are.selected;
}

-- and with a selection between characters
pub selection_set : (d : SiteTexts) (w : WindowsSeen) (v number : ℕ) (t : TextState) (s : Selected) → AreOf d w
    → ShowsThis d w v number t → s.viewer ≡ v → IsChar t.operations s.first → IsChar t.operations s.last
    → AreOf d (record { viewers = w.viewers; caret = w.caret; selected = Some s })
selection_set d w v number t s are shows at first last = record {
  shown = are.shown;
  caret = are.caret;
  selected = λ other is.
      subst (λ (s : Selected). ShowsSo d w.viewers s.viewer (λ t. IsChar t.operations s.first × IsChar t.operations s.last))
      (same_Some s other is) (
        shows.window,
        t,
        ap (content_of w.viewers.contents) at ∙ shows.shown,
        subst (λ (n : ℕ). IsTextOf d n t) shows.number_is shows.text,
        (first, last),
      );
}

-- what is shown is a character
shown_char : (t : TextState) (k : ℕ) (c : Char) → IsText t → slice_get (shown_of t) k ≡ Some c → IsChar t.operations c.name
shown_char t k c is here =
    let some : (suc k == 0) ≡ false = ne_eqb (suc k) 0 (λ e. absurd (omega (arith, e))) in
    let one : suc k - 1 ≡ k = omega arith in
    let after : anchor_before (shown_of t) (suc k) ≡ At c.name =
    ap (λ (b : Bool). if b then Root else option_map_or (λ c. At c.name) (slice_get (shown_of t) (suc k - 1)) Root) some
    ∙ (ap (λ (n : ℕ). option_map_or (λ c. At c.name) (slice_get (shown_of t) n) Root) one
    ∙ ap (λ (o : Option Char). option_map_or (λ c. At c.name) o Root) here) in
    subst (IsAnchor t.operations) after (before_is_anchor t is (suc k))

pub selected_chars : (v : ℕ) (t : TextState) (beg end : ℕ) (s : Selected) → IsText t → selected_from v t beg end ≡ Some s
    → (s.viewer ≡ v) × IsChar t.operations s.first × IsChar t.operations s.last
selected_chars v t beg end s is selected =
    by_first (slice_get (shown_of t) beg) (slice_get (shown_of t) (end - 1)) refl refl selected
  where
    by_first : (o p : Option Char) → slice_get (shown_of t) beg ≡ o → slice_get (shown_of t) (end - 1) ≡ p
        → option_and_then (λ first. option_map (λ last. record { viewer = v; first = first.name; last = last.name }) p) o ≡ Some s
        → (s.viewer ≡ v) × IsChar t.operations s.first × IsChar t.operations s.last
    by_first None p first last e = cc
    by_first (Some c) None first last e = cc
    by_first (Some c) (Some b) first last e =
        let same = same_Some {A = Selected} (record { viewer = v; first = c.name; last = b.name }) s e in
        subst (λ (s : Selected). (s.viewer ≡ v) × IsChar t.operations s.first × IsChar t.operations s.last) same
        (refl, shown_char t beg c is first, shown_char t (end - 1) b is last)

-- a selecting, by two cells of one viewer
pub selecting : (d : SiteTexts) (w : WindowsSeen) (col row col' row' : ℕ) (p q : Pointed) (s : Selected)
    → pointed d (screened w) col row ≡ Some p → pointed d (screened w) col' row' ≡ Some q → p.viewer ≡ q.viewer
    → selected_from p.viewer p.text (min p.pos q.pos) (min (max p.pos q.pos + 1) (length (shown_of p.text))) ≡ Some s
    → selected_by d (screened w) col row col' row'
    ≡ Ok (screened (record { viewers = w.viewers; caret = w.caret; selected = Some s }), None)
selecting d w col row col' row' p q s first second same selected =
    ap (λ (o : Option Pointed). option_map_or (λ at. option_map_or (λ other.
    if at.viewer == other.viewer then selected_between (screened w) at other.pos else Err NoViewer)
    (pointed d (screened w) col' row') (Err NoViewer)) o (Err NoViewer)) first
    ∙ (ap (λ (o : Option Pointed). option_map_or (λ other.
    if p.viewer == other.viewer then selected_between (screened w) p other.pos else Err NoViewer) o (Err NoViewer)) second
    ∙ (ap (λ (b : Bool). cond b (selected_between (screened w) p q.pos) (Err NoViewer)) (eq-eqb p.viewer q.viewer same)
    ∙ ap (λ (o : Option Selected). option_map_or (λ s. Ok (record (screened w) { selected = Some s }, None)) o (Err OutOfRange)) selected))

-- the same, by spots of cells, with the text as it is read
module _ (d : SiteTexts) (w : WindowsSeen) (from : Spot) (p : Pointed) (spot : IsSpot d w p from) (u : TextState)
    (at : IsTextOf d from.text u) where
  text_is : p.text ≡ u
  text_is = same_text d from.text p.text u spot.shows.text at

  pub shows_it : ShowsThis d w from.viewer from.text u
  shows_it = subst (λ (t : TextState). ShowsThis d w from.viewer from.text t) text_is spot.shows

  pub selecting_spots : (col row col' row' : ℕ) (to : Spot) (q : Pointed) (s : Selected) → pointed d (screened w) col row ≡ Some p
      → pointed d (screened w) col' row' ≡ Some q → IsSpot d w q to → from.viewer ≡ to.viewer
      → selected_from from.viewer u (min from.pos to.pos) (min (max from.pos to.pos + 1) (length (shown_of u))) ≡ Some s
      → selected_by d (screened w) col row col' row'
      ≡ Ok (screened (record { viewers = w.viewers; caret = w.caret; selected = Some s }), None)
  selecting_spots col row col' row' to q s first second other same selected =
      let v = sym spot.viewer in let a = sym spot.pos in let b = sym other.pos in
      selecting d w col row col' row' p q s first second (v ∙ (same ∙ other.viewer))
      ((λ i. selected_from (v i) (text_is i) (min (a i) (b i)) (min (max (a i) (b i) + 1) (length (shown_of (text_is i)))))
      ∙ selected)

  pub selection_spot : (beg end : ℕ) (s : Selected) → AreOf d w → IsText u → selected_from from.viewer u beg end ≡ Some s
      → AreOf d (record { viewers = w.viewers; caret = w.caret; selected = Some s })
  selection_spot beg end s are is selected =
      let chars = selected_chars from.viewer u beg end s is selected in
      selection_set d w from.viewer from.text u s are shows_it chars.0 chars.1 chars.2

-- where the caret stands
pub caret_stands : (d : SiteTexts) (w : WindowsSeen) (c : Caret) (x : WindowSeen) (t : TextState) (pos : ℕ) → AreOf d w
    → w.caret ≡ Some c → content_of w.viewers.contents c.viewer ≡ Some x → IsTextOf d x.text t → pos ≡ place_in t c.anchor
    → IsCaretSpot d w (Some (record { viewer = c.viewer; text = x.text; pos = pos }))
caret_stands d w c x t pos are is shown at place = (
  c,
  (seen_window x, t),
  is,
  shown_text d w c.viewer 0 x x t shown at,
  refl,
  refl,
  place,
  record {
    window = x;
    shown = shown;
    number_is = refl;
    text = at;
    on_desk = (are.shown.texts c.viewer x shown).on_desk;
  },
)

-- what is marked
module _ (d : SiteTexts) (w : WindowsSeen) (s : Selected) (x : WindowSeen) (t : TextState) (is : w.selected ≡ Some s)
    (shown : content_of w.viewers.contents s.viewer ≡ Some x) (at : IsTextOf d x.text t) where
  marked_is : marked d (screened w) ≡ marked_as s (seen_window x, t)
  marked_is =
      ap (option_and_then (λ s. option_and_then (marked_as s) (shown_window d (screened w) s.viewer))) is
      ∙ ap (option_and_then (marked_as s)) (shown_text d w s.viewer 0 x x t shown at)

  abbrev mark : (beg end : ℕ) → Marked
  mark beg end = record { viewer = s.viewer; window = seen_window x; text = t; beg = beg; end = end }

  pub nothing_marked : range_in t s ≡ None → marked d (screened w) ≡ None
  nothing_marked none = marked_is ∙ by_test (nat_lt (stretch_in t s).0 (stretch_in t s).1) none
    where
      by_test : (b : Bool) → cond b (Some (stretch_in t s)) None ≡ None
          → cond b (Some (mark (stretch_in t s).0 (stretch_in t s).1)) None ≡ None
      by_test true e = cc
      by_test false e = refl

  pub marks_stretch : (beg end : ℕ) → range_in t s ≡ Some (beg, end)
      → IsMarked d w (Some (record { viewer = s.viewer; text = x.text; beg = beg; end = end }))
  marks_stretch beg end some = (
    mark beg end,
    marked_is ∙ by_test (nat_lt (stretch_in t s).0 (stretch_in t s).1) some,
    refl,
    refl,
    refl,
    refl,
    at,
  )
    where
      by_test : (b : Bool) → cond b (Some (stretch_in t s)) None ≡ Some (beg, end)
          → cond b (Some (mark (stretch_in t s).0 (stretch_in t s).1)) None ≡ Some (mark beg end)
      by_test true e =
          let p = same_Some (stretch_in t s) (beg, end) e in
          λ i. Some (mark (p i).0 (p i).1)
      by_test false e = cc
