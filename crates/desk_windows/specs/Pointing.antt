-- Where cells, the caret and the selection stand in the texts that viewers show.
use Rattle.std.specs.Prelude.{◌≡◌, ℕ, ◌-◌, ◌<◌, ◌≤◌, length, Option, Some, None}
use Rattle.viewers.specs.Viewers.{content_of}
use Rattle.viewers.specs.declared.screen.Area.{Area}
use Rattle.command_words.specs.Commands.{menu_of}
use Rattle.texts.specs.TextState.{TextState, shown_of}
use Rattle.machine.specs.SiteTexts.{SiteTexts, IsTextOf}
use Rattle.machine.specs.declared.TheConstants.{MAX_TEXT}
use Rattle.machine.specs.Commands.{Clicked as ClickedSeen, clicked}
use Rattle.machine.specs.Windows.{Caret, Marked, Pointed, Window, bytes_shown, marked, place_in, pointed, position_in}
use Rattle.machine.specs.Windows.{window_of as shown_in}
use Rattle.text_frames.specs.Frames.{IsDrawn}
use Rattle.desk_windows.specs.Windows.{WindowSeen, WindowsSeen, screened}
use Rattle.desk_windows.specs.declared.pointing.Clicked.{Clicked}
use Rattle.desk_windows.specs.declared.pointing.CellTarget.{CellTarget}
use Rattle.desk_windows.specs.declared.pointing.CellTarget.TheVariants.{Menu, Text}
use Rattle.desk_windows.specs.declared.pointing.Spot.{Spot}
use Rattle.desk_windows.specs.declared.marks.MarkedStretch.{MarkedStretch}

-- the viewer shows this text of the desk
pub record ShowsThis (d : SiteTexts) (w : WindowsSeen) (v number : ℕ) (t : TextState) : Type 0 where
  pub window : WindowSeen
  pub shown : content_of w.viewers.contents v ≡ Some window
  pub number_is : number ≡ window.text
  pub text : IsTextOf d number t
  pub on_desk : number ≤ MAX_TEXT

-- the spot that a cell stands for
pub record IsSpot (d : SiteTexts) (w : WindowsSeen) (at : Pointed) (spot : Spot) : Type 0 where
  pub viewer : spot.viewer ≡ at.viewer
  pub pos : spot.pos ≡ at.pos
  pub shows : ShowsThis d w spot.viewer spot.text at.text
  pub in_text : at.pos ≤ length (shown_of at.text)

-- where there is none, the cell points at nothing
abbrev pub IsPointed : SiteTexts → WindowsSeen → (col row : ℕ) → Option Spot → Type 0
IsPointed d w col row None = pointed d (screened w) col row ≡ None
IsPointed d w col row (Some spot) = (at : Pointed) × (pointed d (screened w) col row ≡ Some at) × IsSpot d w at spot

-- a cell of a viewer lies in its window's rows and columns, unless it is the menu's
pub record IsInWindow (a : Area) (x : WindowSeen) (col row : ℕ) : Type 0 where
  pub left : a.col ≤ col
  pub above : a.top ≤ row
  pub in_columns : col - a.col < x.frame.width
  pub in_rows : (row ≡ a.top → ⊥) → (1 ≤ row - a.top) × (row - a.top - 1 < length x.frame.rows)

-- the place of such a cell: in the viewer's first row that in the menu
abbrev pub IsTargetIn : Area → WindowSeen → (col row : ℕ) → CellTarget → Type 0
IsTargetIn a x col row (Menu at) = (row ≡ a.top) × (at ≡ col - a.col)
IsTargetIn a x col row (Text at) = (row ≡ a.top → ⊥) × ((t : TextState) → IsDrawn x.frame t
    → at ≡ position_in t x.frame.anchor x.frame.width (col - a.col) (row - a.top - 1))

-- the bytes in which a place stands, and its position there: those of the menu, or those that a text of the desk shows
abbrev pub IsPlaceOf : SiteTexts → ClickedSeen → CellTarget → Type 0
IsPlaceOf d seen (Menu at) = (seen.bytes ≡ menu_of seen.viewer seen.text) × (seen.pos ≡ at)
IsPlaceOf d seen (Text at) =
    (t : TextState) × IsTextOf d seen.text t × (seen.bytes ≡ bytes_shown t) × (seen.pos ≡ at)

-- what a click meets, as it is told
pub record IsClick (d : SiteTexts) (seen : ClickedSeen) (c : Clicked) : Type 0 where
  pub viewer : c.viewer ≡ seen.viewer
  pub text : c.text ≡ seen.text
  pub on_desk : c.text ≤ MAX_TEXT
  pub place : IsPlaceOf d seen c.place

-- where there is none, the click meets nothing
abbrev pub IsClicked : SiteTexts → WindowsSeen → (col row : ℕ) → Option Clicked → Type 0
IsClicked d w col row None = clicked d (screened w) col row ≡ None
IsClicked d w col row (Some c) =
    (seen : ClickedSeen) × (clicked d (screened w) col row ≡ Some seen) × IsClick d seen c

-- the spot of a click below a menu
abbrev pub spot_at : (viewer text : ℕ) → CellTarget → Option Spot
spot_at v number (Menu at) = None
spot_at v number (Text at) = Some (record { viewer = v; text = number; pos = at })

abbrev pub spot_of : Option Clicked → Option Spot
spot_of None = None
spot_of (Some c) = spot_at c.viewer c.text c.place

-- the spot of the caret; none where there is no caret
abbrev pub IsCaretSpot : SiteTexts → WindowsSeen → Option Spot → Type 0
IsCaretSpot d w None = w.caret ≡ None
IsCaretSpot d w (Some spot) = (c : Caret) × (shown : Window × TextState) × (w.caret ≡ Some c)
    × (shown_in d (screened w) c.viewer ≡ Some shown) × (spot.viewer ≡ c.viewer) × (spot.text ≡ shown.0.text)
    × (spot.pos ≡ place_in shown.1 c.anchor) × ShowsThis d w spot.viewer spot.text shown.1

-- what is marked; none where nothing is
abbrev pub IsMarked : SiteTexts → WindowsSeen → Option MarkedStretch → Type 0
IsMarked d w None = marked d (screened w) ≡ None
IsMarked d w (Some stretch) = (at : Marked) × (marked d (screened w) ≡ Some at) × (stretch.viewer ≡ at.viewer)
    × (stretch.text ≡ at.window.text) × (stretch.beg ≡ at.beg) × (stretch.end ≡ at.end) × IsTextOf d at.window.text at.text
