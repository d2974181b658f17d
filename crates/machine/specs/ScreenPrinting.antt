-- How a site's screen is printed: where caret and selection stand, its viewers, and its cells.
use Rattle.std.specs.Prelude.{ℕ, ◌+◌, ◌-◌, ◌==◌, if◌then◌else◌, List, [], ◌∷◌, ◌++◌, codes}
use Rattle.std.specs.List.{flat_map, range_with_len}
use Rattle.std.specs.Option.{option_map_or}
use Rattle.std.specs.Fmt.{decimal}
use Rattle.command_words.specs.Commands.{menu_of}
use Rattle.line_drawing.specs.Rows.{blanks, cells_of}
use Rattle.viewers.specs.Screen.{user_width}
use Rattle.viewers.specs.Tracks.{seat_index, top, viewer_in}
use Rattle.viewers.specs.declared.seats.Seat.{Seat}
use Rattle.machine.specs.SiteTexts.{SiteTexts}
use Rattle.machine.specs.Printing.{line}
use Rattle.machine.specs.Windows.{Screened, Window, marked, place_in, row_from_anchor, window_of}
use Rattle.texts.specs.TextState.{TextState}

-- numbers, each after a blank
abbrev pub spaced : List ℕ → List ℕ
spaced numbers = flat_map (λ n. 32 ∷ decimal n) numbers

-- the line of the caret: its viewer, the text, and the position
abbrev pub caret_line : SiteTexts → Screened → List ℕ
caret_line d w =
    option_map_or (λ c. option_map_or (λ shown.
    line (codes "caret" ++ spaced (c.viewer ∷ shown.0.text ∷ place_in shown.1 c.anchor ∷ [])))
    (window_of d w c.viewer) (line (codes "caret none"))) w.caret (line (codes "caret none"))

-- the line of the selection: its viewer, the text, and from where to where
abbrev pub selection_line : SiteTexts → Screened → List ℕ
selection_line d w =
    option_map_or (λ m. line (codes "selection" ++ spaced (m.viewer ∷ m.window.text ∷ m.beg ∷ m.end ∷ [])))
    (marked d w) (line (codes "selection none"))

-- the answer to `marks`: the line of the caret, and that of the selection
abbrev pub marks_lines : SiteTexts → Screened → List ℕ
marks_lines d w = caret_line d w ++ selection_line d w

-- the line of a viewer: its number, track, first row, height and text
abbrev pub viewer_line : (track : List ℕ) → Seat → (top text : ℕ) → List ℕ
viewer_line track seat top text =
    line (codes "viewer" ++ spaced (seat.number ∷ []) ++ 32 ∷ track ++ spaced (top ∷ seat.height ∷ text ∷ []))

-- the lines of a track's viewers, from this row down
abbrev pub track_lines : SiteTexts → Screened → (track : List ℕ) → (top : ℕ) → List Seat → List ℕ
track_lines d w track top [] = []
track_lines d w track top (seat ∷ seats) =
    option_map_or (λ shown. viewer_line track seat top shown.0.text) (window_of d w seat.number) []
    ++ track_lines d w track (top + seat.height) seats

-- the answer to `views`: a line per viewer, the user track first, then `ok`
abbrev pub views_lines : SiteTexts → Screened → List ℕ
views_lines d w =
    track_lines d w (codes "user") 0 w.tracks.user ++ track_lines d w (codes "system") 0 w.tracks.system
    ++ line (codes "ok")

-- the cells of a viewer's row, the menu being row 0
abbrev pub viewer_cells : (v : ℕ) → Window × TextState → (width row : ℕ) → List ℕ
viewer_cells v shown width row =
    if row == 0 then cells_of width (menu_of v shown.0.text) else (row_from_anchor shown.1 shown.0.anchor width (row - 1)).cells

-- the cells of a track's row; a track without viewers is blank
abbrev pub track_cells : SiteTexts → Screened → List Seat → (width row : ℕ) → List ℕ
track_cells d w seats width row =
    option_map_or (λ v. option_map_or (λ shown. viewer_cells v shown width (row - top seats (seat_index seats v)))
    (window_of d w v) (blanks width)) (viewer_in seats row) (blanks width)

-- a row of the screen between two bars: the user track's cells, then the system track's
abbrev pub screen_line : SiteTexts → Screened → ℕ → List ℕ
screen_line d w row =
    line (124 ∷ track_cells d w w.tracks.user (user_width w.tracks.width) row
    ++ track_cells d w w.tracks.system (w.tracks.width - user_width w.tracks.width) row ++ 124 ∷ [])

-- the answer to `show`: a line per row, from the top
abbrev pub screen_lines : SiteTexts → Screened → List ℕ
screen_lines d w = flat_map (screen_line d w) (range_with_len 0 w.tracks.height)
