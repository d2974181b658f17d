-- What contracts see of the windows of a site's viewers, and when they show its texts.
use Rattle.std.specs.Prelude.{◌≡◌, ℕ, suc, ◌-◌, ◌≤◌, List, map, length, true, Option, Some, None, Result, Ok, Err, IsOk, ◌⊎◌}
use Rattle.std.specs.List.{AllPass}
use Rattle.looks.specs.declared.refusal.Refusal.{Refusal}
use Rattle.looks.specs.declared.refusal.Refusal.TheVariants.{OutOfMemory}
use Rattle.viewers.specs.Screen.{ScreenSeen, area_of, has, user_width}
use Rattle.viewers.specs.Viewers.{ViewersSeen, content_of}
use Rattle.viewers.specs.declared.screen.Area.{Area}
use Rattle.viewers.specs.declared.screen.Track.{Track}
use Rattle.viewers.specs.declared.screen.Track.TheVariants.{User, System}
use Rattle.char_files.specs.declared.name.Anchor.{Anchor}
use Rattle.tree_order.specs.Tree.{IsChar}
use Rattle.list_changes.specs.Changes.{Leads}
use Rattle.list_changes.specs.declared.change.Change.{Change}
use Rattle.taken_text.specs.Noted.{SameChar}
use Rattle.texts.specs.Edit.{anchor_before}
use Rattle.texts.specs.Laws.{KeepsTheOrder}
use Rattle.texts.specs.Text.{IsAnchor, IsText}
use Rattle.texts.specs.Changes.{TellsOfChanges}
use Rattle.texts.specs.TextState.{TextState, shown_of}
use Rattle.machine.specs.SiteTexts.{SiteTexts, IsTextOf}
use Rattle.machine.specs.Windows.{Arranged, Caret, Screened, Selected, Window, place_in, window_of as shown_in}
use Rattle.machine.specs.declared.TheConstants.{MAX_TEXT}
use Rattle.text_frames.specs.Frames.{FrameSeen, IsDrawn, ReadsOnce, is_quiet_for}

-- what a viewer shows: a text, by a frame
pub record WindowSeen : Type 0 where
  pub text : ℕ
  pub frame : FrameSeen

-- the viewers of a site with their windows, its caret, and what is selected
pub record WindowsSeen : Type 0 where
  pub viewers : ViewersSeen WindowSeen
  pub caret : Option Caret
  pub selected : Option Selected

-- a window as the machine has it: a text, and the character of its first line
abbrev pub seen_window : WindowSeen → Window
seen_window w = record { text = w.text; anchor = w.frame.anchor }

-- all windows so
abbrev pub windows_of : List (ℕ × WindowSeen) → List (ℕ × Window)
windows_of contents = map (λ entry. (entry.0, seen_window entry.1)) contents

-- a site's screen as the machine has it
abbrev pub screened : WindowsSeen → Screened
screened w = record {
  tracks = w.viewers.tracks;
  next = w.viewers.next;
  windows = windows_of w.viewers.contents;
  caret = w.caret;
  selected = w.selected;
}

-- the columns of a track
abbrev pub width_of : ℕ → Track → ℕ
width_of width User = user_width width
width_of width System = width - user_width width

-- a window shows a text of the desk, and is as wide as its viewer's track
pub record ShowsText (d : SiteTexts) (tracks : ScreenSeen) (v : ℕ) (w : WindowSeen) : Type 0 where
  pub on_desk : w.text ≤ MAX_TEXT
  pub text : TextState
  pub at : IsTextOf d w.text text
  pub drawn : IsDrawn w.frame text
  pub in_user : has tracks.user v ≡ true → w.frame.width ≡ width_of tracks.width User
  pub in_system : has tracks.system v ≡ true → w.frame.width ≡ width_of tracks.width System

-- all windows do
abbrev pub AllShow : SiteTexts → ViewersSeen WindowSeen → Type 0
AllShow d viewers =
    (v : ℕ) (w : WindowSeen) → content_of viewers.contents v ≡ Some w → ShowsText d viewers.tracks v w

-- a viewer's window has a row for each of the viewer's but the menu
abbrev pub HasRows : ViewersSeen WindowSeen → ℕ → Type 0
HasRows viewers v = (w : WindowSeen) (area : Area) → content_of viewers.contents v ≡ Some w
    → area_of viewers.tracks v ≡ Some area → suc (length w.frame.rows) ≡ area.height

-- all windows show texts of the desk, in their viewers' rows
pub record ShowTexts (d : SiteTexts) (viewers : ViewersSeen WindowSeen) : Type 0 where
  pub texts : AllShow d viewers
  pub high : (v : ℕ) → HasRows viewers v

-- a viewer shows a text of the desk of which this holds
abbrev pub ShowsSo : SiteTexts → ViewersSeen WindowSeen → (viewer : ℕ) → (TextState → Type 0) → Type 0
ShowsSo d viewers v Holds =
    (w : WindowSeen) × (t : TextState) × (content_of viewers.contents v ≡ Some w) × IsTextOf d w.text t × Holds t

-- The windows are those of the desk: all show its texts, and caret and selection stand in viewers, by characters of what
-- these show.
pub record AreOf (d : SiteTexts) (w : WindowsSeen) : Type 0 where
  pub shown : ShowTexts d w.viewers
  pub caret : (c : Caret) → w.caret ≡ Some c → ShowsSo d w.viewers c.viewer (λ t. IsAnchor t.operations c.anchor)
  pub selected : (s : Selected) → w.selected ≡ Some s
      → ShowsSo d w.viewers s.viewer (λ t. IsChar t.operations s.first × IsChar t.operations s.last)

-- The caret's text, and how many shown characters stand before the caret; nothing where there is no caret.
abbrev pub IsCaretPlace : SiteTexts → WindowsSeen → Option (ℕ × ℕ) → Type 0
IsCaretPlace d w None = w.caret ≡ None
IsCaretPlace d w (Some place) = (c : Caret) × (shown : Window × TextState) × (w.caret ≡ Some c)
    × (shown_in d (screened w) c.viewer ≡ Some shown) × (place.0 ≡ shown.0.text) × (place.1 ≡ place_in shown.1 c.anchor)

-- the number of the text that a viewer shows; none where there is no such viewer
abbrev pub IsTextShown : SiteTexts → WindowsSeen → (viewer : ℕ) → Option ℕ → Type 0
IsTextShown d w v None = shown_in d (screened w) v ≡ None
IsTextShown d w v (Some text) =
    (shown : Window × TextState) × (shown_in d (screened w) v ≡ Some shown) × (text ≡ shown.0.text)

-- the caret, set after so many shown characters of its text
abbrev pub HasMovedTo : SiteTexts → (old : WindowsSeen) → (pos : ℕ) → (new : WindowsSeen) → Type 0
HasMovedTo d old pos new = (c : Caret) (shown : Window × TextState) → old.caret ≡ Some c
    → shown_in d (screened old) c.viewer ≡ Some shown
    → screened new ≡ record (screened old)
    { caret = Some (record c { anchor = anchor_before (shown_of shown.1) pos }) }

-- the same viewers show the same texts from the same lines on
pub record AreSameWindows (old new : ViewersSeen WindowSeen) : Type 0 where
  pub tracks : new.tracks ≡ old.tracks
  pub next : new.next ≡ old.next
  pub windows : windows_of new.contents ≡ windows_of old.contents

-- these changes lead from what a text showed to what it shows now; its characters stay, in their order
pub record FollowsChanges (changes : List Change) (t now : TextState) : Type 0 where
  pub well : IsText t
  pub order : KeepsTheOrder t now
  pub kept : (anchor : Anchor) → IsAnchor t.operations anchor → IsAnchor now.operations anchor
  pub leads : Leads SameChar changes (shown_of t) (shown_of now)

-- A frame that all changes are quiet for keeps its rows, and nothing is read for it; for any other a text is read as often as
-- it takes to draw it once.
pub record ReadsAsAsked (changes : List Change) (now : TextState) (old new : FrameSeen) : Type 0 where
  pub quiet : AllPass (is_quiet_for old) changes → new ≡ record old { reads = 0 }
  pub anew : (AllPass (is_quiet_for old) changes → ⊥) → IsAnchor now.operations old.anchor → ReadsOnce now old new

-- a window of the text of this number is told of its changes; a window of another text stays
pub record IsWindowTold (number : ℕ) (changes : List Change) (now : TextState) (old new : WindowSeen) : Type 0 where
  pub text : new.text ≡ old.text
  pub anchor : new.frame.anchor ≡ old.frame.anchor
  pub width : new.frame.width ≡ old.frame.width
  pub rows : length new.frame.rows ≡ length old.frame.rows
  pub other : (old.text ≡ number → ⊥) → (new ≡ old) × (old.text - 1 ≡ number - 1 → ⊥)
  pub drawn : old.text ≡ number → (t : TextState) → FollowsChanges changes t now → IsDrawn old.frame t → IsDrawn new.frame now
  pub reads : old.text ≡ number → ReadsAsAsked changes now old.frame new.frame

-- a window of another text stays, and one of this text reads what the changes ask of its frame
pub record IsToldOnce (number : ℕ) (changes : List Change) (now : TextState) (old new : WindowSeen) : Type 0 where
  pub other : (old.text ≡ number → ⊥) → new ≡ old
  pub reads : old.text ≡ number → ReadsAsAsked changes now old.frame new.frame

-- so it is with what each viewer shows
abbrev pub AreToldOnce : (number : ℕ) → List Change → (now : TextState) → (old new : ViewersSeen WindowSeen) → Type 0
AreToldOnce number changes now old new = (v : ℕ) (x : WindowSeen) → content_of new.contents v ≡ Some x
    → (w : WindowSeen) × (content_of old.contents v ≡ Some w) × IsToldOnce number changes now w x

-- the windows are told once of what changed of a text since its changes were last asked for
abbrev pub AreToldOfText : (d : SiteTexts) → (number : ℕ) → (d' : SiteTexts) → (old new : ViewersSeen WindowSeen) → Type 0
AreToldOfText d number d' old new = (changes : List Change) × (t now : TextState) × IsTextOf d number t
    × TellsOfChanges t changes × IsTextOf d' number now × AreToldOnce number changes now old new

-- a call comes to what the machine says: its answer, and the screen then; a refusal leaves all as it was
pub record ComesTo {R : Type 0} (out : Arranged) (old : WindowsSeen) (number : R → Option ℕ) (result : Result R Refusal) (new : WindowsSeen) : Type 0 where
  pub done : (s : Screened) (v : Option ℕ) → out ≡ Ok (s, v)
      → (r : R) × (result ≡ Ok r) × (number r ≡ v) × (screened new ≡ s)
  pub refused : (why : Refusal) → out ≡ Err why → (result ≡ Err why) × (new ≡ old)

-- or, where the machine doesn't refuse it, memory is short, and all is as it was
abbrev pub ComesToOrShort : {R : Type 0} (out : Arranged) (old : WindowsSeen) (number : R → Option ℕ) (result : Result R Refusal) (new : WindowsSeen) → Type 0
ComesToOrShort out old number result new =
    ComesTo out old number result new ⊎ (IsOk out × (result ≡ Err OutOfMemory) × (new ≡ old))
