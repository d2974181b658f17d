-- The state of a run, and what one of its texts does in it.
use Rattle.std.specs.Prelude.{◌≡◌, ℕ, List, [], ◌++◌, map, replicate, slice_get, slice_set, Some}
use Rattle.std.specs.List.{range_with_len}
use Rattle.looks.specs.declared.refusal.Refusal.{Refusal}
use Rattle.shelf.specs.Files.{Files}
use Rattle.texts.specs.TextState.{TextState, all_told}
use Rattle.machine.specs.SiteTexts.{SiteTexts, InText, IsTextOf, fresh_texts}
use Rattle.machine.specs.Events.{Reply, refuses}
use Rattle.machine.specs.Windows.{Screened, blank_screen}

-- The number of the first site, which the others follow; the texts of each site's desk, and its screen; the messages that were
-- sent so far, over all sites; and the files.
pub record State : Type 0 where
  pub first : ℕ
  pub desks : List SiteTexts
  pub screens : List Screened
  pub sent : List (List ℕ)
  pub files : Files

-- as a run of count sites begins, over these files: no text has anything, and no viewer is open
abbrev pub new_state : (first count width height : ℕ) → Files → State
new_state first count width height files = record {
  first = first;
  desks = map (λ site. fresh_texts site) (range_with_len first count);
  screens = replicate count (blank_screen width height);
  sent = [];
  files = files;
}

-- t is the text of this number on the desk at this index
abbrev pub IsTextAt : State → (desk text : ℕ) → TextState → Type 0
IsTextAt s i text t = (d : SiteTexts) × (slice_get s.desks i ≡ Some d) × IsTextOf d text t

-- the desk at this index: its texts, and its screen
pub record IsDeskAt (s : State) (i : ℕ) (d : SiteTexts) (w : Screened) : Type 0 where
  pub texts : slice_get s.desks i ≡ Some d
  pub screen : slice_get s.screens i ≡ Some w

-- the state with this screen of a desk
abbrev pub with_screen_at : State → ℕ → Screened → State
with_screen_at s i w = record s { screens = slice_set s.screens i w }

-- nothing is done, for this reason
abbrev pub Refuses : State → Refusal → Reply → State → Type 0
Refuses s why r new = (r ≡ refuses why) × (new ≡ s)

-- The lift from a desk's texts to the run: those of the desk at this index do so, and send these messages; all else stays.
abbrev pub InSite : (SiteTexts → SiteTexts → Type 0) → State → ℕ → List (List ℕ) → State → Type 0
InSite Goes s i messages new =
    (d d' : SiteTexts) × (slice_get s.desks i ≡ Some d) × Goes d d'
    × (new ≡ record s { desks = slice_set s.desks i d'; sent = s.sent ++ messages })

-- a text does so, and has told its changes then, so that what shows it follows
abbrev pub Tells : (TextState → TextState → Type 0) → TextState → TextState → Type 0
Tells Goes t new = (t' : TextState) × Goes t t' × (new ≡ all_told t')

-- The lift from a text to the run: that of this number on the desk at this index does so and tells its changes, and sends these
-- messages; all else stays.
abbrev pub AtText : (TextState → TextState → Type 0) → State → (i text : ℕ) → List (List ℕ) → State → Type 0
AtText Goes s i text messages new = InSite (λ d d'. InText (Tells Goes) d text d') s i messages new
