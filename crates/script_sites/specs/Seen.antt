-- What the desks of a run's sites hold, and what they do in a run over files.
use Rattle.std.specs.Prelude.{◌≡◌, ℕ, List, ◌++◌, map, Option, Result, Some, None}
use Rattle.shelf.specs.Files.{Files}
use Rattle.looks.specs.declared.refusal.Refusal.{Refusal}
use Rattle.texts.specs.declared.took.Took.{Took}
use Rattle.machine.specs.SiteTexts.{SiteTexts}
use Rattle.machine.specs.Events.{Delivery, Event, Reply, take, take_reply, untouched}
use Rattle.machine.specs.Machine.{Replies, message_in}
use Rattle.shelved_texts.specs.Filing.{ShelfSeen}
use Rattle.commands.specs.Steps.{DeskSeen}
use Rattle.machine.specs.State.{State}
use Rattle.script_sites.specs.Trace.{Run, Shelved, Step}

-- the number of the first site, which the others follow; the sites' desks; the messages that were sent so far
pub record SitesSeen : Type 0 where
  pub first : ℕ
  pub desks : List DeskSeen
  pub sent : List (List ℕ)

-- the texts of each desk
abbrev pub texts_of : SitesSeen → List SiteTexts
texts_of s = map (λ d. d.texts) s.desks

-- the sites, where these messages were sent before
abbrev pub sent_after : List (List ℕ) → SitesSeen → SitesSeen
sent_after before s = record s { sent = before ++ s.sent }

-- the state of a run of these sites, over these files
abbrev pub state_of : SitesSeen → Files → State
state_of s files = record {
  first = s.first;
  desks = map (λ d. d.texts) s.desks;
  screens = map (λ d. d.screen) s.desks;
  sent = s.sent;
  files = files;
}

-- a run of these sites, over a shelf that has this
abbrev pub run_seen : SitesSeen → Shelved → Run
run_seen s has = record { state = state_of s has.files; faults = has.faults }

-- over any files, the event is replied to so, and the sites go on to new; no file is asked for
abbrev pub Replied : SitesSeen → Event → Reply → SitesSeen → Type 0
Replied s e r new = (files : Files) → Replies (state_of s files) e untouched r (state_of new files)

-- whatever was sent before, a message for a text of the desk at this index is replied to so, however it is told
abbrev pub TakesMessage : SitesSeen → (desk text : ℕ) → List ℕ → Result Took Refusal → SitesSeen → Type 0
TakesMessage s desk text message result new = (before : List (List ℕ)) (told : Delivery)
    → ((files : Files) → message_in (state_of (sent_after before s) files) told ≡ Some message)
    → Replied (sent_after before s) (take desk text told) (take_reply result) (sent_after before new)

-- over what any shelf has, the event is answered so
abbrev pub Stepped : SitesSeen → Event → List ℕ → SitesSeen → Type 0
Stepped s e answer new = (has : Shelved) → Step (run_seen s has) e answer (run_seen new has)

-- So it is of what a shelf had before, and of what it has now, where it reports its files; of some files, where it reports none. A shelf
-- that reports its files goes on to do so, and no other begins to.
abbrev pub OverBoth : (reported reported' : Option Files) → (faults faults' : ℕ) → (Shelved → Shelved → Type 0) → Type 0
OverBoth None None faults faults' Holds =
    (was now : Files) × Holds (record { files = was; faults = faults }) (record { files = now; faults = faults' })
OverBoth None (Some now) faults faults' Holds = ⊥
OverBoth (Some was) None faults faults' Holds = ⊥
OverBoth (Some was) (Some now) faults faults' Holds =
    Holds (record { files = was; faults = faults }) (record { files = now; faults = faults' })

abbrev pub OverFiles : (reported reported' : ShelfSeen) → (Shelved → Shelved → Type 0) → Type 0
OverFiles reported reported' = OverBoth reported.files reported'.files reported.faults reported'.faults
