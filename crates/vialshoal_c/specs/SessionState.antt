-- What contracts see of a session, which is what an open handle holds.
use Rattle.std.specs.Prelude.{◌≡◌, ℕ, List, []}
use Rattle.list_changes.specs.declared.change.Change.{Change}
use Rattle.texts.specs.TextState.{TextState}

-- The text; the messages that its edits sent and that weren't let go; the changes that were asked for and not
-- handed out yet.
pub record SessionState : Type 0 where
  pub text : TextState
  pub sent : List (List ℕ)
  pub told : List Change

-- a session of this text, with no message and no change
abbrev pub session_of : TextState → SessionState
session_of t = record { text = t; sent = []; told = [] }

-- another text at most
abbrev pub KeepsTheRest : SessionState → SessionState → Type 0
KeepsTheRest s new = (new.sent ≡ s.sent) × (new.told ≡ s.told)
