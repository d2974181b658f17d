-- What the answer to a line leaves of the run's texts, and of the messages that are noted of them.
use Rattle.std.proofs.Common.{◌≡◌, ℕ, List, Bool, true, false, Option, Some, None, sym, ap, subst, ◌∙◌}
use Rattle.std.specs.Prelude.{MatchBool}
use Rattle.shelf.specs.Files.{Files}
use Rattle.machine_laws.proofs.Going.{TextsGo, as_they_are, replies_go}
use Rattle.shelved_texts.specs.Filing.{ShelfSeen}
use Rattle.script_sites.specs.Seen.{OverBoth, OverFiles, SitesSeen, run_seen, sent_after, texts_of}
use Rattle.script_sites.specs.Sent.{AreSentOperations, AreSound, messages_at}
use Rattle.script_sites.specs.Trace.{Answers, Run, Shelved, is_silent}
use Rattle.script_sites.specs.declared.sent_at.SentAt.{SentAt}
use Rattle.script_sites.proofs.Keeping.{same_messages, still_held, still_sound}

-- a line that is answered lets the texts go on in one of their ways
goes_by : (b : Bool) (s new : Run) (Silent Steps : Type 0) → (Silent → TextsGo s.state new.state) → (Steps → TextsGo s.state new.state)
    → MatchBool b Silent Steps → TextsGo s.state new.state
goes_by true s new Silent Steps silent steps holds = silent holds
goes_by false s new Silent Steps silent steps holds = steps holds

answers_go : (s new : Run) (line answer : List ℕ) → Answers s line answer new → TextsGo s.state new.state
answers_go s new line answer answered = goes_by (is_silent line) s new _ _
    (λ silent. as_they_are (ap (λ (x : Run). x.state.desks) silent.1))
    (λ step. (replies_go s.state _ step.0 step.1 new.state step.3).0) answered

-- what follows of what holds, whatever the shelf has
from_both : (told told' : Option Files) (faults faults' : ℕ) (P : Shelved → Shelved → Type 0) (Q : Type 0) → ((was now : Shelved) → P was now → Q)
    → OverBoth told told' faults faults' P → Q
from_both None None faults faults' P Q follows (was, now, holds) =
    follows (record { files = was; faults = faults }) (record { files = now; faults = faults' }) holds
from_both None (Some now) faults faults' P Q follows holds = absurd holds
from_both (Some was) None faults faults' P Q follows holds = absurd holds
from_both (Some was) (Some now) faults faults' P Q follows holds =
    follows (record { files = was; faults = faults }) (record { files = now; faults = faults' }) holds

-- a line is answered by the desks, where the messages that are noted so were sent before those that they hold
abbrev pub AnsweredAfter : (s new : SitesSeen) (told told' : ShelfSeen) (line answer : List ℕ) → List SentAt → Type 0
AnsweredAfter s new told told' line answer noted = OverFiles told told' (λ was now.
    Answers (run_seen (sent_after (messages_at (texts_of s) noted) s) was) line answer (run_seen (sent_after (messages_at (texts_of s) noted) new) now))

-- then what was noted is so still, and so are the texts
module _ (s new : SitesSeen) (told told' : ShelfSeen) (line answer : List ℕ) (noted : List SentAt) (answered : AnsweredAfter s new told told' line answer noted)
    (held : AreSentOperations (texts_of s) noted) (sound : AreSound (texts_of s)) where
  -- the run before, and after
  abbrev run_was : Shelved → Run
  run_was was = run_seen (sent_after (messages_at (texts_of s) noted) s) was

  abbrev run_now : Shelved → Run
  run_now now = run_seen (sent_after (messages_at (texts_of s) noted) new) now

  follows_of : (Q : Type 0) → ((was now : Shelved) → TextsGo (run_was was).state (run_now now).state → Q) → Q
  follows_of Q follows = from_both told.files told'.files told.faults told'.faults (λ was now. Answers (run_was was) line answer (run_now now)) Q
      (λ was now holds. follows was now (answers_go (run_was was) (run_now now) line answer holds)) answered

  pub held_then : AreSentOperations (texts_of new) noted
  held_then = follows_of (AreSentOperations (texts_of new) noted)
      (λ was now goes. still_held (run_was was).state (run_now now).state goes (λ i text t there. (sound i text t there).0) noted held)

  pub sound_then : AreSound (texts_of new)
  sound_then = follows_of (AreSound (texts_of new)) (λ was now goes. still_sound (run_was was).state (run_now now).state goes sound)

  same_then : messages_at (texts_of new) noted ≡ messages_at (texts_of s) noted
  same_then = follows_of (messages_at (texts_of new) noted ≡ messages_at (texts_of s) noted)
      (λ was now goes. same_messages (run_was was).state (run_now now).state goes (λ i text t there. (sound i text t there).0) noted held)

  -- and the run has gone on to the desks that have let messages go
  pub answered_then : (end : SitesSeen) (noted' : List SentAt)
      → sent_after (messages_at (texts_of end) noted') end ≡ sent_after (messages_at (texts_of new) noted) new
      → OverFiles told told' (λ was now. Answers (run_was was) line answer (run_seen (sent_after (messages_at (texts_of end) noted') end) now))
  answered_then end noted' is =
      let same : sent_after (messages_at (texts_of s) noted) new ≡ sent_after (messages_at (texts_of end) noted') end =
      ap (λ (m : List (List ℕ)). sent_after m new) (sym same_then) ∙ sym is in
      subst (λ (x : SitesSeen). OverFiles told told' (λ was now. Answers (run_was was) line answer (run_seen x now))) same answered

-- their texts are sound still
pub sound_end : (new end : SitesSeen) (noted noted' : List SentAt)
    → sent_after (messages_at (texts_of end) noted') end ≡ sent_after (messages_at (texts_of new) noted) new → AreSound (texts_of new) → AreSound (texts_of end)
sound_end new end noted noted' is sound = subst AreSound (sym (ap texts_of is)) sound
