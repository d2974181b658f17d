-- Replies as steps of the machine, and their lines.
use Rattle.std.proofs.Common.{◌≡◌, ℕ, zero, suc, ◌+◌, ◌-◌, ◌<◌, ◌⊎◌, ◌==◌, false, List, [], ◌++◌, length, drop, map, true, subst, Some, None, Result, Ok, Err, refl, sym, ap, ◌∙◌, inl, inr, arith}
use Rattle.std.specs.Prelude.{slice_get}
use Rattle.std.proofs.Math.Seq.{drop-append-add}
use Rattle.std.proofs.lemmas.List.{drop_at, length-append, length-map}
use Rattle.std.proofs.lemmas.Option.{slice_get_past}
use Rattle.looks.specs.declared.refusal.Refusal.TheVariants.{BadEvent}
use Rattle.texts.specs.declared.edit_refusal.EditRefusal.{EditRefusal}
use Rattle.texts.specs.declared.edit_refusal.EditRefusal.TheVariants.{Whole, Partial}
use Rattle.machine.specs.Events.{Event, Part, Reply, edit_reply, messages_of, refuses, sends, sent, unknown}
use Rattle.machine.specs.Events.{untouched}
use Rattle.machine.specs.Machine.{Replies, message_in}
use Rattle.machine.specs.State.{State}
use Rattle.machine_laws.proofs.Going.{replies_go}
use Rattle.shelved_texts.specs.Filing.{ShelfSeen}
use Rattle.commands.specs.Steps.{Counted, DeskSeen, answer_reply}
use Rattle.commands.specs.declared.answer.Answer.{Answer}
use Rattle.commands.specs.declared.answer.Answer.TheVariants.{Done, Forgot, Found, NotFound, Sent, Viewer}
use Rattle.script_events.specs.Script.{event_in}
use Rattle.script_sites.specs.Answers.{refused_line, reply_lines}
use Rattle.script_sites.specs.Replying.{reply_of}
use Rattle.script_sites.specs.declared.reply.Reply.{Reply as Answered}
use Rattle.script_sites.specs.Seen.{OverFiles, Replied, SitesSeen, Stepped, run_seen, sent_after, state_of}
use Rattle.script_sites.proofs.Before.{NamesNone, replied_after}
use Rattle.script_sites.proofs.Filing.{over_same, over_weaker}
use Rattle.script_sites.specs.Trace.{Answers, Run, Shelved, Step, is_silent}

-- the messages sent after those before are those that the reply tells
told_after_those : (s new : State) (e : Event) (part : Part) (r : Reply) → Replies s e part r new → drop (length s.sent) new.sent ≡ messages_of r
told_after_those s new e part r replies =
    let goes = replies_go s e part r new replies in
    ap (drop (length s.sent)) goes.2 ∙ drop_at s.sent (messages_of r) (length s.sent) refl

-- the reply to an edit is told by them
edit_told : (result : Result ℕ EditRefusal) (messages after : List (List ℕ)) → after ≡ messages_of (edit_reply result messages) → edit_reply result after ≡ edit_reply result messages
edit_told (Ok n) messages after is = ap (edit_reply (Ok n)) is
edit_told (Err (Whole why)) messages after is = refl
edit_told (Err (Partial count why)) messages after is = ap (edit_reply (Err (Partial count why))) is

-- and so is that to a command
answer_told : (result : Result Answer EditRefusal) (messages after : List (List ℕ)) → after ≡ messages_of (answer_reply result messages) → answer_reply result after ≡ answer_reply result messages
answer_told (Ok (Sent count)) messages after is = ap sends is
answer_told (Ok (Viewer number)) messages after is = refl
answer_told (Ok (Found at)) messages after is = refl
answer_told (Ok NotFound) messages after is = refl
answer_told (Ok (Forgot count)) messages after is = refl
answer_told (Ok Done) messages after is = refl
answer_told (Err why) messages after is = edit_told (Err why) messages after is

-- the lines of an edit's reply: of the messages that came after those before
abbrev pub change_lines : SitesSeen → Result ℕ EditRefusal → SitesSeen → List ℕ
change_lines s result new = reply_lines (length s.sent) (edit_reply result (drop (length s.sent) new.sent))

-- the step of an edit, whatever its messages are
pub change_step : (s new : SitesSeen) (e : Event) (result : Result ℕ EditRefusal) → (messages : List (List ℕ)) × Replied s e (edit_reply result messages) new
    → Stepped s e (change_lines s result new) new
change_step s new e result (messages, replied) = λ has.
    let reply = edit_reply result messages in
    let told = edit_told result messages (drop (length s.sent) new.sent) (told_after_those (state_of s has.files) (state_of new has.files) e untouched reply (replied has.files)) in
    (untouched, reply, ap (reply_lines (length s.sent)) told, replied has.files, refl)

-- the step of a command
pub answer_step : (s new : Run) (e : Event) (part : Part) (result : Result Answer EditRefusal) (messages : List (List ℕ)) → Replies s.state e part (answer_reply result messages) new.state
    → Counted part s.faults new.faults → Step s e (reply_lines (length s.state.sent) (answer_reply result (drop (length s.state.sent) new.state.sent))) new
answer_step s new e part result messages replies counted =
    let told = answer_told result messages (drop (length s.state.sent) new.state.sent) (told_after_those s.state new.state e part (answer_reply result messages) replies) in
    (part, answer_reply result messages, ap (reply_lines (length s.state.sent)) told, replies, counted)

-- the step of any other event
pub other_step : (s new : SitesSeen) (e : Event) (r : Reply) → Replied s e r new → Stepped s e (reply_lines (length s.sent) r) new
other_step s new e r replied = λ has. (untouched, r, refl, replied has.files, refl)

-- over files that stay
pub stepped_over : (told : ShelfSeen) (s new : SitesSeen) (e : Event) (answer : List ℕ) → Stepped s e answer new → OverFiles told told (λ was now. Step (run_seen s was) e answer (run_seen new now))
stepped_over told s new e answer stepped = over_same told (λ was now. Step (run_seen s was) e answer (run_seen new now)) stepped

-- an edit, where these messages were sent before
pub edited_over : (told : ShelfSeen) (before : List (List ℕ)) (s new : SitesSeen) (e : Event) (result : Result ℕ EditRefusal) → NamesNone e
    → (messages : List (List ℕ)) × Replied s e (edit_reply result messages) new
    → OverFiles told told (λ was now. Step (run_seen (sent_after before s) was) e (change_lines (sent_after before s) result (sent_after before new)) (run_seen (sent_after before new) now))
edited_over told before s new e result none (messages, replied) =
    let after : SitesSeen = sent_after before new in
    stepped_over told (sent_after before s) after e (change_lines (sent_after before s) result after)
    (change_step (sent_after before s) after e result (messages, replied_after before s new e (edit_reply result messages) none replied))

-- and any other event that names none of them
pub replied_over : (told : ShelfSeen) (before : List (List ℕ)) (s new : SitesSeen) (e : Event) (r : Reply) → NamesNone e → Replied s e r new
    → OverFiles told told (λ was now. Step (run_seen (sent_after before s) was) e (reply_lines (length (before ++ s.sent)) r) (run_seen (sent_after before new) now))
replied_over told before s new e r none replied =
    let after : SitesSeen = sent_after before new in
    stepped_over told (sent_after before s) after e (reply_lines (length (before ++ s.sent)) r)
    (other_step (sent_after before s) after e r (replied_after before s new e r none replied))

-- the lines of a reply, where so many were sent before: those of the messages after them
pub lines_after : (before : List (List ℕ)) (s new : SitesSeen) (n m : ℕ) → n ≡ length before → m ≡ length s.sent → (reply : Answered)
    → reply_lines (n + m) (reply_of reply (drop m new.sent)) ≡ reply_lines (length (before ++ s.sent)) (reply_of reply (drop (length (before ++ s.sent)) (before ++ new.sent)))
lines_after before s new n m all held reply =
    let number : n + m ≡ length (before ++ s.sent) = omega (arith, length-append before s.sent, all, held) in
    let place : length (before ++ s.sent) ≡ length before + m = omega (arith, length-append before s.sent, held) in
    let rest : drop m new.sent ≡ drop (length (before ++ s.sent)) (before ++ new.sent) =
    sym (ap (λ (i : ℕ). drop i (before ++ new.sent)) place ∙ drop-append-add before new.sent m) in
    λ k. reply_lines (number k) (reply_of reply (rest k))

-- the message of a number that was sent
pub message_sent : (s : State) (k : ℕ) (message : List ℕ) → 0 < k → slice_get s.sent (k - 1) ≡ Some message → message_in s (sent k) ≡ Some message
message_sent s zero message some read = absurd (omega arith)
message_sent s (suc k) message some read = let test : (suc k == 0) ≡ false = grind arith in rw test read

-- one that wasn't sent yet is none
pub no_message : (s : State) (k : ℕ) → (k ≡ 0) ⊎ (length s.sent < k) → message_in s (sent k) ≡ None
no_message s zero unsent = refl
no_message s (suc k) (inl none) = absurd (omega (arith, none))
no_message s (suc k) (inr past) =
    let test : (suc k == 0) ≡ false = grind arith in
    rw test (slice_get_past s.sent (suc k - 1) (omega (arith, past)))

-- what asks nothing that there is
pub unknown_step : (s : SitesSeen) → Stepped s (unknown) (refused_line BadEvent) s
unknown_step s = other_step s s unknown (refuses BadEvent) (λ files. inl (refl, (refl, refl)))

-- a line that isn't silent is answered by a step
pub line_step : (s : SitesSeen) (was : Shelved) (new : Run) (line answer : List ℕ) → is_silent line ≡ false → Step (run_seen s was) (event_in s.first (length s.desks) line) answer new
    → Answers (run_seen s was) line answer new
line_step s was new line answer heard step =
    let count : length s.desks ≡ length (map (λ (d : DeskSeen). d.texts) s.desks) = sym (length-map s.desks (λ (d : DeskSeen). d.texts)) in
    rw heard (subst (λ (n : ℕ). Step (run_seen s was) (event_in s.first n line) answer new) count step)

-- over the files that a shelf tells
pub line_over : (told told' : ShelfSeen) (s new : SitesSeen) (line answer : List ℕ) (e : Event) → is_silent line ≡ false → e ≡ event_in s.first (length s.desks) line
    → OverFiles told told' (λ was now. Step (run_seen s was) e answer (run_seen new now)) → OverFiles told told' (λ was now. Answers (run_seen s was) line answer (run_seen new now))
line_over told told' s new line answer e heard asked stepped =
    over_weaker told told' (λ was now. Step (run_seen s was) e answer (run_seen new now)) (λ was now. Answers (run_seen s was) line answer (run_seen new now))
    (λ was now step. line_step s was (run_seen new now) line answer heard (subst (λ (x : Event). Step (run_seen s was) x answer (run_seen new now)) asked step)) stepped

-- and one that is, by nothing
pub silent_over : (told : ShelfSeen) (s : SitesSeen) (line : List ℕ) → is_silent line ≡ true → OverFiles told told (λ was now. Answers (run_seen s was) line [] (run_seen s now))
silent_over told s line silent = over_same told (λ was now. Answers (run_seen s was) line [] (run_seen s now)) (λ has. rw silent (refl, refl))
