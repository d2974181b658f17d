-- Messages that a run sent, where they are handed in.
use Rattle.std.proofs.Common.{◌≡◌, ℕ, zero, suc, ◌+◌, ◌-◌, ◌<◌, ◌≤◌, ◌⊎◌, List, [], ◌∷◌, ◌++◌, length, get_or, Result, Ok, Err, Some, refl, sym, ap, subst, ◌∙◌, inl, inr, arith}
use Rattle.std.proofs.Common.{append-nil}
use Rattle.std.specs.Prelude.{IfOk, IsErrAnd, take, option_map, slice_get, slice_set}
use Rattle.std.specs.Result.{result_ok}
use Rattle.std.proofs.lemmas.List.{length-append, map-append, take_more}
use Rattle.std.proofs.lemmas.List.Elements.{All-append}
use Rattle.std.proofs.lemmas.Option.{get_or_from_slice_get, same_Some, slice_get-map, slice_get_within}
use Rattle.looks.specs.declared.refusal.Refusal.{Refusal}
use Rattle.looks.specs.declared.refusal.Refusal.TheVariants.{OutOfMemory}
use Rattle.operations.specs.Operation.{Operation}
use Rattle.operations.specs.Reading.{SpellsNone}
use Rattle.shelf.specs.Files.{Files}
use Rattle.texts.specs.Text.{IsText}
use Rattle.texts.specs.TextState.{TextState, noting}
use Rattle.texts.specs.declared.took.Took.{Took}
use Rattle.machine.specs.SiteTexts.{SiteTexts, IsTextOf}
use Rattle.machine.specs.Events.{Delivery, refuses, sent, take as takes, untouched}
use Rattle.machine.specs.Machine.{Replies, message_in}
use Rattle.machine.specs.State.{State}
use Rattle.machine.specs.declared.TheConstants.{MAX_TEXT}
use Rattle.machine_laws.proofs.Telling.{put_back, told_same}
use Rattle.commands.specs.Steps.{DeskSeen}
use Rattle.script_sites.specs.Seen.{SitesSeen, TakesMessage, sent_after, state_of, texts_of}
use Rattle.script_sites.specs.Sent.{AreSentOperations, IsOperationAt, IsSentOperation, IsToldAt, messages_at, sent_message}
use Rattle.script_sites.specs.declared.sent_at.SentAt.{SentAt}
use Rattle.script_sites.proofs.Keeping.{get_left, told_at}
use Rattle.script_sites.proofs.Replying.{message_sent}
use Rattle.script_sites.proofs.Standing.{stands}

-- what stands at a place of a list
some_at : {X : Type 0} (xs : List X) (i : ℕ) → i < length xs → (x : X) × (slice_get xs i ≡ Some x)
some_at [] i within = absurd (omega (arith, within))
some_at (x ∷ xs) zero within = (x, refl)
some_at (x ∷ xs) (suc i) within = some_at xs i (omega (arith, within))

-- what stands in the second part
get_right : {X : Type 0} (xs ys : List X) (i : ℕ) → slice_get (xs ++ ys) (length xs + i) ≡ slice_get ys i
get_right [] ys i = let e : 0 + i ≡ i = omega arith in ap (slice_get ys) e
get_right (x ∷ xs) ys i =
    let e : length (x ∷ xs) + i ≡ suc (length xs + i) = omega arith in
    ap (slice_get (x ∷ (xs ++ ys))) e ∙ get_right xs ys i

-- the texts of a desk
pub desk_texts_at : (s : SitesSeen) (i : ℕ) (d : DeskSeen) → slice_get s.desks i ≡ Some d → slice_get (texts_of s) i ≡ Some d.texts
desk_texts_at s i d at = slice_get-map (λ (x : DeskSeen). x.texts) s.desks i ∙ ap (option_map (λ (x : DeskSeen). x.texts)) at

-- an operation stands at each place of a text
pub stands_there : (s : SitesSeen) (at : SentAt) (d : DeskSeen) (t : TextState) → slice_get s.desks at.desk ≡ Some d → IsTextOf d.texts at.text t
    → at.text ≤ MAX_TEXT → at.place < length t.operations → (op : Operation) × IsOperationAt (texts_of s) at op
stands_there s at d t in_run of_desk on_desk within =
    let (op, taken) = some_at t.operations at.place within in (
      op,
      record { on_desk = on_desk; desk = d.texts; in_run = desk_texts_at s at.desk d in_run; text = t; of_desk = of_desk; taken = taken },
    )

-- what holds of an `Ok` holds of the value that is taken out of it
pub of_ok : {X E : Type 0} (r : Result X E) (P : X → Type 0) (x : X) → Some x ≡ result_ok r → IfOk r P → P x
of_ok (Ok y) P x is holds = subst P (sym (same_Some x y is)) holds
of_ok (Err e) P x is holds = absurd cc

-- one message more is noted
pub note_more : (desks : List SiteTexts) (messages : List (List ℕ)) (index : ℕ) (message : List ℕ) (noted : List SentAt) (at : SentAt)
    → slice_get messages index ≡ Some message → messages_at desks noted ≡ take index messages → IsToldAt desks message at
    → messages_at desks (noted ++ at ∷ []) ≡ take (index + 1) messages
note_more desks messages index message noted at there all (op, stands_at, valid, spelled) =
    let here : sent_message desks at ≡ get_or messages index message =
    told_at desks at op stands_at ∙ sym spelled ∙ sym (get_or_from_slice_get messages index message message there) in
    map-append (sent_message desks) noted (at ∷ []) ∙ (λ k. all k ++ here k ∷ [])
    ∙ sym (take_more messages index message (slice_get_within messages index message there))

-- all messages are
pub all_noted : (desks : List SiteTexts) (was : List SentAt) (more : List SentAt) → AreSentOperations desks was → AreSentOperations desks more → AreSentOperations desks (was ++ more)
all_noted desks was more held held_more = All-append (IsSentOperation desks) was more held held_more

-- a message that is named by its number, and whose operation can't be read, for want of memory
short_state : (s : State) (i text : ℕ) (d : SiteTexts) (t : TextState) (told : Delivery) (message : List ℕ) → slice_get s.desks i ≡ Some d → IsTextOf d text t
    → t.asked ≡ noting (length t.operations) → message_in s told ≡ Some message → (SpellsNone message → ⊥)
    → Replies s (takes i text told) untouched (refuses OutOfMemory) s
short_state s i text d t told message at_i is_t asked is spells =
    let texts : d ≡ record d { texts = slice_set d.texts (text - 1) t } = rw (put_back d.texts (text - 1) t is_t) refl in
    let all : s ≡ record s { desks = slice_set s.desks i d; sent = s.sent ++ [] } = rw (put_back s.desks i d at_i, append-nil s.sent) refl in
    inr (refl, (message, is, (d, d, at_i, (t, t, is_t, (t, (Err OutOfMemory, inl (spells, (refl, refl)), refl), sym (told_same t asked)), texts), all)))

pub refused_noted : (s : SitesSeen) (i text : ℕ) (d : DeskSeen) (at : SentAt) (r : Result Took Refusal) (why : Refusal) → slice_get s.desks i ≡ Some d
    → ((t : TextState) × IsTextOf d.texts text t × IsText t × (t.asked ≡ noting (length t.operations))) → IsSentOperation (texts_of s) at → why ≡ OutOfMemory
    → IsErrAnd r (λ e. e ≡ why) → TakesMessage s i text (sent_message (texts_of s) at) r s
refused_noted s i text d at (Ok took) why at_i has held short e = absurd e
refused_noted s i text d at (Err e) why at_i (t, there, is_t, asked) (op, stands_at, valid) short is =
    subst (λ (w : Refusal). TakesMessage s i text (sent_message (texts_of s) at) (Err w) s) (sym (is ∙ short))
    (λ before told in_run files. short_state (state_of (sent_after before s) files) i text d.texts t told (sent_message (texts_of s) at)
    (stands (sent_after before s) files i d at_i).texts there asked (in_run files) (λ none. none op valid (told_at (texts_of s) at op stands_at)))

-- the message of a number among those that were noted
pub noted_sent : (s : SitesSeen) (noted : List SentAt) (k : ℕ) (at : SentAt) (files : Files) → 0 < k → slice_get noted (k - 1) ≡ Some at
    → message_in (state_of (sent_after (messages_at (texts_of s) noted) s) files) (sent k) ≡ Some (sent_message (texts_of s) at)
noted_sent s noted k at files some there =
    let first : slice_get (messages_at (texts_of s) noted) (k - 1) ≡ Some (sent_message (texts_of s) at) =
    slice_get-map (sent_message (texts_of s)) noted (k - 1) ∙ ap (option_map (sent_message (texts_of s))) there in
    message_sent (state_of (sent_after (messages_at (texts_of s) noted) s) files) k (sent_message (texts_of s) at) some
    (get_left (messages_at (texts_of s) noted) s.sent (k - 1) (sent_message (texts_of s) at) first)

-- and among those that were sent after these
pub held_sent : (s : SitesSeen) (before : List (List ℕ)) (index : ℕ) (message : List ℕ) (files : Files) → slice_get s.sent index ≡ Some message
    → message_in (state_of (sent_after before s) files) (sent (length before + index + 1)) ≡ Some message
held_sent s before index message files there =
    let place : length before + index + 1 - 1 ≡ length before + index = omega arith in
    message_sent (state_of (sent_after before s) files) (length before + index + 1) message (omega arith)
    (ap (slice_get (before ++ s.sent)) place ∙ get_right before s.sent index ∙ there)

-- those past them weren't sent
pub past_sent : (s : SitesSeen) (before : List (List ℕ)) (index : ℕ) → length s.sent ≤ index
    → (length before + index + 1 ≡ 0) ⊎ (length (before ++ s.sent) < length before + index + 1)
past_sent s before index past = inr (omega (arith, length-append before s.sent, past))
