use Rattle.std.proofs.Common.{◌≡◌, [], false, length, sym, ap, ◌∙◌, arith}
use Rattle.std.proofs.KnownBytes.{Appends-nil}
use Rattle.std.proofs.lemmas.List.{length-map}
use Rattle.looks.specs.declared.refusal.Refusal.TheVariants.{BadEvent}
use Rattle.machine.specs.Events.{unknown}
use Rattle.shelved_texts.specs.Filing.{shelf_seen}
use Rattle.script_events.specs.EventView.{event_of}
use Rattle.script_events.specs.Script.{event_in}
use Rattle.script_sites.specs.Answers.{refused_line}
use Rattle.script_sites.specs.Seen.{SitesSeen, sent_after, texts_of}
use Rattle.script_sites.specs.Sent.{messages_at, sent_message}
use Rattle.script_sites.specs.Trace.{is_silent}
use Rattle.script_sites.proofs.Replying.{line_over, lines_after, silent_over, stepped_over, unknown_step}
use Rattle.script_sites.proofs.desks.Desks.answer.Goals as goal

pub returns-in-Some : goal.returns-in-Some
returns-in-Some g c =
    let s = c.args.self.now in
    let new = c.step-reply.new.self in
    let line = c.args.line.now in
    let heard : is_silent line ≡ false = sym c.is_silent.ensures ∙ c.if-is_silent.false in
    let first : c.self.inside.first ≡ s.first = ap (λ (x : SitesSeen). x.first) c.self.view_is in
    let count : c.len.result ≡ length s.desks = omega (arith, c.len.ensures, c.self.inside.desks.ok, ap (λ (x : SitesSeen). length x.desks) c.self.view_is) in
    let asked : event_of c.in-Some.event ≡ event_in s.first (length s.desks) line = rw (first, count) at c.in-Some.ensures.event in
    let before = messages_at (texts_of s) c.args.noted.now in
    let all : length c.args.noted.now ≡ length before = sym (length-map c.args.noted.now (sent_message (texts_of s))) in
    let held : c.len-from.result ≡ length s.sent = c.len-from.ensures ∙ ap (λ (x : SitesSeen). length x.sent) c.self.view_is in
    let after : c.self-in-Some.inside.outbox ≡ new.sent = ap (λ (x : SitesSeen). x.sent) c.self-in-Some.view_is in
    let lines = lines_after before s new (length c.args.noted.now) c.len-from.result all held c.step-reply.result in
    let written = rw (after, lines) at c.put_reply.ensures in (
      _,
      written,
      line_over (shelf_seen (g.S.Shelf.files c.args.shelf.now) (g.S.Shelf.faults c.args.shelf.now)) (shelf_seen (g.S.Shelf.files c.step-reply.new.shelf) (g.S.Shelf.faults c.step-reply.new.shelf))
          (sent_after before s) (sent_after before new) line _ (event_of c.in-Some.event) heard asked c.step-reply.ensures,
    )

pub returns-in-None : goal.returns-in-None
returns-in-None g c =
    let s = c.args.self.now in
    let line = c.args.line.now in
    let heard : is_silent line ≡ false = sym c.is_silent.ensures ∙ c.if-is_silent.false in
    let first : c.self.inside.first ≡ s.first = ap (λ (x : SitesSeen). x.first) c.self.view_is in
    let count : c.len.result ≡ length s.desks = omega (arith, c.len.ensures, c.self.inside.desks.ok, ap (λ (x : SitesSeen). length x.desks) c.self.view_is) in
    let asked : unknown ≡ event_in s.first (length s.desks) line = rw (first, count) at c.in-None.ensures.event in
    let told = (shelf_seen (g.S.Shelf.files c.args.shelf.now) (g.S.Shelf.faults c.args.shelf.now)) in
    let all : SitesSeen = sent_after (messages_at (texts_of s) c.args.noted.now) s in
    (refused_line BadEvent, c.put_refused.ensures, line_over told told all all line (refused_line BadEvent) (unknown) heard asked (stepped_over told all all (unknown) (refused_line BadEvent) (unknown_step all)))

pub returns-then-is_silent : goal.returns-then-is_silent
returns-then-is_silent g c =
    let s = c.args.self.now in
    let all : SitesSeen = sent_after (messages_at (texts_of s) c.args.noted.now) s in
    let silent = sym c.is_silent.ensures ∙ c.if-is_silent.true in
    ([], Appends-nil c.args.output.now.contents, silent_over (shelf_seen (g.S.Shelf.files c.args.shelf.now) (g.S.Shelf.faults c.args.shelf.now)) all c.args.line.now silent)
