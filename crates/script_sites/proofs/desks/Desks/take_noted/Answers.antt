use Rattle.std.proofs.Common.{List, ℕ, subst, sym}
use Rattle.commands.specs.Steps.{IsTakeStep}
use Rattle.script_sites.specs.Seen.{SitesSeen, sent_after, texts_of}
use Rattle.script_sites.specs.Sent.{sent_message}
use Rattle.script_sites.proofs.Keeping.{told_at}
use Rattle.script_sites.proofs.Sending.{refused_noted}
use Rattle.script_sites.proofs.Standing.{desk_read, replied_take}
use Rattle.script_sites.proofs.desks.Desks.take_noted.Goals as goal

pub returns-in_err-op : goal.returns-in_err-op
returns-in_err-op c =
    let s : SitesSeen = record { first = c.self.inside.first; desks = c.self.inside.desks.items; sent = c.self.inside.outbox } in
    let in_run = rw (← c.self.view_is) at c.requires.in_run in
    let held = rw (← c.self.view_is) at c.requires.held in
    let d = c.index.result.now in
    let at = desk_read s c.args.desk d in_run c.index.ensures in
    rw (← c.self.view_is)
    (refused_noted s c.args.desk c.args.text d c.args.at.now c.from_residual.result c.in_err-op.field-0.0 at c.lemma_has_text.ensures held c.in_err-op.ensures.errors c.from_residual.ensures.1)

pub returns : goal.returns
returns c =
    let s : SitesSeen = record { first = c.self.inside.first; desks = c.self.inside.desks.items; sent = c.self.inside.outbox } in
    let in_run = rw (← c.self.view_is) at c.requires.in_run in
    let d = c.index_mut.result.now in
    let at = desk_read s c.args.desk d in_run c.index_mut.ensures.value in
    let stands = rw (← c.self.view_is) at c.in_ok-op.ensures.ok in
    let taken = subst (λ (message : List ℕ). IsTakeStep d c.args.text message c.take_op.result c.take_op.new.self) (sym (told_at (texts_of s) c.args.at.now c.in_ok-op.op stands)) c.take_op.ensures in
    rw (← c.self.view_is)
    (λ before told is. replied_take (sent_after before s) c.args.desk d at c.args.text told (sent_message (texts_of s) c.args.at.now) c.take_op.result c.take_op.new.self is taken)
