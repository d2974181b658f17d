use Rattle.std.proofs.Common.{◌+◌, ◌≤◌, length, arith}
use Rattle.machine.specs.Events.{sent}
use Rattle.script_sites.specs.Seen.{SitesSeen, sent_after}
use Rattle.script_sites.proofs.Sending.{held_sent, past_sent}
use Rattle.script_sites.proofs.Standing.{desk_read, replied_take, unsent_still}
use Rattle.script_sites.proofs.desks.Desks.take_held.Goals as goal

pub returns : goal.returns
returns c =
    let s : SitesSeen = record { first = c.self.inside.first; desks = c.self.inside.desks.items; sent = c.self.inside.outbox } in
    let message = c.message-message.result.now in
    let in_run = rw (← c.self.view_is) at c.requires.in_run in
    let at = desk_read s c.args.desk c.index_mut.result.now in_run c.index_mut.ensures.value in
    rw (← c.self.view_is)
    (λ before. replied_take (sent_after before s) c.args.desk c.index_mut.result.now at c.args.text (sent (length before + c.args.index + 1)) message c.take.result c.take.new.self
    (λ files. held_sent s before c.args.index message files c.message-message.ensures) c.take.ensures)

pub returns-then-len-index : goal.returns-then-len-index
returns-then-len-index c =
    let s : SitesSeen = record { first = c.self.inside.first; desks = c.self.inside.desks.items; sent = c.self.inside.outbox } in
    let past : length s.sent ≤ c.args.index = omega (arith, c.len.ensures, c.if-len-index.true) in
    rw (← c.self.view_is)
    (λ before. unsent_still (sent_after before s) c.args.desk c.args.text (length before + c.args.index + 1) (past_sent s before c.args.index past))
