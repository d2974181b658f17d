use Rattle.machine.specs.Events.{settle, settles}
use Rattle.script_sites.specs.Seen.{SitesSeen}
use Rattle.script_sites.proofs.Standing.{desk_read, replied}
use Rattle.script_sites.proofs.desks.Desks.settle.Goals as goal

pub returns : goal.returns
returns c =
    let s : SitesSeen = record { first = c.self.inside.first; desks = c.self.inside.desks.items; sent = c.self.inside.outbox } in
    let in_run = rw (← c.self.view_is) at c.requires.in_run in
    let at = desk_read s c.args.desk c.index_mut.result.now in_run c.index_mut.ensures.value in
    let settled = c.settle.result in
    rw (← c.self.view_is) (replied s c.args.desk c.index_mut.result.now at (λ i. (settle i c.args.text)) ((settles settled.drained settled.dropped settled.stopped)) c.settle.new.self c.settle.ensures)
