use Rattle.machine.specs.Events.{copy}
use Rattle.script_sites.specs.Seen.{SitesSeen}
use Rattle.script_sites.proofs.Standing.{desk_read, replied_edit}
use Rattle.script_sites.proofs.desks.Desks.save.Goals as goal

pub returns : goal.returns
returns c =
    let s : SitesSeen = record { first = c.self.inside.first; desks = c.self.inside.desks.items; sent = c.self.inside.outbox } in
    let in_run = rw (← c.self.view_is) at c.requires.in_run in
    let at = desk_read s c.args.desk c.index_mut.result.now in_run c.index_mut.ensures.value in
    let asked = c.args.asked in
    rw (← c.self.view_is) (replied_edit s c.args.desk c.index_mut.result.now at (λ i. (copy i c.args.text asked.beg asked.end asked.other asked.pos)) c.save.result c.save.new.self c.save.new.outbox c.save.ensures)
