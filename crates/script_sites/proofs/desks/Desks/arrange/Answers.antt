use Rattle.machine.specs.Events.{arrange, ask}
use Rattle.machine.specs.declared.asked.Arrangement.TheVariants.{Close, Move, Open, Point, Scroll, Select}
use Rattle.commands.specs.Steps.{done_reply, open_reply}
use Rattle.script_sites.specs.Seen.{SitesSeen}
use Rattle.script_sites.proofs.Standing.{desk_read, replied}
use Rattle.script_sites.proofs.desks.Desks.arrange.Goals as goal

pub returns-in-Open : goal.returns-in-Open
returns-in-Open c =
    let s : SitesSeen = record { first = c.self.inside.first; desks = c.self.inside.desks.items; sent = c.self.inside.outbox } in
    let in_run = rw (← c.self.view_is) at c.requires.in_run in
    let at = desk_read s c.args.desk c.index_mut.result.now in_run c.index_mut.ensures.value in
    rw (c.in-Open.is, ← c.self.view_is)
    (λ messages. replied s c.args.desk c.index_mut.result.now at (λ i. ask i (arrange (Open c.in-Open.track c.in-Open.text c.in-Open.row))) (open_reply c.open.result) c.open.new.self c.open.ensures)

pub returns-in-Close : goal.returns-in-Close
returns-in-Close c =
    let s : SitesSeen = record { first = c.self.inside.first; desks = c.self.inside.desks.items; sent = c.self.inside.outbox } in
    let in_run = rw (← c.self.view_is) at c.requires.in_run in
    let at = desk_read s c.args.desk c.index_mut-in-Close.result.now in_run c.index_mut-in-Close.ensures.value in
    rw (← c.self.view_is, c.in-Close.is)
    (λ messages. replied s c.args.desk c.index_mut-in-Close.result.now at (λ i. ask i (arrange (Close c.in-Close.viewer))) (done_reply c.close.result) c.close.new.self c.close.ensures)

pub returns-in-Move : goal.returns-in-Move
returns-in-Move c =
    let s : SitesSeen = record { first = c.self.inside.first; desks = c.self.inside.desks.items; sent = c.self.inside.outbox } in
    let in_run = rw (← c.self.view_is) at c.requires.in_run in
    let at = desk_read s c.args.desk c.index_mut-in-Move.result.now in_run c.index_mut-in-Move.ensures.value in
    rw (← c.self.view_is, c.in-Move.is)
    (λ messages. replied s c.args.desk c.index_mut-in-Move.result.now at (λ i. ask i (arrange (Move c.in-Move.viewer c.in-Move.row))) (done_reply c.move_top.result) c.move_top.new.self c.move_top.ensures)

pub returns-in-Scroll : goal.returns-in-Scroll
returns-in-Scroll c =
    let s : SitesSeen = record { first = c.self.inside.first; desks = c.self.inside.desks.items; sent = c.self.inside.outbox } in
    let in_run = rw (← c.self.view_is) at c.requires.in_run in
    let at = desk_read s c.args.desk c.index_mut-in-Scroll.result.now in_run c.index_mut-in-Scroll.ensures.value in
    rw (← c.self.view_is, c.in-Scroll.is)
    (λ messages. replied s c.args.desk c.index_mut-in-Scroll.result.now at (λ i. ask i (arrange (Scroll c.in-Scroll.viewer c.in-Scroll.line))) (done_reply c.scroll.result) c.scroll.new.self c.scroll.ensures)

pub returns-in-Point : goal.returns-in-Point
returns-in-Point c =
    let s : SitesSeen = record { first = c.self.inside.first; desks = c.self.inside.desks.items; sent = c.self.inside.outbox } in
    let in_run = rw (← c.self.view_is) at c.requires.in_run in
    let at = desk_read s c.args.desk c.index_mut-in-Point.result.now in_run c.index_mut-in-Point.ensures.value in
    rw (← c.self.view_is, c.in-Point.is)
    (λ messages. replied s c.args.desk c.index_mut-in-Point.result.now at (λ i. ask i (arrange (Point c.in-Point.cell))) (done_reply c.point.result) c.point.new.self c.point.ensures)

pub returns-in-Select : goal.returns-in-Select
returns-in-Select c =
    let s : SitesSeen = record { first = c.self.inside.first; desks = c.self.inside.desks.items; sent = c.self.inside.outbox } in
    let in_run = rw (← c.self.view_is) at c.requires.in_run in
    let at = desk_read s c.args.desk c.index_mut-in-Select.result.now in_run c.index_mut-in-Select.ensures.value in
    rw (← c.self.view_is, c.in-Select.is)
    (λ messages. replied s c.args.desk c.index_mut-in-Select.result.now at (λ i. ask i (arrange (Select c.in-Select.beg c.in-Select.end))) (done_reply c.select.result) c.select.new.self c.select.ensures)
