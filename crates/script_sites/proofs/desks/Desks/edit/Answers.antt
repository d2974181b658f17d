use Rattle.texts.specs.Edit.{deletion, looks_change, recalling, restoration}
use Rattle.machine.specs.Events.{edit}
use Rattle.script_sites.specs.Seen.{SitesSeen}
use Rattle.script_sites.proofs.Standing.{desk_read, replied_edit}
use Rattle.script_sites.proofs.desks.Desks.edit.Goals as goal

pub returns-in-TypeIn : goal.returns-in-TypeIn
returns-in-TypeIn c = rw c.in-TypeIn.is c.type_in.ensures

pub returns-in-Cut : goal.returns-in-Cut
returns-in-Cut c =
    let s : SitesSeen = record { first = c.self.inside.first; desks = c.self.inside.desks.items; sent = c.self.inside.outbox } in
    let in_run = rw (← c.self.view_is) at c.requires.in_run in
    let at = desk_read s c.args.desk c.index_mut.result.now in_run c.index_mut.ensures.value in
    rw (← c.self.view_is, c.in-Cut.is) (replied_edit s c.args.desk c.index_mut.result.now at (λ i. (edit i c.args.text (deletion c.in-Cut.beg c.in-Cut.end))) c.cut.result c.cut.new.self c.cut.new.outbox c.cut.ensures)

pub returns-in-Looks : goal.returns-in-Looks
returns-in-Looks c =
    let s : SitesSeen = record { first = c.self-in-Looks.inside.first; desks = c.self-in-Looks.inside.desks.items; sent = c.self-in-Looks.inside.outbox } in
    let in_run = rw (← c.self-in-Looks.view_is) at c.requires.in_run in
    let at = desk_read s c.args.desk c.index_mut-in-Looks.result.now in_run c.index_mut-in-Looks.ensures.value in
    rw (← c.self-in-Looks.view_is, c.in-Looks.is) (replied_edit s c.args.desk c.index_mut-in-Looks.result.now at (λ i. (edit i c.args.text (looks_change c.in-Looks.beg c.in-Looks.end c.in-Looks.sel c.in-Looks.looks))) c.looks.result c.looks.new.self c.looks.new.outbox c.looks.ensures)

pub returns-in-Recall : goal.returns-in-Recall
returns-in-Recall c =
    let s : SitesSeen = record { first = c.self-in-Recall.inside.first; desks = c.self-in-Recall.inside.desks.items; sent = c.self-in-Recall.inside.outbox } in
    let in_run = rw (← c.self-in-Recall.view_is) at c.requires.in_run in
    let at = desk_read s c.args.desk c.index_mut-in-Recall.result.now in_run c.index_mut-in-Recall.ensures.value in
    rw (← c.self-in-Recall.view_is, c.in-Recall.is) (replied_edit s c.args.desk c.index_mut-in-Recall.result.now at (λ i. (edit i c.args.text (recalling c.in-Recall.pos))) c.recall.result c.recall.new.self c.recall.new.outbox c.recall.ensures)

pub returns-in-Restore : goal.returns-in-Restore
returns-in-Restore c =
    let s : SitesSeen = record { first = c.self-in-Restore.inside.first; desks = c.self-in-Restore.inside.desks.items; sent = c.self-in-Restore.inside.outbox } in
    let in_run = rw (← c.self-in-Restore.view_is) at c.requires.in_run in
    let at = desk_read s c.args.desk c.index_mut-in-Restore.result.now in_run c.index_mut-in-Restore.ensures.value in
    rw (← c.self-in-Restore.view_is, c.in-Restore.is) (replied_edit s c.args.desk c.index_mut-in-Restore.result.now at (λ i. (edit i c.args.text (restoration))) c.restore.result c.restore.new.self c.restore.new.outbox c.restore.ensures)
