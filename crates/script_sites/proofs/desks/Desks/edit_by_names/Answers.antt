use Rattle.std.proofs.Common.{◌≡◌, ◌++◌, List, ap, ◌∙◌}
use Rattle.operations.specs.NameSet.{Range}
use Rattle.machine.specs.Events.{edit_by_names}
use Rattle.script_sites.specs.Seen.{SitesSeen}
use Rattle.script_sites.proofs.Standing.{desk_read, replied_edit}
use Rattle.script_sites.proofs.desks.Desks.edit_by_names.Goals as goal

pub returns : goal.returns
returns c =
    let s : SitesSeen = record { first = c.self.inside.first; desks = c.self.inside.desks.items; sent = c.self.inside.outbox } in
    let in_run = rw (← c.self.view_is) at c.requires.in_run in
    let at = desk_read s c.args.desk c.index_mut.result.now in_run c.index_mut.ensures.value in
    let decoded : c.deref.result.now ≡ c.args.names.now = c.deref.ensures.value ∙ c.decode.ensures.names ∙ ap (λ (before : List Range). before ++ c.args.names.now) c.clear.ensures.items in
    let edited = rw decoded at c.edit_by_names.ensures in
    rw (← c.self.view_is) (replied_edit s c.args.desk c.index_mut.result.now at (λ i. (edit_by_names i c.args.text c.args.what c.args.names.now)) c.edit_by_names.result c.edit_by_names.new.self c.edit_by_names.new.outbox edited)
