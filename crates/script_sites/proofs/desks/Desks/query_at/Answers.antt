use Rattle.std.proofs.Common.{◌≡◌, ◌++◌, List, ap, ◌∙◌}
use Rattle.texts.specs.declared.front.Front.{Front}
use Rattle.machine.specs.Events.{query}
use Rattle.machine.specs.declared.asked.Query.TheVariants.{Pack, Past, Since}
use Rattle.commands.specs.Steps.{print_reply}
use Rattle.script_events.specs.Script.{query_at}
use Rattle.script_sites.specs.Seen.{SitesSeen}
use Rattle.script_sites.proofs.Standing.{desk_read, replied_same}
use Rattle.script_sites.proofs.desks.Desks.query_at.Goals as goal
use Rattle.script_sites.proofs.desks.Desks.query_at.Goals.{in-Beyond, in-Packed, in-UpTo}

pub returns : goal.returns
returns c =
    let s : SitesSeen = record { first = c.self.inside.first; desks = c.self.inside.desks.items; sent = c.self.inside.outbox } in
    let in_run = rw (← c.self.view_is) at c.requires.in_run in
    let at = desk_read s c.args.desk c.index.result.now in_run c.index.ensures in
    let fronts = c.args.fronts.now in
    let decoded : c.new-fronts.result ≡ fronts =
    c.new-fronts.ensures ∙ c.deref.ensures.value ∙ c.decode.ensures.fronts ∙ ap (λ (before : List Front). before ++ fronts) c.clear.ensures.items in
    let asked : c.match-side.asked ≡ query_at c.args.side fronts = elim c.match-side.branch [
      | in-Beyond w ↦ rw w.in-Beyond.is (w.asked-is ∙ ap Since decoded)
      | in-UpTo w ↦ rw w.in-UpTo.is (w.asked-is ∙ ap Past decoded)
      | in-Packed w ↦ rw w.in-Packed.is (w.asked-is ∙ ap Pack decoded)
    ] in
    let step = rw asked at c.query.ensures.step in
    rw (← c.self.view_is)
    (replied_same s c.args.desk c.index.result.now at (λ i. query i c.args.text (query_at c.args.side fronts))
    (print_reply c.query.result (λ lines. lines.items)) step)
