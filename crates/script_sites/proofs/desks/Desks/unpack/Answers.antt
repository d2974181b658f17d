use Rattle.std.proofs.Common.{◌≡◌, ℕ, ◌++◌, List, ap, ◌∙◌}
use Rattle.machine.specs.Events.{unpack, unpack_reply}
use Rattle.script_sites.specs.Seen.{SitesSeen}
use Rattle.script_sites.proofs.Standing.{desk_read, replied}
use Rattle.script_sites.proofs.desks.Desks.unpack.Goals as goal

pub returns : goal.returns
returns c =
    let s : SitesSeen = record { first = c.self.inside.first; desks = c.self.inside.desks.items; sent = c.self.inside.outbox } in
    let in_run = rw (← c.self.view_is) at c.requires.in_run in
    let at = desk_read s c.args.desk c.index_mut.result.now in_run c.index_mut.ensures.value in
    let decoded : c.deref.result.now ≡ c.args.chunk.now = c.deref.ensures.value ∙ c.decode.ensures.bytes ∙ ap (λ (before : List ℕ). before ++ c.args.chunk.now) c.clear.ensures.items in
    let unpacked = rw decoded at c.unpack.ensures in
    rw (← c.self.view_is) (replied s c.args.desk c.index_mut.result.now at (λ i. (unpack i c.args.text c.args.chunk.now)) (unpack_reply c.unpack.result) c.unpack.new.self unpacked)
