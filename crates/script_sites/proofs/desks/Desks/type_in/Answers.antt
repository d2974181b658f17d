use Rattle.std.proofs.Common.{◌≡◌, ◌≤◌, ◌++◌, ℕ, List, length, ap, ◌∙◌, arith}
use Rattle.char_files.specs.declared.TheConstants.{MAX_FILE}
use Rattle.machine.specs.Events.{edit}
use Rattle.script_events.specs.Script.{typing}
use Rattle.script_sites.specs.Seen.{SitesSeen}
use Rattle.script_sites.proofs.Standing.{desk_read, replied_edit}
use Rattle.script_sites.proofs.desks.Desks.type_in.Goals as goal

pub returns-in-Some : goal.returns-in-Some
returns-in-Some c =
    let s : SitesSeen = record { first = c.self.inside.first; desks = c.self.inside.desks.items; sent = c.self.inside.outbox } in
    let in_run = rw (← c.self.view_is) at c.requires.in_run in
    let at = desk_read s c.args.desk c.index_mut.result.now in_run c.index_mut.ensures.value in
    let plain = rw c.in-Some.is at c.as_plain.ensures in
    let few : length c.args.bytes.now ≤ MAX_FILE = omega (arith, c.requires.short) in
    let edited = rw plain at c.type_in.ensures.step in
    rw (← c.self.view_is) (replied_edit s c.args.desk c.index_mut.result.now at (λ i. (edit i c.args.text (typing c.args.pos c.args.bytes.now))) c.type_in.result c.type_in.new.self c.type_in.new.outbox (edited few))

pub returns-in-None : goal.returns-in-None
returns-in-None c =
    let s : SitesSeen = record { first = c.self.inside.first; desks = c.self.inside.desks.items; sent = c.self.inside.outbox } in
    let in_run = rw (← c.self.view_is) at c.requires.in_run in
    let at = desk_read s c.args.desk c.index_mut-in-None.result.now in_run c.index_mut-in-None.ensures.value in
    let decoded : c.deref.result.now ≡ c.args.bytes.now = c.deref.ensures.value ∙ c.decode.ensures.bytes ∙ ap (λ (front : List ℕ). front ++ c.args.bytes.now) c.clear.ensures.items in
    let few : length c.args.bytes.now ≤ MAX_FILE = omega (arith, c.requires.short) in
    let edited = rw decoded at c.type_in-in-None.ensures.step in
    rw (← c.self.view_is) (replied_edit s c.args.desk c.index_mut-in-None.result.now at (λ i. (edit i c.args.text (typing c.args.pos c.args.bytes.now))) c.type_in-in-None.result c.type_in-in-None.new.self c.type_in-in-None.new.outbox (edited few))
