use Rattle.std.proofs.Common.{◌≡◌, ◌≤◌, ◌++◌, ℕ, List, length, ap, ◌∙◌, arith}
use Rattle.char_files.specs.declared.TheConstants.{MAX_FILE}
use Rattle.machine.specs.Events.{ask, insert_at_caret}
use Rattle.char_files.specs.Plain.{plain_items}
use Rattle.script_sites.specs.Seen.{SitesSeen}
use Rattle.script_sites.proofs.Standing.{desk_read, replied_edit}
use Rattle.script_sites.proofs.desks.Desks.key.Goals as goal

pub returns-in-Some : goal.returns-in-Some
returns-in-Some c =
    let s : SitesSeen = record { first = c.self.inside.first; desks = c.self.inside.desks.items; sent = c.self.inside.outbox } in
    let in_run = rw (← c.self.view_is) at c.requires.in_run in
    let at = desk_read s c.args.desk c.index_mut.result.now in_run c.index_mut.ensures.value in
    let plain = rw c.in-Some.is at c.as_plain.ensures in
    let few : length c.args.bytes.now ≤ MAX_FILE = omega (arith, c.requires.short) in
    let edited = rw plain at c.key.ensures.step in
    rw (← c.self.view_is) (replied_edit s c.args.desk c.index_mut.result.now at (λ i. ask i (insert_at_caret (plain_items c.args.bytes.now))) c.key.result c.key.new.self c.key.new.outbox (edited few))

pub returns-in-None : goal.returns-in-None
returns-in-None c =
    let s : SitesSeen = record { first = c.self.inside.first; desks = c.self.inside.desks.items; sent = c.self.inside.outbox } in
    let in_run = rw (← c.self.view_is) at c.requires.in_run in
    let at = desk_read s c.args.desk c.index_mut-in-None.result.now in_run c.index_mut-in-None.ensures.value in
    let decoded : c.deref.result.now ≡ c.args.bytes.now = c.deref.ensures.value ∙ c.decode.ensures.bytes ∙ ap (λ (front : List ℕ). front ++ c.args.bytes.now) c.clear.ensures.items in
    let few : length c.args.bytes.now ≤ MAX_FILE = omega (arith, c.requires.short) in
    let edited = rw decoded at c.key-in-None.ensures.step in
    rw (← c.self.view_is) (replied_edit s c.args.desk c.index_mut-in-None.result.now at (λ i. ask i (insert_at_caret (plain_items c.args.bytes.now))) c.key-in-None.result c.key-in-None.new.self c.key-in-None.new.outbox (edited few))
