use Rattle.std.proofs.Common.{◌≡◌, ◌++◌, ℕ, List, refl, ap, ◌∙◌}
use Rattle.machine.specs.Events.{bytes}
use Rattle.script_sites.specs.Seen.{SitesSeen, sent_after, texts_of}
use Rattle.script_sites.specs.Sent.{messages_at}
use Rattle.script_sites.proofs.Standing.{desk_read, replied_take}
use Rattle.script_sites.proofs.desks.Desks.take.Goals as goal

pub returns-in-Sent : goal.returns-in-Sent
returns-in-Sent c = rw c.in-Sent.is c.take_sent.ensures

pub returns-in-Bytes : goal.returns-in-Bytes
returns-in-Bytes c =
    let s : SitesSeen = record { first = c.self.inside.first; desks = c.self.inside.desks.items; sent = c.self.inside.outbox } in
    let message = c.in-Bytes.message in
    let in_run = rw (← c.self.view_is) at c.requires.in_run in
    let at = desk_read s c.args.desk c.index_mut.result.now in_run c.index_mut.ensures.value in
    let decoded : c.deref.result.now ≡ message = c.deref.ensures.value ∙ c.decode.ensures.bytes ∙ ap (λ (front : List ℕ). front ++ message) c.clear.ensures.items in
    let taken = rw decoded at c.take.ensures in
    rw (← c.self.view_is, c.in-Bytes.is)
    (replied_take (sent_after (messages_at (texts_of s) c.args.noted.now) s) c.args.desk c.index_mut.result.now at c.args.text (bytes message) message c.take.result c.take.new.self (λ files. refl) taken)
