use Rattle.std.proofs.Common.{◌≡◌, ℕ, ◌<◌, ◌≤◌, Some, length, subst, arith}
use Rattle.std.specs.Prelude.{slice_get}
use Rattle.machine.specs.declared.TheConstants.{MAX_TEXT}
use Rattle.script_sites.specs.Seen.{SitesSeen}
use Rattle.script_sites.proofs.Sending.{stands_there}
use Rattle.script_sites.proofs.Standing.{desk_read}
use Rattle.script_sites.proofs.desks.Desks.place_of.Goals as goal

pub returns : goal.returns
returns c =
    let s : SitesSeen = record { first = c.self.inside.first; desks = c.self.inside.desks.items; sent = c.self.inside.outbox } in
    let d = c.index.result.now in
    let within : c.from-2.result < length s.desks = omega (arith, c.len.ensures, c.if-len-from.false, c.from.ensures, c.from-2.ensures, c.self.inside.desks.ok) in
    let read : slice_get s.desks c.in_ok-desk.desk ≡ Some d = subst (λ (i : ℕ). slice_get s.desks i ≡ Some d) c.from-2.ensures (desk_read s c.from-2.result d within c.index.ensures) in
    let on_desk : c.in_ok-text.text ≤ MAX_TEXT = omega (arith, c.if-get-gt-MAX_TEXT.false, c.get-else-len-from.ensures.value) in
    let h1 = c.in-Ok.ensures in
    let h2 = c.taken_len-len.ensures in
    let h3 = c.if-len-later.false in
    let place : c.in-Ok.place < length c.replica.result.now.operations = omega (arith, c.in-Ok.ensures, c.taken_len-len.ensures, c.if-len-later.false) in
    rw (← c.self.view_is) (stands_there s (record { place = c.in-Ok.place; text = c.in_ok-text.text; desk = c.in_ok-desk.desk }) d c.replica.result.now read c.replica.ensures on_desk place)
