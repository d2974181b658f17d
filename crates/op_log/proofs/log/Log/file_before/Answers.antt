use Rattle.std.proofs.Common.{◌≡◌, ap, subst, sym}
use Rattle.std.specs.Option.{option_map_or}
use Rattle.std.specs.Prelude.{IfSome, slice_get}
use Rattle.op_log.specs.Seen.{LogSeen}
use Rattle.op_log.specs.declared.site_log.Entry.{Entry}
use Rattle.op_log.proofs.Logged.{before_told}
use Rattle.op_log.proofs.log.Log.file_before.Goals as goal

pub returns-in-Some : goal.returns-in-Some
returns-in-Some c =
    let found = c.identity-site.result in
    rw (← c.self.view_is)
    (before_told c.self.invariant c.args.place found.0 found.1 c.saturating_sub.result c.entry.result c.in-Some.entry.end
    (subst (λ (seen : LogSeen). IfSome (slice_get seen.ops c.args.place) (λ op. (found.0 ≡ op.site) × (found.1 ≡ op.seq)))
    (sym c.self.view_is) c.identity-site.ensures) c.saturating_sub.ensures c.entry.ensures.none c.entry.ensures.value
    (ap (λ o. option_map_or (λ (e : Entry). e.end) o 0) c.in-Some.is))

pub returns-in-None : goal.returns-in-None
returns-in-None c =
    let found = c.identity-site.result in
    rw (← c.self.view_is)
    (before_told c.self.invariant c.args.place found.0 found.1 c.saturating_sub.result c.entry.result 0
    (subst (λ (seen : LogSeen). IfSome (slice_get seen.ops c.args.place) (λ op. (found.0 ≡ op.site) × (found.1 ≡ op.seq)))
    (sym c.self.view_is) c.identity-site.ensures) c.saturating_sub.ensures c.entry.ensures.none c.entry.ensures.value
    (ap (λ o. option_map_or (λ (e : Entry). e.end) o 0) c.in-None.is))
