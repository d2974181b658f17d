use Rattle.std.proofs.Common.{ℕ, ◌<◌, sym, ap, subst, ◌∙◌}
use Rattle.operations.specs.Operation.{Operation}
use Rattle.set_laws.specs.Fronts.{file_len}
use Rattle.op_log.specs.Seen.{LogSeen}
use Rattle.op_log.proofs.Logged.{table_rises, file_told, entry, found_inserts, found_only}
use Rattle.op_log.proofs.log.Log.name_stamp.Goals as goal

pub entry_of-requires-clause-rising : goal.entry_of-requires-clause-rising
entry_of-requires-clause-rising c = table_rises c.self.invariant c.args.name.site

pub entry_of-requires-clause-within : goal.entry_of-requires-clause-within
entry_of-requires-clause-within c =
    let name = c.args.name in
    subst (λ (n : ℕ). name.off < n) (sym (file_told c.self.invariant name.site))
    (subst (λ (seen : LogSeen). name.off < file_len seen.ops name.site) (sym c.self.view_is) c.requires)

pub returns-clause-found : goal.returns-clause-found
returns-clause-found c =
    let found = entry c.self.invariant c.args.name c.entry_of.ensures in
    rw (← c.self.view_is) (found.op, found_inserts c.self.invariant c.args.name c.entry_of.ensures, found.stamped)

pub returns-clause-only : goal.returns-clause-only
returns-clause-only c =
    let found = entry c.self.invariant c.args.name c.entry_of.ensures in
    rw (← c.self.view_is) (λ i is. found.stamped
    ∙ ap (λ (o : Operation). o.stamp) (sym (found_only c.self.invariant c.args.name c.entry_of.ensures i is)))
