use Rattle.std.proofs.Common.{ℕ, ap, ◌∙◌}
use Rattle.std.specs.Map.{lookup}
use Rattle.std.specs.Ordering.{eq_by_cmp, nat_cmp}
use Rattle.note_laws.specs.Note.{Claim}
use Rattle.note_entries.proofs.Entered.{looked_none, looked_some}
use Rattle.note_entries.proofs.Orders.{numbers, one_number}
use Rattle.note_entries.proofs.holders.Holders.kept.Goals as goal

pub returns-clause-some : goal.returns-clause-some
returns-clause-some c =
    looked_some (eq_by_cmp nat_cmp) numbers one_number (λ (c : Claim). c.site) c.self.inside.claims.entries
    c.self.invariant c.args.self.now c.self.view_is c.args.site c.get-2.result
    (c.get-2.ensures.value ∙ ap (λ (n : ℕ). lookup (eq_by_cmp nat_cmp n) c.self.inside.claims.entries) c.get.ensures.value)

pub returns-clause-none : goal.returns-clause-none
returns-clause-none c =
    looked_none (eq_by_cmp nat_cmp) numbers one_number (λ (c : Claim). c.site) c.self.inside.claims.entries
    c.self.invariant c.args.self.now c.self.view_is c.args.site c.get-2.result
    (c.get-2.ensures.value ∙ ap (λ (n : ℕ). lookup (eq_by_cmp nat_cmp n) c.self.inside.claims.entries) c.get.ensures.value)
