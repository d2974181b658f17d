use Rattle.std.proofs.Common.{◌≡◌, ◌≢◌, ◌⊎◌, ◌↔◌, ℕ, List, Contains, Some, cond, ap, subst, ◌∙◌}
use Rattle.std.specs.Map.{lookup, values_of}
use Rattle.std.specs.Ordering.{eq_by_cmp, nat_cmp}
use Rattle.std.proofs.lemmas.Map.Keys.{IsDistinct-from_sorted}
use Rattle.note_laws.specs.Note.{Claim}
use Rattle.note_entries.proofs.Entered.{IsPutIn, keyed_with, values_with}
use Rattle.note_entries.proofs.Orders.{numbers, one_number}
use Rattle.note_entries.proofs.holders.Holders.put.Goals as goal

abbrev Number : Claim → ℕ
Number c = c.site

-- it stands under its number now
is_put : (c : goal.In_ok-insert) → IsPutIn (eq_by_cmp nat_cmp) numbers one_number Number
    c.self.inside.claims.entries c.args.claim c.insert.new.self.entries
is_put c =
    subst (λ (n : ℕ). (q : ℕ) → lookup (eq_by_cmp nat_cmp q) c.insert.new.self.entries
    ≡ cond (eq_by_cmp nat_cmp n q) (Some c.args.claim) (lookup (eq_by_cmp nat_cmp q) c.self.inside.claims.entries))
    (c.get.ensures.value ∙ ap (λ (c : Claim). c.site) c.claim.view_is) c.in_ok-insert.ensures.updates.0

pub invariant_of-self-2 : goal.invariant_of-self-2
invariant_of-self-2 c =
    keyed_with (eq_by_cmp nat_cmp) numbers one_number Number c.self.inside.claims.entries c.insert.new.self.entries
    c.args.claim c.self.invariant (IsDistinct-from_sorted nat_cmp _ c.insert.ensures.ordered) (is_put c)

pub returns-clause-ok : goal.returns-clause-ok
returns-clause-ok c = λ x.
    subst (λ (old : List Claim). Contains (values_of c.insert.new.self.entries) x ↔ (Contains old x × c.args.claim.site ≢ x.site) ⊎ (x ≡ c.args.claim))
    c.self.view_is
    (values_with (eq_by_cmp nat_cmp) numbers one_number Number c.self.inside.claims.entries c.insert.new.self.entries
    c.args.claim c.self.invariant (IsDistinct-from_sorted nat_cmp _ c.insert.ensures.ordered) (is_put c) x)
