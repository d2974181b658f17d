use Rattle.std.proofs.Common.{ℕ, List, Contains, subst}
use Rattle.std.specs.Ordering.{nat_cmp}
use Rattle.std.proofs.lemmas.Map.Keys.{IsDistinct-from_sorted}
use Rattle.note_laws.specs.Note.{Claim}
use Rattle.note_entries.proofs.Least.{of_none}
use Rattle.note_entries.proofs.holders.Holders.new.Goals as goal

pub invariant_of-result : goal.invariant_of-result
invariant_of-result c = record {
  keyed = λ k x held. absurd (of_none (k, x) (subst (λ (es : List (ℕ × Claim)). Contains es (k, x)) c.new.ensures.empty held));
  distinct = IsDistinct-from_sorted nat_cmp _ c.new.ensures.ordered;
}
