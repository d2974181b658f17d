use Rattle.std.proofs.Common.{List, Contains, subst}
use Rattle.std.proofs.lemmas.Map.Keys.{IsDistinct-from_sorted}
use Rattle.note_laws.specs.Note.{Saying}
use Rattle.note_entries.specs.Branches.{Place, place_cmp}
use Rattle.note_entries.proofs.Least.{of_none}
use Rattle.note_entries.proofs.branches.Branches.new.Goals as goal

pub invariant_of-result : goal.invariant_of-result
invariant_of-result c = record {
  keyed = record {
    keyed = λ k x held. absurd (of_none (k, x) (subst (λ (es : List (Place × Saying)). Contains es (k, x)) c.new-2.ensures.empty held));
    distinct = IsDistinct-from_sorted place_cmp _ c.new-2.ensures.ordered;
  };
  apart = λ s t held among. absurd (of_none s (subst (λ (ss : List Saying). Contains ss s) c.new.ensures held));
}
