use Rattle.std.proofs.Common.{List, Contains, subst}
use Rattle.std.proofs.lemmas.Map.Keys.{IsDistinct-from_sorted}
use Rattle.note_laws.specs.Note.{Saying}
use Rattle.note_entries.specs.Branches.{Place, place_cmp}
use Rattle.note_entries.proofs.Least.{of_none}
use Rattle.note_entries.proofs.rows.Rows.new.Goals as goal

pub invariant_of-result : goal.invariant_of-result
invariant_of-result c = record {
  each = λ begin row held.
      absurd (of_none (begin, row) (subst (λ (rs : List (Place × List Saying)). Contains rs (begin, row)) c.new.ensures.empty held));
  distinct = IsDistinct-from_sorted place_cmp _ c.new.ensures.ordered;
}
