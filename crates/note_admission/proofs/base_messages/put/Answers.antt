use Rattle.std.proofs.Common.{◌≡◌, Some, cond, subst}
use Rattle.std.specs.Map.{lookup}
use Rattle.std.proofs.lemmas.Map.Keys.{IsDistinct-from_sorted}
use Rattle.note_admission.specs.Base.{Spot, is_same_spot, message_spot, spot_cmp}
use Rattle.note_entries.proofs.Entered.{IsPutIn, keyed_with, values_with}
use Rattle.note_admission.proofs.Bases.{one_spot, spots}
use Rattle.note_admission.proofs.base_messages.put.Goals as goal

pub returns-clause-ok : goal.returns-clause-ok
returns-clause-ok c = λ are.
    let old = c.args.said.now.entries in
    let new = c.insert.new.self.entries in
    let put : IsPutIn is_same_spot spots one_spot message_spot old c.args.saying new =
    subst (λ (p : Spot). (q : Spot) → lookup (is_same_spot q) c.insert.new.self.entries
    ≡ cond (is_same_spot p q) (Some c.args.saying) (lookup (is_same_spot q) c.args.said.now.entries))
    c.of.ensures c.in_ok-insert.ensures.updates.0 in
    let distinct = IsDistinct-from_sorted spot_cmp _ c.insert.ensures.ordered in (
      keyed_with is_same_spot spots one_spot message_spot old new c.args.saying are distinct put,
      values_with is_same_spot spots one_spot message_spot old new c.args.saying are distinct put,
    )
