-- What is left of a text by an operation that is taken in.
use Rattle.std.proofs.Common.{◌≡◌, [], ◌∷◌, ◌++◌, ap, subst, sym, ◌∙◌}
use Rattle.operations.specs.Operation.{Operation}
use Rattle.tree_order.specs.Good.{Good}
use Rattle.set_laws.specs.Sets.{AreIdentified}
use Rattle.texts.specs.Taking.{HasTaken}
use Rattle.texts.specs.Text.{IsText}
use Rattle.texts.specs.TextState.{TextState}
use Rattle.texts.proofs.Chars.{one_text_with}

-- what a taken operation leaves is the one text that has it, too
pub taken_is_one : (t : TextState) (op : Operation) → IsText t → op.text ≡ t.text → (other : TextState)
    → other ≡ record t { operations = t.operations ++ op ∷ []; order = other.order } → IsText other
    → (new : TextState) → HasTaken t op new → new ≡ other
taken_is_one t op is own other grown is' new taken =
    let operations : other.operations ≡ t.operations ++ op ∷ [] = ap (λ (u : TextState). u.operations) grown in
    let one = one_text_with t op is (subst Good operations is'.good) (subst AreIdentified operations is'.identified) own in
    one.only new taken.is taken.grown ∙ sym (one.only other is' grown)
