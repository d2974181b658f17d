use Rattle.std.proofs.Common.{List, ◌++◌, subst, ap, ◌∙◌}
use Rattle.std.specs.Prelude.{Bool, Contains, MatchBool}
use Rattle.operations.specs.Operation.{Operation}
use Rattle.set_laws.specs.Sets.{AreIdentified, IsInConflict}
use Rattle.texts.specs.TextState.{TextState}
use Rattle.texts.proofs.replica.Replica.agrees_with.Goals as goal

-- what is told of two lists
abbrev Told : Bool → (a b : List Operation) → Type 0
Told agrees a b =
    MatchBool agrees (AreIdentified (a ++ b)) ((op : Operation) × Contains b op × IsInConflict a op)

pub returns : goal.returns
returns c =
    let agrees = c.agrees_with.result in
    let same = c.log.ensures ∙ ap (λ (t : TextState). t.operations) c.self.view_is in
    let same' = c.log-2.ensures ∙ ap (λ (t : TextState). t.operations) c.other.view_is in
    subst (λ (b : List Operation). Told agrees c.args.self.now.operations b) same'
    (subst (λ (a : List Operation). Told agrees a c.log-2.result.now.ops) same c.agrees_with.ensures)
