use Rattle.std.proofs.Common.{◌↔◌, ◌⊎◌, ◌++◌, [], ◌∷◌, List, sym, subst}
use Rattle.operations.specs.NameSet.{Range, IsAmong, IsIn}
use Rattle.taken_text.proofs.SameNames.{among_longer}
use Rattle.taken_text.proofs.joining.add.Goals as goal

pub returns-then-reaches-clause-names : goal.returns-then-reaches-clause-names
returns-then-reaches-clause-names c = λ name.
    subst (λ (new : List Range). IsAmong new name ↔ (IsAmong c.args.ranges.now.items name ⊎ IsIn c.args.range name))
    (sym c.push_reserved.ensures.items)
    (subst (λ (old : List Range). IsAmong (c.pop.new.self.items ++ c.hull.result ∷ []) name
    ↔ (IsAmong old name ⊎ IsIn c.args.range name)) (sym c.in-Some.ensures.items)
    (among_longer c.pop.new.self.items c.in-Some.last c.args.range c.hull.result c.hull.ensures.names name))
