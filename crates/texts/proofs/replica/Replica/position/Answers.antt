use Rattle.std.proofs.Common.{refl, map, subst}
use Rattle.char_files.specs.declared.character.Char.{Char}
use Rattle.char_files.specs.declared.name.Anchor.TheVariants.{Root}
use Rattle.tree_order.specs.Shown.{IsPlace}
use Rattle.texts.specs.TextState.{TextState}
use Rattle.texts.proofs.replica.Replica.position.Goals as goal

pub returns-in-Root-clause-place : goal.returns-in-Root-clause-place
returns-in-Root-clause-place c =
    rw c.in-Root.is (subst (λ (t : TextState). IsPlace t.operations Root 0) c.self.view_is
    (map (λ (x : Char). x.name) c.self.inside.taken.chars, c.lemma_is_defined.ensures.chars.order, refl))
