use Rattle.std.proofs.Common.{◌≡◌, Bool, eqb, ◌&&◌, false, sym, ap, ◌∙◌}
use Rattle.std.proofs.lemmas.Bool.{eq-eqb, ne_eqb}
use Rattle.packed.proofs.OneName.{told_by_first, told_by_none}
use Rattle.packed.proofs.sets.PackedSet.is_one.Goals as goal

pub returns-then-self-eq1 : goal.returns-then-self-eq1
returns-then-self-eq1 c =
    let count = c.self.inside.count in
    let told = told_by_first count c.self.inside.raw.now c.in-Some.len c.in-Some.ensures in
    rw (← c.self.view_is)
    (sym (told ∙ ap (λ (b : Bool). b && eqb c.in-Some.len 1) (eq-eqb count 1 c.if-self-eq1.true)))

pub returns-else-self-eq1 : goal.returns-else-self-eq1
returns-else-self-eq1 c =
    let count = c.self.inside.count in
    let told = told_by_first count c.self.inside.raw.now c.in-Some.len c.in-Some.ensures in
    let not : eqb count 1 ≡ false = ne_eqb count 1 c.if-self-eq1.false in
    rw (← c.self.view_is) (not ∙ sym (told ∙ ap (λ (b : Bool). b && eqb c.in-Some.len 1) not))

pub returns-in-None : goal.returns-in-None
returns-in-None c =
    rw (← c.self.view_is) (sym (told_by_none c.self.inside.count c.self.inside.raw.now c.in-None.ensures))
