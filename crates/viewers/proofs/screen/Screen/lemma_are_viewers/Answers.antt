use Rattle.std.proofs.Common.{sym, subst}
use Rattle.viewers.specs.Viewers.{AreNumbered}
use Rattle.viewers.proofs.Entries.{numbers-zip}
use Rattle.viewers.proofs.screen.Screen.lemma_are_viewers.Goals as goal

pub returns : goal.returns
returns g c =
    rw (← c.self.view_is)
    (subst (AreNumbered c.self.inside.tracks c.self.inside.next)
    (sym (numbers-zip c.self.inside.numbers.items c.self.inside.contents.items c.self.invariant.1))
    c.self.invariant.0)
