use Rattle.std.proofs.Common.{sym, subst}
use Rattle.viewers.specs.Viewers.{AreNumbered}
use Rattle.viewers.proofs.Screens.{numbered_moved}
use Rattle.viewers.proofs.screen.Screen.move_top.Goals as goal

pub invariant_of-self : goal.invariant_of-self
invariant_of-self g c =
    let i = c.self.inside in (
      subst (λ t. AreNumbered t i.next i.numbers.items) (sym c.move_top.ensures.after)
          (numbered_moved i.tracks i.next c.args.viewer c.args.row i.numbers.items c.self.invariant.0),
      c.self.invariant.1,
      c.self.invariant.2,
    )
