use Rattle.std.proofs.Common.{List, ◌∷◌, drop, sym, ap, subst, ◌∙◌}
use Rattle.piece_list.specs.declared.run.Run.{Run}
use Rattle.piece_list.specs.RunSplits.{AreWithin, HasFront}
use Rattle.piece_list.proofs.RunSplits.{told, skips_front, front_within}
use Rattle.piece_list.proofs.list.between.skip_front.Goals as goal

pub returns-clause-left : goal.returns-clause-left
returns-clause-left c =
    ap (λ (r : Run). told (r ∷ c.next.new.self)) c.skip.ensures
    ∙ skips_front c.args.n c.in_ok-run.run' c.next.new.self (subst (HasFront c.args.n) c.in_ok-run.ensures.steps c.requires.front)
    ∙ ap (λ (runs : List Run). drop c.args.n (told runs)) (sym c.in_ok-run.ensures.steps)

pub returns-clause-within : goal.returns-clause-within
returns-clause-within c =
    subst (λ (r : Run). AreWithin (r ∷ c.next.new.self)) (sym c.skip.ensures)
    (front_within c.args.n c.in_ok-run.run' c.next.new.self
    (subst (HasFront c.args.n) c.in_ok-run.ensures.steps c.requires.front)
    (subst AreWithin c.in_ok-run.ensures.steps c.requires.within))
