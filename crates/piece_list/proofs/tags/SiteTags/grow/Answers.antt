use Rattle.std.proofs.Common.{ℕ, List, get_or, ap, ◌∙◌}
use Rattle.piece_list.specs.declared.tags.TheConstants.{NO_TAG}
use Rattle.piece_list.proofs.Tables.{same_tag}
use Rattle.piece_list.proofs.tags.SiteTags.grow.Goals as goal

pub returns-clause-same : goal.returns-clause-same
returns-clause-same c = λ off.
    rw (← c.self.view_is) (same_tag c.self.inside.tags.items c.loop.self-inside.tags.items off (c.loop.invariant.1 off))

pub returns-in_err-push-clause-same : goal.returns-in_err-push-clause-same
returns-in_err-push-clause-same c = λ off.
    rw (← c.self.view_is)
    (same_tag c.self.inside.tags.items c.push.new.self.items off
    (ap (λ (tags : List ℕ). get_or tags off NO_TAG) c.in_err-push.ensures.items ∙ c.loop.invariant.1 off))
