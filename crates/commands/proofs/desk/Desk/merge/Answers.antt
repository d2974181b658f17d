use Rattle.std.proofs.Common.{ap, subst}
use Rattle.machine.specs.SiteTexts.{SiteTexts}
use Rattle.machine.specs.OnTexts.{MergesSite}
use Rattle.desk_windows.specs.Windows.{screened}
use Rattle.commands.proofs.Lifting.{merge_grows}
use Rattle.commands.proofs.Steps.{merge_step}
use Rattle.commands.specs.Steps.{DeskSeen}
use Rattle.commands.proofs.desk.Desk.merge.Goals as goal

pub invariant_of-self : goal.invariant_of-self
invariant_of-self c =
    c.tell.ensures.shown c.self.inside.texts c.self.invariant.0 c.self.invariant.1
    (merge_grows c.self.inside.texts c.merge-outcome.new.self c.other.inside.texts c.args.text c.merge-outcome.result
    c.lemma_has_text.ensures c.merge-outcome.ensures)

pub returns : goal.returns
returns c =
    merge_step c.args.self.now c.self.inside.texts c.merge-outcome.new.self c.tell.new.texts
    (screened c.self.inside.windows) (screened c.tell.new.windows) c.self.view_is c.tell.ensures.screen c.args.other.now
    c.args.text c.merge-outcome.result
    (subst (λ (x : SiteTexts). MergesSite c.self.inside.texts c.args.text x c.merge-outcome.result c.merge-outcome.new.self)
    (ap (λ (x : DeskSeen). x.texts) c.other.view_is) c.merge-outcome.ensures) c.tell.ensures.told
