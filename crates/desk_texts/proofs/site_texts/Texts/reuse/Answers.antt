use Rattle.std.proofs.Common.{ap, ◌∙◌}
use Rattle.machine.specs.SiteTexts.{with_text}
use Rattle.desk_texts.proofs.Lifting.{with_text_left}
use Rattle.desk_texts.proofs.site_texts.Texts.reuse.Goals as goal

pub returns : goal.returns
returns c =
    ap (with_text c.args.self.now c.args.text) c.reuse.ensures
    ∙ with_text_left c.args.self.now c.args.text c.replica_mut.result.now c.replica_mut.ensures.value
