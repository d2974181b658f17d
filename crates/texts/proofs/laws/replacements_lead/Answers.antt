use Rattle.texts.proofs.Reported.{replacements_lead}
use Rattle.texts.proofs.laws.replacements_lead.Goals as goal

pub returns : goal.returns
returns c = replacements_lead
