use Rattle.taken_text.proofs.Noting.{since_leads}
use Rattle.texts.proofs.laws.changes_lead.Goals as goal

pub returns : goal.returns
returns c = λ asked ops changes now since. (since.was, since.shown, since_leads asked ops changes now since)
