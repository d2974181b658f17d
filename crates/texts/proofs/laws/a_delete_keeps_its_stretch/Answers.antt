use Rattle.texts.proofs.KeptStretch.{keeps_its_stretch}
use Rattle.texts.proofs.laws.a_delete_keeps_its_stretch.Goals as goal

pub returns : goal.returns
returns c = keeps_its_stretch
