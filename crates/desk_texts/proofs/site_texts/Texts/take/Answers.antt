use Rattle.std.proofs.Common.{refl}
use Rattle.desk_texts.proofs.site_texts.Texts.take.Goals as goal

pub returns : goal.returns
returns c = (c.replica_mut.result.now, c.take.new.self, c.replica_mut.ensures.value, c.take.ensures, refl)
