use Rattle.std.proofs.Common.{refl}
use Rattle.desk_texts.proofs.site_texts.Texts.settle.Goals as goal

pub returns : goal.returns
returns c = (c.replica_mut.result.now, c.settle.new.self, c.replica_mut.ensures.value, c.settle.ensures, refl)
