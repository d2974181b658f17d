use Rattle.std.proofs.Common.{refl}
use Rattle.desk_texts.proofs.site_texts.Texts.unpack.Goals as goal

pub returns : goal.returns
returns c = (c.replica_mut.result.now, c.unpack.new.replica, c.replica_mut.ensures.value, c.unpack.ensures, refl)
