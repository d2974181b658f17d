use Rattle.std.proofs.Common.{refl}
use Rattle.desk_texts.proofs.site_texts.Texts.merge.Goals as goal

pub returns : goal.returns
returns c = (
  c.replica.result.now,
  c.replica.ensures,
  (c.replica_mut.result.now, c.merge_from.new.self, c.replica_mut.ensures.value, c.merge_from.ensures.merges, refl),
)
