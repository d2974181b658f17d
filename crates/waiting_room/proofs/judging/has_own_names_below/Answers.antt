use Rattle.operations.specs.Operation.{Mentions}
use Rattle.waiting_room.proofs.Past.{none_past}
use Rattle.waiting_room.proofs.judging.has_own_names_below.Goals as goal

pub returns : goal.returns
returns c =
    none_past c.mentions_past.result (Mentions c.args.op.now) c.site.result c.args.op.now.site c.args.len
    c.site.ensures c.mentions_past.ensures.means
