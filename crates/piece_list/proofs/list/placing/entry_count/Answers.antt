use Rattle.std.proofs.Common.{sym}
use Rattle.piece_list.proofs.Typed.{insertions_count}
use Rattle.piece_list.proofs.list.placing.entry_count.Goals as goal

pub returns-then-run : goal.returns-then-run
returns-then-run c = rw c.if-run.true (sym (insertions_count 0 c.args.run.now.len))
