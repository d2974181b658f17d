use Rattle.operations.specs.Spelling.{spelling}
use Rattle.operations.proofs.Appended.{all_of_it}
use Rattle.operations.proofs.writing.encode.Goals as goal

pub returns-clause-ok : goal.returns-clause-ok
returns-clause-ok c =
    all_of_it c.put_op-written.result c.all_or_nothing.result c.args.out.now.items c.put_op-written.new.out.items
    c.all_or_nothing.new.out.items (spelling c.args.op.now) c.put_op-written.ensures c.all_or_nothing.ensures.ok
    c.all_or_nothing.ensures.kept
