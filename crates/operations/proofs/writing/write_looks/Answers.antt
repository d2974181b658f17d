use Rattle.operations.specs.Spelling.{looks_spelling}
use Rattle.operations.proofs.Appended.{all_of_it}
use Rattle.operations.proofs.writing.write_looks.Goals as goal

pub returns-clause-ok : goal.returns-clause-ok
returns-clause-ok c =
    all_of_it c.put_looks-written.result c.all_or_nothing.result c.args.out.now.items c.put_looks-written.new.out.items
    c.all_or_nothing.new.out.items (looks_spelling c.args.looks.now) c.put_looks-written.ensures c.all_or_nothing.ensures.ok
    c.all_or_nothing.ensures.kept
