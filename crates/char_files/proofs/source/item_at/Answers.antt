use Rattle.std.proofs.Common.{◌∙◌}
use Rattle.char_files.proofs.RunAt.{item_of_run}
use Rattle.char_files.proofs.source.item_at.Goals as goal

pub returns : goal.returns
returns c =
    item_of_run c.args.runs.now c.loop-within.index c.loop-within.within c.args.pos
    c.index-runs-index.result c.index-runs-index-2.result c.bytes.result.now c.bytes-2.result.now
    c.copy.result c.loop-within.invariant.before c.requires c.index-runs-index.is c.bytes.ensures.value
    c.loop-within-test.false c.index-runs-index-2.is c.bytes-2.ensures.value
    (c.copy.ensures ∙ c.looks.ensures)
