use Rattle.std.specs.List.{flat_map}
use Rattle.std.proofs.Common.{take}
use Rattle.std.proofs.lemmas.Result.{err_from_is_err_and}
use Rattle.byte_fields.proofs.Appended.{Appends-refused}
use Rattle.operations.specs.Spelling.{range_spelling}
use Rattle.operations.proofs.writing.put_ranges.Goals as goal

pub returns-in_err-put_range : goal.returns-in_err-put_range
returns-in_err-put_range c =
    let ranges = c.args.ranges.now in
    let refused = err_from_is_err_and c.from_residual.result c.from_residual.ensures.1 in
    Appends-refused c.from_residual.result c.args.out.now.items c.loop-range.out.items
    c.put_range.new.out.items (flat_map range_spelling (take c.loop-range.range-index ranges))
    (flat_map range_spelling ranges) c.loop-range.invariant refused.0 (refused.1)
    c.in_err-put_range.ensures
