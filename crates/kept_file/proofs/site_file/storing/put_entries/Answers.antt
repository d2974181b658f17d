use Rattle.std.proofs.Common.{◌<◌, arith, length, take}
use Rattle.std.specs.List.{flat_map}
use Rattle.std.proofs.lemmas.List.{take_all}
use Rattle.std.proofs.lemmas.Result.{err_from_is_err_and}
use Rattle.byte_fields.proofs.Appended.{Appends-refused}
use Rattle.texts.specs.SiteFiles.{entry_spelling}
use Rattle.kept_file.proofs.SiteStored.{entry_more, spelled_more}
use Rattle.kept_file.proofs.site_file.storing.put_entries.Goals as goal

pub returns-in_err-op-clause-entries : goal.returns-in_err-op-clause-entries
returns-in_err-op-clause-entries c =
    let ops = c.args.replica.now.operations in
    let out = c.loop-place.out.items in
    let refused = err_from_is_err_and c.from_residual.result c.from_residual.ensures.1 in
    Appends-refused c.from_residual.result c.args.out.now.items out out
    (flat_map entry_spelling (take c.loop-place.place ops)) (flat_map entry_spelling ops)
    c.loop-place.invariant.so_far refused.0 refused.1 (take_all (length out) out (omega arith))

pub returns-in_err-put_entry-clause-entries : goal.returns-in_err-put_entry-clause-entries
returns-in_err-put_entry-clause-entries c =
    let ops = c.args.replica.now.operations in
    let refused = err_from_is_err_and c.from_residual-in_err-put_entry.result c.from_residual-in_err-put_entry.ensures.1 in
    Appends-refused c.from_residual-in_err-put_entry.result c.args.out.now.items c.loop-place.out.items c.put_entry.new.out.items
    (flat_map entry_spelling (take c.loop-place.place ops)) (flat_map entry_spelling ops)
    c.loop-place.invariant.so_far refused.0 refused.1 c.in_err-put_entry.ensures.entry

pub loop-place-preserved : goal.loop-place-preserved
loop-place-preserved c =
    let ops = c.args.replica.now.operations in
    let lt : c.loop-place.place < length ops = omega (arith, c.loop-place-test.true, c.taken_len-place-end.ensures) in
    record {
      so_far =
          entry_more ops c.loop-place.place c.in_ok-op.op c.args.out.now.items c.loop-place.out.items
          c.put_entry.new.out.items lt c.in_ok-op.ensures.ok c.loop-place.invariant.so_far c.in_ok-put_entry.ensures.entry;
      spelled =
          spelled_more ops c.loop-place.place c.in_ok-op.op lt c.in_ok-op.ensures.ok c.loop-place.invariant.spelled
          c.in_ok-put_entry.ensures.spelled;
    }
