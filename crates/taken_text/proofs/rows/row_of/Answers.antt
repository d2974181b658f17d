use Rattle.std.proofs.Common.{◌+◌, ℕ, length, ap, arith}
use Rattle.std.proofs.lemmas.List.Edits.{length-between}
use Rattle.char_files.specs.CharFiles.{bytes_of}
use Rattle.taken_text.proofs.rows.row_of.Goals as goal

pub invariant_of-result : goal.invariant_of-result
invariant_of-result c =
    omega (
      arith,
      ap (length {A = ℕ}) c.bytes.ensures,
      length-between (bytes_of c.args.files.now c.args.run.site) c.args.run.off (c.args.run.off + c.args.run.len) c.requires.held,
      c.requires.some,
    )
