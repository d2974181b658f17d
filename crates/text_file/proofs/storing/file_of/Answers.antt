use Rattle.std.proofs.Common.{◌++◌, ap, length, arith, ◌∙◌}
use Rattle.std.specs.Int.{w32}
use Rattle.byte_fields.specs.Fields.{number_spelling}
use Rattle.text_file.proofs.Stored.{stored, runs_few}
use Rattle.text_file.proofs.storing.file_of.Goals as goal

pub overflow_cast-runs : goal.overflow_cast-runs
overflow_cast-runs c =
    omega (
      arith,
      c.requires,
      runs_few c.runs-runs.result.now c.runs-runs.ensures.maximal,
      ap length c.runs-runs.ensures.value,
    )

pub returns-clause-ok : goal.returns-clause-ok
returns-clause-ok c =
    stored c.lemma_runs_are_maximal.ensures.only c.args.text.now c.runs-runs.result.now
    c.in_ok-file.file.items c.put_u32.new.out.items c.put_runs.new.out.items c.put_u32-2.new.out.items
    c.put_chars.new.out.items c.runs-runs.ensures.maximal c.runs-runs.ensures.value
    c.in_ok-file.ensures.items c.in_ok-put_u32.ensures c.in_ok-put_runs.ensures.ok
    (c.in_ok-put_u32-2.ensures ∙ ap (λ n. c.put_runs.new.out.items ++ number_spelling w32 n)
    c.len.ensures.value) c.in_ok-put_chars.ensures
