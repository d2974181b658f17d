use Rattle.std.proofs.Common.{arith}
use Rattle.text_file.proofs.Stored.{run_few}
use Rattle.text_file.proofs.storing.put_runs.Goals as goal

pub put_run-requires : goal.put_run-requires
put_run-requires c =
    omega (
      arith,
      c.requires,
      run_few c.args.runs.now c.loop-run.run-index c.run-item.result c.loop-run-test.true c.run-item.is,
    )
