use Rattle.script_sites.proofs.WriteLemmas.{failed_at_err, writes_kept}
use Rattle.script_runs.proofs.running.answer_last.Goals as goal

pub returns-clause-answers : goal.returns-clause-answers
returns-clause-answers g c =
    let (answer, written, step) = c.in_ok-answer.ensures in
    let failed = failed_at_err c.flush.result c.answer.new.output.failed c.flush.new.self.failed c.flush.ensures.failed in
    (answer, writes_kept c.flush.result c.flush.new.self.failed _ _ _ answer written c.flush.ensures.kept c.flush.ensures.errors failed, step)
