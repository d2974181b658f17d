use Rattle.run_laws.proofs.Reaching.{trace_reached}
use Rattle.run_laws.proofs.lemma_each_trace_is_reached.Goals as goal

pub returns : goal.returns
returns c = λ start s at.
    trace_reached start.first start.count start.width start.height start.files at.reported at.faults at.lines at.script at.answers
    (record { state = s; faults = at.faults_now }) at.trace
