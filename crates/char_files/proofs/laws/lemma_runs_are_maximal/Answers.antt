use Rattle.char_files.proofs.MaximalRuns.{maximal_items, maximal_are_runs, runs_again}
use Rattle.char_files.proofs.laws.lemma_runs_are_maximal.Goals as goal

pub returns-clause-runs : goal.returns-clause-runs
returns-clause-runs c = λ items. (maximal_are_runs items, maximal_items items)

pub returns-clause-only : goal.returns-clause-only
returns-clause-only c = runs_again
