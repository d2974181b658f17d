use Rattle.machine_laws.proofs.FrontLines.{fronts-lines}
use Rattle.machine_laws.proofs.lemma_front_lines_determine_the_fronts.Goals as goal

pub returns : goal.returns
returns c = fronts-lines
