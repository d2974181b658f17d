use Rattle.std.proofs.Common.{arith}
use Rattle.text_file.proofs.Filled.{memory_alone}
use Rattle.text_file.proofs.filling.push_all.Goals as goal

pub returns-clause-errors : goal.returns-clause-errors
returns-clause-errors c =
    memory_alone c.push_all.result _ c.push_all.ensures.errors c.push_all.ensures.full (λ full. omega (arith, full, c.requires))
