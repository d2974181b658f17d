use Rattle.set_laws.proofs.Closing.{greatest_good_part}
use Rattle.set_laws.proofs.closures.closure_is_the_greatest_good_part.Goals as goal

pub returns : goal.returns
returns c = λ all set known. greatest_good_part all known set
