use Rattle.std.proofs.lemmas.Bool.Decides.{Decides-eqb}
use Rattle.std.proofs.lemmas.Slice.Eq.{strip_prefix_is}
use Rattle.operations.proofs.Stripped.{stripping}
use Rattle.operations.proofs.stripping.after.Goals as goal

pub returns : goal.returns
returns c =
    let found = c.strip_prefix.result in
    stripping c.args.front.now c.args.bytes.now found
    (strip_prefix_is Decides-eqb c.args.bytes.now c.args.front.now found c.strip_prefix.ensures.cases)
