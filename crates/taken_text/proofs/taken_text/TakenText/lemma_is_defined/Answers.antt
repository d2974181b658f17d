use Rattle.std.proofs.Common.{subst}
use Rattle.taken_text.specs.Taken.{IsDefined}
use Rattle.taken_text.proofs.Spelling.{defined}
use Rattle.taken_text.proofs.taken_text.TakenText.lemma_is_defined.Goals as goal

pub returns : goal.returns
returns c =
    let t = c.self.inside in
    subst IsDefined c.self.view_is (defined t.log.ops t.pieces.items t.files t.asked c.self.invariant.taken)
