use Rattle.std.proofs.Common.{subst}
use Rattle.texts.specs.Text.{IsText}
use Rattle.texts.proofs.replica.Replica.lemma_is_text.Goals as goal

pub returns : goal.returns
returns c =
    let is = c.lemma_is_defined.ensures in
    subst IsText c.self.view_is (record {
      good = is.good;
      in_order = is.in_order;
      identified = is.identified;
      of_text = c.self.invariant.0;
      chars = is.chars;
      deleted = c.self.invariant.2;
      waiting = record {
        of_text = c.self.invariant.1;
        identified = c.lemma_are_identified.ensures.identified;
        few = c.lemma_are_identified.ensures.few;
      };
    })
