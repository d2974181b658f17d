use Rattle.std.proofs.Common.{◌∙◌, ap}
use Rattle.std.specs.Int.{w8}
use Rattle.std.proofs.lemmas.Int.{to_z-of_z}
use Rattle.looks.specs.declared.looks.Looks.{Looks}
use Rattle.tree_order.proofs.attributes.looks_of.Goals as goal

pub returns : goal.returns
returns c = record {
  font = (
    c.last_to_set.result.now,
    c.last_to_set.ensures,
    c.copy.ensures
        ∙ ap (λ (l : Looks). l.font) c.given_looks-font.ensures,
  );
  colour = (
    c.last_to_set-2.result.now,
    c.last_to_set-2.ensures,
    ap (λ (l : Looks). l.colour)
        c.given_looks-colour.ensures,
  );
  offset = (
    c.last_to_set-3.result.now,
    c.last_to_set-3.ensures,
    to_z-of_z w8 _
        c.lemma_are_in_range.ensures.offset ∙ ap (λ (l : Looks). l.offset) c.given_looks-offset.ensures,
  );
}
