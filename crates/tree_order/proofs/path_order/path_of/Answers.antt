use Rattle.std.proofs.Common.{rules, List, ◌∷◌, ◌∙◌, ap, []}
use Rattle.std.specs.Prelude.{reverse}
use Rattle.std.proofs.lemmas.List.{reverse-append}
use Rattle.std.proofs.lemmas.Bool.{some_since}
use Rattle.char_files.specs.CharName.{CharName}
use Rattle.tree_order.specs.Tree.{IsInsertOf}
use Rattle.tree_order.proofs.Turns.{IsChar-parent, climbs}
use Rattle.tree_order.proofs.path_order.path_of.Goals as goal

pub unwrap-op-requires-in-At : goal.unwrap-op-requires-in-At
unwrap-op-requires-in-At c =
    let is = IsChar-parent c.args.ops.now c.requires.good c.loop-parent.name c.in-At.parent
    c.loop-parent.op.now c.loop-parent.invariant.insert c.in-At.ensures in
    some_since c.insert_of-in-At.result _ _ c.insert_of-in-At.ensures.none (λ no. no is)

pub loop-parent-smaller : goal.loop-parent-smaller
loop-parent-smaller c =
    let up : IsInsertOf c.args.ops.now c.in-At.parent c.unwrap-op-in-At.result.now = search rules in
    climbs c.args.ops.now c.requires.good c.loop-parent.name c.in-At.parent c.loop-parent.op.now
    c.unwrap-op-in-At.result.now c.loop-parent.invariant.insert up c.in-At.ensures
    c.lemma_has_spelling.ensures

pub loop-parent-preserved : goal.loop-parent-preserved
loop-parent-preserved c = record {
  insert = search rules;
  rest = c.loop-parent.name ∷ c.loop-parent.invariant.rest;
  so_far = ap reverse c.in_ok-push-2.ensures.items ∙ reverse-append c.loop-parent.names.items
      (c.in-At.parent ∷ []) ∙ ap (λ (xs : List CharName). c.in-At.parent ∷ xs)
      c.loop-parent.invariant.so_far;
  leads = (
    (c.loop-parent.op.now, c.loop-parent.invariant.insert, c.in-At.ensures),
    c.loop-parent.invariant.leads,
  );
}
