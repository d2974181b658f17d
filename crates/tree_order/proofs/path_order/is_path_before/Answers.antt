use Rattle.std.proofs.Common.{◌∙◌, sym, arith}
use Rattle.std.proofs.lemmas.Bool.{lt-ltb, ltb-true, not-true}
use Rattle.std.proofs.lemmas.List.Elements.{All-contains}
use Rattle.tree_order.specs.Tree.{IsChar}
use Rattle.tree_order.proofs.Turns.{goes_before_at, goes_before_by_length, names_differ}
use Rattle.tree_order.proofs.path_order.is_path_before.Goals as goal

pub has_greater_key-requires-clause-first : goal.has_greater_key-requires-clause-first
has_greater_key-requires-clause-first c =
    All-contains (IsChar c.args.ops.now) c.args.p.now c.index-p-i.result c.requires.first
    (c.loop-i.i, omega arith, sym c.index-p-i.is)

pub has_greater_key-requires-clause-second : goal.has_greater_key-requires-clause-second
has_greater_key-requires-clause-second c =
    All-contains (IsChar c.args.ops.now) c.args.q.now c.index-q-i.result c.requires.second
    (c.loop-i.i, omega arith, sym c.index-q-i.is)

pub returns-then-ne : goal.returns-then-ne
returns-then-ne c =
    let p = c.args.p.now in
    let q = c.args.q.now in
    let before =
    goes_before_at c.args.ops.now p q c.loop-i.i c.index-p-i.result c.index-q-i.result (omega arith)
    (omega arith) c.loop-i.invariant c.index-p-i.is c.index-q-i.is (names_differ c.index-p-i.result
    c.index-q-i.result (not-true _ (sym c.ne.ensures ∙ c.if-ne.true))) in
    (λ h. before.0 (c.has_greater_key.ensures.0 h), λ h. c.has_greater_key.ensures.1 (before.1 h))

pub returns : goal.returns
returns c =
    let p = c.args.p.now in
    let q = c.args.q.now in
    let before = goes_before_by_length c.args.ops.now p q c.loop-i.i (omega arith) c.loop-i.invariant in
    (λ h. before.0 (ltb-true _ _ h), λ h. lt-ltb _ _ (before.1 h))
