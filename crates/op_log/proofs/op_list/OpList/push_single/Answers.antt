use Rattle.std.proofs.Common.{rules, ◌≡◌, ℕ, List, ◌∷◌, [], ◌++◌, ◌+◌, ◌≤◌, length, append-nil, ap, subst, sym, ◌∙◌, arith}
use Rattle.std.proofs.lemmas.List.{length-append}
use Rattle.operations.specs.Operation.{Operation}
use Rattle.op_log.specs.declared.TheConstants.{MAX_OPS}
use Rattle.op_log.specs.declared.stretch.Stretch.{Stretch}
use Rattle.op_log.specs.declared.stretch.Stretch.TheVariants.{Single}
use Rattle.op_log.specs.Seen.{OpsSeen}
use Rattle.op_log.specs.Stretches.{AreStretches, IsStretchThere, Shared, all_ops, ops_of, shared}
use Rattle.op_log.proofs.Stretches.{Extends, alone_ops, pushed_are, pushed_ops}
use Rattle.op_log.proofs.op_list.OpList.push_single.Goals as goal
use Rattle.op_log.proofs.op_list.OpList.push_single.Goals.{After-push_reserved-2}

abbrev was : After-push_reserved-2 → Shared
was c = shared c.self.inside.bytes.items c.self.inside.looks.items c.self.inside.singles.items

abbrev now : After-push_reserved-2 → Shared
now c = shared c.self.inside.bytes.items c.self.inside.looks.items c.push_reserved.new.self.items

grows : (c : After-push_reserved-2) → Extends (was c) (now c)
grows c = record {
  bytes = ([], sym (append-nil c.self.inside.bytes.items));
  looks = ([], sym (append-nil c.self.inside.looks.items));
  singles = (c.args.op ∷ [], c.push_reserved.ensures.items);
}

number : (c : After-push_reserved-2) → c.len.result ≡ length c.self.inside.singles.items
number c = omega (arith, c.len.ensures, c.self.inside.singles.ok.0)

there : (c : After-push_reserved-2) → IsStretchThere (now c) (Single c.len.result)
there c =
    omega (arith, number c, ap length c.push_reserved.ensures.items, length-append c.self.inside.singles.items (c.args.op ∷ []))

ops : (c : After-push_reserved-2) → ops_of (now c) (Single c.len.result) ≡ c.args.op ∷ []
ops c =
    ap (λ (n : ℕ). ops_of (now c) (Single n)) (number c)
    ∙ ap (λ (xs : List Operation). ops_of (shared c.self.inside.bytes.items c.self.inside.looks.items xs)
    (Single (length c.self.inside.singles.items))) c.push_reserved.ensures.items
    ∙ alone_ops (was c) c.args.op

pub invariant_of-self : goal.invariant_of-self
invariant_of-self c =
    let at : After-push_reserved-2 = (goal.at.invariant_of-self c).After-push_reserved-2 in
    let l = c.self.inside in
    let most : l.len + 1 ≤ MAX_OPS = search rules in (
      subst (λ (xs : List Stretch). AreStretches (now at) xs c.push_reserved-2.new.self.items (l.len + 1))
          (sym c.push_single.ensures)
          (subst (λ (ns : List ℕ). AreStretches (now at) (l.stretches.items ++ Single c.len.result ∷ []) ns (l.len + 1))
          (sym c.push_reserved-2.ensures.items)
          (pushed_are (was at) (now at) (grows at) c.args.op c.lemma_has_spelling.ensures l.stretches.items
          l.firsts.items l.len c.self.invariant.0 (Single c.len.result) (there at) (ops at) tt (omega arith))),
      most,
      c.self.invariant.2,
    )

pub returns : goal.returns
returns c =
    let at : After-push_reserved-2 = (goal.at.returns c).After-push_reserved-2 in
    ap (all_ops (now at)) c.push_single.ensures
    ∙ pushed_ops (was at) (now at) (grows at) c.args.op c.lemma_has_spelling.ensures c.self.inside.stretches.items
    c.self.inside.firsts.items c.self.inside.len c.self.invariant.0 (Single c.len.result) (there at) (ops at) tt
    ∙ ap (λ (o : OpsSeen). o.items ++ c.args.op ∷ []) c.self.view_is
