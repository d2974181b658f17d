use Rattle.std.proofs.Common.{rules, ◌≡◌, ℕ, List, ◌∷◌, [], ◌++◌, ◌+◌, ◌≤◌, ap, subst, sym, ◌∙◌, arith}
use Rattle.op_log.specs.declared.TheConstants.{MAX_OPS}
use Rattle.op_log.specs.declared.stretch.Stretch.{Stretch}
use Rattle.op_log.specs.declared.stretch.Stretch.TheVariants.{Deleted}
use Rattle.op_log.specs.Seen.{OpsSeen}
use Rattle.op_log.specs.Stretches.{AreStretches, Shared, all_ops, ops_of, shared}
use Rattle.op_log.proofs.Stretches.{pushed_are, pushed_ops, stays}
use Rattle.op_log.proofs.op_list.OpList.push_deleted.Goals as goal
use Rattle.op_log.proofs.op_list.OpList.push_deleted.Goals.{After-push_reserved}

abbrev now : After-push_reserved → Shared
now c = shared c.self.inside.bytes.items c.self.inside.looks.items c.self.inside.singles.items

ops : (c : After-push_reserved) → ops_of (now c) (Deleted c.args.one) ≡ c.args.op.now ∷ []
ops c = ap (λ o. o ∷ []) (sym c.requires.one)

pub invariant_of-self : goal.invariant_of-self
invariant_of-self c =
    let at : After-push_reserved = (goal.at.invariant_of-self c).After-push_reserved in
    let l = c.self.inside in
    let most : l.len + 1 ≤ MAX_OPS = search rules in (
      subst (λ (xs : List Stretch). AreStretches (now at) xs c.push_reserved.new.self.items (l.len + 1)) (sym c.push_deleted.ensures)
          (subst (λ (ns : List ℕ). AreStretches (now at) (l.stretches.items ++ Deleted c.args.one ∷ []) ns (l.len + 1))
          (sym c.push_reserved.ensures.items)
          (pushed_are (now at) (now at) (stays (now at)) c.args.op.now c.lemma_has_spelling.ensures l.stretches.items
          l.firsts.items l.len c.self.invariant.0 (Deleted c.args.one) tt (ops at) tt (omega arith))),
      most,
      c.self.invariant.2,
    )

pub returns : goal.returns
returns c =
    let at : After-push_reserved = (goal.at.returns c).After-push_reserved in
    ap (all_ops (now at)) c.push_deleted.ensures
    ∙ pushed_ops (now at) (now at) (stays (now at)) c.args.op.now c.lemma_has_spelling.ensures c.self.inside.stretches.items
    c.self.inside.firsts.items c.self.inside.len c.self.invariant.0 (Deleted c.args.one) tt (ops at) tt
    ∙ ap (λ (o : OpsSeen). o.items ++ c.args.op.now ∷ []) c.self.view_is
