use Rattle.std.proofs.Common.{rules, ◌≡◌, ℕ, List, ◌∷◌, [], ◌++◌, ◌+◌, ◌≤◌, ap, subst, sym, ◌∙◌}
use Rattle.looks.specs.declared.looks.Looks.{Looks}
use Rattle.op_log.specs.declared.TheConstants.{MAX_OPS}
use Rattle.op_log.specs.declared.stretch.Stretch.{Stretch}
use Rattle.op_log.specs.declared.stretch.Stretch.TheVariants.{Typed}
use Rattle.op_log.specs.Seen.{OpsSeen}
use Rattle.op_log.specs.Stretches.{AreStretches, Shared, all_ops, letter_of_run, shared}
use Rattle.op_log.proofs.Stretches.{longer_all, longer_are}
use Rattle.op_log.proofs.op_list.OpList.go_on.Goals as goal

pub invariant_of-self : goal.invariant_of-self
invariant_of-self c =
    let l = c.self.inside in
    let s : Shared = shared l.bytes.items l.looks.items l.singles.items in
    let (before, r, sts, next, small) = c.in-Some.ensures in
    let is : l.stretches.items ≡ before ++ Typed r ∷ [] = sym c.deref.ensures.value ∙ sts in
    let here : AreStretches s (before ++ Typed r ∷ []) l.firsts.items l.len =
    subst (λ (x : List Stretch). AreStretches s x l.firsts.items l.len) is c.self.invariant.0 in
    let own : c.args.op.now ≡ letter_of_run l.looks.items r r.len c.in-Some.byte =
    subst (λ (ls : List Looks). c.args.op.now ≡ letter_of_run ls r r.len c.in-Some.byte) c.deref-2.ensures.value next in
    let most : l.len + 1 ≤ MAX_OPS = search rules in (
      subst (λ (b : List ℕ). AreStretches (shared b l.looks.items l.singles.items) c.lengthen_by.new.stretches.items l.firsts.items
          (l.len + 1)) (sym c.push_reserved.ensures.items)
          (subst (λ (x : List Stretch). AreStretches (shared (l.bytes.items ++ c.in-Some.byte ∷ []) l.looks.items l.singles.items) x
          l.firsts.items (l.len + 1)) (sym (c.lengthen_by.ensures before r is))
          (longer_are s c.in-Some.byte c.args.op.now c.lemma_has_spelling.ensures before r l.firsts.items l.len here own)),
      most,
      c.self.invariant.2,
    )

pub returns-clause-goes_on : goal.returns-clause-goes_on
returns-clause-goes_on c = λ yes.
    let l = c.self.inside in
    let s : Shared = shared l.bytes.items l.looks.items l.singles.items in
    let (before, r, sts, next, small) = c.in-Some.ensures in
    let is : l.stretches.items ≡ before ++ Typed r ∷ [] = sym c.deref.ensures.value ∙ sts in
    let here : AreStretches s (before ++ Typed r ∷ []) l.firsts.items l.len =
    subst (λ (x : List Stretch). AreStretches s x l.firsts.items l.len) is c.self.invariant.0 in
    let own : c.args.op.now ≡ letter_of_run l.looks.items r r.len c.in-Some.byte =
    subst (λ (ls : List Looks). c.args.op.now ≡ letter_of_run ls r r.len c.in-Some.byte) c.deref-2.ensures.value next in
    ap (λ (b : List ℕ). all_ops (shared b l.looks.items l.singles.items) c.lengthen_by.new.stretches.items) c.push_reserved.ensures.items
    ∙ ap (all_ops (shared (l.bytes.items ++ c.in-Some.byte ∷ []) l.looks.items l.singles.items)) (c.lengthen_by.ensures before r is)
    ∙ longer_all s c.in-Some.byte c.args.op.now c.lemma_has_spelling.ensures before r l.firsts.items l.len here own
    ∙ ap (λ (x : List Stretch). all_ops s x ++ c.args.op.now ∷ []) (sym is)
    ∙ ap (λ (o : OpsSeen). o.items ++ c.args.op.now ∷ []) c.self.view_is
