use Rattle.std.proofs.Common.{rules, ◌≡◌, List, ◌∷◌, [], ◌++◌, ◌+◌, ◌≤◌, length, refl, ap, subst, sym, ◌∙◌, arith}
use Rattle.looks.specs.declared.looks.Looks.{Looks}
use Rattle.operations.specs.Letters.{letters}
use Rattle.op_log.specs.declared.TheConstants.{MAX_OPS}
use Rattle.op_log.specs.declared.stretch.TypedRun.{TypedRun}
use Rattle.op_log.specs.declared.stretch.Stretch.{Stretch}
use Rattle.op_log.specs.declared.stretch.Stretch.TheVariants.{Typed}
use Rattle.op_log.specs.Seen.{OpsSeen}
use Rattle.op_log.specs.Stretches.{AreStretches, Shared, TypingGoesOn, all_ops, shared}
use Rattle.operations.proofs.Typed.{in_range}
use Rattle.op_log.proofs.Letters.{Grown, lengthened}
use Rattle.op_log.proofs.op_list.OpList.go_on_with.Goals as goal
use Rattle.op_log.proofs.op_list.OpList.go_on_with.Goals.{After-append}

-- the last run, where the letters go on
last : (c : After-append) → (before : List Stretch) × (r : TypedRun)
    × (c.self.inside.stretches.items ≡ before ++ Typed r ∷ []) × TypingGoesOn c.self.inside.looks.items r r.len c.args.typing.now
last c =
    let (before, r, sts, on) = c.goes_on.ensures c.if-not-goes_on.false in (
      before,
      r,
      sym c.deref.ensures.value ∙ sts,
      subst (λ (ls : List Looks). TypingGoesOn ls r r.len c.args.typing.now) c.deref-2.ensures.value on,
    )

-- as it has grown
grown : (c : After-append) (before : List Stretch) (r : TypedRun) → c.self.inside.stretches.items ≡ before ++ Typed r ∷ []
    → TypingGoesOn c.self.inside.looks.items r r.len c.args.typing.now
    → Grown (shared c.self.inside.bytes.items c.self.inside.looks.items c.self.inside.singles.items)
    (all_ops (shared c.self.inside.bytes.items c.self.inside.looks.items c.self.inside.singles.items) (before ++ Typed r ∷ []))
    c.append.new.bytes.items before r (r.len + length c.args.bytes.now) c.self.inside.firsts.items
    (c.self.inside.len + length c.args.bytes.now) (letters c.args.typing.now c.args.bytes.now)
grown c before r is on =
    let l = c.self.inside in
    let s : Shared = shared l.bytes.items l.looks.items l.singles.items in
    lengthened s before r l.firsts.items l.len c.args.typing.now c.args.bytes.now
    (subst (λ (x : List Stretch). AreStretches s x l.firsts.items l.len) is c.self.invariant.0) on c.requires.spelled
    c.append.new.bytes.items c.append.ensures (r.len + length c.args.bytes.now) refl (l.len + length c.args.bytes.now) refl

pub lengthen_by-requires : goal.lengthen_by-requires
lengthen_by-requires c =
    let (before, r, is, on) = last (goal.at.lengthen_by-requires c).After-append in
    let range = in_range c.args.typing.now c.args.bytes.now c.requires.some c.requires.spelled in
    (before, r, is, omega (arith, range.in_file, on.at))

pub invariant_of-self : goal.invariant_of-self
invariant_of-self c =
    let at : After-append = (goal.at.invariant_of-self c).After-append in
    let l = c.self.inside in
    let (before, r, is, on) = last at in
    let most : l.len + length c.args.bytes.now ≤ MAX_OPS = search rules in (
      subst (λ (x : List Stretch). AreStretches (shared c.append.new.bytes.items l.looks.items l.singles.items) x l.firsts.items
          (l.len + length c.args.bytes.now)) (sym (c.lengthen_by.ensures before r is)) (grown at before r is on).are,
      most,
      c.self.invariant.2,
    )

pub returns-clause-goes_on : goal.returns-clause-goes_on
returns-clause-goes_on c = λ yes.
    let at : After-append = (goal.at.returns-clause-goes_on c).After-append in
    let l = c.self.inside in
    let s : Shared = shared l.bytes.items l.looks.items l.singles.items in
    let (before, r, is, on) = last at in
    ap (all_ops (shared c.append.new.bytes.items l.looks.items l.singles.items)) (c.lengthen_by.ensures before r is)
    ∙ (grown at before r is on).all
    ∙ ap (λ (x : List Stretch). all_ops s x ++ letters c.args.typing.now c.args.bytes.now) (sym is)
    ∙ ap (λ (o : OpsSeen). o.items ++ letters c.args.typing.now c.args.bytes.now) c.self.view_is
