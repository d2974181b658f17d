use Rattle.std.proofs.Common.{rules, ℕ, List, ◌∷◌, [], ◌++◌, ◌+◌, ◌≤◌, length, refl, ap, subst, sym, ◌∙◌, arith}
use Rattle.std.proofs.lemmas.Option.{get_or_from_slice_get, slice_get_within}
use Rattle.std.specs.Prelude.{vec_len}
use Rattle.looks.specs.Looks.{plain_looks}
use Rattle.operations.specs.Letters.{letters}
use Rattle.op_log.specs.declared.TheConstants.{MAX_OPS}
use Rattle.op_log.specs.declared.op_list.TheConstants.{MAX_LOOKS}
use Rattle.op_log.specs.declared.stretch.TypedRun.{TypedRun}
use Rattle.op_log.specs.declared.stretch.Stretch.{Stretch}
use Rattle.op_log.specs.declared.stretch.Stretch.TheVariants.{Typed}
use Rattle.op_log.specs.Seen.{OpsSeen}
use Rattle.op_log.specs.Stretches.{AreStretches, Shared, TypingGoesOn, all_ops, shared}
use Rattle.operations.proofs.Typed.{in_range}
use Rattle.op_log.proofs.Letters.{Grown, begun}
use Rattle.op_log.proofs.op_list.OpList.begin_with.Goals as goal
use Rattle.op_log.proofs.op_list.OpList.begin_with.Goals.{After-push_reserved-2}

-- the run that begins
abbrev run : After-push_reserved-2 → TypedRun
run c = record {
  stamp = c.args.typing.now.stamp;
  from = c.len-from.result;
  seq = c.args.typing.now.seq;
  at = c.args.typing.now.at;
  looks = c.number_of.result;
  len = length c.args.bytes.now;
  cause_site = c.numbers_of-cause_site.result.0;
  cause_off = c.numbers_of-cause_site.result.1;
  text = c.args.typing.now.text;
  site = c.args.typing.now.site;
}

abbrev was : After-push_reserved-2 → Shared
was c = shared c.self.inside.bytes.items c.self.inside.looks.items c.self.inside.singles.items

goes_on : (c : After-push_reserved-2) → TypingGoesOn c.number_of.new.entered.items (run c) 0 c.args.typing.now
goes_on c = record {
  text = refl;
  site = refl;
  seq = omega arith;
  stamp = omega arith;
  at = omega arith;
  cause = sym c.numbers_of-cause_site.ensures.anchor;
  own_looks = sym (get_or_from_slice_get c.number_of.new.entered.items c.number_of.result c.args.typing.now.looks plain_looks
      c.number_of.ensures.there);
}

-- the list as it has grown
grown : (c : After-push_reserved-2)
    → Grown (shared c.self.inside.bytes.items c.number_of.new.entered.items c.self.inside.singles.items)
    (all_ops (was c) c.self.inside.stretches.items) c.append.new.bytes.items c.self.inside.stretches.items (run c)
    (length c.args.bytes.now) (c.self.inside.firsts.items ++ c.self.inside.len ∷ []) (c.self.inside.len + length c.args.bytes.now)
    (letters c.args.typing.now c.args.bytes.now)
grown c =
    let l = c.self.inside in
    let (added, more) = c.number_of.ensures.grows in
    begun (was c) l.stretches.items l.firsts.items l.len c.self.invariant.0 c.number_of.new.entered.items added more (run c)
    (omega (arith, c.len-from.ensures, l.bytes.ok.0))
    (slice_get_within c.number_of.new.entered.items c.number_of.result c.args.typing.now.looks c.number_of.ensures.there)
    c.numbers_of-cause_site.ensures.in_file c.args.typing.now (goes_on c) c.args.bytes.now c.requires.some c.requires.spelled
    c.append.new.bytes.items c.append.ensures refl

pub overflow_cast-run : goal.overflow_cast-run
overflow_cast-run c =
    let range = in_range c.args.typing.now c.args.bytes.now c.requires.some c.requires.spelled in
    omega (arith, range.in_file)

pub invariant_of-self : goal.invariant_of-self
invariant_of-self c =
    let at : After-push_reserved-2 = (goal.at.invariant_of-self c).After-push_reserved-2 in
    let l = c.self.inside in
    let s : Shared = shared c.append.new.bytes.items c.number_of.new.entered.items l.singles.items in
    let len : ℕ = l.len + length c.args.bytes.now in
    let most : len ≤ MAX_OPS = search rules in
    let looks : vec_len c.number_of.new.entered ≤ MAX_LOOKS = search rules in (
      subst (λ (xs : List Stretch). AreStretches s xs c.push_reserved-2.new.self.items len) (sym c.push_reserved.ensures.items)
          (subst (λ (ns : List ℕ). AreStretches s (l.stretches.items ++ Typed (run at) ∷ []) ns len)
          (sym c.push_reserved-2.ensures.items) (grown at).are),
      most,
      looks,
    )

pub returns : goal.returns
returns c =
    let at : After-push_reserved-2 = (goal.at.returns c).After-push_reserved-2 in
    ap (all_ops (shared c.append.new.bytes.items c.number_of.new.entered.items c.self.inside.singles.items))
    c.push_reserved.ensures.items
    ∙ (grown at).all
    ∙ ap (λ (o : OpsSeen). o.items ++ letters c.args.typing.now c.args.bytes.now) c.self.view_is
