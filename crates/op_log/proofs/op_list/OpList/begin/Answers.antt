use Rattle.std.proofs.Common.{rules, ◌≡◌, ℕ, List, ◌∷◌, [], ◌++◌, ◌+◌, ◌<◌, ◌≤◌, length, refl, append-nil, ap, subst, sym, ◌∙◌, arith}
use Rattle.std.proofs.lemmas.List.{length-append}
use Rattle.std.proofs.lemmas.Option.{get_or_from_slice_get, slice_get_within}
use Rattle.std.specs.Prelude.{vec_len}
use Rattle.looks.specs.Looks.{plain_looks}
use Rattle.looks.specs.declared.looks.Looks.{Looks}
use Rattle.operations.specs.Operation.{insert}
use Rattle.op_log.specs.declared.TheConstants.{MAX_OPS}
use Rattle.op_log.specs.declared.op_list.TheConstants.{MAX_LOOKS}
use Rattle.op_log.specs.declared.stretch.TypedRun.{TypedRun}
use Rattle.op_log.specs.declared.stretch.Stretch.{Stretch}
use Rattle.op_log.specs.declared.stretch.Stretch.TheVariants.{Typed}
use Rattle.op_log.specs.Seen.{OpsSeen}
use Rattle.op_log.specs.Stretches.{AreStretches, Shared, all_ops, anchor_of, letter_of_run, looks_in, shared}
use Rattle.op_log.proofs.Stretches.{Extends, begun_ends, begun_ops, begun_there, is_letter, pushed_are, pushed_ops}
use Rattle.op_log.proofs.op_list.OpList.begin.Goals as goal
use Rattle.op_log.proofs.op_list.OpList.begin.Goals.{After-push_reserved-3}

-- the run that begins
abbrev run : After-push_reserved-3 → TypedRun
run c = record {
  stamp = c.stamp.result;
  from = c.len.result;
  seq = c.seq.result;
  at = c.args.at;
  looks = c.number_of.result;
  len = 1;
  cause_site = c.args.cause.0;
  cause_off = c.args.cause.1;
  text = c.text.result;
  site = c.site.result;
}

abbrev was : After-push_reserved-3 → Shared
was c = shared c.self.inside.bytes.items c.self.inside.looks.items c.self.inside.singles.items

abbrev now : After-push_reserved-3 → Shared
now c = shared c.push_reserved.new.self.items c.number_of.new.entered.items c.self.inside.singles.items

grows : (c : After-push_reserved-3) → Extends (was c) (now c)
grows c = record {
  bytes = (c.args.byte ∷ [], c.push_reserved.ensures.items);
  looks = c.number_of.ensures.grows;
  singles = ([], sym (append-nil c.self.inside.singles.items));
}

looks_there : (c : After-push_reserved-3) → c.number_of.result < length c.number_of.new.entered.items
looks_there c = slice_get_within c.number_of.new.entered.items c.number_of.result c.args.looks.now c.number_of.ensures.there

is : (c : After-push_reserved-3) → c.args.op.now ≡ letter_of_run (now c).looks (run c) 0 c.args.byte
is c =
    let own : c.args.looks.now ≡ looks_in (now c).looks (run c) =
    sym (get_or_from_slice_get c.number_of.new.entered.items c.number_of.result c.args.looks.now plain_looks
    c.number_of.ensures.there) in
    let seq : c.args.op.now.seq ≡ c.seq.result + 0 = omega (arith, c.seq.ensures) in
    let stamp : c.args.op.now.stamp ≡ c.stamp.result + 0 = omega (arith, c.stamp.ensures) in
    let at : c.args.at ≡ c.args.at + 0 = omega arith in
    is_letter c.args.op.now (now c).looks (run c) 0 c.args.byte (sym c.text.ensures) (sym c.site.ensures) seq stamp
    (c.requires.letter
    ∙ ap (λ (n : ℕ). insert (anchor_of c.args.cause.0 c.args.cause.1) n c.args.looks.now (c.args.byte ∷ [])) at
    ∙ ap (λ (l : Looks). insert (anchor_of c.args.cause.0 c.args.cause.1) (c.args.at + 0) l (c.args.byte ∷ [])) own)

from : (c : After-push_reserved-3) → c.len.result ≡ length c.self.inside.bytes.items
from c = omega (arith, c.len.ensures, c.self.inside.bytes.ok.0)

more : (c : After-push_reserved-3) → length (now c).bytes ≤ length (was c).bytes + 1
more c = omega (
  arith,
  ap length c.push_reserved.ensures.items,
  length-append c.self.inside.bytes.items (c.args.byte ∷ []),
)

pub invariant_of-self : goal.invariant_of-self
invariant_of-self c =
    let at : After-push_reserved-3 = (goal.at.invariant_of-self c).After-push_reserved-3 in
    let l = c.self.inside in
    let most : l.len + 1 ≤ MAX_OPS = search rules in
    let looks : vec_len c.number_of.new.entered ≤ MAX_LOOKS = search rules in (
      subst (λ (xs : List Stretch). AreStretches (now at) xs c.push_reserved-3.new.self.items (l.len + 1))
          (sym c.push_reserved-2.ensures.items)
          (subst (λ (ns : List ℕ). AreStretches (now at) (l.stretches.items ++ Typed (run at) ∷ []) ns (l.len + 1))
          (sym c.push_reserved-3.ensures.items)
          (pushed_are (was at) (now at) (grows at) c.args.op.now c.lemma_has_spelling.ensures l.stretches.items
          l.firsts.items l.len c.self.invariant.0 (Typed (run at))
          (begun_there (was at) (now at) (grows at) c.args.op.now (run at) c.args.byte refl (from at)
          c.push_reserved.ensures.items (looks_there at) c.requires.cause (is at))
          (begun_ops (was at) (now at) (grows at) c.args.op.now (run at) c.args.byte refl (from at)
          c.push_reserved.ensures.items (looks_there at) c.requires.cause (is at))
          (begun_ends (was at) (now at) (grows at) c.args.op.now (run at) c.args.byte refl (from at)
          c.push_reserved.ensures.items (looks_there at) c.requires.cause (is at))
          (more at))),
      most,
      looks,
    )

pub returns : goal.returns
returns c =
    let at : After-push_reserved-3 = (goal.at.returns c).After-push_reserved-3 in
    ap (all_ops (now at)) c.push_reserved-2.ensures.items
    ∙ pushed_ops (was at) (now at) (grows at) c.args.op.now c.lemma_has_spelling.ensures c.self.inside.stretches.items
    c.self.inside.firsts.items c.self.inside.len c.self.invariant.0 (Typed (run at))
    (begun_there (was at) (now at) (grows at) c.args.op.now (run at) c.args.byte refl (from at) c.push_reserved.ensures.items
    (looks_there at) c.requires.cause (is at))
    (begun_ops (was at) (now at) (grows at) c.args.op.now (run at) c.args.byte refl (from at) c.push_reserved.ensures.items
    (looks_there at) c.requires.cause (is at))
    (begun_ends (was at) (now at) (grows at) c.args.op.now (run at) c.args.byte refl (from at) c.push_reserved.ensures.items
    (looks_there at) c.requires.cause (is at))
    ∙ ap (λ (o : OpsSeen). o.items ++ c.args.op.now ∷ []) c.self.view_is
