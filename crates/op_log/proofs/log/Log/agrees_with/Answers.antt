use Rattle.std.proofs.Common.{◌≡◌, ◌++◌, ◌∷◌, [], Some, inl, inr, slice_get, length, subst, sym, ap, ◌∙◌, arith}
use Rattle.std.specs.Prelude.{Bool, MatchBool}
use Rattle.std.proofs.lemmas.Bool.{cases_lt}
use Rattle.std.proofs.lemmas.Option.{slice_get-get_or}
use Rattle.operations.specs.Operation.{Operation}
use Rattle.set_laws.specs.Sets.{AreIdentified, IsInConflict}
use Rattle.op_log.specs.Seen.{LogSeen}
use Rattle.op_log.proofs.Joined.{joined}
use Rattle.op_log.proofs.Lists.{Contains-slice_get, slice_get-some}
use Rattle.op_log.proofs.log.Log.agrees_with.Goals as goal

pub returns-then-not-agrees_at : goal.returns-then-not-agrees_at
returns-then-not-agrees_at c =
    let ops = c.args.other.now.ops in
    let len = ap (λ (l : LogSeen). length l.ops) c.other.view_is in
    let (op, there) = slice_get-some ops c.loop-place.place (omega (arith, c.loop-place-test.true, c.len-place-end.ensures.value, len)) in (
      op,
      Contains-slice_get ops c.loop-place.place op there,
      subst (λ (b : Bool). MatchBool b (AreIdentified (c.args.self.now.ops ++ op ∷ [])) (IsInConflict c.args.self.now.ops op))
          c.if-not-agrees_at.true (c.agrees_at.ensures op there),
    )

pub loop-place-preserved : goal.loop-place-preserved
loop-place-preserved c = λ k op lt there.
    elim (cases_lt k c.loop-place.place) [
      | inl before ↦ c.loop-place.invariant k op before there
      | inr past ↦
          let same : k ≡ c.loop-place.place = omega arith in
          subst (λ (b : Bool). MatchBool b (AreIdentified (c.args.self.now.ops ++ op ∷ [])) (IsInConflict c.args.self.now.ops op))
          c.if-not-agrees_at.false
          (c.agrees_at.ensures op (ap (slice_get c.args.other.now.ops) (sym same) ∙ there))
    ]

pub returns : goal.returns
returns c =
    let ops = c.args.other.now.ops in
    let len = ap (λ (l : LogSeen). length l.ops) c.other.view_is in
    joined c.args.self.now.ops ops c.lemma_are_held_to_the_front.ensures.identified
    c.lemma_are_held_to_the_front-2.ensures.identified
    (λ op held. let (k, lt, is) = held in
    c.loop-place.invariant k op (omega (arith, lt, c.loop-place-test.false, c.len-place-end.ensures.value, len))
    (slice_get-get_or ops k op lt ∙ ap (λ (o : Operation). Some o) is))
