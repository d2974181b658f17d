use Rattle.std.proofs.Common.{ℕ, ◌<◌, inl, inr, sym, ◌∙◌, arith, true≢false}
use Rattle.std.proofs.lemmas.Bool.{cases_lt}
use Rattle.std.proofs.lemmas.List.Elements.{All-more}
use Rattle.rank_index.specs.Keyed.{key_in}
use Rattle.rank_index.proofs.Keyed.{begin_at}
use Rattle.rank_index.proofs.keys.count_above.Goals as goal

pub loop-slot-preserved : goal.loop-slot-preserved
loop-slot-preserved c = record {
  above = All-more (λ (m : ℕ × ℕ). c.args.key < key_in c.args.keys.now m.0) c.args.members.now c.loop-slot.slot (0, 0)
      (omega (arith, c.loop-slot-test.true)) c.loop-slot.invariant.above
      (omega (arith, c.key_of.ensures, c.is_above.ensures.value.0 c.if-not-is_above.false));
  few = omega (arith, c.loop-slot.invariant.few, c.is_above.ensures.counted);
}

pub returns-then-not-is_above-clause-stops : goal.returns-then-not-is_above-clause-stops
returns-then-not-is_above-clause-stops c = elim (cases_lt c.args.key c.key_of.result) [
  | inl lt ↦ absurd (true≢false (sym (c.is_above.ensures.value.1 lt) ∙ c.if-not-is_above.true))
  | inr le ↦
      begin_at c.args.keys.now c.args.key c.args.members.now c.loop-slot.slot (0, 0) (omega (arith, c.loop-slot-test.true))
      (omega (arith, c.key_of.ensures, le))
]
