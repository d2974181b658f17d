use Rattle.std.proofs.Common.{Bool, Ok, subst, arith}
use Rattle.texts.specs.Draining.{LeavesRoom}
use Rattle.texts.proofs.Draining.{begins, ended, fewer_wait, one_taken, one_thrown, stopped_here}
use Rattle.texts.proofs.replica.Replica.settle.Goals as goal

pub loop-index-init : goal.loop-index-init
loop-index-init c = (begins c.args.self.now, omega (arith, c.lemma_is_text.ensures.waiting.few))

pub overflow_add-drained : goal.overflow_add-drained
overflow_add-drained c =
    let fewer = fewer_wait c.loop-index.self c.in-Some.index c.in-Ok-true.field-0 c.take_out.new.self
    c.in-Ok-true.ensures in
    omega (arith, c.loop-index.invariant.1, fewer)

pub loop-index-smaller-in-Ok-true : goal.loop-index-smaller-in-Ok-true
loop-index-smaller-in-Ok-true c =
    let fewer = fewer_wait c.loop-index.self c.in-Some.index c.in-Ok-true.field-0 c.take_out.new.self
    c.in-Ok-true.ensures in
    omega (arith, fewer)

pub loop-index-preserved-in-Ok-true : goal.loop-index-preserved-in-Ok-true
loop-index-preserved-in-Ok-true c =
    let now = c.loop-index.self in
    let new = c.take_out.new.self in
    let i = c.in-Some.index in
    let fewer = fewer_wait now i c.in-Ok-true.field-0 new c.in-Ok-true.ensures in
    let left = subst (λ (b : Bool). LeavesRoom now i (Ok b) new) c.in-Ok-true.field-0-test c.in-Ok-true.ensures in (
      one_taken c.args.self.now now c.loop-index.drained c.loop-index.dropped c.loop-index.invariant.0 i
          c.in-Some.ensures.some new left,
      omega (arith, c.loop-index.invariant.1, fewer),
    )

pub overflow_add-dropped : goal.overflow_add-dropped
overflow_add-dropped c =
    let fewer = fewer_wait c.loop-index.self c.in-Some.index c.in-Ok-false.field-0 c.take_out.new.self
    c.in-Ok-false.ensures in
    omega (arith, c.loop-index.invariant.1, fewer)

pub loop-index-smaller : goal.loop-index-smaller
loop-index-smaller c =
    let fewer = fewer_wait c.loop-index.self c.in-Some.index c.in-Ok-false.field-0 c.take_out.new.self
    c.in-Ok-false.ensures in
    omega (arith, fewer)

pub loop-index-preserved : goal.loop-index-preserved
loop-index-preserved c =
    let now = c.loop-index.self in
    let new = c.take_out.new.self in
    let i = c.in-Some.index in
    let fewer = fewer_wait now i c.in-Ok-false.field-0 new c.in-Ok-false.ensures in
    let left = subst (λ (b : Bool). LeavesRoom now i (Ok b) new) c.in-Ok-false.field-0-test c.in-Ok-false.ensures in (
      one_thrown c.args.self.now now c.loop-index.drained c.loop-index.dropped c.loop-index.invariant.0 i
          c.in-Some.ensures.some new left,
      omega (arith, c.loop-index.invariant.1, fewer),
    )

pub returns-in-Err : goal.returns-in-Err
returns-in-Err c =
    stopped_here c.args.self.now c.loop-index.self c.loop-index.drained c.loop-index.dropped c.loop-index.invariant.0
    c.in-Some.index c.in-Some.ensures.some c.take_out.new.self c.in-Err.field-0 c.in-Err.ensures

pub returns : goal.returns
returns c =
    ended c.args.self.now c.loop-index.self c.loop-index.drained c.loop-index.dropped c.loop-index.invariant.0
    c.in_default.ensures.none
