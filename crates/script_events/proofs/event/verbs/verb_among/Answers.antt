use Rattle.std.proofs.Common.{arith}
use Rattle.script_events.proofs.Verbs.{ended, found, passed}
use Rattle.script_events.proofs.event.verbs.verb_among.Goals as goal

pub returns-then-eq : goal.returns-then-eq
returns-then-eq c =
    found c.args.rows.now c.loop-spelled.spelled-index _ c.args.word.now c.eq.result _ c.eq.ensures c.if-eq.true (omega arith)
    c.loop-spelled.invariant

pub loop-spelled-preserved : goal.loop-spelled-preserved
loop-spelled-preserved c =
    passed c.args.rows.now c.loop-spelled.spelled-index _ c.args.word.now c.eq.result _ c.eq.ensures c.if-eq.false (omega arith)
    c.loop-spelled.invariant

pub returns : goal.returns
returns c =
    ended c.args.rows.now c.loop-spelled.spelled-index c.args.word.now _ (omega arith) c.loop-spelled.invariant
