use Rattle.std.proofs.Common.{arith}
use Rattle.text_file.proofs.Heads.{none_yet, one_more, none_more, all_read}
use Rattle.text_file.proofs.loading.heads_at.Goals as goal

pub loop-init : goal.loop-init
loop-init c = none_yet c.args.bytes.now

pub loop-preserved : goal.loop-preserved
loop-preserved c =
    let found = c.in-Some.ensures.some in
    rw c.from-left.ensures (one_more c.args.bytes.now c.loop.counter c.loop.left c.loop.last
    c.loop.rest.now c.in-Some.head c.in-Some.after.now c.loop.invariant found.0 found.1 found.2 found.3)

pub returns-in_default-clause-none : goal.returns-in_default-clause-none
returns-in_default-clause-none c =
    none_more c.lemma_one_spelling.ensures.looks c.args.bytes.now c.loop.counter c.loop.left c.args.count
    c.loop.last c.loop.rest.now c.loop.invariant c.loop-test.true c.in_default.ensures.none

pub returns-clause-some : goal.returns-clause-some
returns-clause-some c =
    all_read c.args.bytes.now c.loop.counter c.loop.left c.args.count c.loop.last c.loop.rest.now
    c.loop.invariant (omega arith)
