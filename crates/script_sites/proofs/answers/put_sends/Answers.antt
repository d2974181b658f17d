use Rattle.script_sites.proofs.Printing.{sends_more, sends_stopped}
use Rattle.script_sites.proofs.answers.put_sends.Goals as goal

pub loop-index-preserved : goal.loop-index-preserved
loop-index-preserved g c =
    sends_more c.args.output.now.contents c.loop-index.output.contents c.put_send.new.output.contents c.args.outbox.now c.args.before c.args.from c.loop-index.index c.message.result.now c.loop-index.auto.index c.message.ensures c.loop-index.invariant c.in_ok-put_send.ensures

pub returns-in_err-put_send : goal.returns-in_err-put_send
returns-in_err-put_send g c =
    sends_stopped _ _ _ _ c.loop-index.output.contents _ c.args.outbox.now c.args.before c.args.from c.loop-index.index c.message.result.now c.loop-index.auto.index c.message.ensures c.loop-index.invariant c.from_residual.ensures.1 c.in_err-put_send.ensures
