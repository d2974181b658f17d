use Rattle.std.proofs.Common.{ap, length, arith}
use Rattle.text_file.proofs.PlainFiles.{plain_few, plain_none}
use Rattle.text_file.proofs.plain.plain_len.Goals as goal

pub overflow_add-len : goal.overflow_add-len
overflow_add-len c = omega (arith, ap length c.in-Some.ensures.value, plain_few c.args.bytes.now)

pub loop-after-preserved : goal.loop-after-preserved
loop-after-preserved c = omega (arith, ap length c.in-Some.ensures.value)

pub returns : goal.returns
returns c = omega (arith, plain_none c.loop-after.rest.now c.in_default.ensures.value)
