use Rattle.std.proofs.Common.{◌≡◌}
use Rattle.looks.specs.declared.refusal.Refusal.TheVariants.{BadFile}
use Rattle.kept_file.proofs.Takings.{taken_next, none_ready, none_ready_refused}
use Rattle.kept_file.proofs.taking.take_ready.Goals as goal

pub returns-in-Ok-clause-ok : goal.returns-in-Ok-clause-ok
returns-in-Ok-clause-ok c =
    taken_next c.args.replica.now c.take_op.new.self c.args.op c.requires c.in-Ok.took c.only_taken.result c.in-Ok.ensures
    c.only_taken.ensures.ok

pub returns-in-Ok-clause-refused : goal.returns-in-Ok-clause-refused
returns-in-Ok-clause-refused c =
    none_ready c.args.replica.now c.take_op.new.self c.args.op c.requires c.in-Ok.took c.only_taken.result c.in-Ok.ensures
    c.only_taken.ensures.errors

pub returns-in-Err-clause-refused : goal.returns-in-Err-clause-refused
returns-in-Err-clause-refused c = λ bad.
    let is : c.refusal_of_file.result ≡ BadFile = cc in
    none_ready_refused c.args.replica.now c.take_op.new.self c.args.op c.requires c.in-Err.why c.refusal_of_file.result
    c.in-Err.ensures c.refusal_of_file.ensures.short is
