use Rattle.std.proofs.Common.{◌≡◌, subst, ◌∙◌}
use Rattle.set_laws.specs.Fronts.{file_len}
use Rattle.op_log.specs.Seen.{LogSeen}
use Rattle.op_log.proofs.Logged.{file_told}
use Rattle.op_log.proofs.log.Log.file_len.Goals as goal

pub returns-clause-value : goal.returns-clause-value
returns-clause-value c =
    subst (λ (seen : LogSeen). c.file_len.result ≡ file_len seen.ops c.args.site) c.self.view_is
    (c.file_len.ensures.value ∙ file_told c.self.invariant c.args.site)
