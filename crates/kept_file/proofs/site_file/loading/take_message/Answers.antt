use Rattle.std.proofs.Common.{◌≡◌, Err, ap, subst, sym}
use Rattle.looks.specs.declared.refusal.Refusal.TheVariants.{BadFile}
use Rattle.operations.specs.Operation.{Operation}
use Rattle.set_laws.specs.Verdict.{ready}
use Rattle.texts.specs.Taking.{IsJudged}
use Rattle.kept_file.proofs.OneMessage.{next_told, none_told}
use Rattle.kept_file.proofs.site_file.loading.take_message.Goals as goal

pub returns-in-Ok-clause-ok : goal.returns-in-Ok-clause-ok
returns-in-Ok-clause-ok c =
    next_told c.args.replica.now c.take_ready.new.replica c.args.message.now c.in-Ok.op c.take_ready.result
    (record { valid = c.lemma_has_spelling.ensures; spelled = c.in-Ok.ensures.ok }) c.take_ready.ensures.ok

pub returns-in-Ok-clause-refused : goal.returns-in-Ok-clause-refused
returns-in-Ok-clause-refused c = λ bad op tells judged.
    c.take_ready.ensures.refused bad
    (subst (λ (o : Operation). IsJudged c.args.replica.now o ready)
    (sym (c.in-Ok.ensures.only op tells.valid tells.spelled)) judged)

pub returns-in-Err-clause-refused : goal.returns-in-Err-clause-refused
returns-in-Err-clause-refused c = λ bad op tells judged.
    let is : c.refusal_of_file.result ≡ BadFile = cc in
    none_told c.args.message.now c.in-Err.why c.refusal_of_file.result c.in-Err.ensures.errors
    (λ malformed. c.in-Err.ensures.malformed.0 (ap Err malformed)) c.refusal_of_file.ensures.short is op tells
