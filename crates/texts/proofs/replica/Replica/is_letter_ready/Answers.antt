use Rattle.std.proofs.Common.{subst}
use Rattle.operations.specs.Letters.{letter}
use Rattle.operations.specs.Operation.{Operation}
use Rattle.set_laws.specs.Verdict.{ready}
use Rattle.texts.specs.Take.{HasFate}
use Rattle.texts.specs.Taking.{IsJudged}
use Rattle.texts.proofs.Letters.{another_is_judged, not_ready}
use Rattle.texts.proofs.replica.Replica.is_letter_ready.Goals as goal

pub returns-in-Ready-clause-ready : goal.returns-in-Ready-clause-ready
returns-in-Ready-clause-ready c told b =
    another_is_judged c.args.self.now c.args.typing.now c.args.byte b
    (subst (λ (op : Operation). IsJudged c.args.self.now op ready) c.in_ok-op.ensures.ok c.in-Ready.ensures.1)

pub returns : goal.returns
returns c =
    let t = c.args.self.now in
    let typing = c.args.typing.now in
    let has = subst (λ (op : Operation). HasFate t op c.fate_of.result) c.in_ok-op.ensures.ok c.fate_of.ensures in
    record {
      ready = λ told. cc;
      others = λ told b judged. not_ready t (letter typing c.args.byte) c.fate_of.result c.requires.room
          c.in_default.not-Ready has (another_is_judged t typing b c.args.byte judged);
      errors = tt;
    }
