use Rattle.std.proofs.Common.{◌≡◌, ◌+◌, List, refl, ap, ◌∙◌, arith}
use Rattle.std.specs.Prelude.{nat_lt}
use Rattle.char_files.specs.declared.TheConstants.{MAX_FILE}
use Rattle.operations.specs.Operation.{Operation, insert}
use Rattle.set_laws.specs.Fronts.{file_len}
use Rattle.texts.specs.Outcome.{passes_file}
use Rattle.texts.specs.TextState.{TextState}
use Rattle.texts.proofs.Made.{by_length}
use Rattle.texts.proofs.replica.Replica.insert_refusal.Goals as goal

pub returns : goal.returns
returns c = λ cause at looks bytes long.
    let t = c.args.self.now in
    let old : c.from.result ≡ file_len t.operations t.site =
    c.from.ensures ∙ c.file_len-old.ensures.value
    ∙ ap (λ (ops : List Operation). file_len ops c.self.inside.site) c.log.ensures
    ∙ ap (λ (t : TextState). file_len t.operations t.site) c.self.view_is in
    let file : passes_file t (insert cause at looks bytes) ≡ nat_lt MAX_FILE (c.from.result + c.args.len) =
    ap (nat_lt MAX_FILE) (omega (arith, old, long)) in
    by_length t (insert cause at looks bytes) (c.from.result + c.args.len) c.refusal_for.result c.refusal_for.ensures.some
    c.refusal_for.ensures.none file refl
