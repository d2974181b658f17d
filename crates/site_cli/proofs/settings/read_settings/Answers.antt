use Rattle.std.proofs.Common.{◌∙◌, [], ◌∷◌, ap, map}
use Rattle.std.specs.Prelude.{if◌then◌else◌}
use Rattle.std.proofs.lemmas.Result.{IfOk-weaker}
use Rattle.clap.specs.Words.{app_of, found_of, is_simple_and_free}
use Rattle.clap.specs.declared.error.kind.ErrorKind.TheVariants.{ValueValidation}
use Rattle.site_cli.specs.Finding.{FindsSettings}
use Rattle.site_cli.specs.CommandLine.{Gives, are_numbers}
use Rattle.site_cli.proofs.Reading.{fails-read, gives-found, simple_and_free, told}
use Rattle.site_cli.proofs.settings.read_settings.Goals as goal

pub returns-in_err-matches-clause-faults : goal.returns-in_err-matches-clause-faults
returns-in_err-matches-clause-faults g c =
    let words = map g.S.AsStr.text c.args.words.now in
    told c.from_residual-in_err-matches.result c.in_err-matches.field-0.0 (app_of c.in_ok-program.program) words
    (if are_numbers words then [] else ValueValidation ∷ []) c.in_ok-program.ensures c.from_residual-in_err-matches.ensures.1
    (c.in_err-matches.ensures.kinds (ap is_simple_and_free c.in_ok-program.ensures ∙ simple_and_free))

pub returns-clause-given : goal.returns-clause-given
returns-clause-given g c =
    let words = map g.S.AsStr.text c.args.words.now in
    let m = c.in_ok-matches.matches in
    IfOk-weaker c.settings_in.result (FindsSettings (found_of m)) (Gives words)
    (gives-found m (app_of c.in_ok-program.program) words c.in_ok-program.ensures c.in_ok-matches.ensures.ok.2)
    c.settings_in.ensures.ok

pub returns-clause-faults : goal.returns-clause-faults
returns-clause-faults g c =
    fails-read c.in_ok-matches.matches (app_of c.in_ok-program.program) (map g.S.AsStr.text c.args.words.now)
    c.in_ok-program.ensures c.in_ok-matches.ensures.ok.2 c.settings_in.result
    (c.in_ok-matches.ensures.kinds (ap is_simple_and_free c.in_ok-program.ensures ∙ simple_and_free))
    c.settings_in.ensures.ok c.settings_in.ensures.err
