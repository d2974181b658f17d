use Rattle.std.proofs.Common.{◌≡◌, ◌≤◌, length, true, sym, ◌∙◌, arith}
use Rattle.std.proofs.lemmas.Bool.{eqb-false}
use Rattle.std.specs.Str.{all_ascii_digits}
use Rattle.site_cli.proofs.Decimals.{decimal_in-parsed}
use Rattle.site_cli.proofs.numbers.decimal_in.Goals as goal

pub returns : goal.returns
returns c =
    let digits : all_ascii_digits c.args.text.now ≡ true = cc in
    let some : 1 ≤ length c.args.text.now = omega (arith, eqb-false _ _ (sym c.is_empty.ensures ∙ c.if-is_empty.false)) in
    c.ok.ensures.value ∙ decimal_in-parsed c.args.text.now c.parse.result some digits c.parse.ensures.value.0
