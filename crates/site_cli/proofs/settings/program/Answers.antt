use Rattle.std.proofs.Common.{◌≡◌, ◌∙◌, ap, ap₂, codes}
use Rattle.std.proofs.lemmas.Result.{IfOk-weaker}
use Rattle.clap.specs.Words.{app_of, new_app, with_rule}
use Rattle.clap.specs.Simple.{app_of_fields}
use Rattle.site_cli.proofs.settings.program.Goals as goal

pub returns : goal.returns
returns c =
    let named : app_of c.about.result ≡ new_app (codes "site_cli") = ap app_of_fields c.about.ensures ∙ c.new.ensures.app in
    let one = c.in_ok-arg.ensures.shape c.number_option-first.ensures.local ∙ ap₂ with_rule named c.number_option-first.ensures.rule in
    let two = c.in_ok-arg-2.ensures.shape c.number_option-count.ensures.local ∙ ap₂ with_rule one c.number_option-count.ensures.rule in
    let three = c.in_ok-arg-3.ensures.shape c.number_option-width.ensures.local ∙ ap₂ with_rule two c.number_option-width.ensures.rule in
    IfOk-weaker c.arg-4.result _ _ (λ command h. h.shape c.number_option-height.ensures.local ∙ ap₂ with_rule three c.number_option-height.ensures.rule) c.arg-4.ensures
