use Rattle.std.proofs.Common.{◌≡◌, ◌==◌, sym, ◌∙◌, rules, tests}
use Rattle.std.specs.List.{position}
use Rattle.std.proofs.lemmas.Iterator.{YieldsList-from_slice}
use Rattle.std.proofs.lemmas.Iterator.Search.{position_from_yields_List}
use Rattle.script_events.proofs.Words.{split_word-none, split_word-some}
use Rattle.script_events.proofs.event.words.split_word.Goals as goal

pub returns-in_err-end-clause-word : goal.returns-in_err-end-clause-word
returns-in_err-end-clause-word c =
    let found : c.position.result ≡ position (λ b. b == 32) c.args.bytes.now = position_from_yields_List (λ b. b == 32) _ _ _ c.position.ensures.ran (YieldsList-from_slice c.args.bytes.now cc) (λ x b q k. search (rules, tests)) in
    rw (c.from_residual.ensures) (sym (split_word-none c.args.bytes.now (sym found ∙ c.in_err-end.was)))

pub returns-clause-word : goal.returns-clause-word
returns-clause-word c =
    let found : c.position.result ≡ position (λ b. b == 32) c.args.bytes.now = position_from_yields_List (λ b. b == 32) _ _ _ c.position.ensures.ran (YieldsList-from_slice c.args.bytes.now cc) (λ x b q k. search (rules, tests)) in
    sym (split_word-some c.args.bytes.now c.in_ok-end.end (sym found ∙ c.in_ok-end.was))
