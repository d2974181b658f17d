use Rattle.std.proofs.Common.{◌≡◌, true, sym, ◌∙◌}
use Rattle.std.specs.Prelude.{◌&&◌}
use Rattle.std.proofs.lemmas.Bool.{and_parts}
use Rattle.command_words.specs.Commands.{has_parameter}
use Rattle.machine.specs.Commands.{is_caret_sign}
use Rattle.commands.proofs.Clicks.{followed, not_followed}
use Rattle.commands.proofs.desk.Desk.parameter.Goals as goal

pub returns-then-is_followed-clause-task : goal.returns-then-is_followed-clause-task
returns-then-is_followed-clause-task c = λ viewer text.
    let both : (has_parameter c.args.call.command && is_caret_sign c.args.call.token.value) ≡ true =
    sym c.is_followed.ensures ∙ c.if-is_followed.true in
    let (asks, sign) = and_parts (has_parameter c.args.call.command) (is_caret_sign c.args.call.token.value) both in
    followed c.args.self.now.texts c.args.self.now.screen c.args.call viewer text c.marked_value.result asks sign
    c.marked_value.ensures.value

pub returns-clause-task : goal.returns-clause-task
returns-clause-task c = λ viewer text.
    not_followed c.args.self.now.texts c.args.self.now.screen c.args.call viewer text
    (sym c.is_followed.ensures ∙ c.if-is_followed.false)
