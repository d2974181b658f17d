use Rattle.command_words.proofs.OneCall.{one_command, one_word, one_call}
use Rattle.command_words.proofs.laws.one_call.Goals as goal

pub returns-clause-command : goal.returns-clause-command
returns-clause-command c = one_command

pub returns-clause-word : goal.returns-clause-word
returns-clause-word c = one_word

pub returns-clause-call : goal.returns-clause-call
returns-clause-call c = one_call
