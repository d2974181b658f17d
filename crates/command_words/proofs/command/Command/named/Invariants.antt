use Rattle.std.proofs.Common.{◌≢◌, ℕ, ◌<◌, get_or}
use Rattle.command_words.specs.declared.command.Command.TheVariants.{SystemOpen}
use Rattle.command_words.specs.declared.command.TheConstants.{COMMANDS}
use Rattle.command_words.specs.Commands.{name_of}
use Rattle.command_words.proofs.command.Command.named.Given as goal

-- none of the commands so far has this word
abbrev pub invariant-loop-command : goal.invariant-loop-command
invariant-loop-command l = (k : ℕ) → k < l.command-index → name_of (get_or COMMANDS k SystemOpen) ≢ l.word
