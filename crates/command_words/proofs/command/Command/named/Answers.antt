use Rattle.std.proofs.Common.{◌≢◌, ℕ, ◌<◌, List, get_or, arith}
use Rattle.command_words.specs.declared.command.Command.{Command}
use Rattle.command_words.specs.declared.command.Command.TheVariants as command
use Rattle.command_words.specs.declared.command.TheConstants.{COMMANDS}
use Rattle.command_words.specs.Commands.{name_of}
use Rattle.command_words.proofs.command.Command.named.Goals as goal

-- where none in the table has a word, no command has
not_named : (word : List ℕ) → ((k : ℕ) → k < 12 → name_of (get_or COMMANDS k command.SystemOpen) ≢ word)
    → (c : Command) → name_of c ≢ word
not_named word none command.SystemOpen = none 0 (omega arith)
not_named word none command.SystemClose = none 1 (omega arith)
not_named word none command.EditOpen = none 2 (omega arith)
not_named word none command.EditLoad = none 3 (omega arith)
not_named word none command.EditStore = none 4 (omega arith)
not_named word none command.EditRecall = none 5 (omega arith)
not_named word none command.EditRestore = none 6 (omega arith)
not_named word none command.EditChangeFont = none 7 (omega arith)
not_named word none command.EditChangeColor = none 8 (omega arith)
not_named word none command.EditChangeOffset = none 9 (omega arith)
not_named word none command.EditSearch = none 10 (omega arith)
not_named word none command.ShareForget = none 11 (omega arith)

pub returns-clause-none : goal.returns-clause-none
returns-clause-none c = λ _ asked.
    not_named c.args.word.now
    (λ k lt. c.loop-command.invariant k (omega (arith, lt, c.loop-command-test.false))) asked
