-- The table of commands, and the text of a viewer's menu.
use Rattle.std.specs.Prelude.{ℕ, Bool, true, false, List, ◌++◌, codes}
use Rattle.std.specs.Fmt.{decimal}
use Rattle.command_words.specs.declared.command.Command.{Command}
use Rattle.command_words.specs.declared.command.Command.TheVariants as command

-- the table of commands, a row each: the word, and whether it asks for a parameter
abbrev pub command_row : Command → List ℕ × Bool
command_row command.SystemOpen = (codes "System.Open", true)
command_row command.SystemClose = (codes "System.Close", false)
command_row command.EditOpen = (codes "Edit.Open", true)
command_row command.EditLoad = (codes "Edit.Load", true)
command_row command.EditStore = (codes "Edit.Store", true)
command_row command.EditRecall = (codes "Edit.Recall", false)
command_row command.EditRestore = (codes "Edit.Restore", false)
command_row command.EditChangeFont = (codes "Edit.ChangeFont", true)
command_row command.EditChangeColor = (codes "Edit.ChangeColor", true)
command_row command.EditChangeOffset = (codes "Edit.ChangeOffset", true)
command_row command.EditSearch = (codes "Edit.Search", true)
command_row command.ShareForget = (codes "Share.Forget", false)

-- the word of a command
abbrev pub name_of : Command → List ℕ
name_of c = (command_row c).0

-- whether a command asks for a parameter
abbrev pub has_parameter : Command → Bool
has_parameter c = (command_row c).1

-- the text of the menu of a viewer on a text
abbrev pub menu_of : (viewer text : ℕ) → List ℕ
menu_of viewer text =
    codes "V" ++ decimal viewer ++ codes " T" ++ decimal text
    ++ codes " | System.Close Edit.Recall Share.Forget"
