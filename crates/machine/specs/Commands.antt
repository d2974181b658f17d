-- What commands come to: the task of a call, with its parameter, and that of a click.
use Rattle.std.specs.Prelude.{◌≡◌, ℕ, ℤ, pos, negsuc, ◌-◌, ◌⊎◌, ◌==◌, ◌&&◌, nat_le}
use Rattle.std.specs.Prelude.{if◌then◌else◌, Bool, true, false, MatchBool, MatchOption, List, [], ◌∷◌}
use Rattle.std.specs.Prelude.{Option, Some, None, option_map, Result, Ok, Err}
use Rattle.std.specs.Prelude.{MatchResult}
use Rattle.std.specs.Option.{option_and_then, option_map_or}
use Rattle.looks.specs.Looks.{plain_looks}
use Rattle.looks.specs.Sel.{Selection}
use Rattle.looks.specs.declared.looks.Looks.{Looks}
use Rattle.looks.specs.declared.colour.TheConstants.{MAX_COLOUR}
use Rattle.looks.specs.declared.refusal.Refusal.{Refusal}
use Rattle.looks.specs.declared.refusal.Refusal.TheVariants.{BadParameter, NoSelection, NoViewer, UnknownCommand}
use Rattle.operations.specs.Reading.{is_font_name}
use Rattle.reader_scanner.specs.Tokens.{IsTokenAt}
use Rattle.reader_scanner.specs.declared.token.Token.{Token}
use Rattle.reader_scanner.specs.declared.token.TokenValue.{TokenValue}
use Rattle.reader_scanner.specs.declared.token.TokenValue.TheVariants as value
use Rattle.texts.specs.Edit.{looks_change, restoration}
use Rattle.texts.specs.TextState.{TextState}
use Rattle.viewers.specs.Screen.{area_of}
use Rattle.viewers.specs.declared.screen.Area.{Area}
use Rattle.viewers.specs.declared.screen.Track.TheVariants.{User, System}
use Rattle.command_words.specs.Calls.{IsCallAt, NoCallAt}
use Rattle.command_words.specs.Commands.{has_parameter, menu_of}
use Rattle.command_words.specs.declared.calls.Call.{Call}
use Rattle.command_words.specs.declared.command.Command.{Command}
use Rattle.command_words.specs.declared.command.Command.TheVariants as command
use Rattle.shelf.specs.Names.{is_file_name}
use Rattle.machine.specs.SiteTexts.{SiteTexts}
use Rattle.machine.specs.Events.{Task, arrange, change, forget, load, recall_at_caret, refuse, search, store}
use Rattle.machine.specs.Windows.{Screened, Window, bytes_shown, marked, position_in, viewer_with, window_of}
use Rattle.machine.specs.declared.TheConstants.{MAX_TEXT}
use Rattle.machine.specs.declared.asked.Arrangement.TheVariants.{Close, Open}

-- the number of a text that a value tells
abbrev pub text_parameter : TokenValue → Option ℕ
text_parameter (value.Int (pos n)) = if nat_le 1 n && nat_le n MAX_TEXT then Some n else None
text_parameter other = None

-- the file that a value tells
abbrev pub file_parameter : TokenValue → Option (List ℕ)
file_parameter (value.Name name) = if is_file_name name then Some name else None
file_parameter (value.String name) = if is_file_name name then Some name else None
file_parameter other = None

-- the bytes to search for that a value tells
abbrev pub bytes_parameter : TokenValue → Option (List ℕ)
bytes_parameter (value.Name []) = None
bytes_parameter (value.Name (b ∷ rest)) = Some (b ∷ rest)
bytes_parameter (value.String []) = None
bytes_parameter (value.String (b ∷ rest)) = Some (b ∷ rest)
bytes_parameter (value.Char b) = Some (b ∷ [])
bytes_parameter other = None

-- which attributes change, and to which looks
abbrev pub Change : Type 0
Change = Selection × Looks

-- the font that a value tells, as a change of looks
abbrev pub font_parameter : TokenValue → Option Change
font_parameter (value.Name name) =
    if is_font_name name
    then Some (record { font = true; colour = false; offset = false }, record plain_looks { font = name }) else None
font_parameter other = None

-- the colour that a value tells, alike
abbrev pub colour_parameter : TokenValue → Option Change
colour_parameter (value.Int (pos n)) =
    if nat_le n MAX_COLOUR
    then Some (record { font = false; colour = true; offset = false }, record plain_looks { colour = n }) else None
colour_parameter other = None

-- an offset from -128 to 127
abbrev pub is_offset : ℤ → Bool
is_offset (pos n) = nat_le n 127
is_offset (negsuc n) = nat_le n 127

-- the offset that a value tells, alike
abbrev pub offset_parameter : TokenValue → Option Change
offset_parameter (value.Int z) =
    if is_offset z
    then Some (record { font = false; colour = false; offset = true }, record plain_looks { offset = z }) else None
offset_parameter other = None

-- whether the token is the sign that the selection has the parameter
abbrev pub is_caret_sign : TokenValue → Bool
is_caret_sign (value.Char b) = b == 94
is_caret_sign other = false

-- The parameter of a call: the value after the word; or, where that is the sign, the value of the first token from the
-- selection's begin on, which isn't limited by its end and isn't followed again.
abbrev pub IsParameter : SiteTexts → Screened → Token → Result TokenValue Refusal → Type 0
IsParameter d w token given =
    MatchBool (is_caret_sign token.value)
    (MatchOption (marked d w) (given ≡ Err NoSelection)
    (λ m. (there : Token) × IsTokenAt (bytes_shown m.text) m.beg there × (given ≡ Ok there.value)))
    (given ≡ Ok token.value)

-- the task, or a refusal of a parameter that tells none
abbrev pub task_with_value : {X : Type 0} → Option X → (X → Task) → Task
task_with_value None task = refuse BadParameter
task_with_value (Some x) task = task x

-- a change of the looks of the selection
abbrev pub dress_marked : SiteTexts → Screened → Change → Task
dress_marked d w change_to =
    option_map_or (λ m. change m.window.text (looks_change m.beg m.end change_to.0 change_to.1)) (marked d w)
    (refuse NoSelection)

-- what a command does with its parameter, in the viewer that was clicked, on this text: a row each
abbrev pub task_of : SiteTexts → Screened → Command → TokenValue → (viewer text : ℕ) → Task
task_of d w command.SystemOpen given v text = task_with_value (text_parameter given) (λ n. arrange (Open System n None))
task_of d w command.SystemClose given v text = arrange (Close v)
task_of d w command.EditOpen given v text = task_with_value (text_parameter given) (λ n. arrange (Open User n None))
task_of d w command.EditLoad given v text = task_with_value (file_parameter given) load
task_of d w command.EditStore given v text = task_with_value (file_parameter given) (store text)
task_of d w command.EditRecall given v text = recall_at_caret
task_of d w command.EditRestore given v text = change text restoration
task_of d w command.EditChangeFont given v text = task_with_value (font_parameter given) (dress_marked d w)
task_of d w command.EditChangeColor given v text = task_with_value (colour_parameter given) (dress_marked d w)
task_of d w command.EditChangeOffset given v text = task_with_value (offset_parameter given) (dress_marked d w)
task_of d w command.EditSearch given v text = task_with_value (bytes_parameter given) search
task_of d w command.ShareForget given v text = forget text

-- the task of a call, whose parameter is looked for where the command asks for one
abbrev pub IsTaskOfCall : SiteTexts → Screened → Call → (viewer text : ℕ) → Task → Type 0
IsTaskOfCall d w call v text task =
    MatchBool (has_parameter call.command)
    ((given : Result TokenValue Refusal) × IsParameter d w call.token given
    × MatchResult given (λ value. task ≡ task_of d w call.command value v text) (λ why. task ≡ refuse why))
    (task ≡ task_of d w call.command call.token.value v text)

-- the bytes in which a cell of a viewer stands, and its position there: those of the menu, or those that are shown
pub record Clicked : Type 0 where
  pub viewer : ℕ
  pub text : ℕ
  pub bytes : List ℕ
  pub pos : ℕ

-- the same, for a cell of this area: in its first row that of the menu
abbrev pub clicked_in : (v : ℕ) → Area → (col row : ℕ) → Window × TextState → Clicked
clicked_in v area col row shown =
    if row == area.top
    then record { viewer = v; text = shown.0.text; bytes = menu_of v shown.0.text; pos = col - area.col }
    else record {
      viewer = v;
      text = shown.0.text;
      bytes = bytes_shown shown.1;
      pos = position_in shown.1 shown.0.anchor area.width (col - area.col) (row - area.top - 1);
    }

-- what a click meets; nothing in a blank track and outside the screen
abbrev pub clicked : SiteTexts → Screened → (col row : ℕ) → Option Clicked
clicked d w col row =
    option_and_then (λ v. option_and_then (λ area. option_map (clicked_in v area col row) (window_of d w v))
    (area_of w.tracks v)) (viewer_with w col row)

-- the task of a click into this cell: no viewer is there; no call stands there; or that of the call
abbrev pub IsTaskAt : SiteTexts → Screened → (col row : ℕ) → Task → Type 0
IsTaskAt d w col row task =
    MatchOption (clicked d w col row) (task ≡ refuse NoViewer)
    (λ at. (NoCallAt at.bytes at.pos × (task ≡ refuse UnknownCommand))
    ⊎ ((call : Call) × IsCallAt at.bytes at.pos call × IsTaskOfCall d w call at.viewer at.text task))
