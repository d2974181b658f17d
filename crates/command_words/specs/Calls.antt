-- Words and calls of commands: what stands at a position of some bytes.
use Rattle.std.specs.Prelude.{◌≡◌, ℕ, ◌-◌, ◌<◌, ◌≤◌, true, false, List, length, take, drop, slice_index}
use Rattle.reader_scanner.specs.Tokens.{is_name_byte, IsTokenAt}
use Rattle.command_words.specs.declared.calls.Call.{Call}
use Rattle.command_words.specs.declared.command.Command.{Command}
use Rattle.command_words.specs.Commands.{name_of}

-- the longest stretch of letters, digits and full stops that contains a position
pub record IsWordAt (bytes : List ℕ) (pos beg end : ℕ) : Type 0 where
  pub from : beg ≤ pos
  pub to : pos < end
  pub within : end ≤ length bytes
  pub each : (k : ℕ) → beg ≤ k → k < end → is_name_byte (slice_index bytes k) ≡ true
  pub before : 0 < beg → is_name_byte (slice_index bytes (beg - 1)) ≡ false
  pub after : end < length bytes → is_name_byte (slice_index bytes end) ≡ false

-- the word at a position is the command's, and its token is the first one after the word
pub record IsCallAt (bytes : List ℕ) (pos : ℕ) (call : Call) : Type 0 where
  pub beg : ℕ
  pub end : ℕ
  pub word : IsWordAt bytes pos beg end
  pub named : take (end - beg) (drop beg bytes) ≡ name_of call.command
  pub token : IsTokenAt bytes end call.token

-- no call stands at a position
abbrev pub NoCallAt : List ℕ → ℕ → Type 0
NoCallAt bytes pos = (call : Call) → IsCallAt bytes pos call → ⊥

-- each word is at most one command's
abbrev pub OneCommand : Type 0
OneCommand = (a b : Command) → name_of a ≡ name_of b → a ≡ b

-- at most one word contains a position
abbrev pub OneWord : Type 0
OneWord = (bytes : List ℕ) (pos b e c f : ℕ) → IsWordAt bytes pos b e → IsWordAt bytes pos c f → (b ≡ c) × (e ≡ f)

-- at most one call stands at a position
abbrev pub OneCall : Type 0
OneCall = (bytes : List ℕ) (pos : ℕ) (a b : Call) → IsCallAt bytes pos a → IsCallAt bytes pos b → a ≡ b
