-- How the characters of a set of names are changed, piece by piece.
use Rattle.std.specs.Prelude.{◌≡◌, ℕ, ◌+◌, ◌<◌, ◌≤◌, Bool, true, false, if◌then◌else◌, List, All, Contains, length}
use Rattle.std.specs.List.{sum_by}
use Rattle.looks.specs.Key.{is_below}
use Rattle.looks.specs.declared.key.Key.{Key}
use Rattle.char_files.specs.CharName.{CharName}
use Rattle.operations.specs.NameSet.{Range, IsAmong}
use Rattle.tree_order.specs.Registers.{Atom, switched, relooked}
use Rattle.piece_list.specs.Piece.{Piece}
use Rattle.piece_list.specs.declared.setting.Setting.{Setting}
use Rattle.piece_list.specs.declared.setting.Setting.TheVariants.{Switch, Relook}
use Rattle.piece_list.specs.Held.{KeepFirsts}
use Rattle.piece_list.specs.Pieces.{switched_piece, relooked_piece}
use Rattle.piece_list.specs.Spelled.{spelled, HasName}

-- each name of the set is that of one of the characters
abbrev pub AreHere : List Range → List Atom → Type 0
AreHere names chars = (c : CharName) → IsAmong names c → HasName chars c

-- the piece after the change
abbrev pub changed_piece : Setting → Piece → Piece
changed_piece (Switch hidden key) p = switched_piece hidden key p
changed_piece (Relook sel looks key) p = relooked_piece sel looks key p

-- the character after the change
abbrev pub changed_char : Setting → Atom → Atom
changed_char (Switch hidden key) k = switched hidden key k
changed_char (Relook sel looks key) k = relooked sel looks key k

-- the key under which a setting is made
abbrev pub setting_key : Setting → Key
setting_key (Switch hidden key) = key
setting_key (Relook sel looks key) = key

-- the characters of these names have lesser keys
abbrev pub AreBelow : Key → List Range → List Atom → Type 0
AreBelow key names chars = (k : Atom) → Contains chars k → IsAmong names k.name → is_below k.key key ≡ true

-- no piece of the site reaches across this offset
abbrev pub IsEdge : ℕ → ℕ → List (ℕ × Piece) → Type 0
IsEdge site off items = All (λ m. m.1.site ≡ site → m.1.off < off → m.1.off + m.1.len ≤ off) items

-- the first offset after this name's that no piece of its site reaches across
pub record IsNextEdge (name : CharName) (end : ℕ) (items : List (ℕ × Piece)) : Type 0 where
  pub some : name.off < end
  pub edge : IsEdge name.site end items
  pub first : (at : ℕ) → name.off < at → IsEdge name.site at items → end ≤ at

-- the same pieces, but for what is set in their registers
pub record AreTheSame (old new : List (ℕ × Piece)) : Type 0 where
  pub many : length new ≡ length old
  pub edges : (site off : ℕ) → IsEdge site off old → IsEdge site off new
  pub firsts : KeepFirsts old new

-- 1 for a value of the register that hides other than this one, else 0
abbrev pub differs : (hidden value : Bool) → ℕ
differs true value = if value then 0 else 1
differs false value = if value then 1 else 0

-- how many pieces are hidden, or shown, other than this
abbrev pub unlike : (hidden : Bool) → List (ℕ × Piece) → ℕ
unlike hidden items = sum_by (λ m. differs hidden m.1.hidden.value) items

-- the same characters in the same pieces, one of which may be split in two
pub record AreSplitOnce (old new : List (ℕ × Piece)) : Type 0 where
  pub spells : spelled new ≡ spelled old
  pub unlike_more : (hidden : Bool) → unlike hidden new ≤ unlike hidden old + 1
  pub few : length new ≤ length old + 1
  pub edges : (site off : ℕ) → IsEdge site off old → IsEdge site off new
  pub firsts : KeepFirsts old new
