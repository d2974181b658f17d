-- What messages mentioned that continue a chain behind those that are admitted.
use Rattle.std.specs.Prelude.{ℕ, ◌≤◌, ◌↔◌, nat_le, Bool, List}
use Rattle.char_files.specs.CharName.{CharName}
use Rattle.note_laws.specs.Note.{Saying}
use Rattle.note_admission.specs.Kept.{MentionBelow, Offsets, end_in}

-- of each number this is the offset after the last of its characters that these messages of the chain mentioned
abbrev pub AreMentionedIn : (chain : ℕ) → List Saying → Offsets → Type 0
AreMentionedIn chain more mentioned = (site off : ℕ) → end_in mentioned site ≤ off ↔ MentionBelow more chain site off

-- whether the name is behind all that was mentioned of its number
abbrev pub is_past : Offsets → CharName → Bool
is_past mentioned name = nat_le (end_in mentioned name.site) name.off
