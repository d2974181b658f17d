-- A run of letters, each of an Insert of its own, as letters that are put in one after the other.
use Rattle.std.specs.Prelude.{◌≡◌, ℕ, zero, suc, ◌+◌, List, [], ◌∷◌, map, if◌then◌else◌}
use Rattle.char_files.specs.declared.name.Anchor.{Anchor}
use Rattle.char_files.specs.declared.name.Anchor.TheVariants.{At}
use Rattle.tree_order.specs.Registers.{Atom}
use Rattle.list_changes.specs.Changes.{IsOfKind}
use Rattle.list_changes.specs.declared.change.Change.{Change}
use Rattle.list_changes.specs.declared.change.ChangeKind.TheVariants.{Insert}
use Rattle.piece_list.specs.Noted.{Notes}
use Rattle.piece_list.specs.Pieces.{chars_of, piece_of}
use Rattle.piece_list.specs.Placed.{IsPlaced}
use Rattle.piece_list.specs.Shown.{Appearance, appearance_of}
use Rattle.piece_list.specs.Spelled.{shown_chars}
use Rattle.piece_list.specs.declared.run.Run.{Run}

-- its first letter
abbrev pub first_letter : Run → Run
first_letter r = record r { len = 1 }

-- where it goes on after that: the key has risen
abbrev pub run_after_letter : Run → Run
run_after_letter r = record r { off = r.off + 1; key = record { stamp = r.key.stamp + 1; site = r.key.site } }

-- what atoms show, character by character
abbrev pub told_of : List Atom → List Appearance
told_of atoms = map appearance_of (shown_chars atoms)

-- So many letters of a run were put in, one after the other: the first after this cause, each other after the one before; and the
-- note tells of each.
abbrev pub AreTypedIn : ℕ → Run → Anchor → (note note' : List Change) → (was now : List Atom) → Type 0
AreTypedIn zero r cause note note' was now = (note' ≡ note) × (now ≡ was)
AreTypedIn (suc n) r cause note note' was now =
    (mid : List Atom) × (between : List Change) × IsPlaced r.key cause (chars_of (piece_of (first_letter r))) was mid
    × Notes (IsOfKind Insert) note between (told_of was) (told_of mid)
    × AreTypedIn n (run_after_letter r) (At (record { site = r.site; off = r.off })) between note' mid now

-- an insertion of one character at each of so many places, one after the other
abbrev pub insertions : (beg n : ℕ) → List Change
insertions beg zero = []
insertions beg (suc n) = record { kind = Insert; beg = beg; end = beg + 1 } ∷ insertions (beg + 1) n

-- what is noted of a run that is put in at this place: an insertion of each letter of a row; else one
abbrev pub entries_of : Run → (beg : ℕ) → List Change
entries_of r beg =
    if r.rising then insertions beg r.len else record { kind = Insert; beg = beg; end = beg + r.len } ∷ []
