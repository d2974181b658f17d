-- The bytes that an operation adds to a packed history: what differs from what its site is expected to do, and the edit.
use Rattle.std.specs.Prelude.{ℕ, ◌+◌, ◌-◌, ◌==◌, nat_lt, nat_le, Bool, false, ◌&&◌, ◌||◌}
use Rattle.std.specs.Prelude.{if◌then◌else◌, List, [], ◌∷◌, ◌++◌, length, Option, Some, None}
use Rattle.looks.specs.declared.looks.Looks.{Looks}
use Rattle.looks.specs.Sel.{bits_of}
use Rattle.char_files.specs.Runs.{same_looks}
use Rattle.char_files.specs.declared.name.Anchor.{Anchor}
use Rattle.char_files.specs.declared.name.Anchor.TheVariants.{Root, At}
use Rattle.operations.specs.NameSet.{Range}
use Rattle.operations.specs.Operation.{Operation, OpKind, insert, delete, restore, change_looks}
use Rattle.operations.specs.Spelling.{looks_spelling, selected_spelling}
use Rattle.packed.specs.Numbers.{sevens, step_spelling}
use Rattle.packed.specs.Sets.{packed_set}
use Rattle.packed.specs.declared.expected.Expected.{Expected}
use Rattle.packed.specs.Told.{Told, nothing_told, expected, told_on}

-- the bytes that don't stand for an Insert of themselves; 15 is one in a chunk, where it says that a site begins
abbrev pub is_code : (in_chunk : Bool) → ℕ → Bool
is_code in_chunk b = (nat_lt 0 b && nat_le b 8) || b == 11 || b == 12 || b == 14 || (in_chunk && b == 15)

-- the operation before is of this site
abbrev pub is_last : Option ℕ → ℕ → Bool
is_last None site = false
is_last (Some last) site = site == last

-- the site, where the operation before isn't of it, and by how much the stamp is above the one expected
abbrev pub time_lead : Option ℕ → (site more : ℕ) → List ℕ
time_lead last site more =
    if is_last last site then (if more == 0 then [] else 2 ∷ sevens more) else 1 ∷ sevens site ++ sevens more

-- an Insert's looks, where they aren't those expected
abbrev pub looks_lead : (typed looks : Looks) → List ℕ
looks_lead typed looks = if same_looks typed looks then [] else 3 ∷ looks_spelling looks

-- where an edit is, if that isn't the caret: another offset of the caret's site, another site's name, or the root
abbrev pub place_lead : (caret place : Anchor) → List ℕ
place_lead Root Root = []
place_lead Root (At name) = 5 ∷ sevens name.site ++ sevens name.off
place_lead (At caret) Root = 5 ∷ sevens 0
place_lead (At caret) (At name) =
    if name.site == caret.site then (if name.off == caret.off then [] else 4 ∷ step_spelling caret.off name.off)
    else 5 ∷ sevens name.site ++ sevens name.off

-- the bytes of an Insert: one is spelled as itself, or after 14 where it is a code; more follow their length
abbrev pub bytes_spelling : (in_chunk : Bool) → List ℕ → List ℕ
bytes_spelling in_chunk (b ∷ []) = if is_code in_chunk b then 14 ∷ b ∷ [] else b ∷ []
bytes_spelling in_chunk bytes = 6 ∷ sevens (length bytes - 2) ++ bytes

-- a Delete: of one character, which is at the caret if nothing else is said, or of another set
abbrev pub delete_spelling : Anchor → List Range → List ℕ
delete_spelling caret (r ∷ []) =
    if r.len == 1 then place_lead caret (At (record { site = r.site; off = r.at })) ++ 8 ∷ []
    else 7 ∷ packed_set (r ∷ [])
delete_spelling caret names = 7 ∷ packed_set names

-- what an operation does, where this is expected of its site
abbrev pub edit_spelling : (in_chunk : Bool) → Expected → OpKind → List ℕ
edit_spelling in_chunk e (insert cause at looks bytes) =
    looks_lead e.looks looks ++ place_lead e.caret cause ++ bytes_spelling in_chunk bytes
edit_spelling in_chunk e (delete names) = delete_spelling e.caret names
edit_spelling in_chunk e (restore names) = 12 ∷ packed_set names
edit_spelling in_chunk e (change_looks sel looks names) = 11 ∷ bits_of sel ∷ selected_spelling sel looks ++ packed_set names

-- what the next operation adds to what was told
abbrev pub packed_next : Told → Operation → List ℕ
packed_next told op =
    let e = expected told op.site in
    time_lead told.last op.site (op.stamp - (e.stamp + 1)) ++ edit_spelling told.in_chunk e op.kind

-- operations packed one after the other, after those that told this
abbrev pub packed_after : Told → List Operation → List ℕ
packed_after told [] = []
packed_after told (op ∷ ops) = packed_next told op ++ packed_after (told_on told op) ops

-- operations in a compact form
abbrev pub packed : List Operation → List ℕ
packed ops = packed_after nothing_told ops
