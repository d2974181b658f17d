-- Reading what an operation adds to a packed history. Each function gives the value that the front of the bytes spells, and
-- the bytes after it.
use Rattle.std.specs.Prelude.{◌≡◌, ℕ, suc, ◌+◌, ◌^◌, nat_lt, ◌==◌, Bool, ◌&&◌, false, if◌then◌else◌, List, [], ◌∷◌, ◌++◌}
use Rattle.std.specs.Prelude.{Option, Some, None}
use Rattle.byte_fields.specs.Fields.{◌>>=◌, stretch_at, byte_at}
use Rattle.looks.specs.declared.looks.Looks.{Looks}
use Rattle.char_files.specs.CharName.{CharName}
use Rattle.char_files.specs.Runs.{same_looks}
use Rattle.char_files.specs.declared.TheConstants.{MAX_FILE}
use Rattle.char_files.specs.declared.name.Anchor.{Anchor}
use Rattle.char_files.specs.declared.name.Anchor.TheVariants.{Root, At}
use Rattle.operations.specs.NameSet.{of_name}
use Rattle.operations.specs.Operation.{Operation, OpKind, insert, delete, restore, change_looks}
use Rattle.operations.specs.Spelling.{HasSpelling}
use Rattle.operations.specs.Reading.{looks_at, selected_at, sel_at}
use Rattle.packed.specs.Numbers.{sevens_at, step_at}
use Rattle.packed.specs.Sets.{packed_set_at, is_one}
use Rattle.packed.specs.declared.expected.Expected.{Expected}
use Rattle.packed.specs.Told.{Told, expected, IsNext}
use Rattle.packed.specs.Spelling.{is_code, is_last, packed_next}

-- a site's number
unfoldable pub site_at : List ℕ → Option (ℕ × List ℕ)
site_at bytes = do
  site ← sevens_at bytes
  if nat_lt 0 site.0 && nat_lt site.0 (2 ^ 16) then Some site else None

-- the site of the operation before again
abbrev pub same_site : Option ℕ → ℕ → List ℕ → Option ((ℕ × ℕ) × List ℕ)
same_site None more rest = None
same_site (Some last) more rest = Some ((last, more), rest)

-- another site, and by how much the stamp is above the one expected
unfoldable pub other_site_at : Option ℕ → List ℕ → Option ((ℕ × ℕ) × List ℕ)
other_site_at last bytes = do
  site ← site_at bytes
  more ← sevens_at site.1
  if is_last last site.0 then None else Some ((site.0, more.0), more.1)

-- the same site, and by how much the stamp is above the one expected, which isn't by 0
unfoldable pub later_at : Option ℕ → List ℕ → Option ((ℕ × ℕ) × List ℕ)
later_at last bytes = do
  more ← sevens_at bytes
  if more.0 == 0 then None else same_site last more.0 more.1

-- the site, and by how much the stamp is above the one expected
unfoldable pub time_at : Option ℕ → List ℕ → Option ((ℕ × ℕ) × List ℕ)
time_at last bytes = do
  first ← byte_at bytes
  if first.0 == 1 then other_site_at last first.1
      else (if first.0 == 2 then later_at last first.1 else same_site last 0 bytes)

-- looks that aren't those that the site types in
unfoldable pub other_looks_at : Looks → List ℕ → Option (Looks × List ℕ)
other_looks_at typed bytes = do
  looks ← looks_at bytes
  if same_looks typed looks.0 then None else Some looks

-- an Insert's looks
unfoldable pub typed_looks_at : Looks → List ℕ → Option (Looks × List ℕ)
typed_looks_at typed bytes = do
  first ← byte_at bytes
  if first.0 == 3 then other_looks_at typed first.1 else Some (typed, bytes)

-- the name of these numbers
abbrev pub named : (site off : ℕ) → Option CharName
named site off =
    if nat_lt 0 site && nat_lt site (2 ^ 16) && nat_lt off MAX_FILE
    then Some (record { site = site; off = off }) else None

-- another place in the caret's file
unfoldable pub near_at : CharName → List ℕ → Option (Anchor × List ℕ)
near_at caret bytes = do
  off ← step_at caret.off bytes
  name ← named caret.site off.0
  if off.0 == caret.off then None else Some (At name, off.1)

-- the root, where the caret isn't there
abbrev pub root_from : Anchor → List ℕ → Option (Anchor × List ℕ)
root_from Root rest = None
root_from (At caret) rest = Some (Root, rest)

-- the caret is a name of this site
abbrev pub is_of : Anchor → ℕ → Bool
is_of Root site = false
is_of (At caret) site = site == caret.site

-- a name of this site, which isn't the caret's
unfoldable pub name_from : Anchor → ℕ → List ℕ → Option (Anchor × List ℕ)
name_from caret site bytes = do
  off ← sevens_at bytes
  name ← named site off.0
  if is_of caret site then None else Some (At name, off.1)

-- the root or a place in another file than the caret's
unfoldable pub far_at : Anchor → List ℕ → Option (Anchor × List ℕ)
far_at caret bytes = do
  site ← sevens_at bytes
  if site.0 == 0 then root_from caret site.1 else name_from caret site.0 site.1

-- another place in the caret's file, if that has one
abbrev pub step_from : Anchor → List ℕ → Option (Anchor × List ℕ)
step_from Root bytes = None
step_from (At caret) bytes = near_at caret bytes

-- where an edit is
unfoldable pub place_at : Anchor → List ℕ → Option (Anchor × List ℕ)
place_at caret bytes = do
  first ← byte_at bytes
  if first.0 == 4 then step_from caret first.1
      else (if first.0 == 5 then far_at caret first.1 else Some (caret, bytes))

-- two bytes or more after their number less two
unfoldable pub long_at : List ℕ → Option (List ℕ × List ℕ)
long_at bytes = do
  more ← sevens_at bytes
  stretch_at (more.0 + 2) more.1

-- a byte that is a code
unfoldable pub code_at : (in_chunk : Bool) → List ℕ → Option (List ℕ × List ℕ)
code_at in_chunk bytes = do
  first ← byte_at bytes
  if is_code in_chunk first.0 then stretch_at 1 bytes else None

-- the bytes of an Insert
unfoldable pub bytes_at : (in_chunk : Bool) → List ℕ → Option (List ℕ × List ℕ)
bytes_at in_chunk bytes = do
  first ← byte_at bytes
  if first.0 == 6 then long_at first.1
      else (if first.0 == 14 then code_at in_chunk first.1
      else (if is_code in_chunk first.0 then None else stretch_at 1 bytes))

-- a Delete of the character at this place, which comes with no looks
abbrev pub one_from : (typed looks : Looks) → Anchor → List ℕ → Option (OpKind × List ℕ)
one_from typed looks Root rest = None
one_from typed looks (At name) rest = if same_looks typed looks then Some (delete (of_name name ∷ []), rest) else None

-- an Insert of these looks at this place
unfoldable pub insert_from : (in_chunk : Bool) → ℕ → Looks → Anchor → List ℕ → Option (OpKind × List ℕ)
insert_from in_chunk at looks place bytes = do
  text ← bytes_at in_chunk bytes
  Some (insert place at looks text.0, text.1)

-- an Insert or a Delete of one character, of these looks at this place
unfoldable pub here_at : (in_chunk : Bool) → Expected → Looks → Anchor → List ℕ → Option (OpKind × List ℕ)
here_at in_chunk e looks place bytes = do
  first ← byte_at bytes
  if first.0 == 8 then one_from e.looks looks place first.1 else insert_from in_chunk e.len looks place bytes

-- an Insert or a Delete of one character
unfoldable pub placed_at : (in_chunk : Bool) → Expected → List ℕ → Option (OpKind × List ℕ)
placed_at in_chunk e bytes = do
  looks ← typed_looks_at e.looks bytes
  place ← place_at e.caret looks.1
  here_at in_chunk e looks.0 place.0 place.1

-- a Delete of another set than one character
unfoldable pub packed_delete_at : List ℕ → Option (OpKind × List ℕ)
packed_delete_at bytes = do
  names ← packed_set_at bytes
  if is_one names.0 then None else Some (delete names.0, names.1)

-- a Restore
unfoldable pub packed_restore_at : List ℕ → Option (OpKind × List ℕ)
packed_restore_at bytes = do
  names ← packed_set_at bytes
  Some (restore names.0, names.1)

-- a ChangeLooks
unfoldable pub packed_change_at : List ℕ → Option (OpKind × List ℕ)
packed_change_at bytes = do
  sel ← sel_at bytes
  looks ← selected_at sel.0 sel.1
  names ← packed_set_at looks.1
  Some (change_looks sel.0 looks.0 names.0, names.1)

-- what an operation does, where this is expected of its site
unfoldable pub edit_at : (in_chunk : Bool) → Expected → List ℕ → Option (OpKind × List ℕ)
edit_at in_chunk e bytes = do
  first ← byte_at bytes
  if first.0 == 7 then packed_delete_at first.1
      else (if first.0 == 11 then packed_change_at first.1
      else (if first.0 == 12 then packed_restore_at first.1 else placed_at in_chunk e bytes))

-- the site, by how much the stamp is above the one expected, and what is done
pub record Parts : Type 0 where
  pub site : ℕ
  pub more : ℕ
  pub kind : OpKind

-- the parts of an operation
unfoldable pub parts_at : Told → List ℕ → Option (Parts × List ℕ)
parts_at told bytes = do
  time ← time_at told.last bytes
  kind ← edit_at told.in_chunk (expected told time.0.0) time.1
  Some (record { site = time.0.0; more = time.0.1; kind = kind.0 }, kind.1)

-- the next operation of these parts
abbrev pub next_of_parts : Told → (text : ℕ) → Parts → Operation
next_of_parts told text parts =
    let e = expected told parts.site in
    record {
      text = text;
      site = parts.site;
      seq = suc e.seq;
      stamp = e.stamp + 1 + parts.more;
      kind = parts.kind;
    }

-- an operation on this text that has a message and can come next
pub record CanBeNext (told : Told) (text : ℕ) (op : Operation) : Type 0 where
  pub next : IsNext told op
  pub spelled : HasSpelling op
  pub on_text : op.text ≡ text

-- the bytes begin with no such operation
abbrev pub BeginsWithNone : Told → (text : ℕ) → List ℕ → Type 0
BeginsWithNone told text bytes =
    (op : Operation) (rest : List ℕ) → CanBeNext told text op → bytes ≡ packed_next told op ++ rest → ⊥
