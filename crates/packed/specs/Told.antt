-- What a text's operations lead one to expect of each site's next one.
use Rattle.std.specs.Prelude.{◌≡◌, ℕ, suc, ◌+◌, ◌-◌, ◌<◌, ◌==◌, nat_eq, if◌then◌else◌, List, [], ◌∷◌, length}
use Rattle.std.specs.Prelude.{Bool, true, false, Option, Some, None, is_some, filter}
use Rattle.std.specs.Option.{option_map_or}
use Rattle.std.specs.Map.{lookup}
use Rattle.indexmap.specs.IndexMap.{insert_entry}
use Rattle.looks.specs.declared.looks.Looks.{Looks}
use Rattle.looks.specs.Looks.{plain_looks}
use Rattle.char_files.specs.declared.TheConstants.{MAX_FILE}
use Rattle.char_files.specs.declared.name.Anchor.{Anchor}
use Rattle.char_files.specs.declared.name.Anchor.TheVariants.{Root, At}
use Rattle.operations.specs.NameSet.{Range}
use Rattle.operations.specs.Operation.{Operation, OpKind, insert, delete, restore, change_looks, appended_len, Begins}
use Rattle.packed.specs.declared.expected.Expected.{Expected}

-- what is expected of a site that has no operations
abbrev pub at_first : Expected
at_first = record { seq = 0; len = 0; stamp = 0; caret = Root; looks = plain_looks }

-- the name one offset before the first of these; the root where there is none
abbrev pub before_first : List Range → Anchor
before_first [] = Root
before_first (r ∷ names) = if r.at == 0 then Root else At (record { site = r.site; off = r.at - 1 })

-- where a site's caret stands after its operation: an Insert leaves it on its last byte, a Delete on the name one offset before
-- the first that it names
abbrev pub own_caret_after : ℕ → Anchor → OpKind → Anchor
own_caret_after site caret (insert cause at looks bytes) = At (record { site = site; off = at + length bytes - 1 })
own_caret_after site caret (delete names) = before_first names
own_caret_after site caret (restore names) = caret
own_caret_after site caret (change_looks sel looks names) = caret

-- the looks that a site types in after its operation: those of its last Insert
abbrev pub looks_after : Looks → OpKind → Looks
looks_after typed (insert cause at looks bytes) = looks
looks_after typed (delete names) = typed
looks_after typed (restore names) = typed
looks_after typed (change_looks sel looks names) = typed

-- what is expected of a site after one operation more of it
abbrev pub after_one_more : Expected → Operation → Expected
after_one_more e op =
    record {
      seq = op.seq;
      len = e.len + appended_len op.kind;
      stamp = op.stamp;
      caret = own_caret_after op.site e.caret op.kind;
      looks = looks_after e.looks op.kind;
    }

-- what operations tell of the next one: the site of the last of them, and what is expected of each site that has some; and
-- whether they are those of a chunk, whose sites begin where it says
pub record Told : Type 0 where
  pub in_chunk : Bool
  pub last : Option ℕ
  pub sites : List (ℕ × Expected)

-- no operations
abbrev pub nothing_told : Told
nothing_told = record { in_chunk = false; last = None; sites = [] }

-- no operations, where each site has to begin
abbrev pub nothing_begun : Told
nothing_begun = record { in_chunk = true; last = None; sites = [] }

-- what is expected of a site
abbrev pub expected : Told → ℕ → Expected
expected told site = option_map_or (λ e. e) (lookup (nat_eq site) told.sites) at_first

-- something is told of a site: it has operations, or has begun
abbrev pub has_begun : Told → ℕ → Bool
has_begun told site = is_some (lookup (nat_eq site) told.sites)

-- what is told once this is expected of a site, which came last
abbrev pub noted : Told → ℕ → Expected → Told
noted told site e = record told { last = Some site; sites = insert_entry nat_eq told.sites site e }

-- what is told where a site begins: its last operation has this seq and stamp, and its file this length
abbrev pub begun_at : Told → (site seq stamp len : ℕ) → Told
begun_at told site seq stamp len = noted told site (record at_first { seq = seq; stamp = stamp; len = len })

-- what is told after one operation more
abbrev pub told_on : Told → Operation → Told
told_on told op = noted told op.site (after_one_more (expected told op.site) op)

-- what is told after operations more
abbrev pub told_after : Told → List Operation → Told
told_after told [] = told
told_after told (op ∷ ops) = told_after (told_on told op) ops

-- what these operations tell
abbrev pub told : List Operation → Told
told ops = told_after nothing_told ops

-- an operation that its site can make next: the numbers go on without a gap, an Insert begins where the site's file ends, and
-- the stamps rise
pub record IsNext (told : Told) (op : Operation) : Type 0 where
  pub seq : op.seq ≡ suc (expected told op.site).seq
  pub begins : Begins op.kind (expected told op.site).len
  pub above : (expected told op.site).stamp < op.stamp

-- the root, or an offset that a site's file can have
abbrev pub IsOffsetInFile : Anchor → Type 0
IsOffsetInFile Root = Unit {0}
IsOffsetInFile (At name) = name.off < MAX_FILE

-- each site's caret is within a file
abbrev pub CaretsAreInFiles : Told → Type 0
CaretsAreInFiles told = (site : ℕ) → IsOffsetInFile (expected told site).caret

-- what is expected of a site after these operations of it alone
abbrev pub expected_after : Expected → List Operation → Expected
expected_after e [] = e
expected_after e (op ∷ ops) = expected_after (after_one_more e op) ops

-- what is expected of a site is told by its own operations, wherever the others' stand among them
abbrev pub OwnOperationsTell : Type 0
OwnOperationsTell =
    (ops : List Operation) (site : ℕ)
    → expected (told ops) site ≡ expected_after at_first (filter (λ op. op.site == site) ops)
