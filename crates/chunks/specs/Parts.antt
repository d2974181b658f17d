-- The parts of a chunk, as they are read.
use Rattle.std.specs.Prelude.{◌≡◌, ℕ, ◌<◌, ◌≤◌, ◌-◌, ◌^◌, ◌++◌, ◌∷◌, ◌≢◌, nat_lt, nat_le, ◌&&◌, if◌then◌else◌, true, List, Option, Some, None}
use Rattle.byte_fields.specs.Fields.{◌>>=◌}
use Rattle.char_files.specs.declared.TheConstants.{MAX_FILE}
use Rattle.operations.specs.declared.op.TheConstants.{MAX_STAMP}
use Rattle.operations.specs.Operation.{Operation}
use Rattle.packed.specs.Numbers.{sevens, sevens_at}
use Rattle.packed.specs.Told.{Told, nothing_begun, has_begun, begun_at, expected, CaretsAreInFiles}
use Rattle.chunks.specs.declared.reading.Begin.{Begin}
use Rattle.chunks.specs.Chunks.{Placed, operations_of, added, told_by, added_after, CanCome, CanAllCome}

-- an operation with the length of its site's file
abbrev pub placed : Operation → ℕ → Placed
placed op len = record { op = op; len = len }

-- what stands after 15 where a site begins
abbrev pub begin_fields : Begin → List ℕ
begin_fields b = sevens b.site ++ sevens b.seq ++ sevens b.stamp ++ sevens b.len

-- a site that can begin so
pub record IsBegin (b : Begin) : Type 0 where
  pub site : (0 < b.site) × (b.site < 2 ^ 16)
  pub seq : (0 < b.seq) × (b.seq < 2 ^ 32)
  pub stamp : (0 < b.stamp) × (b.stamp ≤ MAX_STAMP)
  pub len : b.len ≤ MAX_FILE

-- what is told where a site begins so
abbrev pub begun_so : Told → Begin → Told
begun_so told b = begun_at told b.site (b.seq - 1) (b.stamp - 1) b.len

-- a site that begins with these numbers
abbrev pub begin_of : (site seq stamp len : ℕ) → Option Begin
begin_of site seq stamp len =
    if nat_lt 0 site && nat_lt site (2 ^ 16) && (nat_lt 0 seq && nat_lt seq (2 ^ 32))
    && (nat_lt 0 stamp && nat_le stamp MAX_STAMP) && nat_le len MAX_FILE
    then Some (record { site = site; seq = seq; stamp = stamp; len = len }) else None

-- a site that begins
unfoldable pub begin_at : List ℕ → Option (Begin × List ℕ)
begin_at bytes = do
  site ← sevens_at bytes
  seq ← sevens_at site.1
  stamp ← sevens_at seq.1
  len ← sevens_at stamp.1
  begin ← begin_of site.0 seq.0 stamp.0 len.0
  Some (begin, len.1)

-- each site's file is as long as one can be at most
abbrev pub LensAreInFiles : Told → Type 0
LensAreInFiles told = (site : ℕ) → (expected told site).len ≤ MAX_FILE

-- what a chunk can tell: its sites begin with an operation
pub record IsOpen (told : Told) : Type 0 where
  pub in_chunk : told.in_chunk ≡ true
  pub carets : CaretsAreInFiles told
  pub lens : LensAreInFiles told
  pub counted : (site : ℕ) → has_begun told site ≡ true → 0 < (expected told site).seq

-- the bytes begin with what this operation adds, and the rest follows it
pub record IsFirst (told : Told) (text : ℕ) (bytes : List ℕ) (p : Placed) (rest : List ℕ) : Type 0 where
  pub can : CanCome told text p
  pub parts : bytes ≡ added told p ++ rest

-- an operation was read so, and this is told after it
pub record ReadsFirst (told new : Told) (text : ℕ) (bytes : List ℕ) (op : Operation) (rest : List ℕ) : Type 0 where
  pub placed : Placed
  pub is : placed.op ≡ op
  pub first : IsFirst told text bytes placed rest
  pub tells : new ≡ told_by told placed

-- the bytes don't begin with what says that a site begins
abbrev pub BeginsNoSite : List ℕ → Type 0
BeginsNoSite bytes = (rest : List ℕ) → bytes ≢ 15 ∷ rest

-- the bytes are these operations on this text, one after the other
abbrev pub HasAll : (text : ℕ) → List Operation → List ℕ → Type 0
HasAll text ops bytes =
    (ps : List Placed) × (operations_of ps ≡ ops) × CanAllCome nothing_begun text ps
    × (bytes ≡ added_after nothing_begun ps)

-- the bytes begin with no operation that can come next
abbrev pub NoneIsFirst : Told → (text : ℕ) → List ℕ → Type 0
NoneIsFirst told text bytes = (p : Placed) (rest : List ℕ) → IsFirst told text bytes p rest → ⊥
