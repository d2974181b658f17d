-- Chunks: operations in a compact form that leans on nothing that the receiver holds, for what travels between sites.
use Rattle.std.specs.Prelude.{◌≡◌, ℕ, ◌+◌, ◌-◌, ◌^◌, ◌<◌, ◌≤◌, Bool, nat_le, if◌then◌else◌}
use Rattle.std.specs.Prelude.{List, [], ◌∷◌, ◌++◌, length, map, codes}
use Rattle.std.specs.Int.{w16}
use Rattle.byte_fields.specs.Fields.{number_spelling}
use Rattle.char_files.specs.declared.TheConstants.{MAX_FILE}
use Rattle.operations.specs.Operation.{Operation}
use Rattle.packed.specs.Numbers.{sevens}
use Rattle.packed.specs.Told.{Told, nothing_begun, has_begun, begun_at, expected, told_on}
use Rattle.packed.specs.Spelling.{packed_next}
use Rattle.packed.specs.Reading.{CanBeNext}
use Rattle.chunks.specs.declared.TheConstants.{MAX_CHUNK}

-- an operation, and how long its site's file is before it
pub record Placed : Type 0 where
  pub op : Operation
  pub len : ℕ

-- the operations, without these lengths
abbrev pub operations_of : List Placed → List Operation
operations_of ps = map (λ p. p.op) ps

-- where a site begins with an operation: 15, the site, the operation's seq and stamp, and the length of the site's file
abbrev pub begin_spelling : Placed → List ℕ
begin_spelling p = 15 ∷ sevens p.op.site ++ sevens p.op.seq ++ sevens p.op.stamp ++ sevens p.len

-- that, where the operation's site hasn't begun
abbrev pub begin_lead : Told → Placed → List ℕ
begin_lead told p = if has_begun told p.op.site then [] else begin_spelling p

-- what is told where the operation's site begins with it
abbrev pub begun_with : Told → Placed → Told
begun_with told p = begun_at told p.op.site (p.op.seq - 1) (p.op.stamp - 1) p.len

-- what is told once the operation's site has begun
abbrev pub begun : Told → Placed → Told
begun told p = if has_begun told p.op.site then told else begun_with told p

-- what the operation adds to a chunk that tells this
abbrev pub added : Told → Placed → List ℕ
added told p = begin_lead told p ++ packed_next (begun told p) p.op

-- what the chunk tells after it
abbrev pub told_by : Told → Placed → Told
told_by told p = told_on (begun told p) p.op

-- what operations add, one after the other
abbrev pub added_after : Told → List Placed → List ℕ
added_after told [] = []
added_after told (p ∷ ps) = added told p ++ added_after (told_by told p) ps

-- what a chunk begins with
abbrev pub chunk_tag : List ℕ
chunk_tag = codes "OTC1"

-- that, and the text
abbrev pub head : (text : ℕ) → List ℕ
head text = chunk_tag ++ number_spelling w16 text

-- the chunk of these operations on this text
abbrev pub chunk_bytes : (text : ℕ) → List Placed → List ℕ
chunk_bytes text ps = head text ++ added_after nothing_begun ps

-- the operation can come next in a chunk that tells this, and the length is that of its site's file
pub record CanCome (told : Told) (text : ℕ) (p : Placed) : Type 0 where
  pub next : CanBeNext (begun told p) text p.op
  pub len : p.len ≡ (expected (begun told p) p.op.site).len
  pub in_file : p.len ≤ MAX_FILE

-- each operation can come after those before it
abbrev pub CanAllCome : Told → (text : ℕ) → List Placed → Type 0
CanAllCome told text [] = Unit {0}
CanAllCome told text (p ∷ ps) = CanCome told text p × CanAllCome (told_by told p) text ps

-- the bytes are the chunk of these operations on this text
pub record IsChunkOf (text : ℕ) (ps : List Placed) (bytes : List ℕ) : Type 0 where
  pub text_number : (0 < text) × (text < 2 ^ 16)
  pub come : CanAllCome nothing_begun text ps
  pub spelled : bytes ≡ chunk_bytes text ps
  pub short : length bytes ≤ MAX_CHUNK

-- the bytes are no chunk
abbrev pub IsNoChunk : List ℕ → Type 0
IsNoChunk bytes = (text : ℕ) (ps : List Placed) → IsChunkOf text ps bytes → ⊥

-- the bytes are no more than a chunk may have, and begin with the tag and the number of a text, whatever follows
pub record BeginsAsChunk (bytes : List ℕ) : Type 0 where
  pub text : ℕ
  pub rest : List ℕ
  pub text_number : (0 < text) × (text < 2 ^ 16)
  pub parts : bytes ≡ head text ++ rest
  pub short : length bytes ≤ MAX_CHUNK

-- ---- operations that are cut into chunks

-- a chunk that is being written: what it tells, and its bytes
pub record Written : Type 0 where
  pub told : Told
  pub bytes : List ℕ

-- one with no operations
abbrev pub nothing_written : (text : ℕ) → Written
nothing_written text = record { told = nothing_begun; bytes = head text }

-- whether there is room for an operation
abbrev pub fits : Written → Placed → Bool
fits w p = nat_le (length w.bytes + length (added w.told p)) MAX_CHUNK

-- with an operation more
abbrev pub written_on : Written → Placed → Written
written_on w p = record { told = told_by w.told p; bytes = w.bytes ++ added w.told p }

-- the chunk that is being written and those after it, of which each takes operations as long as there is room
abbrev pub chunks_on : (text : ℕ) → Written → List Placed → List (List ℕ)
chunks_on text w [] = w.bytes ∷ []
chunks_on text w (p ∷ ps) =
    if fits w p then chunks_on text (written_on w p) ps
    else w.bytes ∷ chunks_on text (written_on (nothing_written text) p) ps

-- the chunks of these operations on this text; none where there are none
abbrev pub chunks : (text : ℕ) → List Placed → List (List ℕ)
chunks text [] = []
chunks text (p ∷ ps) = chunks_on text (written_on (nothing_written text) p) ps

-- operations after those that told this, each with the length of its site's file
abbrev pub placed_from : Told → List Operation → List Placed
placed_from told [] = []
placed_from told (op ∷ ops) = record { op = op; len = (expected told op.site).len } ∷ placed_from (told_on told op) ops
