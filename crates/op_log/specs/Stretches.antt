-- Operations as a log keeps them: letters that were typed one after the other as one stretch, and any other alone.
use Rattle.std.specs.Prelude.{◌≡◌, ℕ, zero, suc, ◌+◌, ◌<◌, ◌≤◌, List, [], ◌∷◌, ◌++◌, length, take, All, slice_get, slice_index_or}
use Rattle.std.specs.Prelude.{◌-◌, min, Vec, vec_len, vec_capacity}
use Rattle.std.specs.declared.alloc.Global.{Global}
use Rattle.std.specs.List.{flat_map}
use Rattle.std.specs.Option.{option_map_or}
use Rattle.looks.specs.Looks.{plain_looks}
use Rattle.looks.specs.declared.looks.Looks.{Looks}
use Rattle.char_files.specs.declared.name.Anchor.{Anchor}
use Rattle.char_files.specs.declared.name.Anchor.TheVariants.{At, Root}
use Rattle.operations.specs.Operation.{Operation, insert, delete}
use Rattle.operations.specs.Spelling.{HasSpelling}
use Rattle.operations.specs.declared.typing.Typing.{Typing}
use Rattle.op_log.specs.declared.TheConstants.{MAX_OPS}
use Rattle.op_log.specs.declared.op_list.TheConstants.{MAX_LOOKS}
use Rattle.op_log.specs.declared.one_delete.OneDelete.{OneDelete}
use Rattle.op_log.specs.declared.stretch.TypedRun.{TypedRun}
use Rattle.op_log.specs.declared.stretch.Stretch.{Stretch}
use Rattle.op_log.specs.declared.stretch.Stretch.TheVariants.{Typed, Deleted, Single}

-- what stretches share: the bytes of all letters, the looks that they have, and the operations that stand alone
pub record Shared : Type 0 where
  pub bytes : List ℕ
  pub looks : List Looks
  pub singles : List Operation

abbrev pub shared : List ℕ → List Looks → List Operation → Shared
shared bytes looks singles = record { bytes = bytes; looks = looks; singles = singles }

-- for how many more elements there is room in a vector
abbrev room_of : {T : Type 0} → Vec T Global → ℕ
room_of xs = vec_capacity xs - vec_len xs

-- for how many operations more there is room in each table, and numbers
abbrev pub room_in : Vec Stretch Global → Vec ℕ Global → Vec ℕ Global → Vec Looks Global → Vec Operation Global → (len : ℕ) → ℕ
room_in stretches firsts bytes looks singles len =
    min (min (min (room_of stretches) (room_of firsts)) (min (room_of bytes) (min (vec_capacity looks) MAX_LOOKS - vec_len looks)))
    (min (room_of singles) (MAX_OPS - len))

-- for how many runs of letters there is room
abbrev pub runs_in : Vec Stretch Global → Vec ℕ Global → Vec Looks Global → ℕ
runs_in stretches firsts looks =
    min (min (room_of stretches) (room_of firsts)) (min (vec_capacity looks) MAX_LOOKS - vec_len looks)

-- and for how many letters, and numbers
abbrev pub letters_in : Vec ℕ Global → (len : ℕ) → ℕ
letters_in bytes len = min (room_of bytes) (MAX_OPS - len)

-- the anchor of these numbers: a name; site 0 is the root's
abbrev pub anchor_of : (site off : ℕ) → Anchor
anchor_of zero off = Root
anchor_of (suc n) off = At (record { site = suc n; off = off })

-- what the k-th letter of a run hangs on: the first on the run's cause, each other on the one before
abbrev pub cause_of : TypedRun → ℕ → Anchor
cause_of r zero = anchor_of r.cause_site r.cause_off
cause_of r (suc k) = anchor_of r.site (r.at + k)

-- the looks of a run
abbrev pub looks_in : List Looks → TypedRun → Looks
looks_in looks r = slice_index_or looks r.looks plain_looks

-- the Insert of the k-th letter of a run, if this is the letter
abbrev pub letter_of_run : List Looks → TypedRun → ℕ → (byte : ℕ) → Operation
letter_of_run looks r k byte = record {
  text = r.text;
  site = r.site;
  seq = r.seq + k;
  stamp = r.stamp + k;
  kind = insert (cause_of r k) (r.at + k) (looks_in looks r) (byte ∷ []);
}

-- the k-th operation of a run
abbrev pub typed_op : Shared → TypedRun → ℕ → Operation
typed_op s r k = letter_of_run s.looks r k (slice_index_or s.bytes (r.from + k) 0)

-- the first n operations of a run
abbrev pub typed_ops : Shared → TypedRun → ℕ → List Operation
typed_ops s r zero = []
typed_ops s r (suc n) = typed_ops s r n ++ typed_op s r n ∷ []

-- the site types on where the first n letters of a run end
pub record TypingGoesOn (looks : List Looks) (r : TypedRun) (n : ℕ) (t : Typing) : Type 0 where
  pub text : t.text ≡ r.text
  pub site : t.site ≡ r.site
  pub seq : t.seq ≡ r.seq + n
  pub stamp : t.stamp ≡ r.stamp + n
  pub at : t.at ≡ r.at + n
  pub cause : t.cause ≡ cause_of r n
  pub own_looks : t.looks ≡ looks_in looks r

-- the Delete of one character
abbrev pub one_delete : OneDelete → Operation
one_delete d = record {
  text = d.text;
  site = d.site;
  seq = d.seq;
  stamp = d.stamp;
  kind = delete (record { site = d.of; at = d.off; len = 1 } ∷ []);
}

-- the operations of a stretch
abbrev pub ops_of : Shared → Stretch → List Operation
ops_of s (Typed r) = typed_ops s r r.len
ops_of s (Deleted d) = one_delete d ∷ []
ops_of s (Single i) = option_map_or (λ op. op ∷ []) (slice_get s.singles i) []

-- the operations of all stretches
abbrev pub all_ops : Shared → List Stretch → List Operation
all_ops s stretches = flat_map (ops_of s) stretches

-- what a stretch names is there
abbrev pub IsStretchThere : Shared → Stretch → Type 0
IsStretchThere s (Typed r) =
    (0 < r.len) × (r.from + r.len ≤ length s.bytes) × (r.looks < length s.looks) × (r.cause_off < 16777216)
IsStretchThere s (Deleted d) = Unit {0}
IsStretchThere s (Single i) = i < length s.singles

-- the numbers tell how many operations stand before each stretch
pub record AreFirsts (s : Shared) (stretches : List Stretch) (firsts : List ℕ) : Type 0 where
  pub many : length firsts ≡ length stretches
  pub each : (k : ℕ) (d : ℕ) → k < length stretches → slice_index_or firsts k d ≡ length (all_ops s (take k stretches))

-- a stretch's letters, if it has any, are the last of all
abbrev pub EndsLast : Shared → Stretch → Type 0
EndsLast s (Typed r) = r.from + r.len ≡ length s.bytes
EndsLast s (Deleted d) = Unit {0}
EndsLast s (Single i) = Unit {0}

-- so are those of the last stretch
abbrev pub LastEndsLast : Shared → List Stretch → Type 0
LastEndsLast s stretches =
    (before : List Stretch) (last : Stretch) → stretches ≡ before ++ last ∷ [] → EndsLast s last

-- the stretches, how many operations stand before each, and how many there are: no fewer than bytes of letters
pub record AreStretches (s : Shared) (stretches : List Stretch) (firsts : List ℕ) (len : ℕ) : Type 0 where
  pub there : All (IsStretchThere s) stretches
  pub before : AreFirsts s stretches firsts
  pub many : len ≡ length (all_ops s stretches)
  pub letters : length s.bytes ≤ len
  pub spelled : All HasSpelling (all_ops s stretches)
  pub last : LastEndsLast s stretches
