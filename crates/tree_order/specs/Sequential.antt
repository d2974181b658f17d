-- What is shown with one Insert more; and Inserts that are each stamped above all before.
use Rattle.std.specs.Prelude.{◌≡◌, ℕ, ◌+◌, ◌<◌, ◌≤◌, List, [], ◌∷◌, ◌++◌, Some, length, take, drop, map, All}
use Rattle.std.specs.Prelude.{count_by, slice_get}
use Rattle.char_files.specs.CharName.{CharName}
use Rattle.char_files.specs.declared.character.Char.{Char}
use Rattle.char_files.specs.declared.name.Anchor.{Anchor}
use Rattle.char_files.specs.declared.name.Anchor.TheVariants.{Root, At}
use Rattle.operations.specs.Operation.{Operation, OpKind, insert}
use Rattle.tree_order.specs.Good.{Good}
use Rattle.tree_order.specs.Tree.{byte_by}
use Rattle.tree_order.specs.Order.{IsOrder}
use Rattle.tree_order.specs.Looks.{looks_by}
use Rattle.tree_order.specs.Shown.{IsShown, IsPlace, is_visible, up_to}
use Rattle.tree_order.specs.Insertion.{IsJustAfter, IsOneMore, IsInsertAt, IsGap, EndsAt, run_of}

-- a character of an Insert, with its byte and the looks of the Insert
abbrev pub char_by : OpKind → CharName → Char
char_by kind c = record { name = c; byte = byte_by kind c; looks = looks_by kind }

-- the characters of the operation's run
abbrev pub inserted_chars : Operation → List Char
inserted_chars op = map (char_by op.kind) (run_of op)

-- one Insert more shows its run after what is visible before its gap, and all else as it was
abbrev pub ShownGainsRun : Type 0
ShownGainsRun =
    (ops : List Operation) (i : Operation) (before skipped after : List CharName) (shown : List Char) (n : ℕ)
    → IsOneMore ops i → IsOrder ops (before ++ skipped ++ after) → IsGap ops i before skipped after
    → IsShown ops shown → n ≡ count_by (is_visible ops) (before ++ skipped)
    → IsShown (ops ++ i ∷ []) (take n shown ++ inserted_chars i ++ drop n shown)

-- the operation is stamped above all of these
abbrev pub IsLatest : List Operation → Operation → Type 0
IsLatest ops i = All (λ op. op.stamp < i.stamp) ops

-- the latest Insert skips nothing
abbrev pub LatestSkipsNone : Type 0
LatestSkipsNone =
    (ops : List Operation) (i : Operation) (before skipped after : List CharName)
    → IsLatest ops i → IsGap ops i before skipped after → skipped ≡ []

-- the latest Insert's run put in directly after its cause makes the order
abbrev pub LatestGoesAfterCause : Type 0
LatestGoesAfterCause =
    (ops : List Operation) (i : Operation) (cause : Anchor) (before after : List CharName)
    → IsOneMore ops i → IsLatest ops i → IsInsertAt i cause
    → IsOrder ops (before ++ after) → EndsAt before cause
    → IsOrder (ops ++ i ∷ []) (before ++ run_of i ++ after)

-- the latest Insert shows its run after the place of its cause, and all else as it was
abbrev pub LatestIsShownAtPlace : Type 0
LatestIsShownAtPlace =
    (ops : List Operation) (i : Operation) (cause : Anchor) (shown : List Char) (n : ℕ)
    → IsOneMore ops i → IsLatest ops i → IsInsertAt i cause → IsShown ops shown → IsPlace ops cause n
    → IsShown (ops ++ i ∷ []) (take n shown ++ inserted_chars i ++ drop n shown)

-- an anchor that is shown has as its place the index after it in what is shown
abbrev pub PlaceIsAfter : Type 0
PlaceIsAfter =
    (ops : List Operation) (anchor : Anchor) (shown : List Char) (n : ℕ)
    → Good ops → IsShown ops shown → IsJustAfter (map (λ s. s.name) shown) anchor n → IsPlace ops anchor n

-- the latest Insert, typed after the first n characters shown, shows its run after them, as in a plain list
abbrev pub LatestIsPlainEdit : Type 0
LatestIsPlainEdit =
    (ops : List Operation) (i : Operation) (cause : Anchor) (shown : List Char) (n : ℕ)
    → IsOneMore ops i → IsLatest ops i → IsInsertAt i cause
    → IsShown ops shown → IsJustAfter (map (λ s. s.name) shown) cause n
    → IsShown (ops ++ i ∷ []) (take n shown ++ inserted_chars i ++ drop n shown)

-- the names up to the anchor, and with it; none for the root
abbrev pub up_to_anchor : List CharName → Anchor → List CharName
up_to_anchor order Root = []
up_to_anchor order (At c) = up_to c order

-- the names with a run directly after the anchor
abbrev pub put_after : List CharName → Anchor → List CharName → List CharName
put_after order anchor run =
    up_to_anchor order anchor ++ run ++ drop (length (up_to_anchor order anchor)) order

-- the names with the operation's run directly after its cause; the other kinds put nothing in
abbrev pub with_run_by : OpKind → List CharName → List CharName → List CharName
with_run_by (insert cause at looks bytes) run order = put_after order cause run
with_run_by kind run order = order

-- the names with the run of each of these operations directly after its cause, one after the other
abbrev pub with_runs : List CharName → List Operation → List CharName
with_runs order [] = order
with_runs order (op ∷ ops) = with_runs (with_run_by op.kind (run_of op) order) ops

-- the operations of a site that took nothing in, from its first on
abbrev pub AreOfOneWriter : List Operation → ℕ → Type 0
AreOfOneWriter ops site =
    (k : ℕ) (op : Operation) → slice_get ops k ≡ Some op → (op.site ≡ site) × (op.seq ≡ k + 1)

-- each run put directly after its cause makes the order of the first n operations of one writer
abbrev pub OneWriterGoesAfterCauses : Type 0
OneWriterGoesAfterCauses =
    (ops : List Operation) (site n : ℕ) → Good ops → AreOfOneWriter ops site → n ≤ length ops
    → IsOrder (take n ops) (with_runs [] (take n ops))
