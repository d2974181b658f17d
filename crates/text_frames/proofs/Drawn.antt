-- Rows that are drawn, one by one, and those that changes leave.
use Rattle.std.proofs.Common.{◌≡◌, ℕ, zero, suc, ◌+◌, ◌<◌, ◌&&◌, ◌||◌, true, nat_lt, List, length, get_or}
use Rattle.std.proofs.Common.{refl, ap, ◌∙◌, arith}
use Rattle.list_changes.specs.declared.change.ChangeKind.{ChangeKind}
use Rattle.list_changes.specs.declared.change.ChangeKind.TheVariants.{Insert, Delete, Replace}
use Rattle.list_changes.specs.declared.change.Change.{Change}
use Rattle.list_changes.specs.Quiet.{is_change_after, is_quiet}
use Rattle.line_drawing.specs.Rows.{Row, row_of, rows_from}
use Rattle.texts.specs.TextState.{TextState}
use Rattle.machine.specs.Windows.{bytes_shown, first_line, row_from_anchor}
use Rattle.text_frames.specs.Frames.{FrameSeen, IsDrawn, leaves_rows, replaces}

pub row_from : (bytes : List ℕ) (width k n i : ℕ) (d : Row) → i < n
    → get_or (rows_from bytes width k n) i d ≡ row_of bytes width (k + i)
row_from bytes width k zero i d lt = absurd (omega (arith, lt))
row_from bytes width k (suc n) zero d lt =
    let here : k ≡ k + 0 = omega arith in
    ap (row_of bytes width) here
row_from bytes width k (suc n) (suc i) d lt =
    let next : suc k + i ≡ k + suc i = omega arith in
    row_from bytes width (suc k) n i d (omega (arith, lt)) ∙ ap (row_of bytes width) next

-- a row of a frame that is drawn is the machine's
pub row_told : (f : FrameSeen) (t : TextState) (i : ℕ) (d : Row) → IsDrawn f t → i < length f.rows
    → get_or f.rows i d ≡ row_from_anchor t f.anchor f.width i
row_told f t i d drawn lt =
    ap (λ (rows : List Row). get_or rows i d) drawn.rows
    ∙ row_from (bytes_shown t) f.width (first_line t f.anchor) (length f.rows) i d lt

-- of full rows a change leaves the lines where it is quiet up to the end of the last
leaves_full : (kind : ChangeKind) (last beg : ℕ)
    → (replaces kind || (true && nat_lt last beg)) ≡ is_change_after kind last beg
leaves_full Insert last beg = refl
leaves_full Delete last beg = refl
leaves_full Replace last beg = refl

pub full_leaves : (last : ℕ) (change : Change) → leaves_rows true last change ≡ is_quiet last change
full_leaves last change = leaves_full change.kind last change.beg
