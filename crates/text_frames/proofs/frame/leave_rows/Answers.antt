use Rattle.std.proofs.Common.{◌≡◌, ◌-◌, ◌∙◌, ap, sym, ℕ, List, length, slice_index_or, Bool, arith}
use Rattle.std.proofs.lemmas.List.{get_or_read}
use Rattle.list_changes.specs.Quiet.{is_quiet}
use Rattle.list_changes.specs.declared.change.Change.{Change}
use Rattle.line_drawing.specs.Rows.{Row}
use Rattle.text_frames.specs.Frames.{last_row, leaves_rows}
use Rattle.text_frames.specs.Reading.{no_row}
use Rattle.text_frames.proofs.Drawn.{full_leaves}
use Rattle.text_frames.proofs.frame.leave_rows.Goals as goal

pub returns-then-full : goal.returns-then-full
returns-then-full c =
    let rows : List Row = c.args.rows.now in
    let last : c.last.inside.end ≡ (last_row rows).end =
    ap (λ (r : Row). r.end)
    (c.last.view_is ∙ get_or_read rows (length rows - 1) c.index-rows-rows.result (omega (arith, c.requires))
    c.index-rows-rows.is no_row) in
    let each : (change : Change) → leaves_rows c.args.full (last_row rows).end change ≡ is_quiet c.last.inside.end change =
    λ change. ap (λ (b : Bool). leaves_rows b (last_row rows).end change) c.if-full.true
    ∙ full_leaves (last_row rows).end change ∙ ap (λ (n : ℕ). is_quiet n change) (sym last) in (
      λ yes k d lt. each (slice_index_or c.args.changes.now k d) ∙ c.all_quiet.ensures.0 yes k d lt,
      λ all. c.all_quiet.ensures.1 (λ k d lt. sym (each (slice_index_or c.args.changes.now k d)) ∙ all k d lt),
    )
