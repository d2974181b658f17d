use Rattle.std.proofs.Common.{◌≡◌, true, ap, sym, ◌∙◌}
use Rattle.packed.specs.Told.{Told, has_begun}
use Rattle.chunks.specs.Parts.{placed}
use Rattle.chunks.proofs.Written.{has_begun_with}
use Rattle.chunks.proofs.writing.note_added.Goals as goal
use Rattle.chunks.proofs.writing.note_added.Goals.{then-not-has_begun+in_ok-note_begin, else-not-has_begun}

pub unreachable-requires : goal.unreachable-requires
unreachable-requires c =
    let t = c.args.history.now in
    let p = placed c.args.op.now c.args.len in
    let begun : has_begun c.if-not-has_begun.history p.op.site ≡ true =
    elim c.if-not-has_begun.branch [
      | then-not-has_begun+in_ok-note_begin w ↦
          ap (λ (u : Told). has_begun u p.op.site) (w.history-is ∙ w.in_ok-note_begin.ensures.ok) ∙ has_begun_with t p
      | else-not-has_begun w ↦
          ap (λ (u : Told). has_begun u p.op.site) w.history-is ∙ ap (has_begun t) (sym c.site.ensures)
          ∙ sym c.has_begun.ensures ∙ w.if-not-has_begun.false
    ] in
    let room = c.in_default.ensures.room begun in
    absurd cc
