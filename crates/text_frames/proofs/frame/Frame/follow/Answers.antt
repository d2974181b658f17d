use Rattle.std.proofs.Common.{◌<◌, ◌∙◌, ap, sym, subst, List, length, get_or}
use Rattle.std.specs.List.{AllPass}
use Rattle.line_drawing.specs.Rows.{Row}
use Rattle.text_frames.specs.Frames.{FrameSeen, IsDrawn, is_quiet_for, last_row, leaves_rows}
use Rattle.text_frames.proofs.Kept.{quiet_drawn}
use Rattle.text_frames.proofs.frame.Frame.follow.Goals as goal

pub returns-then-leave_rows-clause-drawn : goal.returns-then-leave_rows-clause-drawn
returns-then-leave_rows-clause-drawn c = λ t is drawn keeps char leads.
    let f : FrameSeen = c.args.self.now in
    let rows : List Row = c.self.inside.rows.items in
    let some : 0 < length f.rows = subst (λ (g : FrameSeen). 0 < length g.rows) c.self.view_is c.self.invariant.0.some in
    let all : AllPass (is_quiet_for f) c.args.changes.now = λ k d lt.
    ap (λ (g : FrameSeen). is_quiet_for g (get_or c.args.changes.now k d)) (sym c.self.view_is)
    ∙ ap (λ (rs : List Row). leaves_rows c.self.inside.full (last_row rs).end (get_or c.args.changes.now k d))
    (sym c.as_slice.ensures.value)
    ∙ c.leave_rows.ensures.0 c.if-leave_rows.true k d lt in
    subst (λ (g : FrameSeen). IsDrawn g c.args.text.now.text)
    (sym (ap (λ (g : FrameSeen). record g { reads = c.count-self-inside.result }) c.self.view_is))
    (quiet_drawn f t c.args.text.now.text is c.lemma_is_text.ensures drawn keeps char some c.args.changes.now leads all
    c.count-self-inside.result)
