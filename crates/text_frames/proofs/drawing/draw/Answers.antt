use Rattle.std.proofs.Common.{◌≡◌, ℕ, List, length, sym, subst, All, take}
use Rattle.line_drawing.specs.Lines.{beg_of, ends_in}
use Rattle.line_drawing.specs.Rows.{Row}
use Rattle.texts.specs.TextState.{TextState}
use Rattle.machine.specs.Windows.{bytes_shown}
use Rattle.text_frames.proofs.Walks.{rows-wide}
use Rattle.text_frames.proofs.drawing.draw.Goals as goal

pub returns-clause-wide : goal.returns-clause-wide
returns-clause-wide c =
    let bytes : List ℕ = bytes_shown c.line_begin-beg.new.text.text in
    let j : ℕ = ends_in (take c.place_of-place.result bytes) in
    let at : c.line_begin-beg.result ≡ beg_of bytes j =
    subst (λ (t : TextState). c.line_begin-beg.result
    ≡ beg_of (bytes_shown t) (ends_in (take c.place_of-place.result (bytes_shown t)))) (sym c.line_begin-beg.ensures.text)
    c.line_begin-beg.ensures.value in
    subst (λ (rows : List Row). All (λ r. length r.cells ≡ c.args.width) rows)
    (sym (c.draw_rows.ensures.rows j at)) (rows-wide bytes c.args.width j c.args.count)
