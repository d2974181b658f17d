use Rattle.std.proofs.Common.{◌≡◌, ℕ, ◌+◌, ◌∙◌, ap, sym, subst, arith}
use Rattle.char_files.specs.declared.name.Anchor.{Anchor}
use Rattle.line_drawing.specs.Lines.{beg_of}
use Rattle.texts.specs.Edit.{anchor_before}
use Rattle.texts.specs.Text.{IsAnchor, IsText}
use Rattle.texts.specs.TextState.{TextState, shown_of}
use Rattle.machine.specs.Windows.{bytes_shown}
use Rattle.text_frames.specs.Frames.{IsDrawn, drawing_reads}
use Rattle.text_frames.specs.Reading.{counted}
use Rattle.text_frames.proofs.Preceding.{before_is_anchor}
use Rattle.text_frames.proofs.OneLine.{counted_on}
use Rattle.text_frames.proofs.frame.Frame.begin_with.Goals as goal

-- what stands before a position is a character of the text, or the root
its_anchor : (t : TextState) → IsText t → (pos : ℕ) (anchor : Anchor) → anchor ≡ anchor_before (shown_of t) pos
    → IsAnchor t.operations anchor
its_anchor t is pos anchor found = subst (IsAnchor t.operations) (sym found) (before_is_anchor t is pos)

pub returns-clause-drawn : goal.returns-clause-drawn
returns-clause-drawn c =
    let mid : TextState = c.begin_of_line-beg.new.text.text in
    let same : mid ≡ c.args.text.now.text = c.begin_of_line-beg.ensures.text in
    let char : IsAnchor mid.operations c.anchor_after-self-inside.result =
    its_anchor mid (subst IsText (sym same) c.lemma_is_text.ensures) c.begin_of_line-beg.result
    c.anchor_after-self-inside.result c.anchor_after-self-inside.ensures in
    subst (IsDrawn c.redraw.new.self) same (c.redraw.ensures.drawn char)

pub returns-clause-reads : goal.returns-clause-reads
returns-clause-reads c =
    let now : TextState = c.args.text.now.text in
    let mid : TextState = c.begin_of_line-beg.new.text.text in
    let same : mid ≡ now = c.begin_of_line-beg.ensures.text in
    let char : IsAnchor mid.operations c.anchor_after-self-inside.result =
    its_anchor mid (subst IsText (sym same) c.lemma_is_text.ensures) c.begin_of_line-beg.result
    c.anchor_after-self-inside.result c.anchor_after-self-inside.ensures in
    let seek : ℕ = beg_of (bytes_shown now) c.args.line in
    let draw : ℕ = drawing_reads mid c.redraw.new.self in
    let none : c.args.text.now.reads + (seek + draw) ≡ seek + draw = omega (arith, c.requires) in
    counted_on c.args.text.now.reads seek draw c.begin_of_line-beg.new.text.reads c.redraw.new.text.reads
    c.begin_of_line-beg.ensures.reads (c.redraw.ensures.reads char)
    ∙ ap counted none
    ∙ ap (λ (t : TextState). counted (seek + drawing_reads t c.redraw.new.self)) same
