use Rattle.std.proofs.Common.{◌-◌, ◌∙◌, ap, sym, arith, get_or}
use Rattle.std.proofs.lemmas.List.{length-map}
use Rattle.char_files.specs.declared.character.Char.{Char}
use Rattle.line_drawing.proofs.Stands.{found_beg}
use Rattle.machine.specs.Windows.{bytes_shown}
use Rattle.texts.specs.TextState.{TextState, shown_of}
use Rattle.text_frames.proofs.drawing.line_begin.Goals as goal

pub returns-else-byte_at-ne-LINE_END-clause-value : goal.returns-else-byte_at-ne-LINE_END-clause-value
returns-else-byte_at-ne-LINE_END-clause-value c =
    found_beg (bytes_shown c.args.text.now.text) c.args.place c.loop-beg.beg
    (omega (arith, c.requires, length-map (shown_of c.args.text.now.text) (λ (x : Char). x.byte)))
    c.loop-beg.invariant.within (λ some.
    ap (λ (t : TextState). get_or (bytes_shown t) (c.loop-beg.beg - 1) 0) (sym c.loop-beg.invariant.text)
    ∙ sym c.byte_at.ensures.value ∙ c.if-byte_at-ne-LINE_END.false)
    c.loop-beg.invariant.between

pub returns-after-loop-beg-clause-value : goal.returns-after-loop-beg-clause-value
returns-after-loop-beg-clause-value c =
    found_beg (bytes_shown c.args.text.now.text) c.args.place c.loop-beg.beg
    (omega (arith, c.requires, length-map (shown_of c.args.text.now.text) (λ (x : Char). x.byte)))
    c.loop-beg.invariant.within (λ some. absurd (omega (arith, some, c.loop-beg-test.false))) c.loop-beg.invariant.between
