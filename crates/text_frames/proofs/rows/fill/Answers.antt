use Rattle.std.proofs.Common.{◌≡◌, ℕ, suc, ◌-◌, ◌<◌, List, [], ◌∷◌, ◌++◌, length, ap, ◌∙◌, arith, append_assoc}
use Rattle.std.proofs.lemmas.List.{length_push}
use Rattle.line_drawing.specs.Rows.{blanks}
use Rattle.text_frames.proofs.rows.fill.Goals as goal

blank_more : (cells new : List ℕ) (width : ℕ) → length cells < width → new ≡ cells ++ 0x20 ∷ []
    → new ++ blanks (width - length new) ≡ cells ++ blanks (width - length cells)
blank_more cells new width lt is =
    let m : ℕ = width - length new in
    let one : suc m ≡ width - length cells = omega (arith, ap length is, length_push cells 0x20, lt) in
    ap (λ (l : List ℕ). l ++ blanks m) is ∙ append_assoc cells (0x20 ∷ []) (blanks m)
    ∙ ap (λ (n : ℕ). cells ++ blanks n) one

pub loop-cells-preserved : goal.loop-cells-preserved
loop-cells-preserved c =
    let lt : length c.loop-cells.cells.items < c.args.width = omega (arith, c.len.ensures.value, c.loop-cells-test.true) in
    record {
      filled =
          blank_more c.loop-cells.cells.items c.push.new.self.items c.args.width lt c.push.ensures.items
          ∙ c.loop-cells.invariant.filled;
      within = omega (arith, ap length c.push.ensures.items, length_push c.loop-cells.cells.items 0x20, lt);
    }
