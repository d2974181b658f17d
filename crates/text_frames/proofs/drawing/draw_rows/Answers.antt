use Rattle.std.proofs.Common.{◌≡◌, ℕ, suc, ◌+◌, ◌-◌, List, length, drop, min, ap, sym, subst, ◌∙◌, refl, arith}
use Rattle.std.proofs.lemmas.List.{length_push}
use Rattle.char_files.specs.declared.character.Char.{Char}
use Rattle.line_drawing.specs.Lines.{beg_of}
use Rattle.line_drawing.specs.Rows.{Row, rows_from}
use Rattle.texts.specs.TextState.{TextState, shown_of}
use Rattle.machine.specs.Windows.{bytes_shown}
use Rattle.text_frames.specs.Frames.{last_row}
use Rattle.text_frames.specs.Reading.{counted}
use Rattle.text_frames.proofs.Lines.{rows_before, rows_are}
use Rattle.text_frames.proofs.Walks.{DrawsRows, rows_begin, rows_counted, rows_drawn, rows_more}
use Rattle.text_frames.proofs.drawing.draw_rows.Goals as goal

pub loop-text-init : goal.loop-text-init
loop-text-init c =
    let all : List Char = shown_of c.go_to.new.self.text in
    let left : c.go_to.new.self.left ≡ drop c.args.from all =
    c.go_to.ensures.left ∙ ap (λ (t : TextState). drop c.args.from (shown_of t)) (sym c.go_to.ensures.text) in
    record {
      drawn =
          subst (λ (rows : List Row). DrawsRows all c.args.width c.args.from c.go_to.new.self.reads c.args.count rows
          c.go_to.new.self.left c.args.from c.go_to.new.self.reads) (sym c.clear.ensures.items)
          (rows_begin all c.args.width c.args.from c.go_to.new.self.reads c.args.count c.go_to.new.self.left
          (omega (arith, c.go_to.ensures.reads, c.count-reads.ensures, c.count-reads.type_inv))
          (omega (arith, c.requires.in_text, ap (λ (t : TextState). length (shown_of t)) c.go_to.ensures.text)) left);
      text = refl;
      capacity = refl;
    }

pub read_row-row-requires-clause-in_text : goal.read_row-row-requires-clause-in_text
read_row-row-requires-clause-in_text c =
    omega (
      arith,
      c.loop-text.invariant.drawn.left,
      ap (λ (t : TextState). length (shown_of t)) c.go_to.ensures.text,
      c.shown_len-len.ensures,
      c.shown_len-len.type_inv,
    )

pub push_reserved-requires : goal.push_reserved-requires
push_reserved-requires c =
    omega (
      arith,
      c.len.ensures,
      c.loop-text-test.true,
      c.loop-text.invariant.capacity,
      c.clear.ensures.capacity,
      c.requires.room,
    )

pub loop-text-smaller : goal.loop-text-smaller
loop-text-smaller c =
    omega (
      arith,
      ap length c.push_reserved.ensures.items,
      length_push c.loop-text.rows.items c.read_row-row.result,
      c.len.ensures,
      c.loop-text.rows.ok.0,
      c.loop-text-test.true,
    )

pub loop-text-preserved : goal.loop-text-preserved
loop-text-preserved c =
    let all : List Char = shown_of c.go_to.new.self.text in
    let row : Row = c.read_row-row.result in
    record {
      drawn =
          subst (λ (rows : List Row). DrawsRows all c.args.width c.args.from c.go_to.new.self.reads c.args.count rows
          c.read_row-row.new.text.left c.min-beg.result c.read_row-row.new.text.reads) (sym c.push_reserved.ensures.items)
          (rows_more all c.args.width c.args.from c.go_to.new.self.reads c.args.count c.loop-text.rows.items
          c.loop-text.text.left c.read_row-row.new.text.left c.loop-text.beg c.min-beg.result c.loop-text.text.reads
          c.read_row-row.new.text.reads row c.loop-text.invariant.drawn
          (omega (arith, c.len.ensures, c.loop-text.rows.ok.0, c.loop-text-test.true))
          c.read_row-row.ensures.row c.read_row-row.ensures.rest c.read_row-row.ensures.reads
          (omega (
            arith,
            c.min-beg.ensures,
            c.saturating_add.ensures,
            ap (λ (r : Row). r.end) c.row.view_is,
            ap (λ (t : TextState). length (shown_of t)) c.go_to.ensures.text,
            c.shown_len-len.ensures,
          ))
          (omega (
            arith,
            ap (λ (t : TextState). length (shown_of t)) c.go_to.ensures.text,
            c.shown_len-len.ensures,
            c.shown_len-len.type_inv,
          )));
      text = c.read_row-row.ensures.text ∙ c.loop-text.invariant.text;
      capacity = c.push_reserved.ensures.capacity ∙ c.loop-text.invariant.capacity;
    }

pub returns-clause-rows : goal.returns-clause-rows
returns-clause-rows c =
    subst (λ (t : TextState). (j : ℕ) → c.args.from ≡ beg_of (bytes_shown t) j
    → c.loop-text.rows.items ≡ rows_from (bytes_shown t) c.args.width j c.args.count) c.go_to.ensures.text
    (λ j at.
    let bytes : List ℕ = bytes_shown c.go_to.new.self.text in
    rows_drawn (shown_of c.go_to.new.self.text) c.args.width c.args.from c.go_to.new.self.reads c.args.count
    c.loop-text.rows.items c.loop-text.text.left c.loop-text.beg c.loop-text.text.reads c.loop-text.invariant.drawn
    (omega (arith, c.len.ensures, c.loop-text.rows.ok.0, c.loop-text-test.false))
    ∙ ap (λ (n : ℕ). rows_before c.args.width n (drop n bytes) c.args.count) at
    ∙ rows_are bytes c.args.width j c.args.count)

pub returns-clause-len : goal.returns-clause-len
returns-clause-len c =
    omega (
      arith,
      c.loop-text.invariant.drawn.few,
      c.len.ensures,
      c.loop-text.rows.ok.0,
      c.loop-text-test.false,
    )

pub returns-clause-capacity : goal.returns-clause-capacity
returns-clause-capacity c = c.loop-text.invariant.capacity ∙ c.clear.ensures.capacity

pub returns-clause-reads : goal.returns-clause-reads
returns-clause-reads c =
    let end : ℕ = suc (last_row c.loop-text.rows.items).end in
    rows_counted (shown_of c.go_to.new.self.text) c.args.width c.args.from c.go_to.new.self.reads c.args.count
    c.loop-text.rows.items c.loop-text.text.left c.loop-text.beg c.loop-text.text.reads c.loop-text.invariant.drawn
    (omega (arith, c.len.ensures, c.loop-text.rows.ok.0, c.loop-text-test.false, c.requires.some))
    ∙ ap (λ (t : TextState). counted (c.go_to.new.self.reads + (min end (length (shown_of t)) - c.args.from)))
    c.go_to.ensures.text
    ∙ ap (λ (n : ℕ). counted (n + (min end (length (shown_of c.args.text.now.text)) - c.args.from))) c.go_to.ensures.reads
