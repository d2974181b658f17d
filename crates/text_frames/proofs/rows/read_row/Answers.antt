use Rattle.std.proofs.Common.{ℕ, ◌+◌, List, length, refl, ap, sym, subst, ◌∙◌, arith, Option}
use Rattle.line_drawing.specs.Rows.{Row}
use Rattle.text_frames.specs.Reading.{GivesNext, line_before}
use Rattle.char_files.specs.Chars.{char_bytes}
use Rattle.text_frames.proofs.OneLine.{IsRead, ReadsLine, line_begins, line_ends, line_goes_on, some_left}
use Rattle.text_frames.proofs.rows.read_row.Goals as goal

pub loop-byte-init : goal.loop-byte-init
loop-byte-init c = record {
  line =
      subst (λ (cells : List ℕ). ReadsLine c.args.width c.args.beg c.args.text.now.reads c.args.text.now.left
      c.args.text.now.left cells c.args.beg c.args.text.now.reads) (sym c.new-cells.ensures)
      (line_begins c.args.width c.args.beg c.args.text.now.reads c.args.text.now.left
      (omega (arith, c.count-reads.ensures, c.count-reads.type_inv)));
  text = refl;
}

pub put_sign-requires-clause-within : goal.put_sign-requires-clause-within
put_sign-requires-clause-within c = c.loop-byte.invariant.line.within

pub overflow_add-end : goal.overflow_add-end
overflow_add-end c =
    omega (
      arith,
      c.loop-byte.invariant.line.room,
      c.requires.in_text,
      some_left c.loop-byte.text.left c.next_byte.new.self.left c.in-Some.byte c.in-Some.ensures.next,
    )

pub loop-byte-smaller : goal.loop-byte-smaller
loop-byte-smaller c = some_left c.loop-byte.text.left c.next_byte.new.self.left c.in-Some.byte c.in-Some.ensures.next

pub loop-byte-preserved : goal.loop-byte-preserved
loop-byte-preserved c = record {
  line =
      subst (λ (cells : List ℕ). ReadsLine c.args.width c.args.beg c.args.text.now.reads c.args.text.now.left
      c.next_byte.new.self.left cells (c.loop-byte.end + 1) c.next_byte.new.self.reads) (sym c.put_sign.ensures)
      (line_goes_on c.args.width c.args.beg c.args.text.now.reads c.args.text.now.left c.loop-byte.text.left
      c.next_byte.new.self.left c.loop-byte.cells.items c.loop-byte.end c.loop-byte.text.reads c.next_byte.new.self.reads
      c.in-Some.byte c.loop-byte.invariant.line c.in-Some.ensures.next c.in-Some.ensures.reads);
  text = c.in-Some.ensures.text ∙ c.loop-byte.invariant.text;
}

abbrev row_with : (beg end : ℕ) → List ℕ → Row
row_with beg end cells = record { beg = beg; end = end; cells = cells }

pub returns-clause-row : goal.returns-clause-row
returns-clause-row c =
    let read : IsRead c.args.width c.args.beg c.args.text.now.reads c.args.text.now.left c.next_byte.new.self.left
    c.loop-byte.cells.items c.loop-byte.end c.next_byte.new.self.reads =
    line_ends c.args.width c.args.beg c.args.text.now.reads c.args.text.now.left c.loop-byte.text.left c.next_byte.new.self.left
    c.loop-byte.cells.items c.loop-byte.end c.loop-byte.text.reads c.next_byte.new.self.reads c.loop-byte.invariant.line
    (subst (λ (next : Option ℕ). GivesNext c.loop-byte.text.left next c.next_byte.new.self.left) c.in_default.is
    c.next_byte.ensures.next) c.next_byte.ensures.reads in
    ap (λ (n : ℕ). row_with c.args.beg n c.fill.new.cells.items) read.at
    ∙ ap (λ (cells : List ℕ). row_with c.args.beg (c.args.beg + length (line_before (char_bytes c.args.text.now.left))) cells)
    (c.fill.ensures ∙ read.drawn)
