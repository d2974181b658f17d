use Rattle.std.proofs.Common.{◌≡◌, ℕ, ◌+◌, ◌≤◌, List, length, min, refl, ap, sym, subst, ◌∙◌, arith, length-drop}
use Rattle.std.proofs.lemmas.List.{length-map}
use Rattle.char_files.specs.declared.character.Char.{Char}
use Rattle.line_drawing.specs.Lines.{beg_of, ends_in}
use Rattle.line_drawing.specs.Rows.{Row}
use Rattle.texts.specs.TextState.{TextState, shown_of}
use Rattle.machine.specs.Windows.{bytes_shown}
use Rattle.text_frames.specs.Reading.{counted}
use Rattle.char_files.specs.Chars.{char_bytes}
use Rattle.text_frames.proofs.Lines.{beg-within}
use Rattle.text_frames.proofs.Walks.{Passes, SeeksLine, last_found, line_found, seek_begins, seeks_on}
use Rattle.text_frames.proofs.drawing.begin_of_line.Goals as goal

pub loop-line-init : goal.loop-line-init
loop-line-init c = record {
  seeks =
      seek_begins (shown_of c.go_to.new.self.text) c.go_to.new.self.reads c.go_to.new.self.left
      (omega (arith, c.go_to.ensures.reads, c.count-reads.ensures, c.count-reads.type_inv))
      (c.go_to.ensures.left ∙ ap shown_of (sym c.go_to.ensures.text));
  text = refl;
}

begins_within : (all : List Char) (before j : ℕ) (walk : List Char) (beg reads : ℕ)
    → SeeksLine all before j walk beg reads → beg ≤ length all
begins_within all before j walk beg reads was =
    omega (
      arith,
      was.at,
      beg-within (char_bytes all) j,
      length-map all (λ (x : Char). x.byte),
    )

pub read_row-requires-clause-in_text : goal.read_row-requires-clause-in_text
read_row-requires-clause-in_text c =
    let all : List Char = shown_of c.go_to.new.self.text in
    omega (
      arith,
      ap length c.loop-line.invariant.seeks.left,
      length-drop c.loop-line.beg all,
      begins_within all c.go_to.new.self.reads c.loop-line._line c.loop-line.text.left c.loop-line.beg c.loop-line.text.reads
          c.loop-line.invariant.seeks,
      ap (λ (t : TextState). length (shown_of t)) c.go_to.ensures.text,
      c.shown_len-len.ensures,
      c.shown_len-len.type_inv,
    )

pub returns-then-end-len-clause-value : goal.returns-then-end-len-clause-value
returns-then-end-len-clause-value c =
    let passes : Passes (shown_of c.go_to.new.self.text) c.go_to.new.self.reads c.loop-line._line c.loop-line.text.left
    c.read_row.new.text.left c.loop-line.beg c.end.inside.end c.loop-line.text.reads c.read_row.new.text.reads =
    record {
      was = c.loop-line.invariant.seeks;
      is = ap (λ (r : Row). r.end) (c.end.view_is ∙ c.read_row.ensures.row);
      rest = c.read_row.ensures.rest;
      counts = c.read_row.ensures.reads;
    } in
    subst (λ (t : TextState). c.loop-line.beg ≡ beg_of (bytes_shown t) (min c.args.number (ends_in (bytes_shown t))))
    c.go_to.ensures.text
    ((last_found (shown_of c.go_to.new.self.text) c.go_to.new.self.reads c.loop-line._line c.args.number c.loop-line.text.left
    c.read_row.new.text.left c.loop-line.beg c.end.inside.end c.loop-line.text.reads c.read_row.new.text.reads passes
    (omega (
      arith,
      c.if-end-len.true,
      c.shown_len-len.ensures,
      ap (λ (t : TextState). length (shown_of t)) c.go_to.ensures.text,
    )) c.loop-line-test.true).0)

pub returns-then-end-len-clause-within : goal.returns-then-end-len-clause-within
returns-then-end-len-clause-within c =
    subst (λ (t : TextState). c.loop-line.beg ≤ length (shown_of t)) c.go_to.ensures.text
    (begins_within (shown_of c.go_to.new.self.text) c.go_to.new.self.reads c.loop-line._line c.loop-line.text.left c.loop-line.beg
    c.loop-line.text.reads c.loop-line.invariant.seeks)

pub returns-then-end-len-clause-reads : goal.returns-then-end-len-clause-reads
returns-then-end-len-clause-reads c =
    let passes : Passes (shown_of c.go_to.new.self.text) c.go_to.new.self.reads c.loop-line._line c.loop-line.text.left
    c.read_row.new.text.left c.loop-line.beg c.end.inside.end c.loop-line.text.reads c.read_row.new.text.reads =
    record {
      was = c.loop-line.invariant.seeks;
      is = ap (λ (r : Row). r.end) (c.end.view_is ∙ c.read_row.ensures.row);
      rest = c.read_row.ensures.rest;
      counts = c.read_row.ensures.reads;
    } in
    subst (λ (n : ℕ). c.read_row.new.text.reads ≡ counted (n + beg_of (bytes_shown c.args.text.now.text) c.args.number)) c.go_to.ensures.reads
    (subst (λ (t : TextState). c.read_row.new.text.reads ≡ counted (c.go_to.new.self.reads + beg_of (bytes_shown t) c.args.number))
    c.go_to.ensures.text
    ((last_found (shown_of c.go_to.new.self.text) c.go_to.new.self.reads c.loop-line._line c.args.number c.loop-line.text.left
    c.read_row.new.text.left c.loop-line.beg c.end.inside.end c.loop-line.text.reads c.read_row.new.text.reads passes
    (omega (
      arith,
      c.if-end-len.true,
      c.shown_len-len.ensures,
      ap (λ (t : TextState). length (shown_of t)) c.go_to.ensures.text,
    )) c.loop-line-test.true).1))

pub loop-line-preserved : goal.loop-line-preserved
loop-line-preserved c =
    let passes : Passes (shown_of c.go_to.new.self.text) c.go_to.new.self.reads c.loop-line._line c.loop-line.text.left
    c.read_row.new.text.left c.loop-line.beg c.end.inside.end c.loop-line.text.reads c.read_row.new.text.reads =
    record {
      was = c.loop-line.invariant.seeks;
      is = ap (λ (r : Row). r.end) (c.end.view_is ∙ c.read_row.ensures.row);
      rest = c.read_row.ensures.rest;
      counts = c.read_row.ensures.reads;
    } in
    record {
      seeks =
          seeks_on (shown_of c.go_to.new.self.text) c.go_to.new.self.reads c.loop-line._line c.loop-line.text.left
          c.read_row.new.text.left c.loop-line.beg c.end.inside.end c.loop-line.text.reads c.read_row.new.text.reads passes
          (omega (
            arith,
            c.if-end-len.false,
            c.shown_len-len.ensures,
            ap (λ (t : TextState). length (shown_of t)) c.go_to.ensures.text,
          ));
      text = c.read_row.ensures.text ∙ c.loop-line.invariant.text;
    }

pub returns-clause-value : goal.returns-clause-value
returns-clause-value c =
    subst (λ (t : TextState). c.loop-line.beg ≡ beg_of (bytes_shown t) (min c.args.number (ends_in (bytes_shown t))))
    c.go_to.ensures.text
    ((line_found (shown_of c.go_to.new.self.text) c.go_to.new.self.reads c.args.number c.loop-line._line c.loop-line.text.left
    c.loop-line.beg c.loop-line.text.reads (omega (arith, c.loop-line-test.false, c.loop-line.auto._line-end))
    c.loop-line.invariant.seeks).0)

pub returns-clause-within : goal.returns-clause-within
returns-clause-within c =
    subst (λ (t : TextState). c.loop-line.beg ≤ length (shown_of t)) c.go_to.ensures.text
    (begins_within (shown_of c.go_to.new.self.text) c.go_to.new.self.reads c.loop-line._line c.loop-line.text.left c.loop-line.beg
    c.loop-line.text.reads c.loop-line.invariant.seeks)

pub returns-clause-reads : goal.returns-clause-reads
returns-clause-reads c =
    subst (λ (n : ℕ). c.loop-line.text.reads ≡ counted (n + beg_of (bytes_shown c.args.text.now.text) c.args.number)) c.go_to.ensures.reads
    (subst (λ (t : TextState). c.loop-line.text.reads ≡ counted (c.go_to.new.self.reads + beg_of (bytes_shown t) c.args.number))
    c.go_to.ensures.text
    ((line_found (shown_of c.go_to.new.self.text) c.go_to.new.self.reads c.args.number c.loop-line._line c.loop-line.text.left
    c.loop-line.beg c.loop-line.text.reads (omega (arith, c.loop-line-test.false, c.loop-line.auto._line-end))
    c.loop-line.invariant.seeks).1))
