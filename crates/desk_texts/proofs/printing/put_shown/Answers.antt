use Rattle.std.proofs.Common.{ℕ, List, ◌++◌, sym, ap, ◌∙◌, append_assoc, append-nil}
use Rattle.char_files.specs.declared.character.Char.{Char}
use Rattle.machine.specs.Printing.{print_of, printed_byte}
use Rattle.desk_texts.proofs.printing.put_shown.Goals as goal

pub loop-char-init : goal.loop-char-init
loop-char-init c =
    ap (λ (chars : List Char). c.args.out.now.items ++ print_of chars) (c.into_iter-char-iterator.ensures.into_iter_gives ∙ c.shown_between-char-items.ensures)

pub loop-char-preserved : goal.loop-char-preserved
loop-char-preserved c =
    let before = c.loop-char.out.items in
    let left = c.next.new.self in
    ap (λ (bytes : List ℕ). bytes ++ print_of left) c.in_ok-put_printed.ensures
    ∙ append_assoc before (printed_byte c.in-Some.char.byte) (print_of left)
    ∙ ap (λ (chars : List Char). before ++ print_of chars) (sym c.in-Some.ensures.steps)
    ∙ c.loop-char.invariant

pub returns : goal.returns
returns c =
    let before = c.loop-char.out.items in
    sym (append-nil before) ∙ ap (λ (chars : List Char). before ++ print_of chars) (sym c.in-None.ensures.steps.0)
    ∙ c.loop-char.invariant
