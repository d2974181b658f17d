use Rattle.std.proofs.Common.{◌≡◌, ℕ, ◌∷◌, ◌++◌, List, [], sym, ap, ◌∙◌, map, append_assoc, append-nil, arith}
use Rattle.char_files.specs.declared.character.Char.{Char}
use Rattle.texts.specs.TextState.{shown_items, shown_of}
use Rattle.desk_texts.specs.RunSoFar.{HasRunsSoFar, runs_of_bytes}
use Rattle.desk_texts.proofs.CountingRuns.{IsCounted-begins, IsCounted-ended, IsCounted-room}
use Rattle.desk_texts.proofs.runs.run_lines.Goals as goal

pub loop-char-init : goal.loop-char-init
loop-char-init c =
    let counted : HasRunsSoFar [] c.new-lines.result.items c.plain.result 0 = rw c.new-lines.ensures.items (IsCounted-begins c.plain.result) in
    ([], counted, ap (map (λ (c : Char). (c.byte, c.looks))) (c.into_iter-char-iterator.ensures.into_iter_gives ∙ c.shown-char-items.ensures))

pub go_on-requires : goal.go_on-requires
go_on-requires c =
    let (items, counted, all) = c.loop-char.invariant in
    omega (arith, IsCounted-room c.loop-char.char-iterator c.next.new.self (shown_of c.args.replica.now) c.in-Some.char counted all c.in-Some.ensures.steps, c.shown_len.ensures, c.shown_len.type_inv)

pub loop-char-preserved : goal.loop-char-preserved
loop-char-preserved c =
    let (items, counted, all) = c.loop-char.invariant in
    let char = c.in-Some.char in
    let rest = c.next.new.self in (
      items ++ (char.byte, char.looks) ∷ [],
      c.in_ok-go_on.ensures items char.byte counted,
      append_assoc items ((char.byte, char.looks) ∷ []) (map (λ (c : Char). (c.byte, c.looks)) rest)
          ∙ ap (λ (chars : List Char). items ++ map (λ (c : Char). (c.byte, c.looks)) chars) (sym c.in-Some.ensures.steps) ∙ all,
    )

pub returns-clause-ok : goal.returns-clause-ok
returns-clause-ok c =
    let (items, counted, all) = c.loop-char.invariant in
    let whole : items ≡ shown_items c.args.replica.now = sym (append-nil items) ∙ ap (λ (chars : List Char). items ++ map (λ (c : Char). (c.byte, c.looks)) chars) (sym c.in-None.ensures.steps.0) ∙ all in (
      counted.before ++ runs_of_bytes c.loop-char.run.looks counted.bytes,
      (counted.are_runs.0, counted.are_runs.1 ∙ whole),
      c.in_ok-extend_from_slice.ensures.items ∙ ap (λ (lines : List ℕ). lines ++ 111 ∷ 107 ∷ 10 ∷ []) (c.in_ok-put_ended.ensures ∙ IsCounted-ended counted),
    )
