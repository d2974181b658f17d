use Rattle.std.proofs.Common.{◌≡◌, ◌+◌, ◌<◌, ℕ, List, length, ap, subst, sym, ◌∙◌, arith, rules}
use Rattle.std.specs.List.{slice_range}
use Rattle.std.proofs.lemmas.Bool.{true≢false}
use Rattle.std.proofs.lemmas.List.{take_rest}
use Rattle.taken_text.specs.Rows.{RowSeen, chars_of_rows}
use Rattle.texts.specs.TextState.{shown_of}
use Rattle.vialshoal_c.proofs.Runs.{IsFollowed, run_begins, run_ends, run_goes_over, run_stops_before}
use Rattle.vialshoal_c.proofs.showing.end_of_run.Goals as goal

pub loop-row-init : goal.loop-row-init
loop-row-init c = (
  search rules,
  search rules,
  run_begins (shown_of c.args.replica.now) c.args.pos c.args.looks.now (chars_of_rows c.into_iter-row-iterator.result)
      (ap chars_of_rows c.into_iter-row-iterator.ensures.into_iter_gives ∙ c.rows_between-row-items.ensures
      ∙ ap (λ (n : ℕ). slice_range (shown_of c.args.replica.now) (c.args.pos + 1) n) c.shown_len-len.ensures
      ∙ take_rest (shown_of c.args.replica.now) (c.args.pos + 1)) c.requires.in_text c.requires.here,
)

pub overflow_add-end-in-loop-row : goal.overflow_add-end-in-loop-row
overflow_add-end-in-loop-row c =
    let alike : c.in-Some.row.looks ≡ c.args.looks.now = sym c.looks.ensures ∙ c.are_same.ensures.0 c.if-not-are_same.false in
    let over = run_goes_over (shown_of c.args.replica.now) c.args.pos c.args.looks.now c.in-Some.row c.next.new.self
    c.loop-row.row-iterator c.loop-row.end c.in-Some.ensures.steps c.loop-row.invariant.2 alike in
    omega (arith, over.ends, c.shown_len-len.ensures, c.shown_len-len.type_inv, ap length c.bytes-bytes.ensures.value)

pub loop-row-preserved : goal.loop-row-preserved
loop-row-preserved c =
    let shown = shown_of c.args.replica.now in
    let alike : c.in-Some.row.looks ≡ c.args.looks.now = sym c.looks.ensures ∙ c.are_same.ensures.0 c.if-not-are_same.false in (
      search rules,
      search rules,
      subst (λ (bytes : List ℕ). IsFollowed shown (chars_of_rows c.next.new.self) c.args.pos (c.loop-row.end + length bytes) c.args.looks.now)
          (sym c.bytes-bytes.ensures.value) (run_goes_over shown c.args.pos c.args.looks.now c.in-Some.row c.next.new.self
          c.loop-row.row-iterator c.loop-row.end c.in-Some.ensures.steps c.loop-row.invariant.2 alike),
    )

pub returns-then-not-are_same : goal.returns-then-not-are_same
returns-then-not-are_same c =
    run_stops_before (shown_of c.args.replica.now) c.args.pos c.args.looks.now c.in-Some.row c.next.new.self
    c.loop-row.row-iterator c.loop-row.end c.in-Some.ensures.steps c.loop-row.invariant.2
    (subst (λ (bytes : List ℕ). 0 < length bytes) c.bytes-bytes.ensures.value c.bytes-bytes.ensures.some)
    (λ e. true≢false (sym (c.are_same.ensures.1 (c.looks.ensures ∙ e)) ∙ c.if-not-are_same.true))

pub returns : goal.returns
returns c =
    run_ends (shown_of c.args.replica.now) c.args.pos c.args.looks.now c.loop-row.end
    (subst (λ (rows : List RowSeen). IsFollowed (shown_of c.args.replica.now) (chars_of_rows rows) c.args.pos c.loop-row.end c.args.looks.now)
    c.in-None.ensures.steps.0 c.loop-row.invariant.2)
