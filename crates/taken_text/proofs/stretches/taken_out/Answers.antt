use Rattle.std.proofs.Common.{◌≡◌, ◌+◌, ◌≤◌, ◌++◌, inl, inr, Err, List, ℕ, length, map, sym, ap, subst, ◌∙◌, append_assoc, arith}
use Rattle.std.proofs.lemmas.Result.{err_from_is_err_and}
use Rattle.std.specs.Prelude.{IfErr}
use Rattle.std.proofs.lemmas.List.{length-append, length-map}
use Rattle.looks.specs.declared.looks.Looks.{Looks}
use Rattle.looks.specs.declared.refusal.Refusal.{Refusal}
use Rattle.looks.specs.declared.refusal.Refusal.TheVariants.{OutOfMemory}
use Rattle.char_files.specs.Stretch.{Item}
use Rattle.char_files.specs.declared.TheConstants.{MAX_FILE}
use Rattle.taken_text.specs.Rows.{RowSeen, chars_of_rows}
use Rattle.taken_text.proofs.RowChars.{item_of, items_next}
use Rattle.taken_text.proofs.stretches.taken_out.Goals as goal

pub loop-row-preserved : goal.loop-row-preserved
loop-row-preserved c =
    let r : RowSeen = c.in-Some.row in
    let rest : List Item = map item_of (chars_of_rows c.next.new.self) in
    let before : List Item = c.loop-row.buffer in
    let more : map (λ b. (b, c.looks.result.now)) c.bytes.result.now ≡ map (λ b. (b, r.looks)) r.bytes =
    ap (λ (k : Looks). map (λ b. (b, k)) c.bytes.result.now) c.looks.ensures
    ∙ ap (λ (l : List ℕ). map (λ b. (b, r.looks)) l) c.bytes.ensures.value in (
      c.loop-row.invariant.0,
      c.loop-row.invariant.1,
      ap (λ (l : List Item). l ++ rest) (c.in_ok-push_all.ensures.ok ∙ ap (λ (l : List Item). before ++ l) more)
          ∙ append_assoc before (map (λ b. (b, r.looks)) r.bytes) rest
          ∙ ap (λ (l : List Item). before ++ l) (sym (items_next r c.next.new.self))
          ∙ ap (λ (rows : List RowSeen). before ++ map item_of (chars_of_rows rows)) (sym c.in-Some.ensures.steps)
          ∙ c.loop-row.invariant.2,
    )

pub returns-in_err-push_all-clause-errors : goal.returns-in_err-push_all-clause-errors
returns-in_err-push_all-clause-errors c =
    let r : RowSeen = c.in-Some.row in
    let rest : List Item = map item_of (chars_of_rows c.next.new.self) in
    let all : List RowSeen = c.into_iter-row-iterator.result in
    let left : List Item = map item_of (chars_of_rows c.loop-row.row-iterator) in
    let counted : length c.loop-row.buffer + length left ≡ length (map item_of (chars_of_rows all)) =
    sym (length-append c.loop-row.buffer left) ∙ ap (length {A = Item}) c.loop-row.invariant.2 in
    let split : length left ≡ length {A = Item} (map (λ b. (b, r.looks)) r.bytes) + length rest =
    ap (λ (rows : List RowSeen). length (map item_of (chars_of_rows rows))) c.in-Some.ensures.steps
    ∙ ap (length {A = Item}) (items_next r c.next.new.self)
    ∙ length-append (map (λ b. (b, r.looks)) r.bytes) rest in
    let some : length {A = Item} (map (λ b. (b, r.looks)) r.bytes) ≡ length c.bytes.result.now =
    length-map r.bytes (λ b. (b, r.looks)) ∙ ap (length {A = ℕ}) (sym c.bytes.ensures.value) in
    let chars : length (map item_of (chars_of_rows all)) ≡ length (chars_of_rows c.args.rows) =
    length-map (chars_of_rows all) item_of
    ∙ ap (λ (rows : List RowSeen). length (chars_of_rows rows)) c.into_iter-row-iterator.ensures.into_iter_gives in
    let few : length c.loop-row.buffer + length c.bytes.result.now ≤ MAX_FILE = omega (arith, counted, split, some, chars, c.requires) in
    let e : Refusal = c.in_err-push_all.field-0.0 in
    let memory : e ≡ OutOfMemory = elim c.in_err-push_all.ensures.errors [
      | inl spent ↦ absurd (omega (arith, few, c.in_err-push_all.ensures.full.0 (ap (λ (w : Refusal). Err w) spent)))
      | inr memory ↦ memory
    ] in
    let refused = err_from_is_err_and c.from_residual.result c.from_residual.ensures.1 in
    subst (λ w. IfErr w (λ e. e ≡ OutOfMemory)) (sym refused.1) (refused.2 ∙ memory)

pub returns-in_err-push_all-clause-none : goal.returns-in_err-push_all-clause-none
returns-in_err-push_all-clause-none c = λ none.
    let r : RowSeen = c.in-Some.row in
    let rest : List Item = map item_of (chars_of_rows c.next.new.self) in
    let all : List RowSeen = c.into_iter-row-iterator.result in
    let left : List Item = map item_of (chars_of_rows c.loop-row.row-iterator) in
    let counted : length c.loop-row.buffer + length left ≡ length (map item_of (chars_of_rows all)) =
    sym (length-append c.loop-row.buffer left) ∙ ap (length {A = Item}) c.loop-row.invariant.2 in
    let split : length left ≡ length {A = Item} (map (λ b. (b, r.looks)) r.bytes) + length rest =
    ap (λ (rows : List RowSeen). length (map item_of (chars_of_rows rows))) c.in-Some.ensures.steps
    ∙ ap (length {A = Item}) (items_next r c.next.new.self)
    ∙ length-append (map (λ b. (b, r.looks)) r.bytes) rest in
    let some : length {A = Item} (map (λ b. (b, r.looks)) r.bytes) ≡ length c.bytes.result.now =
    length-map r.bytes (λ b. (b, r.looks)) ∙ ap (length {A = ℕ}) (sym c.bytes.ensures.value) in
    let chars : length (map item_of (chars_of_rows all)) ≡ length (chars_of_rows c.args.rows) =
    length-map (chars_of_rows all) item_of
    ∙ ap (λ (rows : List RowSeen). length (chars_of_rows rows)) c.into_iter-row-iterator.ensures.into_iter_gives in
    absurd (omega (arith, counted, split, some, chars, none, c.bytes.ensures.some))
