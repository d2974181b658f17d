use Rattle.std.proofs.Common.{◌≡◌, ◌+◌, ◌++◌, ℕ, List, length, ap, subst, sym, ◌∙◌, rules}
use Rattle.taken_text.specs.Rows.{RowSeen, chars_of_rows}
use Rattle.char_files.specs.Chars.{char_bytes}
use Rattle.vialshoal_c.proofs.Putting.{IsPut, has_room, put_more}
use Rattle.taken_text.proofs.RowChars.{bytes_next}
use Rattle.vialshoal_c.proofs.showing.fill_with_bytes.Goals as goal

pub put_at-requires : goal.put_at-requires
put_at-requires c =
    let all : List ℕ = char_bytes (chars_of_rows c.into_iter-row-iterator.result) in
    let rest : List ℕ = char_bytes (chars_of_rows c.next.new.self) in
    let left : char_bytes (chars_of_rows c.loop-row.row-iterator) ≡ c.bytes-bytes.result.now ++ rest =
    ap (λ (rows : List RowSeen). char_bytes (chars_of_rows rows)) c.in-Some.ensures.steps
    ∙ bytes_next c.in-Some.row c.next.new.self
    ∙ ap (λ (l : List ℕ). l ++ rest) (sym c.bytes-bytes.ensures.value) in
    has_room all c.bytes-bytes.result.now rest c.args.room.now c.loop-row.room c.loop-row.at
    (subst (λ (l : List ℕ). IsPut all l c.args.room.now c.loop-row.room c.loop-row.at) left c.loop-row.invariant.2)

pub loop-row-preserved : goal.loop-row-preserved
loop-row-preserved c =
    let all : List ℕ = char_bytes (chars_of_rows c.into_iter-row-iterator.result) in
    let rest : List ℕ = char_bytes (chars_of_rows c.next.new.self) in
    let more : List ℕ = c.bytes-bytes.result.now in
    let left : char_bytes (chars_of_rows c.loop-row.row-iterator) ≡ more ++ rest =
    ap (λ (rows : List RowSeen). char_bytes (chars_of_rows rows)) c.in-Some.ensures.steps
    ∙ bytes_next c.in-Some.row c.next.new.self
    ∙ ap (λ (l : List ℕ). l ++ rest) (sym c.bytes-bytes.ensures.value) in (
      search rules,
      search rules,
      subst (λ (room : List ℕ). IsPut all rest c.args.room.now room (c.loop-row.at + length more)) (sym c.put_at.ensures)
          (put_more all more rest c.args.room.now c.loop-row.room c.loop-row.at
          (subst (λ (l : List ℕ). IsPut all l c.args.room.now c.loop-row.room c.loop-row.at) left c.loop-row.invariant.2)),
    )
