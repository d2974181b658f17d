-- The walks over a text's lines.
use Rattle.std.proofs.Common.{◌≡◌, ℕ, zero, suc, ◌+◌, ◌-◌, ◌^◌, ◌<◌, ◌≤◌, List, [], ◌∷◌, ◌++◌, length, drop, get_or, min, All}
use Rattle.std.proofs.Common.{refl, sym, ap, ◌∙◌, arith, length-drop, append_assoc, append-nil, ◌==◌, if◌then◌else◌, true, false}
use Rattle.std.proofs.lemmas.List.{length-map, drop-map, get_or_push, length_push}
use Rattle.char_files.specs.declared.character.Char.{Char}
use Rattle.line_drawing.specs.declared.drawing.TheConstants.{LINE_END}
use Rattle.line_drawing.specs.Lines.{lines, ends_in, beg_of, end_of}
use Rattle.line_drawing.specs.Rows.{Row, rows_from}
use Rattle.line_drawing.proofs.Cells.{cells-length}
use Rattle.line_drawing.proofs.Lines.{some_line, one_more}
use Rattle.text_frames.specs.Frames.{last_row}
use Rattle.text_frames.specs.Reading.{after_line, counted, line_before, no_row, row_before}
use Rattle.char_files.specs.Chars.{char_bytes}
use Rattle.text_frames.proofs.Lines.{beg-past, beg-within, is_last, line_is, more_after, next_beg, next_left, rows_before}
use Rattle.text_frames.proofs.OneLine.{counted_on}

before-few : (bytes : List ℕ) → length (line_before bytes) ≤ length bytes
before-few [] = omega arith
before-few (b ∷ bytes) =
    let few : length (line_before bytes) ≤ length bytes = before-few bytes in
    elim (b == LINE_END) as (λ v. length (if v then [] else b ∷ line_before bytes) ≤ suc (length bytes)) [
      | true ↦ omega arith
      | false ↦ omega (arith, few)
    ]

-- So many rows are drawn, and so far the walk has come that began here.
pub record DrawsRows (all : List Char) (width from before count : ℕ) (rows : List Row) (walk : List Char)
    (beg reads : ℕ) : Type 0 where
  pub drawn : rows ++ rows_before width beg (char_bytes walk) (count - length rows)
      ≡ rows_before width from (drop from (char_bytes all)) count
  pub few : length rows ≤ count
  pub after : from ≤ beg
  pub left : beg + length walk ≡ length all
  pub last : 0 < length rows → beg ≡ min (suc (last_row rows).end) (length all)
  pub counts : reads ≡ counted (before + (beg - from))

pub rows_begin : (all : List Char) (width from before count : ℕ) (walk : List Char) → before ≡ counted before
    → from ≤ length all → walk ≡ drop from all → DrawsRows all width from before count [] walk from before
rows_begin all width from before count walk is le left =
    let none : before ≡ before + (from - from) = omega arith in
    let all_left : count - 0 ≡ count = omega arith in
    record {
      drawn =
          ap (λ (n : ℕ). rows_before width from (char_bytes walk) n) all_left
          ∙ ap (λ (l : List Char). rows_before width from (char_bytes l) count) left
          ∙ ap (λ (l : List ℕ). rows_before width from l count) (sym (drop-map (λ (c : Char). c.byte) from all));
      few = omega arith;
      after = omega arith;
      left = omega (arith, le, ap length left, length-drop from all);
      last = λ some. absurd (omega (arith, some));
      counts = is ∙ ap counted none;
    }

drawn_more : (width beg : ℕ) (rows : List Row) (row : Row) (walk walk' : List Char) (count beg' : ℕ)
    → length rows < count → row ≡ row_before width beg (char_bytes walk)
    → walk' ≡ after_line (line_before (char_bytes walk)) walk
    → beg' ≡ min (suc (beg + length (line_before (char_bytes walk)))) (beg + length walk)
    → (rows ++ row ∷ []) ++ rows_before width beg' (char_bytes walk') (count - length (rows ++ row ∷ []))
    ≡ rows ++ rows_before width beg (char_bytes walk) (count - length rows)
drawn_more width beg rows row walk walk' count beg' lt is left next =
    let m : ℕ = count - (length rows + 1) in
    let here : count - length (rows ++ row ∷ []) ≡ m = omega (arith, length_push rows row) in
    let one : suc m ≡ count - length rows = omega (arith, lt) in
    let line : List ℕ = line_before (char_bytes walk) in
    let bytes : List ℕ = char_bytes walk in
    let rest : char_bytes walk' ≡ after_line line bytes =
    ap char_bytes left ∙ sym (drop-map (λ (c : Char). c.byte) (suc (length line)) walk) in
    let beg-is : beg' ≡ min (suc (beg + length line)) (beg + length bytes) =
    next ∙ ap (λ (n : ℕ). min (suc (beg + length line)) (beg + n)) (sym (length-map walk (λ (c : Char). c.byte))) in
    append_assoc rows (row ∷ []) (rows_before width beg' (char_bytes walk') (count - length (rows ++ row ∷ [])))
    ∙ ap (λ (n : ℕ). rows ++ row ∷ rows_before width beg' (char_bytes walk') n) here
    ∙ ap (λ (l : List ℕ). rows ++ row ∷ rows_before width beg' l m) rest
    ∙ ap (λ (n : ℕ). rows ++ row ∷ rows_before width n (after_line line bytes) m) beg-is
    ∙ ap (λ (r : Row). rows ++ r ∷ rows_before width (min (suc (beg + length line)) (beg + length bytes))
    (after_line line bytes) m) is
    ∙ ap (λ (n : ℕ). rows ++ rows_before width beg bytes n) one

pub rows_more : (all : List Char) (width from before count : ℕ) (rows : List Row) (walk walk' : List Char)
    (beg beg' reads reads' : ℕ) (row : Row) → DrawsRows all width from before count rows walk beg reads
    → length rows < count → row ≡ row_before width beg (char_bytes walk)
    → walk' ≡ after_line (line_before (char_bytes walk)) walk
    → reads' ≡ counted (reads + (length walk - length walk'))
    → beg' ≡ min (min (row.end + 1) (2 ^ 64 - 1)) (length all) → length all < 2 ^ 64
    → DrawsRows all width from before count (rows ++ row ∷ []) walk' beg' reads'
rows_more all width from before count rows walk walk' beg beg' reads reads' row was lt is rest counts next fits =
    let line : List ℕ = line_before (char_bytes walk) in
    let few : length line ≤ length walk =
    omega (arith, before-few (char_bytes walk), length-map walk (λ (c : Char). c.byte)) in
    let left : beg + length walk ≡ length all = was.left in
    let after : from ≤ beg = was.after in
    let end : row.end ≡ beg + length line = ap (λ (r : Row). r.end) is in
    let next' : beg' ≡ min (suc (beg + length line)) (length all) = omega (arith, next, end, fits, few, left) in
    let long : length walk' ≡ length walk - suc (length line) =
    ap length rest ∙ length-drop (suc (length line)) walk in
    let gone : (beg - from) + (length walk - length walk') ≡ beg' - from =
    omega (arith, after, left, next', long, few) in
    let at : length (rows ++ row ∷ []) - 1 ≡ length rows = omega (arith, length_push rows row) in
    let last : last_row (rows ++ row ∷ []) ≡ row =
    ap (λ (n : ℕ). get_or (rows ++ row ∷ []) n no_row) at ∙ get_or_push rows row no_row (length rows) refl in
    record {
      drawn =
          drawn_more width beg rows row walk walk' count beg' lt is rest (omega (arith, next', left)) ∙ was.drawn;
      few = omega (arith, length_push rows row, lt);
      after = omega (arith, after, next', left, few);
      left = omega (arith, left, next', long, few);
      last = λ some. omega (arith, next', end, ap (λ (r : Row). r.end) last);
      counts =
          counted_on before (beg - from) (length walk - length walk') reads reads' was.counts counts
          ∙ ap (λ (n : ℕ). counted (before + n)) gone;
    }

-- all rows are drawn
pub rows_drawn : (all : List Char) (width from before count : ℕ) (rows : List Row) (walk : List Char) (beg reads : ℕ)
    → DrawsRows all width from before count rows walk beg reads → count ≤ length rows
    → rows ≡ rows_before width from (drop from (char_bytes all)) count
rows_drawn all width from before count rows walk beg reads was all_drawn =
    let none : 0 ≡ count - length rows = omega (arith, all_drawn) in
    sym (append-nil rows)
    ∙ ap (λ (n : ℕ). rows ++ rows_before width beg (char_bytes walk) n) none ∙ was.drawn

pub rows_counted : (all : List Char) (width from before count : ℕ) (rows : List Row) (walk : List Char) (beg reads : ℕ)
    → DrawsRows all width from before count rows walk beg reads → 0 < length rows
    → reads ≡ counted (before + (min (suc (last_row rows).end) (length all) - from))
rows_counted all width from before count rows walk beg reads was some =
    was.counts ∙ ap (λ (n : ℕ). counted (before + (n - from))) (was.last some)

-- A line is sought by its number: this many have begun, the last of them here.
pub record SeeksLine (all : List Char) (before j : ℕ) (walk : List Char) (beg reads : ℕ) : Type 0 where
  pub at : beg ≡ beg_of (char_bytes all) j
  pub there : j < length (lines (char_bytes all))
  pub left : walk ≡ drop beg all
  pub counts : reads ≡ counted (before + beg)

pub seek_begins : (all : List Char) (before : ℕ) (walk : List Char) → before ≡ counted before → walk ≡ all
    → SeeksLine all before 0 walk 0 before
seek_begins all before walk is left =
    let none : before ≡ before + 0 = omega arith in
    record {
      at = omega arith;
      there = some_line (char_bytes all);
      left = left;
      counts = is ∙ ap counted none;
    }

-- what a walk over the next line does, which ends here
pub record Passes (all : List Char) (before j : ℕ) (walk walk' : List Char) (beg end reads reads' : ℕ) : Type 0 where
  pub was : SeeksLine all before j walk beg reads
  pub is : end ≡ beg + length (line_before (char_bytes walk))
  pub rest : walk' ≡ after_line (line_before (char_bytes walk)) walk
  pub counts : reads' ≡ counted (reads + (length walk - length walk'))

bytes_left : (all : List Char) (before j : ℕ) (walk : List Char) (beg reads : ℕ)
    → SeeksLine all before j walk beg reads
    → char_bytes walk ≡ drop (beg_of (char_bytes all) j) (char_bytes all)
bytes_left all before j walk beg reads was =
    ap char_bytes was.left ∙ sym (drop-map (λ (c : Char). c.byte) beg all)
    ∙ ap (λ (n : ℕ). drop n (char_bytes all)) was.at

end_passed : (all : List Char) (before j : ℕ) (walk walk' : List Char) (beg end reads reads' : ℕ)
    → Passes all before j walk walk' beg end reads reads' → end ≡ end_of (char_bytes all) j
end_passed all before j walk walk' beg end reads reads' p =
    let line : length (line_before (char_bytes walk)) ≡ length (line_before (drop (beg_of (char_bytes all) j) (char_bytes all))) =
    ap (λ (l : List ℕ). length (line_before l)) (bytes_left all before j walk beg reads p.was) in
    let at : beg ≡ beg_of (char_bytes all) j = p.was.at in
    let is : end ≡ beg + length (line_before (char_bytes walk)) = p.is in
    omega (arith, is, at, line, ap length (line_is (char_bytes all) j))

left_passed : (all : List Char) (before j : ℕ) (walk walk' : List Char) (beg end reads reads' : ℕ)
    → Passes all before j walk walk' beg end reads reads' → walk' ≡ drop (beg_of (char_bytes all) (suc j)) all
left_passed all before j walk walk' beg end reads reads' p =
    p.rest
    ∙ ap (λ (l : List ℕ). after_line (line_before l) walk) (bytes_left all before j walk beg reads p.was)
    ∙ ap (λ (l : List Char). after_line (line_before (drop (beg_of (char_bytes all) j) (char_bytes all))) l)
    (p.was.left ∙ ap (λ (n : ℕ). drop n all) p.was.at)
    ∙ next_left (char_bytes all) all j (sym (length-map all (λ (c : Char). c.byte)))

counts_passed : (all : List Char) (before j : ℕ) (walk walk' : List Char) (beg end reads reads' : ℕ)
    → Passes all before j walk walk' beg end reads reads'
    → reads' ≡ counted (before + beg_of (char_bytes all) (suc j))
counts_passed all before j walk walk' beg end reads reads' p =
    let bytes : List ℕ = char_bytes all in
    let at : beg ≡ beg_of bytes j = p.was.at in
    let long : length walk ≡ length all - beg = ap length p.was.left ∙ length-drop beg all in
    let long' : length walk' ≡ length all - beg_of bytes (suc j) =
    ap length (left_passed all before j walk walk' beg end reads reads' p) ∙ length-drop (beg_of bytes (suc j)) all in
    let same : length bytes ≡ length all = length-map all (λ (c : Char). c.byte) in
    let beg-le : beg_of bytes j ≤ length bytes = beg-within bytes j in
    let next-le : beg_of bytes (suc j) ≤ length bytes = beg-within bytes (suc j) in
    let rises : beg_of bytes j ≤ beg_of bytes (suc j) = omega (arith, next_beg bytes j, beg-le) in
    let gone : beg + (length walk - length walk') ≡ beg_of bytes (suc j) =
    omega (arith, at, long, long', same, beg-le, next-le, rises) in
    counted_on before beg (length walk - length walk') reads reads' p.was.counts p.counts
    ∙ ap (λ (n : ℕ). counted (before + n)) gone

-- another line begins after this one
pub seeks_on : (all : List Char) (before j : ℕ) (walk walk' : List Char) (beg end reads reads' : ℕ)
    → Passes all before j walk walk' beg end reads reads' → end < length all
    → SeeksLine all before (j + 1) walk' (end + 1) reads'
seeks_on all before j walk walk' beg end reads reads' p lt =
    let bytes : List ℕ = char_bytes all in
    let same : length bytes ≡ length all = length-map all (λ (c : Char). c.byte) in
    let is : end ≡ end_of bytes j = end_passed all before j walk walk' beg end reads reads' p in
    let at : beg_of bytes (suc j) ≡ end + 1 = omega (arith, next_beg bytes j, is, same, lt) in
    let next : suc j ≡ j + 1 = omega arith in
    let there : suc j < length (lines bytes) = more_after bytes j (omega (arith, is, same, lt)) in
    record {
      at = sym at ∙ ap (beg_of bytes) next;
      there = omega (arith, there);
      left =
          left_passed all before j walk walk' beg end reads reads' p ∙ ap (λ (n : ℕ). drop n all) at;
      counts =
          counts_passed all before j walk walk' beg end reads reads' p ∙ ap (λ (n : ℕ). counted (before + n)) at;
    }

-- this line is the last
pub last_found : (all : List Char) (before j number : ℕ) (walk walk' : List Char) (beg end reads reads' : ℕ)
    → Passes all before j walk walk' beg end reads reads' → length all ≤ end → j < number
    → (beg ≡ beg_of (char_bytes all) (min number (ends_in (char_bytes all))))
    × (reads' ≡ counted (before + beg_of (char_bytes all) number))
last_found all before j number walk walk' beg end reads reads' p le lt =
    let bytes : List ℕ = char_bytes all in
    let same : length bytes ≡ length all = length-map all (λ (c : Char). c.byte) in
    let is : end ≡ end_of bytes j = end_passed all before j walk walk' beg end reads reads' p in
    let last : j ≡ ends_in bytes = is_last bytes j p.was.there (omega (arith, is, same, le)) in
    let more : length (lines bytes) ≡ suc (ends_in bytes) = one_more bytes in
    let here : j ≡ min number (ends_in bytes) = omega (arith, last, lt) in
    let next : beg_of bytes (suc j) ≡ length bytes = beg-past bytes (suc j) (omega (arith, last, more)) in
    let far : beg_of bytes number ≡ length bytes = beg-past bytes number (omega (arith, last, more, lt)) in (
      p.was.at ∙ ap (beg_of bytes) here,
      counts_passed all before j walk walk' beg end reads reads' p
          ∙ ap (λ (n : ℕ). counted (before + n)) (next ∙ sym far),
    )

-- all lines before are passed
pub line_found : (all : List Char) (before number j : ℕ) (walk : List Char) (beg reads : ℕ) → number ≡ j
    → SeeksLine all before j walk beg reads
    → (beg ≡ beg_of (char_bytes all) (min number (ends_in (char_bytes all))))
    × (reads ≡ counted (before + beg_of (char_bytes all) number))
line_found all before number j walk beg reads e was =
    let bytes : List ℕ = char_bytes all in
    let there : j < length (lines bytes) = was.there in
    let here : j ≡ min number (ends_in bytes) = omega (arith, e, there, one_more bytes) in (
      was.at ∙ ap (beg_of bytes) here,
      was.counts ∙ ap (λ (n : ℕ). counted (before + n)) (was.at ∙ ap (beg_of bytes) (sym e)),
    )

-- the rows of lines are as wide as they are drawn, and as many
pub rows-wide : (bytes : List ℕ) (width k n : ℕ) → All (λ r. length r.cells ≡ width) (rows_from bytes width k n)
rows-wide bytes width k zero i row lt = absurd (omega (arith, lt))
rows-wide bytes width k (suc n) zero row lt = cells-length width _
rows-wide bytes width k (suc n) (suc i) row lt = rows-wide bytes width (suc k) n i row (omega (arith, lt))
