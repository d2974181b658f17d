-- Cells of rows.
use Rattle.std.proofs.Common.{◌≡◌, ℕ, zero, suc, ◌+◌, ◌<◌, ◌≤◌, List, [], ◌∷◌, ◌++◌, length, take, map, get_or, set}
use Rattle.std.proofs.Common.{sym, ap, subst, ◌∙◌, ◌≢◌, refl, arith, below_more, length-set, get_or-set_other, get_or-set_same}
use Rattle.line_drawing.specs.Rows.{sign_of, blanks, cells_of}
use Rattle.line_drawing.specs.Laws.{IsSetCell}

take-blanks : (w m : ℕ) → w ≤ m → take w (blanks m) ≡ blanks w
take-blanks zero m le = refl
take-blanks (suc w) zero le = absurd (omega (arith, le))
take-blanks (suc w) (suc m) le = ap (λ (l : List ℕ). 0x20 ∷ l) (take-blanks w m (omega (arith, le)))

-- cells cut from more blanks than are needed
abbrev filled : ℕ → ℕ → List ℕ → List ℕ
filled w m line = take w (map sign_of line ++ blanks m)

filled-set : (w m : ℕ) (line : List ℕ) (byte : ℕ) → w ≤ m
    → filled w m (line ++ byte ∷ []) ≡ set (filled w m line) (length line) (sign_of byte)
filled-set zero m [] byte le = refl
filled-set zero m (x ∷ line) byte le = refl
filled-set (suc w) zero [] byte le = absurd (omega (arith, le))
filled-set (suc w) (suc m) [] byte le =
    ap (λ (l : List ℕ). sign_of byte ∷ l)
    (take-blanks w (suc m) (omega (arith, le)) ∙ sym (take-blanks w m (omega (arith, le))))
filled-set (suc w) m (x ∷ line) byte le =
    ap (λ (l : List ℕ). sign_of x ∷ l) (filled-set w m line byte (omega (arith, le)))

pub set_cell : (width : ℕ) (line : List ℕ) (byte : ℕ) → IsSetCell width line byte
set_cell width line byte = filled-set width width line byte (omega arith)

filled-length : (w m : ℕ) (line : List ℕ) → w ≤ m → length (filled w m line) ≡ w
filled-length zero m line le = refl
filled-length (suc w) zero [] le = absurd (omega (arith, le))
filled-length (suc w) (suc m) [] le = ap suc (filled-length w m [] (omega (arith, le)))
filled-length (suc w) m (x ∷ line) le = ap suc (filled-length w m line (omega (arith, le)))

filled-sign : (w m k : ℕ) (line : List ℕ) → w ≤ m → k < w → k < length line
    → get_or (filled w m line) k 0 ≡ sign_of (get_or line k 0)
filled-sign zero m k line le lt on = absurd (omega (arith, lt))
filled-sign (suc w) m k [] le lt on = absurd (omega (arith, on))
filled-sign (suc w) m zero (x ∷ line) le lt on = refl
filled-sign (suc w) m (suc k) (x ∷ line) le lt on =
    filled-sign w m k line (omega (arith, le)) (omega (arith, lt)) (omega (arith, on))

filled-blank : (w m k : ℕ) (line : List ℕ) → w ≤ m → k < w → length line ≤ k
    → get_or (filled w m line) k 0 ≡ 0x20
filled-blank zero m k line le lt past = absurd (omega (arith, lt))
filled-blank (suc w) zero k [] le lt past = absurd (omega (arith, le))
filled-blank (suc w) (suc m) zero [] le lt past = refl
filled-blank (suc w) (suc m) (suc k) [] le lt past =
    filled-blank w m k [] (omega (arith, le)) (omega (arith, lt)) (omega arith)
filled-blank (suc w) m zero (x ∷ line) le lt past = absurd (omega (arith, past))
filled-blank (suc w) m (suc k) (x ∷ line) le lt past =
    filled-blank w m k line (omega (arith, le)) (omega (arith, lt)) (omega (arith, past))

pub cells-length : (width : ℕ) (line : List ℕ) → length (cells_of width line) ≡ width
cells-length width line = filled-length width width line (omega arith)

pub cell-sign : (width k : ℕ) (line : List ℕ) → k < width → k < length line
    → get_or (cells_of width line) k 0 ≡ sign_of (get_or line k 0)
cell-sign width k line lt on = filled-sign width width k line (omega arith) lt on

pub cell-blank : (width k : ℕ) (line : List ℕ) → k < width → length line ≤ k
    → get_or (cells_of width line) k 0 ≡ 0x20
cell-blank width k line lt past = filled-blank width width k line (omega arith) lt past

-- lists of one length are equal where they are at each position
pub same-cells : (xs ys : List ℕ) → length xs ≡ length ys
    → ((k : ℕ) → k < length xs → get_or xs k 0 ≡ get_or ys k 0) → xs ≡ ys
same-cells [] [] long each = refl
same-cells [] (y ∷ ys) long each = cc long
same-cells (x ∷ xs) [] long each = cc long
same-cells (x ∷ xs) (y ∷ ys) long each =
    ap (λ (z : ℕ). z ∷ xs) (each zero (omega arith))
    ∙ ap (λ (l : List ℕ). y ∷ l)
    (same-cells xs ys (omega (arith, long)) (λ k lt. each (suc k) (omega (arith, lt))))

-- one cell more is drawn
pub next_cell : (cells line : List ℕ) (col cell : ℕ) → col < length cells
    → cell ≡ get_or (cells_of (length cells) line) col 0
    → ((k : ℕ) → k < col → get_or cells k 0 ≡ get_or (cells_of (length cells) line) k 0) → (k : ℕ) → k < col + 1
    → get_or (set cells col cell) k 0 ≡ get_or (cells_of (length (set cells col cell)) line) k 0
next_cell cells line col cell lt is drawn =
    let long : length (set cells col cell) ≡ length cells = simp length-set in
    let at : (k : ℕ) → k < col + 1 → get_or (set cells col cell) k 0 ≡ get_or (cells_of (length cells) line) k 0 =
    below_more _ _ (λ k h. let ne : k ≢ col = omega arith in rw get_or-set_other (drawn k h)) (rw get_or-set_same is) in
    subst (λ (n : ℕ). (k : ℕ) → k < col + 1 → get_or (set cells col cell) k 0 ≡ get_or (cells_of n line) k 0)
    (sym long) at

pub all_cells : (cells line : List ℕ) (col : ℕ) → length cells ≤ col
    → ((k : ℕ) → k < col → get_or cells k 0 ≡ get_or (cells_of (length cells) line) k 0)
    → cells ≡ cells_of (length cells) line
all_cells cells line col all drawn =
    same-cells cells (cells_of (length cells) line) (sym (cells-length (length cells) line))
    (λ k lt. drawn k (omega (arith, lt, all)))
