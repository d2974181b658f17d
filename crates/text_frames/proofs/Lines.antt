-- Lines that are read one after the other.
use Rattle.std.proofs.Common.{◌≡◌, ◌≢◌, ℕ, zero, suc, ◌+◌, ◌-◌, ◌<◌, ◌≤◌, List, [], ◌∷◌, length, take, drop, get_or, min}
use Rattle.std.proofs.Common.{refl, sym, ap, ◌∙◌, ◌==◌, Bool, true, false, if◌then◌else◌, eq-eqb, ne_eqb, inl, inr, arith}
use Rattle.std.proofs.Common.{length-drop}
use Rattle.std.proofs.lemmas.Bool.{cases_lt}
use Rattle.std.proofs.lemmas.List.{take_all, get_or_past, get_or-drop, drop-drop, drop_min, drop_all}
use Rattle.line_drawing.specs.declared.drawing.TheConstants.{LINE_END}
use Rattle.line_drawing.specs.Lines.{lines, ends_in, line_at, extent, beg_of, end_of}
use Rattle.line_drawing.specs.Rows.{Row, row_of, rows_from, cells_of}
use Rattle.line_drawing.specs.Laws.{IsBetweenEnds, IsOnLine}
use Rattle.line_drawing.proofs.Columns.{is_located}
use Rattle.line_drawing.proofs.Lines.{beg_is, extent-lines, extent-next}
use Rattle.line_drawing.proofs.Stands.{stands_between, lies_on_one}
use Rattle.text_frames.specs.Reading.{after_line, line_before, row_before}

pub before-end : (bytes : List ℕ) (b : ℕ) → b ≡ LINE_END → line_before (b ∷ bytes) ≡ []
before-end bytes b is = let h : (b == LINE_END) ≡ true = eq-eqb b LINE_END is in
    ap (λ (v : Bool). if v then [] else b ∷ line_before bytes) h

pub before-other : (bytes : List ℕ) (b : ℕ) → b ≢ LINE_END → line_before (b ∷ bytes) ≡ b ∷ line_before bytes
before-other bytes b differs = let h : (b == LINE_END) ≡ false = ne_eqb b LINE_END differs in
    ap (λ (v : Bool). if v then [] else b ∷ line_before bytes) h

-- what is before goes up to the first byte that ends a line
before-is : (bytes : List ℕ) (n : ℕ) → n ≤ length bytes → ((k : ℕ) → k < n → get_or bytes k 0 ≢ LINE_END)
    → (n < length bytes → get_or bytes n 0 ≡ LINE_END) → line_before bytes ≡ take n bytes
before-is [] zero le each ends = refl
before-is [] (suc n) le each ends = absurd (omega (arith, le))
before-is (b ∷ bytes) zero le each ends = before-end bytes b (ends (omega arith))
before-is (b ∷ bytes) (suc n) le each ends =
    before-other bytes b (each zero (omega arith))
    ∙ ap (λ (l : List ℕ). b ∷ l)
    (before-is bytes n (omega (arith, le)) (λ k lt. each (suc k) (omega (arith, lt)))
    (λ inside. ends (omega (arith, inside))))

-- past the last line is where the bytes end
pub beg-past : (bytes : List ℕ) (k : ℕ) → length (lines bytes) ≤ k → beg_of bytes k ≡ length bytes
beg-past bytes k past = omega (arith, ap extent (take_all k (lines bytes) past), extent-lines bytes)

pub beg-within : (bytes : List ℕ) (k : ℕ) → beg_of bytes k ≤ length bytes
beg-within bytes k = omega arith

line-there : (bytes : List ℕ) (k : ℕ) → k < length (lines bytes)
    → line_at bytes k ≡ line_before (drop (beg_of bytes k) bytes)
line-there bytes k lt =
    let beg : ℕ = beg_of bytes k in
    let end : ℕ = end_of bytes k in
    let between : IsBetweenEnds bytes beg end = (stands_between bytes k lt).0 in
    let within : end ≤ length bytes = between.within in
    let order : beg ≤ end = between.order in
    let at : beg + (end - beg) ≡ end = omega (arith, order) in
    (stands_between bytes k lt).1
    ∙ sym (before-is (drop beg bytes) (end - beg) (omega (arith, length-drop beg bytes, within))
    (λ j inside is. between.each (beg + j) (omega arith) (omega (arith, inside)) (sym (get_or-drop beg bytes j 0) ∙ is))
    (λ more. get_or-drop beg bytes (end - beg) 0 ∙ ap (λ (n : ℕ). get_or bytes n 0) at
    ∙ between.after (omega (arith, more, length-drop beg bytes, order))))

-- each line is what is before where it begins
pub line_is : (bytes : List ℕ) (k : ℕ) → line_at bytes k ≡ line_before (drop (beg_of bytes k) bytes)
line_is bytes k = elim (cases_lt k (length (lines bytes))) [
  | inl lt ↦ line-there bytes k lt
  | inr past ↦
      let all : drop (beg_of bytes k) bytes ≡ [] =
      drop_all (beg_of bytes k) bytes (omega (arith, beg-past bytes k past)) in
      get_or_past (lines bytes) k [] past ∙ sym (ap line_before all)
]

-- the next line begins after the end of this one
pub next_beg : (bytes : List ℕ) (k : ℕ) → beg_of bytes (suc k) ≡ min (suc (end_of bytes k)) (length bytes)
next_beg bytes k = elim (cases_lt k (length (lines bytes))) [
  | inl lt ↦ omega (arith, extent-next (lines bytes) k lt, beg_is bytes k lt)
  | inr past ↦
      omega (
        arith,
        beg-past bytes k past,
        beg-past bytes (suc k) (omega (arith, past)),
        ap length (get_or_past (lines bytes) k [] past),
      )
]

-- what is left after a line is what is left where the next one begins
pub next_left : {X : Type 0} (bytes : List ℕ) (all : List X) (k : ℕ) → length all ≡ length bytes
    → after_line (line_before (drop (beg_of bytes k) bytes)) (drop (beg_of bytes k) all)
    ≡ drop (beg_of bytes (suc k)) all
next_left {X} bytes all k long =
    let beg : ℕ = beg_of bytes k in
    let line : List ℕ = line_before (drop beg bytes) in
    let at : beg + suc (length line) ≡ suc (end_of bytes k) = omega (arith, ap length (line_is bytes k)) in
    let same : min (suc (end_of bytes k)) (length all) ≡ beg_of bytes (suc k) =
    omega (arith, long, next_beg bytes k) in
    drop-drop (suc (length line)) beg all
    ∙ ap (λ (n : ℕ). drop n all) at
    ∙ sym (drop_min (suc (end_of bytes k)) all)
    ∙ ap (λ (n : ℕ). drop n all) same

-- the last line ends where the bytes do, and no other
pub last_ends : (bytes : List ℕ) (k : ℕ) → length (lines bytes) ≤ suc k → end_of bytes k ≡ length bytes
last_ends bytes k le =
    let at = is_located bytes 0 k (length (line_at bytes k)) in
    sym (at.end (omega arith)) ∙ at.last (omega arith) le

pub more_after : (bytes : List ℕ) (k : ℕ) → end_of bytes k < length bytes → suc k < length (lines bytes)
more_after bytes k lt = elim (cases_lt (suc k) (length (lines bytes))) [
  | inl more ↦ more
  | inr le ↦ absurd (omega (arith, lt, last_ends bytes k le))
]

-- the line that ends where the bytes do is the last
pub is_last : (bytes : List ℕ) (k : ℕ) → k < length (lines bytes) → length bytes ≤ end_of bytes k → k ≡ ends_in bytes
is_last bytes k lt to =
    let on : IsOnLine bytes (length bytes) k = record { there = lt; from = beg-within bytes k; to = to } in
    (lies_on_one bytes (length bytes) (omega arith)).1 k on
    ∙ ap ends_in (take_all (length bytes) bytes (omega arith))

-- rows that are drawn one after the other, where these bytes are left
abbrev pub rows_before : (width beg : ℕ) → List ℕ → ℕ → List Row
rows_before width beg bytes zero = []
rows_before width beg bytes (suc n) =
    row_before width beg bytes
    ∷ rows_before width (min (suc (beg + length (line_before bytes))) (beg + length bytes))
    (after_line (line_before bytes) bytes) n

rows_at : (width n b c : ℕ) (bytes other : List ℕ) → b ≡ c → bytes ≡ other
    → rows_before width b bytes n ≡ rows_before width c other n
rows_at width n b c bytes other begs left =
    ap (λ (k : ℕ). rows_before width k bytes n) begs ∙ ap (λ (l : List ℕ). rows_before width c l n) left

row_is : (bytes : List ℕ) (width k : ℕ)
    → row_before width (beg_of bytes k) (drop (beg_of bytes k) bytes) ≡ row_of bytes width k
row_is bytes width k =
    let of : List ℕ → Row =
    λ (l : List ℕ). record { beg = beg_of bytes k; end = beg_of bytes k + length l; cells = cells_of width l } in
    ap of (sym (line_is bytes k))

-- they are the rows of the lines, from the one on that begins there
pub rows_are : (bytes : List ℕ) (width k n : ℕ)
    → rows_before width (beg_of bytes k) (drop (beg_of bytes k) bytes) n ≡ rows_from bytes width k n
rows_are bytes width k zero = refl
rows_are bytes width k (suc n) =
    let beg : ℕ = beg_of bytes k in
    let left : List ℕ = drop beg bytes in
    let next : min (suc (beg + length (line_before left))) (beg + length left) ≡ beg_of bytes (suc k) =
    omega (arith, ap length (line_is bytes k), length-drop beg bytes, next_beg bytes k) in
    let rest : List Row =
    rows_before width (min (suc (beg + length (line_before left))) (beg + length left))
    (after_line (line_before left) left) n in
    ap (λ (r : Row). r ∷ rest) (row_is bytes width k)
    ∙ ap (λ (rs : List Row). row_of bytes width k ∷ rs)
    (rows_at width n (min (suc (beg + length (line_before left))) (beg + length left)) (beg_of bytes (suc k))
    (after_line (line_before left) left) (drop (beg_of bytes (suc k)) bytes) next (next_left bytes bytes k refl)
    ∙ rows_are bytes width (suc k) n)
