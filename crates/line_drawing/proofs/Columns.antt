-- Positions of cells.
use Rattle.std.proofs.Common.{◌≡◌, ℕ, zero, suc, ◌+◌, ◌-◌, ◌<◌, ◌≤◌, List, [], ◌∷◌, length, take, drop, get_or}
use Rattle.std.proofs.Common.{refl, sym, ap, ◌∙◌, inl, inr, arith}
use Rattle.std.proofs.lemmas.Bool.{cases_lt}
use Rattle.std.proofs.lemmas.List.{get_or-take, get_or-drop}
use Rattle.line_drawing.specs.Lines.{lines, line_at, extent, beg_of, end_of}
use Rattle.line_drawing.specs.Rows.{place_of, sign_of}
use Rattle.line_drawing.specs.Laws.{IsLocated}
use Rattle.line_drawing.proofs.Lines.{beg_is, extent-next, extent-lines}
use Rattle.line_drawing.proofs.Cells.{cell-sign, cell-blank}
use Rattle.line_drawing.proofs.Stands.{stands_between, end-back}

-- past the last line there is none
none_past : (ls : List (List ℕ)) (k : ℕ) → length ls ≤ k → get_or ls k [] ≡ []
none_past [] k le = refl
none_past (l ∷ ls) zero le = absurd (omega (arith, le))
none_past (l ∷ ls) (suc k) le = none_past ls k (omega (arith, le))

all_taken : (ls : List (List ℕ)) (k : ℕ) → length ls ≤ k → extent (take k ls) ≡ extent ls
all_taken [] zero le = refl
all_taken [] (suc k) le = refl
all_taken (l ∷ ls) zero le = absurd (omega (arith, le))
all_taken (l ∷ ls) (suc k) le = let more : extent (take k ls) ≡ extent ls = all_taken ls k (omega (arith, le)) in
    omega (arith, more)

-- what stands in a cut piece of some bytes
split_across : (bytes : List ℕ) (beg n col : ℕ) → col < n → get_or (take n (drop beg bytes)) col 0 ≡ get_or bytes (beg + col) 0
split_across bytes beg n col lt = get_or-take n (drop beg bytes) col 0 lt ∙ get_or-drop beg bytes col 0

-- the last line ends with the bytes
last_end : (bytes : List ℕ) (k : ℕ) → length (lines bytes) ≤ suc k → end_of bytes k ≡ length bytes
last_end bytes k le =
    elim (cases_lt k (length (lines bytes))) [
      | inl lt ↦
          let all : extent (take (suc k) (lines bytes)) ≡ extent (lines bytes) = all_taken (lines bytes) (suc k) le in
          omega (arith, all, extent-lines bytes, extent-next (lines bytes) k lt, end-back bytes k lt)
      | inr past ↦
          let all : extent (take k (lines bytes)) ≡ extent (lines bytes) = all_taken (lines bytes) k past in
          let none : length (line_at bytes k) ≡ 0 = ap length (none_past (lines bytes) k past) in
          omega (arith, all, extent-lines bytes, none)
    ]

there_is : (bytes : List ℕ) (k col : ℕ) → col < length (line_at bytes k) → k < length (lines bytes)
there_is bytes k col on = elim (cases_lt k (length (lines bytes))) [
  | inl lt ↦ lt
  | inr past ↦
      let none : length (line_at bytes k) ≡ 0 = ap length (none_past (lines bytes) k past) in
      absurd (omega (arith, none, on))
]

-- the byte in a cell of a line
on_line : (bytes : List ℕ) (k col : ℕ) → col < length (line_at bytes k)
    → get_or bytes (place_of (beg_of bytes k) (end_of bytes k) col) 0 ≡ get_or (line_at bytes k) col 0
on_line bytes k col on =
    let beg : ℕ = beg_of bytes k in
    let end : ℕ = end_of bytes k in
    let at : place_of beg end col ≡ beg + col = omega (arith, on) in
    let cut : line_at bytes k ≡ take (end - beg) (drop beg bytes) = (stands_between bytes k (there_is bytes k col on)).1 in
    ap (λ (n : ℕ). get_or bytes n 0) at ∙ sym (split_across bytes beg (end - beg) col (omega (arith, on)))
    ∙ ap (λ (l : List ℕ). get_or l col 0) (sym cut)

pub is_located : (bytes : List ℕ) (width k col : ℕ) → IsLocated bytes width k col
is_located bytes width k col = record {
  at = λ on. omega (arith, on);
  end = λ past. omega (arith, past);
  on = on_line bytes k col;
  shown = λ on wide. cell-sign width col (line_at bytes k) wide on ∙ ap sign_of (sym (on_line bytes k col on));
  blank = λ past wide. cell-blank width col (line_at bytes k) wide past;
  past = λ past more.
      let at : place_of (beg_of bytes k) (end_of bytes k) col ≡ end_of bytes k = omega (arith, past) in
      let lt : k < length (lines bytes) = omega (arith, more) in
      let inside : end_of bytes k < length bytes =
      omega (arith, extent-next (lines bytes) k lt, beg_is bytes (suc k) more, end-back bytes k lt) in
      ap (λ (n : ℕ). get_or bytes n 0) at ∙ (stands_between bytes k lt).0.after inside;
  last = λ past le.
      let at : place_of (beg_of bytes k) (end_of bytes k) col ≡ end_of bytes k = omega (arith, past) in
      at ∙ last_end bytes k le;
}
