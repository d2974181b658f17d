-- Longest stretches of bytes, by the length that a test finds for them.
use Rattle.std.proofs.Common.{◌≡◌, ℕ, ◌+◌, ◌<◌, ◌≤◌, Bool, true, false, List, [], ◌∷◌, ◌++◌, length}
use Rattle.std.proofs.Common.{get_or, take, drop, inl, inr, subst, length-append, arith}
use Rattle.std.specs.List.{prefix_len, AllPass}
use Rattle.std.proofs.lemmas.Bool.{cases_lt}
use Rattle.std.proofs.lemmas.List.{length-take, length-drop, length-map, get_or-take, get_or-drop}
use Rattle.std.proofs.lemmas.List.{get_or_past}
use Rattle.std.proofs.lemmas.List.{get_or_append_left, get_or-append-add}
use Rattle.std.proofs.lemmas.List.Sums.{prefix_len_is, prefix_len_passes, prefix_len_stops}
use Rattle.std.proofs.lemmas.List.Sums.{prefix_len-le-length, prefix_len-drop_yes}
use Rattle.char_files.specs.Stretch.{Item}
use Rattle.reader_scanner.specs.ReaderState.{item_bytes, bytes_from}
use Rattle.reader_scanner.specs.Tokens.{StopsAt, IsLongestStretch}

-- the byte after a stretch
pub after : (text rest : List ℕ) → get_or (text ++ rest) (length text) 0 ≡ get_or rest 0 0
after text rest =
    let at : length text + 0 ≡ length text = omega arith in
    let P : ℕ → Type 0 = λ k. get_or (text ++ rest) k 0 ≡ get_or rest 0 0 in
    subst P at (get_or-append-add text rest 0 0)

-- the first byte of what is left
pub first_left : (bytes : List ℕ) (n : ℕ) → get_or (drop n bytes) 0 0 ≡ get_or bytes n 0
first_left bytes n =
    let at : n + 0 ≡ n = omega arith in
    let P : ℕ → Type 0 = λ k. get_or (drop n bytes) 0 0 ≡ get_or bytes k 0 in
    subst P at (get_or-drop n bytes 0 0)

-- a byte above 0 stands within
pub byte_within : (bytes : List ℕ) (n b : ℕ) → get_or bytes n 0 ≡ b → 0 < b → n < length bytes
byte_within bytes n b is some =
    elim (cases_lt n (length bytes)) [
      | inl lt ↦ lt
      | inr le ↦ absurd (omega (arith, get_or_past bytes n 0 le))
    ]

pub longest_len : (p : ℕ → Bool) (text rest : List ℕ) → AllPass p text → StopsAt p rest
    → prefix_len p (text ++ rest) ≡ length text
longest_len p text rest each stops =
    let all : length (text ++ rest) ≡ length text + length rest = length-append text rest in
    prefix_len_is p (text ++ rest) (length text) 0 (omega (arith, all))
    (λ k lt. rw (get_or_append_left text rest 0 k lt) (each k 0 lt))
    (λ lt. rw (after text rest) (stops (omega (arith, all))))

pub longest_at : (p : ℕ → Bool) (bytes : List ℕ)
    → IsLongestStretch p (take (prefix_len p bytes) bytes) (drop (prefix_len p bytes) bytes)
longest_at p bytes = record {
  each = λ k d lt.
      let within : k < prefix_len p bytes = omega (arith, length-take (prefix_len p bytes) bytes) in
      rw (get_or-take (prefix_len p bytes) bytes k d within) (prefix_len_passes p bytes k d within);
  stops = λ some.
      let within : prefix_len p bytes < length bytes =
      omega (arith, length-drop (prefix_len p bytes) bytes) in
      rw (first_left bytes (prefix_len p bytes)) (prefix_len_stops p bytes 0 within);
}

-- a stretch isn't empty where the first byte passes
pub some_prefix : (p : ℕ → Bool) (bytes : List ℕ) → p 0 ≡ false → p (get_or bytes 0 0) ≡ true
    → 0 < prefix_len p bytes
some_prefix p [] zero e = absurd cc
some_prefix p (b ∷ rest) zero e = rw e (omega arith)

-- its first byte is the first of all
pub first_taken : (bytes : List ℕ) (n : ℕ) → 0 < n → get_or (take n bytes) 0 0 ≡ get_or bytes 0 0
first_taken bytes n lt = get_or-take n bytes 0 0 lt

-- what a test says of the first byte of a stretch it says of the first of all
pub first_of : (p : ℕ → Bool) (text rest : List ℕ) → p 0 ≡ false → p (get_or text 0 0) ≡ true
    → p (get_or (text ++ rest) 0 0) ≡ true
first_of p [] rest zero e = absurd cc
first_of p (b ∷ text) rest zero e = e

-- ---- the loop that looks for a stretch's end

pub goes_on : (p : ℕ → Bool) (items : List Item) (from pos b : ℕ) → pos < length items
    → b ≡ get_or (item_bytes items) pos 0 → p b ≡ true
    → pos + prefix_len p (bytes_from items pos) ≡ from + prefix_len p (bytes_from items from)
    → (pos + 1) + prefix_len p (bytes_from items (pos + 1)) ≡ from + prefix_len p (bytes_from items from)
goes_on p items from pos b lt is passes so_far =
    let within : pos < length (item_bytes items) = omega (arith, length-map items (λ (i : Item). i.0)) in
    let here : p (get_or (item_bytes items) pos 0) ≡ true = rw (← is) passes in
    omega (arith, prefix_len-drop_yes p (item_bytes items) pos 0 within here)

-- where a stretch ends, the source goes that far
pub stretch_within : (p : ℕ → Bool) (items : List Item) (from : ℕ) → from ≤ length items
    → from + prefix_len p (bytes_from items from) ≤ length items
stretch_within p items from le =
    omega (
      arith,
      prefix_len-le-length p (bytes_from items from),
      length-drop from (item_bytes items),
      length-map items (λ (i : Item). i.0),
    )
