-- Chunks, each after its length in two bytes.
use Rattle.std.proofs.Common.{◌≡◌, ℕ, ◌+◌, ◌^◌, ◌<◌, ◌≤◌, List, ◌++◌, length, get_or, take, drop, refl, sym, ap, ◌∙◌, arith}
use Rattle.std.specs.Int.{from_le_bytes, to_le_bytes, w16}
use Rattle.std.proofs.Common.{inl, inr, Option, Some, None, IfSome, MatchOption}
use Rattle.std.specs.List.{IsSplitAt}
use Rattle.std.proofs.lemmas.Bool.{cases_lt}
use Rattle.std.proofs.lemmas.List.{append_assoc, length-take, take_at, drop_at, take-append-drop, get_or-take, get_or_past}
use Rattle.std.proofs.lemmas.Nat.{from_le_bytes-to_le_bytes_2, le_bytes_2}

IsBytes-take : (n : ℕ) (bytes : List ℕ) → ((i : ℕ) → get_or bytes i 0 < 256) → (i : ℕ) → get_or (take n bytes) i 0 < 256
IsBytes-take n bytes h i =
    elim (cases_lt i n) [
      | inl lt ↦ rw (get_or-take n bytes i 0 lt) (h i)
      | inr le ↦ rw (get_or_past (take n bytes) i 0 (omega (arith, length-take n bytes))) (omega arith)
    ]

-- what begins with a length begins with no other
pub same_length : (n m : ℕ) (xs ys : List ℕ) → n < 2 ^ 16 → m < 2 ^ 16 → to_le_bytes w16 n ++ xs ≡ to_le_bytes w16 m ++ ys → (n ≡ m) × (xs ≡ ys)
same_length n m xs ys ns ms e =
    let front : to_le_bytes w16 n ≡ to_le_bytes w16 m =
    sym (take_at (to_le_bytes w16 n) xs 2 refl) ∙ ap (λ (l : List ℕ). take 2 l) e ∙ take_at (to_le_bytes w16 m) ys 2 refl in
    let back : xs ≡ ys =
    sym (drop_at (to_le_bytes w16 n) xs 2 refl) ∙ ap (λ (l : List ℕ). drop 2 l) e ∙ drop_at (to_le_bytes w16 m) ys 2 refl in
    (sym (from_le_bytes-to_le_bytes_2 n ns) ∙ ap (λ (l : List ℕ). from_le_bytes w16 l) front ∙ from_le_bytes-to_le_bytes_2 m ms, back)

-- a chunk after its length is no other one
pub same_chunk : (c d xs ys : List ℕ) → length c < 2 ^ 16 → length d < 2 ^ 16
    → to_le_bytes w16 (length c) ++ c ++ xs ≡ to_le_bytes w16 (length d) ++ d ++ ys → (c ≡ d) × (xs ≡ ys)
same_chunk c d xs ys cs ds e =
    let (len, rest) = same_length (length c) (length d) (c ++ xs) (d ++ ys) cs ds
    (sym (append_assoc (to_le_bytes w16 (length c)) c xs) ∙ e ∙ append_assoc (to_le_bytes w16 (length d)) d ys) in (
      sym (take_at c xs (length c) refl) ∙ ap (λ (l : List ℕ). take (length c) l) rest ∙ take_at d ys (length c) (sym len),
      sym (drop_at c xs (length c) refl) ∙ ap (λ (l : List ℕ). drop (length c) l) rest ∙ drop_at d ys (length c) (sym len),
    )

-- bytes that are cut after two, and then after a chunk's length
pub cut_chunk : (bytes len rest chunk after : List ℕ) (n : ℕ) → ((i : ℕ) → get_or bytes i 0 < 256) → 2 ≤ length bytes
    → len ≡ take 2 bytes → rest ≡ drop 2 bytes → n ≡ from_le_bytes w16 len → chunk ++ after ≡ rest → length chunk ≡ n
    → (length chunk < 2 ^ 16) × (bytes ≡ to_le_bytes w16 (length chunk) ++ chunk ++ after)
cut_chunk bytes len rest chunk after n fits two front back is cut many =
    let lens : length len ≡ 2 = ap (λ (l : List ℕ). length l) front ∙ (let e = length-take 2 bytes in omega (arith, e)) in
    let fit : (i : ℕ) → get_or len i 0 < 256 = λ i. rw front (IsBytes-take 2 bytes fits i) in
    let spelled : to_le_bytes w16 n ≡ len = le_bytes_2 len n lens fit is in (
      rw many (rw is (omega (arith, fit 0, fit 1))),
      sym (take-append-drop 2 bytes) ∙ ap (λ (l : List ℕ). l ++ drop 2 bytes) (sym front ∙ sym spelled ∙ ap (λ (k : ℕ). to_le_bytes w16 k) (sym many))
          ∙ ap (λ (l : List ℕ). to_le_bytes w16 (length chunk) ++ l) (sym back ∙ sym cut) ∙ sym (append_assoc (to_le_bytes w16 (length chunk)) chunk after),
    )

-- what was cut so is a chunk after its length
pub chunk_cut : {X : Type 0} (front back : X → List ℕ) (bytes len rest : List ℕ) (n : ℕ) (r : Option X) (none : Type 0)
    → ((i : ℕ) → get_or bytes i 0 < 256) → (len ≡ take 2 bytes) × (rest ≡ drop 2 bytes) × (length rest + 2 ≡ length bytes)
    → n ≡ from_le_bytes w16 len → MatchOption r none (λ x. IsSplitAt rest n (front x) (back x))
    → IfSome r (λ x. (length (front x) < 2 ^ 16) × (bytes ≡ to_le_bytes w16 (length (front x)) ++ front x ++ back x))
chunk_cut front back bytes len rest n None none fits first is split = tt
chunk_cut front back bytes len rest n (Some x) none fits first is split =
    cut_chunk bytes len rest (front x) (back x) n fits (omega (arith, first.2)) first.0 first.1 is
    (ap (λ (l : List ℕ). l ++ back x) split.1 ∙ ap (λ (l : List ℕ). take n rest ++ l) split.2 ∙ take-append-drop n rest) split.3
