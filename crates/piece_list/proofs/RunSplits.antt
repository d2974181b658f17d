-- Runs that are split at both ends tell of a stretch of the characters.
use Rattle.std.proofs.Common.{◌≡◌, ℕ, ◌+◌, ◌-◌, ◌<◌, ◌≤◌, min, inl, inr, List, [], ◌∷◌, ◌++◌, zero, suc, length, map}
use Rattle.std.proofs.Common.{take, drop, refl, sym, ap, ◌∙◌, arith}
use Rattle.std.specs.List.{flat_map, range_with_len}
use Rattle.std.proofs.Math.Nat.{min-eq_left, min-eq_right}
use Rattle.std.proofs.Math.Seq.{take-append-add, take-nil}
use Rattle.std.proofs.lemmas.Bool.{cases_lt}
use Rattle.std.proofs.lemmas.List.{append-nil, drop-append-le, drop-map, length-map, take-append-le, take-map}
use Rattle.std.proofs.lemmas.List.Elements.{All-cons, All-head, All-nil, All-tail}
use Rattle.std.proofs.lemmas.List.FromFn.{length-map-range_with_len, take-map-range_with_len}
use Rattle.looks.specs.declared.key.Key.{Key}
use Rattle.char_files.specs.CharName.{CharName}
use Rattle.char_files.specs.declared.TheConstants.{MAX_FILE}
use Rattle.piece_list.specs.declared.run.Run.{Run}
use Rattle.piece_list.specs.RunSplits.{AreWithin, after_first, first_chars}
use Rattle.piece_list.specs.Shown.{Appearance, appearance_in, appearances_in}
use Rattle.piece_list.proofs.Split.{key_on}

-- what runs tell of their characters
abbrev pub told : List Run → List Appearance
told runs = flat_map appearances_in runs

-- a run's first n characters
abbrev pub run_to : ℕ → Run → Run
run_to n r = record r { len = min r.len n }

abbrev name_in : Run → ℕ → CharName
name_in r off = record { site = r.site; off = off }

told_len : (r : Run) → length (appearances_in r) ≡ r.len
told_len r =
    length-map (map (name_in r) (range_with_len r.off r.len)) (appearance_in r)
    ∙ length-map-range_with_len (name_in r) r.off r.len

split_short : (n : ℕ) (r : Run) → n ≤ r.len → appearances_in (run_to n r) ≡ take n (appearances_in r)
split_short n r le =
    let least : min r.len n ≡ n = min-eq_right le in
    ap (λ (m : ℕ). map (appearance_in r) (map (name_in r) (range_with_len r.off m))) least
    ∙ ap (map (appearance_in r)) (sym (take-map-range_with_len (name_in r) r.off r.len n le))
    ∙ sym (take-map (appearance_in r) n (map (name_in r) (range_with_len r.off r.len)))

later_numbers : (from len n : ℕ) → n ≤ len → drop n (range_with_len from len) ≡ range_with_len (from + n) (len - n)
later_numbers from len zero le =
    let same : from ≡ from + 0 = omega arith in
    let all : len ≡ len - 0 = omega arith in
    ap (λ (a : ℕ). range_with_len a len) same ∙ ap (range_with_len (from + 0)) all
later_numbers from zero (suc n) le = absurd (omega arith)
later_numbers from (suc len) (suc n) le =
    let on : from + 1 + n ≡ from + suc n = omega arith in
    let less : len - n ≡ suc len - suc n = omega arith in
    later_numbers (from + 1) len n (omega arith)
    ∙ ap (λ (a : ℕ). range_with_len a (len - n)) on
    ∙ ap (range_with_len (from + suc n)) less

-- what is left of it tells the same of a character
tells_on : (n : ℕ) (r : Run) (cs : List CharName) → map (appearance_in (after_first n r)) cs ≡ map (appearance_in r) cs
tells_on n r [] = refl
tells_on n r (c ∷ cs) =
    let under : Key → Appearance = λ (key : Key). record { name = c; key = key; looks = r.looks } in
    ap (λ (s : Appearance). s ∷ map (appearance_in (after_first n r)) cs) (ap under (key_on r.rising r.key r.off n c))
    ∙ ap (λ (ss : List Appearance). appearance_in r c ∷ ss) (tells_on n r cs)

split_before : (n : ℕ) (r : Run) → n ≤ r.len → appearances_in (after_first n r) ≡ drop n (appearances_in r)
split_before n r le =
    tells_on n r (map (name_in r) (range_with_len (r.off + n) (r.len - n)))
    ∙ ap (λ (offs : List ℕ). map (appearance_in r) (map (name_in r) offs)) (sym (later_numbers r.off r.len n le))
    ∙ ap (map (appearance_in r)) (sym (drop-map (name_in r) n (range_with_len r.off r.len)))
    ∙ sym (drop-map (appearance_in r) n (map (name_in r) (range_with_len r.off r.len)))

-- none of them
pub none_wanted : (runs : List Run) → first_chars 0 runs ≡ []
none_wanted [] = refl
none_wanted (r ∷ runs) = refl

-- the first characters of runs tell of the first characters
pub first_tell : (n : ℕ) (runs : List Run) → told (first_chars n runs) ≡ take n (told runs)
first_tell n [] = sym (take-nil n)
first_tell zero (r ∷ runs) = refl
first_tell (suc n) (r ∷ runs) =
    let m : ℕ = suc n in
    let own : List Appearance = appearances_in r in
    elim (cases_lt m r.len) [
      | inl lt ↦
          let none : m - r.len ≡ 0 = omega arith in
          let short : m ≤ r.len = omega arith in
          let few : m ≤ length own = omega (arith, told_len r) in
          ap (λ (k : ℕ). appearances_in (run_to m r) ++ told (first_chars k runs)) none
          ∙ ap (λ (rest : List Run). appearances_in (run_to m r) ++ told rest) (none_wanted runs)
          ∙ append-nil (appearances_in (run_to m r))
          ∙ split_short m r short
          ∙ sym (take-append-le m own (told runs) few)
      | inr le ↦
          let whole : min r.len m ≡ r.len = min-eq_left le in
          let all : length own + (m - r.len) ≡ m = omega (arith, told_len r) in
          ap (λ (k : ℕ). appearances_in (record r { len = k }) ++ told (first_chars (m - r.len) runs)) whole
          ∙ ap (λ (rest : List Appearance). own ++ rest) (first_tell (m - r.len) runs)
          ∙ sym (take-append-add own (told runs) (m - r.len))
          ∙ ap (λ (k : ℕ). take k (own ++ told runs)) all
    ]

-- one of them is read
least_split : (n k : ℕ) → n - min k n ≡ n - k
least_split n k =
    elim (cases_lt n k) [
      | inl lt ↦
          let few : n ≤ k = omega arith in
          let least : min k n ≡ n = min-eq_right few in
          omega (arith, least)
      | inr le ↦ ap (λ (m : ℕ). n - m) (min-eq_left le)
    ]

first_of : (n : ℕ) (r : Run) (rest : List Run) → 0 < n
    → first_chars n (r ∷ rest) ≡ run_to n r ∷ first_chars (n - r.len) rest
first_of zero r rest lt = absurd (omega arith)
first_of (suc n) r rest lt = refl

pub reads_one : (n : ℕ) (runs rest : List Run) (r q : Run) → 0 < n → runs ≡ r ∷ rest → q ≡ run_to n r
    → first_chars n runs ≡ q ∷ first_chars (n - q.len) rest
reads_one n runs rest r q lt is split =
    ap (first_chars n) is
    ∙ first_of n r rest lt
    ∙ ap (λ (k : ℕ). run_to n r ∷ first_chars k rest) (sym (least_split n r.len))
    ∙ ap (λ (x : Run). x ∷ first_chars (n - x.len) rest) (sym split)

-- it is split where not all of it is wanted
pub is_split : (n : ℕ) (r : Run) → n < r.len → record r { len = n } ≡ run_to n r
is_split n r lt =
    let few : n ≤ r.len = omega arith in
    ap (λ (k : ℕ). record r { len = k }) (sym (min-eq_right few))

pub is_whole : (n : ℕ) (r : Run) → r.len ≤ n → r ≡ run_to n r
is_whole n r le = ap (λ (k : ℕ). record r { len = k }) (sym (min-eq_left le))

-- and they are within their files
pub first_within : (n : ℕ) (runs : List Run) → AreWithin runs → AreWithin (first_chars n runs)
first_within n [] all = all
first_within zero (r ∷ runs) all = All-nil (λ (run : Run). (0 < run.len) × (run.off + run.len ≤ MAX_FILE))
first_within (suc n) (r ∷ runs) all =
    let Is : Run → Type 0 = λ (run : Run). (0 < run.len) × (run.off + run.len ≤ MAX_FILE) in
    let here : Is r = All-head Is r runs all in
    All-cons Is (run_to (suc n) r) (first_chars (suc n - r.len) runs)
    (elim (cases_lt (suc n) r.len) [
      | inl lt ↦
          let few : suc n ≤ r.len = omega arith in
          let least : min r.len (suc n) ≡ suc n = min-eq_right few in
          (omega (arith, least), omega (arith, least, here.1))
      | inr le ↦
          let least : min r.len (suc n) ≡ r.len = min-eq_left le in
          (omega (arith, least, here.0), omega (arith, least, here.1))
    ])
    (first_within (suc n - r.len) runs (All-tail Is r runs all))

-- a run's front is left out
pub skips_front : (n : ℕ) (r : Run) (runs : List Run) → n < r.len
    → told (after_first n r ∷ runs) ≡ drop n (told (r ∷ runs))
skips_front n r runs lt =
    let few : n ≤ length (appearances_in r) = omega (arith, told_len r) in
    let le : n ≤ r.len = omega arith in
    ap (λ (front : List Appearance). front ++ told runs) (split_before n r le)
    ∙ sym (drop-append-le n (appearances_in r) (told runs) few)

pub front_within : (n : ℕ) (r : Run) (runs : List Run) → n < r.len → AreWithin (r ∷ runs) → AreWithin (after_first n r ∷ runs)
front_within n r runs lt all =
    let Is : Run → Type 0 = λ (run : Run). (0 < run.len) × (run.off + run.len ≤ MAX_FILE) in
    let here : Is r = All-head Is r runs all in
    All-cons Is (after_first n r) runs (omega arith, omega (arith, here.1)) (All-tail Is r runs all)
