-- What `names` tells of a text `where` gives back.
use Rattle.std.proofs.Common.{◌≡◌, ℕ, zero, suc, ◌+◌, ◌-◌, ◌<◌, List, [], ◌∷◌, ◌++◌, map, drop, Option, Some, None, slice_get, append-nil, refl, sym, ap, subst, ◌∙◌, arith}
use Rattle.std.specs.Prelude.{All, codes, slice_range}
use Rattle.std.specs.List.{flat_map}
use Rattle.std.specs.Option.{option_map}
use Rattle.std.proofs.lemmas.List.Elements.{All-cons, All-nil}
use Rattle.std.proofs.lemmas.Option.{same_Some, slice_get-map}
use Rattle.char_files.specs.CharName.{CharName}
use Rattle.char_files.specs.declared.character.Char.{Char}
use Rattle.operations.specs.NameSet.{Range, names_in, names_of}
use Rattle.texts.specs.Text.{IsText}
use Rattle.texts.specs.TextState.{TextState, shown_of}
use Rattle.machine.specs.NamesShown.{named_stretches, ranges_of, shown_from}
use Rattle.machine.specs.Printing.{line}
use Rattle.machine.specs.WhereShown.{ShownRange, shown_line, shown_ranges}
use Rattle.desk_texts.specs.Laws.{IsGivenBack, WhereGivesNamesBack}
use Rattle.desk_texts.proofs.NameRanges.{HaveNames, ranges_are_apart, ranges_have_names, ranges_have_the_names}
use Rattle.desk_texts.proofs.Longest.{AreShown, longest, of_back, of_front}
use Rattle.desk_texts.proofs.Standing.{StandsAt}

-- the ranges of stretches that are shown one after the other
names_from : (pos : ℕ) (ranges : List Range) → map (λ s. s.names) (shown_from pos ranges) ≡ ranges
names_from pos [] = refl
names_from pos (r ∷ ranges) = ap (λ (others : List Range). r ∷ others) (names_from (pos + r.len) ranges)

-- the names of a range, in front of others
in_range : (site at n k : ℕ) (others : List CharName) → k < n
    → slice_get (names_of (record { site = site; at = at; len = n }) ++ others) k ≡ Some (record { site = site; off = at + k })
in_range site at zero k others less = absurd (omega (arith, less))
in_range site at (suc n) zero others less =
    let first : at ≡ at + 0 = omega arith in ap (λ (off : ℕ). Some (record { site = site; off = off })) first
in_range site at (suc n) (suc k) others less =
    let next : (at + 1) + k ≡ at + suc k = omega arith in
    in_range site (at + 1) n k others (omega (arith, less)) ∙ ap (λ (off : ℕ). Some (record { site = site; off = off })) next

after_range : (site at n k : ℕ) (others : List CharName)
    → slice_get (names_of (record { site = site; at = at; len = n }) ++ others) (n + k) ≡ slice_get others k
after_range site at zero k others = ap (slice_get others) (omega arith)
after_range site at (suc n) k others =
    let next : suc n + k ≡ suc (n + k) = omega arith in
    ap (slice_get (names_of (record { site = site; at = at; len = suc n }) ++ others)) next
    ∙ after_range site (at + 1) n k others

-- the names of these ranges are shown one after the other, from this position on
abbrev AreShownFrom : List Char → List Range → (pos : ℕ) → Type 0
AreShownFrom chars ranges pos = (k : ℕ) (name : CharName) → slice_get (names_in ranges) k ≡ Some name → StandsAt chars name (pos + k)

-- so it is with the names of a part of the characters
part_is_shown : (chars : List Char) (beg end : ℕ)
    → AreShownFrom chars (ranges_of (map (λ c. c.name) (slice_range chars beg end))) beg
part_is_shown chars beg end k name at = go (slice_get (slice_range chars beg end) k) refl (sym named ∙ at)
  where
    named : slice_get (names_in (ranges_of (map (λ c. c.name) (slice_range chars beg end)))) k
        ≡ option_map (λ (c : Char). c.name) (slice_get (slice_range chars beg end) k)
    named = ap (λ (names : List CharName). slice_get names k) (ranges_have_the_names (map (λ c. c.name) (slice_range chars beg end)))
        ∙ slice_get-map (λ (c : Char). c.name) (slice_range chars beg end) k

    go : (o : Option Char) → slice_get (slice_range chars beg end) k ≡ o → option_map (λ (c : Char). c.name) o ≡ Some name
        → StandsAt chars name (beg + k)
    go None there is = absurd cc
    go (Some c) there is = record {
      char = c;
      at = of_back beg k chars c (of_front (end - beg) k (drop beg chars) c there);
      named = same_Some c.name name is;
    }

-- a stretch that is shown so is given back
is_given_back : (t : TextState) → IsText t → (pos : ℕ) (r : Range) → 0 < r.len → AreShown (shown_of t) r pos r.len
    → IsGivenBack t (record { pos = pos; names = r })
is_given_back t is pos r some shown =
    let chars = shown_of t in
    let stretch : ShownRange = record { at = r.at; pos = pos; len = r.len } in
    let none : r.len - r.len ≡ 0 = omega arith in
    let alone : shown_ranges chars (names_of r) ≡ stretch ∷ [] =
    longest t is r pos r.len shown some (omega arith) (λ less here. absurd (omega (arith, less)))
    ∙ ap (λ (n : ℕ). stretch ∷ shown_ranges chars (names_of (record { site = r.site; at = r.at + r.len; len = n }))) none in
    ap (λ (lines : List ℕ). lines ++ line (codes "ok"))
    (sym (append-nil (shown_line chars stretch)) ∙ ap (flat_map (shown_line chars)) (sym alone))

-- and so are all of them
all_given_back : (t : TextState) → IsText t → (pos : ℕ) (ranges : List Range) → HaveNames ranges
    → AreShownFrom (shown_of t) ranges pos → All (IsGivenBack t) (shown_from pos ranges)
all_given_back t is pos [] some shown = All-nil (IsGivenBack t)
all_given_back t is pos (r ∷ ranges) some shown =
    All-cons (IsGivenBack t) (record { pos = pos; names = r }) (shown_from (pos + r.len) ranges)
    (is_given_back t is pos r some.0
    (λ k less. shown k (record { site = r.site; off = r.at + k }) (in_range r.site r.at r.len k (names_in ranges) less)))
    (all_given_back t is (pos + r.len) ranges some.1 (λ k name at.
    let there : pos + (r.len + k) ≡ (pos + r.len) + k = omega arith in
    subst (StandsAt (shown_of t) name) there
    (shown (r.len + k) name (after_range r.site r.at r.len k (names_in ranges) ∙ at))))

pub given_back : WhereGivesNamesBack
given_back t beg end is =
    let names : List CharName = map (λ c. c.name) (slice_range (shown_of t) beg end) in
    let same : map (λ s. s.names) (named_stretches (shown_of t) beg end) ≡ ranges_of names = names_from beg (ranges_of names) in record {
      all = ap names_in same ∙ ranges_have_the_names names;
      longest = rw same (ranges_are_apart names);
      where_shown = all_given_back t is beg (ranges_of names) (ranges_have_names names) (part_is_shown (shown_of t) beg end);
    }
