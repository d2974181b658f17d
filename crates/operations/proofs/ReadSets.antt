-- Sets of names that are read are the sets that were written, and what was written is read again.
use Rattle.std.proofs.Common.{◌≡◌, ℕ, zero, suc, ◌+◌, ◌-◌, ◌^◌, ◌<◌, ◌≤◌, Bool, true, false}
use Rattle.std.proofs.Common.{cond, ltb, List, [], ◌∷◌, ◌++◌, length, Option, Some, None, refl, sym, ap}
use Rattle.std.proofs.Common.{subst, ◌∙◌, append_assoc, length-append, arith, option_map}
use Rattle.std.specs.Prelude.{IsSome}
use Rattle.std.specs.List.{flat_map}
use Rattle.std.specs.Option.{option_map_or}
use Rattle.std.specs.Int.{w16, w32}
use Rattle.std.proofs.lemmas.Bool.{ltb-false, le-ltb}
use Rattle.std.proofs.lemmas.List.{append-nil}
use Rattle.std.proofs.lemmas.Option.{none-some}
use Rattle.std.proofs.lemmas.List.Concat.{flat_map-cons}
use Rattle.char_files.specs.declared.TheConstants.{MAX_FILE}
use Rattle.operations.specs.declared.name_set.TheConstants.{MAX_RANGES}
use Rattle.operations.specs.NameSet.{Range, IsRange, IsBefore, IsNamed}
use Rattle.byte_fields.specs.Fields.{◌>>=◌}
use Rattle.operations.specs.Reading.{range_at, is_after, ranges_at, ranges_in, set_at}
use Rattle.byte_fields.specs.Fields.{number_spelling}
use Rattle.operations.specs.Spelling.{range_spelling, set_spelling}
use Rattle.operations.proofs.WithName.{First, IsRising, before, is_before_true, rising, ranges_of, pairs_of}
use Rattle.byte_fields.proofs.Readers.{IsBytes, Took, Reads, step, bind_some, some_is, not_stopped}
use Rattle.byte_fields.proofs.Readers.{wide16, wide32, number_reads, positive_reads}

-- ---- ranges

range_split : (r : Range) (rest : List ℕ) → range_spelling r ++ rest ≡ number_spelling w16 r.site
    ++ (number_spelling w32 r.at ++ (number_spelling w32 r.len ++ rest))
range_split r rest = simp append_assoc

pub range_reads : Reads range_at range_spelling IsRange
unfolding range_at
range_reads =
    let site = positive_reads w16 (2 ^ 16) wide16 in
    let at = number_reads w32 (2 ^ 32) wide32 in
    let len = positive_reads w32 (2 ^ 32) wide32 in
    record {
      takes = λ bytes r rest fits e.
          let s = step _ _ _ site _ bytes (r, rest) fits e in
          let t = step _ _ _ at _ s.rest (r, rest) s.took.rest_fits s.goes_on in
          let u = step _ _ _ len _ t.rest (r, rest) t.took.rest_fits t.goes_on in
          let made : Range = record { site = s.x; at = t.x; len = u.x } in
          let g = not_stopped (ltb MAX_FILE (t.x + u.x)) (Some (made, u.rest)) (r, rest) u.goes_on in
          let whole : bytes ≡ range_spelling made ++ u.rest =
          s.took.parts ∙ ap (λ (x : List ℕ). number_spelling w16 s.x ++ x) (t.took.parts
          ∙ ap (λ (x : List ℕ). number_spelling w32 t.x ++ x) u.took.parts)
          ∙ sym (range_split made u.rest) in
          subst (λ (p : Range × List ℕ). Took range_spelling IsRange bytes p.0 p.1) (some_is _ _ g.1)
          (record {
            parts = whole;
            rest_fits = u.took.rest_fits;
            in_range =
                (s.took.in_range.0, s.took.in_range.1, u.took.in_range.0, ltb-false _ _ g.0);
          });
      again = λ r rest is.
          let inside : ltb MAX_FILE (r.at + r.len) ≡ false = le-ltb _ _ is.3 in
          ap range_at (range_split r rest)
          ∙ rw (
            site.again r.site (number_spelling w32 r.at ++ (number_spelling w32 r.len ++ rest))
                (is.0, is.1),
            at.again r.at (number_spelling w32 r.len ++ rest) (omega (arith, is.3)),
            len.again r.len rest (is.2, omega (arith, is.3)),
            inside,
          ) refl;
    }

-- each range is in its file, and after the one before
abbrev AreAfter : Option Range → List Range → Type 0
AreAfter last [] = Unit {0}
AreAfter last (r ∷ ranges) = IsRange r × (is_after last r ≡ true) × AreAfter (Some r) ranges

-- so many of them
abbrev AreNext : Option Range → ℕ → List Range → Type 0
AreNext last n ranges = (length ranges ≡ n) × AreAfter last ranges

abbrev ranges_spelling : List Range → List ℕ
ranges_spelling ranges = flat_map range_spelling ranges

ranges_split : (r : Range) (ranges : List Range) (rest : List ℕ) → ranges_spelling (r ∷ ranges) ++ rest
    ≡ range_spelling r ++ (ranges_spelling ranges ++ rest)
ranges_split r ranges rest = ap (λ (x : List ℕ). x ++ rest) (flat_map-cons range_spelling r ranges)
    ∙ append_assoc (range_spelling r) (ranges_spelling ranges) rest

-- a test that let a step go on
went_on : {A : Type 0} (b : Bool) (o : Option A) (y : A) → cond b o None ≡ Some y → (b ≡ true) × (o ≡ Some y)
went_on true o y e = (refl, e)
went_on false o y e = absurd cc

ranges_take : (last : Option Range) (n : ℕ) (bytes : List ℕ) (x : List Range) (rest : List ℕ)
    → IsBytes bytes → ranges_at last n bytes ≡ Some (x, rest)
    → Took ranges_spelling (AreNext last n) bytes x rest
unfolding ranges_at
ranges_take last zero bytes x rest fits e =
    subst (λ (p : List Range × List ℕ). Took ranges_spelling (AreNext last zero) bytes p.0 p.1)
    (some_is ([], bytes) (x, rest) e) (record { parts = refl; rest_fits = fits; in_range = (refl, tt) })
ranges_take last (suc n) bytes x rest fits e =
    let s = step _ _ _ range_reads _ bytes (x, rest) fits e in
    let others = bind_some (cond (is_after last s.x) (ranges_at (Some s.x) n s.rest) None) _ (x, rest)
    s.goes_on in
    let g = went_on (is_after last s.x) (ranges_at (Some s.x) n s.rest) others.0 others.1 in
    let t = ranges_take (Some s.x) n s.rest others.0.0 others.0.1 s.took.rest_fits g.1 in
    let whole : bytes ≡ ranges_spelling (s.x ∷ others.0.0) ++ others.0.1 =
    s.took.parts ∙ ap (λ (y : List ℕ). range_spelling s.x ++ y) t.parts
    ∙ sym (ranges_split s.x others.0.0 others.0.1) in
    subst (λ (p : List Range × List ℕ). Took ranges_spelling (AreNext last (suc n)) bytes p.0 p.1)
    (some_is _ _ others.2)
    (record {
      parts = whole;
      rest_fits = t.rest_fits;
      in_range =
          (ap suc t.in_range.0, (s.took.in_range, g.0, t.in_range.1));
    })

ranges_again : (last : Option Range) (x : List Range) (rest : List ℕ) → AreAfter last x
    → ranges_at last (length x) (ranges_spelling x ++ rest) ≡ Some (x, rest)
unfolding ranges_at
ranges_again last [] rest is = refl
ranges_again last (r ∷ x) rest is =
    ap (ranges_at last (suc (length x))) (ranges_split r x rest)
    ∙ rw (range_reads.again r (ranges_spelling x ++ rest) is.0, is.1, ranges_again (Some r) x rest is.2) refl

-- ---- sets

rising_after : (last : Option Range) (ranges : List Range) → AreAfter last ranges → IsRising ranges
rising_after last [] h = tt
rising_after last (r ∷ []) h = (h.0, tt, tt)
rising_after last (r ∷ s ∷ ranges) h = (h.0, before r s h.2.1, rising_after (Some r) (s ∷ ranges) h.2)

after_rising : (r : Range) (ranges : List Range) → First (IsBefore r) ranges → IsRising ranges
    → AreAfter (Some r) ranges
after_rising r [] first h = tt
after_rising r (s ∷ ranges) first h = (h.0, is_before_true r s first, after_rising s ranges h.1 h.2)

after_none : (ranges : List Range) → IsRising ranges → AreAfter None ranges
after_none [] h = tt
after_none (r ∷ ranges) h = (h.0, refl, after_rising r ranges h.1 h.2)

pub set_reads : Reads set_at set_spelling IsNamed
unfolding set_at
set_reads =
    let count = positive_reads w16 (2 ^ 16) wide16 in
    record {
      takes = λ bytes x rest fits e.
          let s = step _ _ _ count _ bytes (x, rest) fits e in
          let g = not_stopped (ltb MAX_RANGES s.x) (ranges_at None s.x s.rest) (x, rest) s.goes_on in
          let t = ranges_take None s.x s.rest x rest s.took.rest_fits g.1 in
          let up : IsRising x = rising_after None x t.in_range.1 in
          let few : s.x ≤ MAX_RANGES = ltb-false _ _ g.0 in
          let whole : bytes ≡ set_spelling x ++ rest =
          s.took.parts ∙ ap (λ (y : List ℕ). number_spelling w16 s.x ++ y) t.parts
          ∙ ap (λ (n : ℕ). number_spelling w16 n ++ (ranges_spelling x ++ rest)) (sym t.in_range.0)
          ∙ sym (append_assoc (number_spelling w16 (length x)) (ranges_spelling x) rest) in
          record {
            parts = whole;
            rest_fits = t.rest_fits;
            in_range = record {
              set = record { ranges = ranges_of x up; rising = pairs_of x up };
              some =
                  omega (arith, t.in_range.0, s.took.in_range.0);
              few = omega (arith, t.in_range.0);
            };
          };
      again = λ x rest is.
          let few : ltb MAX_RANGES (length x) ≡ false = le-ltb _ _ is.few in
          let later : AreAfter None x = after_none x (rising x is.set.ranges is.set.rising) in
          ap set_at (append_assoc (number_spelling w16 (length x)) (ranges_spelling x) rest)
          ∙ rw (count.again (length x) (ranges_spelling x ++ rest) (is.some, omega (arith, is.few)), few)
          (ranges_again None x rest later);
    }

-- ---- one range after the other, as loops read them

-- what is left after the ranges that were read
abbrev pub rest_of : Option (List Range × List ℕ) → Option (List ℕ)
rest_of read = option_map (λ x. x.1) read

-- what was read before, and what is still read
abbrev with_front : List Range → Option (List Range × List ℕ) → Option (List Range × List ℕ)
with_front front read = read >>= λ x. Some (front ++ x.0, x.1)

more : (last : Option Range) (n : ℕ) (bytes : List ℕ) (r : Range) (after : List ℕ)
    → range_at bytes ≡ Some (r, after) → is_after last r ≡ true
    → ranges_at last (suc n) bytes ≡ with_front (r ∷ []) (ranges_at (Some r) n after)
unfolding ranges_at
more last n bytes r after there later = rw (there, later) refl

missing : (last : Option Range) (n : ℕ) (bytes : List ℕ) → range_at bytes ≡ None
    → ranges_at last (suc n) bytes ≡ None
unfolding ranges_at
missing last n bytes none = rw none refl

not_after : (last : Option Range) (n : ℕ) (bytes : List ℕ) (r : Range) (after : List ℕ)
    → range_at bytes ≡ Some (r, after) → is_after last r ≡ false → ranges_at last (suc n) bytes ≡ None
unfolding ranges_at
not_after last n bytes r after there not = rw (there, not) refl

one_left : (count i : ℕ) → i < count → count - i ≡ suc (count - (i + 1))
one_left count i lt = omega arith

rest_of-more : (front : List Range) (read : Option (List Range × List ℕ))
    → rest_of (with_front front read) ≡ rest_of read
rest_of-more front None = refl
rest_of-more front (Some x) = refl

pub rest_goes_on : (last : Option Range) (count i : ℕ) (bytes : List ℕ) (r : Range) (after : List ℕ)
    (total : Option (List ℕ)) → i < count → range_at bytes ≡ Some (r, after) → is_after last r ≡ true
    → rest_of (ranges_at last (count - i) bytes) ≡ total
    → rest_of (ranges_at (Some r) (count - (i + 1)) after) ≡ total
rest_goes_on last count i bytes r after total lt there later so_far =
    let left : ℕ = count - (i + 1) in
    sym (rest_of-more (r ∷ []) (ranges_at (Some r) left after))
    ∙ ap rest_of (sym (more last left bytes r after there later))
    ∙ ap (λ (n : ℕ). rest_of (ranges_at last n bytes)) (sym (one_left count i lt)) ∙ so_far

pub rest_missing : (last : Option Range) (count i : ℕ) (bytes : List ℕ) (total : Option (List ℕ)) → i < count
    → range_at bytes ≡ None → rest_of (ranges_at last (count - i) bytes) ≡ total → total ≡ None
rest_missing last count i bytes total lt none so_far =
    sym so_far ∙ ap (λ (n : ℕ). rest_of (ranges_at last n bytes)) (one_left count i lt)
    ∙ ap rest_of (missing last (count - (i + 1)) bytes none)

pub rest_not_after : (last : Option Range) (count i : ℕ) (bytes : List ℕ) (r : Range) (after : List ℕ)
    (total : Option (List ℕ)) → i < count → range_at bytes ≡ Some (r, after) → is_after last r ≡ false
    → rest_of (ranges_at last (count - i) bytes) ≡ total → total ≡ None
rest_not_after last count i bytes r after total lt there not so_far =
    sym so_far ∙ ap (λ (n : ℕ). rest_of (ranges_at last n bytes)) (one_left count i lt)
    ∙ ap rest_of (not_after last (count - (i + 1)) bytes r after there not)

-- no ranges are left
ranges_end : (last : Option Range) (n : ℕ) (bytes : List ℕ) → n ≡ 0 → ranges_at last n bytes ≡ Some ([], bytes)
unfolding ranges_at
ranges_end last n bytes none = rw none refl

pub rest_is : (last : Option Range) (count i : ℕ) (bytes : List ℕ) (total : Option (List ℕ)) → count ≤ i
    → rest_of (ranges_at last (count - i) bytes) ≡ total → total ≡ Some bytes
rest_is last count i bytes total le so_far =
    sym so_far ∙ ap rest_of (ranges_end last (count - i) bytes (omega arith))

-- what was read, and what is still read, are all
pub record IsRead (all front : List Range) (count i : ℕ) (bytes : List ℕ) : Type 0 where
  pub last : Option Range
  pub rest : List ℕ
  pub all_is : with_front front (ranges_at last (count - i) bytes) ≡ Some (all, rest)
  pub counted : length front ≡ i

nothing_before : (read : Option (List Range × List ℕ)) → with_front [] read ≡ read
nothing_before None = refl
nothing_before (Some x) = refl

read_there : (read : Option (List Range × List ℕ)) → IsSome read
    → (rest : List ℕ) × (read ≡ Some (option_map_or (λ x. x.0) read [], rest))
read_there None there = absurd cc
read_there (Some x) there = (x.1, refl)

pub none_read : (count : ℕ) (bytes : List ℕ) → IsSome (ranges_at None count bytes)
    → IsRead (ranges_in count bytes) [] count 0 bytes
none_read count bytes there =
    let is = read_there (ranges_at None count bytes) there in
    record {
      last = None;
      rest = is.0;
      all_is =
          ap (λ (n : ℕ). with_front [] (ranges_at None n bytes)) (omega arith)
          ∙ nothing_before (ranges_at None count bytes) ∙ is.1;
      counted = refl;
    }

-- the next range, which stands after the last
record Next (last : Option Range) (bytes : List ℕ) : Type 0 where
  r : Range
  after : List ℕ
  there : range_at bytes ≡ Some (r, after)
  later : is_after last r ≡ true

next_is : (last : Option Range) (n : ℕ) (bytes : List ℕ) (x : List Range × List ℕ)
    → ranges_at last (suc n) bytes ≡ Some x → Next last bytes
unfolding ranges_at
next_is last n bytes x e =
    let s = bind_some (range_at bytes) _ x e in
    let others = bind_some (cond (is_after last s.0.0) (ranges_at (Some s.0.0) n s.0.1) None) _ x s.2 in
    let g = went_on (is_after last s.0.0) (ranges_at (Some s.0.0) n s.0.1) others.0 others.1 in
    record { r = s.0.0; after = s.0.1; there = s.1; later = g.0 }

next_in : (all front : List Range) (count i : ℕ) (bytes : List ℕ) → i < count
    → (so_far : IsRead all front count i bytes) → Next so_far.last bytes
next_in all front count i bytes lt so_far =
    let s = bind_some (ranges_at so_far.last (count - i) bytes) _ (all, so_far.rest) so_far.all_is in
    next_is so_far.last (count - (i + 1)) bytes s.0
    (ap (λ (n : ℕ). ranges_at so_far.last n bytes) (sym (one_left count i lt)) ∙ s.1)

pub one_is_there : (all front : List Range) (count i : ℕ) (bytes : List ℕ) → i < count
    → range_at bytes ≡ None → IsRead all front count i bytes → ⊥
one_is_there all front count i bytes lt none so_far =
    none-some _ (sym none ∙ (next_in all front count i bytes lt so_far).there)

regroup : (front : List Range) (r : Range) (read : Option (List Range × List ℕ))
    → with_front front (with_front (r ∷ []) read) ≡ with_front (front ++ r ∷ []) read
regroup front r None = refl
regroup front r (Some x) = ap (λ (ranges : List Range). Some (ranges, x.1)) (simp append_assoc)

-- the next range is pushed
pub goes_on : (all front : List Range) (count i : ℕ) (bytes : List ℕ) (r : Range) (after : List ℕ) → i < count
    → range_at bytes ≡ Some (r, after) → IsRead all front count i bytes
    → IsRead all (front ++ r ∷ []) count (i + 1) after
goes_on all front count i bytes r after lt there so_far =
    let left : ℕ = count - (i + 1) in
    let next = next_in all front count i bytes lt so_far in
    let same : next.r ≡ r = ap (λ (x : Range × List ℕ). x.0) (some_is _ _ (sym next.there ∙ there)) in
    let later : is_after so_far.last r ≡ true =
    subst (λ (x : Range). is_after so_far.last x ≡ true) same next.later in
    let one : ranges_at so_far.last (count - i) bytes ≡ with_front (r ∷ []) (ranges_at (Some r) left after) =
    ap (λ (n : ℕ). ranges_at so_far.last n bytes) (one_left count i lt)
    ∙ more so_far.last left bytes r after there later in
    record {
      last = Some r;
      rest = so_far.rest;
      all_is =
          sym (regroup front r (ranges_at (Some r) left after)) ∙ ap (with_front front) (sym one)
          ∙ so_far.all_is;
      counted = omega (arith, length-append front (r ∷ []), so_far.counted);
    }

pub all_read : (all front : List Range) (count i : ℕ) (bytes : List ℕ) → count ≤ i
    → IsRead all front count i bytes → front ≡ all
all_read all front count i bytes le so_far =
    let end : with_front front (ranges_at so_far.last (count - i) bytes) ≡ Some (front ++ [], bytes) =
    ap (with_front front) (ranges_end so_far.last (count - i) bytes (omega arith)) in
    sym (append-nil front)
    ∙ ap (λ (x : List Range × List ℕ). x.0) (some_is _ _ (sym end ∙ so_far.all_is))
