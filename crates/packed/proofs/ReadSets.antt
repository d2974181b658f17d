-- Sets of names that are read are the sets that were written, and what was written is read again.
use Rattle.std.proofs.Common.{◌≡◌, ℕ, zero, suc, ◌+◌, ◌-◌, ◌^◌, ◌<◌, ◌≤◌, Bool, true, false}
use Rattle.std.proofs.Common.{cond, ltb, eqb, List, [], ◌∷◌, ◌++◌, length, Option, Some, None, refl, sym, ap}
use Rattle.std.proofs.Common.{subst, ◌∙◌, append_assoc, length-append, arith, option_map, Result, Ok, Err, ◌↔◌}
use Rattle.std.specs.Prelude.{IsSome, IfErr, IsErrOf}
use Rattle.std.specs.Option.{option_map_or}
use Rattle.std.proofs.lemmas.Bool.{lt-ltb, ltb-true}
use Rattle.std.proofs.lemmas.Bool.Decides.{nat_tests}
use Rattle.std.proofs.lemmas.List.{append-nil}
use Rattle.std.proofs.lemmas.List.Sorted.{IsPermutation-refl}
use Rattle.std.proofs.lemmas.Option.{none-some}
use Rattle.looks.specs.declared.refusal.Refusal.{Refusal}
use Rattle.looks.specs.declared.refusal.Refusal.TheVariants.{Scattered}
use Rattle.looks.specs.Refusal.{RefusedForMemoryAlone}
use Rattle.char_files.specs.declared.TheConstants.{MAX_FILE}
use Rattle.operations.specs.declared.name_set.TheConstants.{MAX_RANGES}
use Rattle.operations.specs.NameSet.{Range, IsRange, IsSet, IsNamed, names_in, set_of}
use Rattle.operations.proofs.Joins.{is_set_of}
use Rattle.byte_fields.specs.Fields.{◌>>=◌}
use Rattle.byte_fields.proofs.Readers.{IsBytes, Took, Reads, step, bind_some, some_is}
use Rattle.packed.specs.Numbers.{sevens, sevens_at}
use Rattle.packed.specs.Sets.{FollowsApart, gap_before, range_after, ranges_after, packed_set, range_in_file, range_after_at}
use Rattle.packed.specs.Sets.{ranges_after_at, packed_ranges_in, packed_set_at}
use Rattle.packed.proofs.Sevens.{sevens_reads}
use Rattle.packed.proofs.WriteSets.{AreAfter, after_nothing, set_after}

-- ---- one range

abbrev IsNext : (site end : ℕ) → Range → Type 0
IsNext site end r = IsRange r × FollowsApart site end r

range_split : (site end : ℕ) (r : Range) (rest : List ℕ) → range_after site end r ++ rest
    ≡ sevens (r.site - site) ++ (sevens (gap_before site end r) ++ (sevens (r.len - 1) ++ rest))
unfolding range_after
range_split site end r rest = simp append_assoc

-- where the gap leads to
abbrev at_gap : (further end gap : ℕ) → ℕ
at_gap further end gap = cond (eqb further 0) (end + 1 + gap) gap

range_is : (site at len : ℕ) (r : Range) → range_in_file site at len ≡ Some r
    → (0 < site) × (site < 2 ^ 16) × (at + len ≤ MAX_FILE) × (record { site = site; at = at; len = len } ≡ r)
range_is site at len r e = grind (arith, nat_tests)

range_there : (site at len : ℕ) → 0 < site → site < 2 ^ 16 → at + len ≤ MAX_FILE
    → range_in_file site at len ≡ Some (record { site = site; at = at; len = len })
range_there site at len a b c = grind (arith, nat_tests)

-- the three numbers tell a range that follows, and the range tells them
told : (site end further gap more : ℕ) (r : Range)
    → range_in_file (site + further) (at_gap further end gap) (more + 1) ≡ Some r
    → IsNext site end r × (r.site - site ≡ further) × (gap_before site end r ≡ gap) × (r.len - 1 ≡ more)
told site end further gap more r e =
    let h = range_is (site + further) (at_gap further end gap) (more + 1) r e in
    let site-is : site + further ≡ r.site = ap (λ (s : Range). s.site) h.3 in
    let at-is : at_gap further end gap ≡ r.at = ap (λ (s : Range). s.at) h.3 in
    let len-is : more + 1 ≡ r.len = ap (λ (s : Range). s.len) h.3 in
    let range : IsRange r = (omega arith, omega arith, omega arith, omega arith) in
    let follows : FollowsApart site end r = grind (arith, nat_tests) in
    let gap-is : gap_before site end r ≡ gap = grind (arith, nat_tests) in
    ((range, follows), omega arith, gap-is, omega arith)

tells : (site end : ℕ) (r : Range) → IsNext site end r
    → range_in_file (site + (r.site - site)) (at_gap (r.site - site) end (gap_before site end r)) (r.len - 1 + 1) ≡ Some r
tells site end r h =
    let follows : FollowsApart site end r = h.1 in
    let site-is : site + (r.site - site) ≡ r.site = grind arith in
    let at-is : at_gap (r.site - site) end (gap_before site end r) ≡ r.at = grind (arith, nat_tests) in
    let len-is : r.len - 1 + 1 ≡ r.len = omega (arith, h.0.2) in
    rw (site-is, at-is, len-is) (range_there r.site r.at r.len h.0.0 h.0.1 h.0.3)

-- three numbers, one after the other, that tell a range
spelled : (site end : ℕ) (r : Range) (further gap more : ℕ) (bytes one two rest : List ℕ) → r.site - site ≡ further
    → gap_before site end r ≡ gap → r.len - 1 ≡ more → bytes ≡ sevens further ++ one → one ≡ sevens gap ++ two
    → two ≡ sevens more ++ rest → bytes ≡ range_after site end r ++ rest
spelled site end r further gap more bytes one two rest e f g x y z = rw range_split (cc)

range_reads : (site end : ℕ) → Reads (range_after_at site end) (range_after site end) (IsNext site end)
unfolding range_after_at
range_reads site end = record {
  takes = λ bytes r rest fits e.
      let s = step _ _ _ sevens_reads _ bytes (r, rest) fits e in
      let t = step _ _ _ sevens_reads _ s.rest (r, rest) s.took.rest_fits s.goes_on in
      let u = step _ _ _ sevens_reads _ t.rest (r, rest) t.took.rest_fits t.goes_on in
      let h = bind_some (range_in_file (site + s.x) (at_gap s.x end t.x) (u.x + 1)) _ (r, rest) u.goes_on in
      let is = told site end s.x t.x u.x h.0 h.1 in
      let whole : bytes ≡ range_after site end h.0 ++ u.rest =
      spelled site end h.0 s.x t.x u.x bytes s.rest t.rest u.rest is.1 is.2 is.3 s.took.parts t.took.parts
      u.took.parts in
      subst (λ (p : Range × List ℕ). Took (range_after site end) (IsNext site end) bytes p.0 p.1)
      (some_is (h.0, u.rest) (r, rest) h.2)
      (record { parts = whole; rest_fits = u.took.rest_fits; in_range = is.0 });
  again = λ r rest is.
      let follows : FollowsApart site end r = is.1 in
      let gap : gap_before site end r < 2 ^ 49 = grind (arith, nat_tests) in
      ap (range_after_at site end) (range_split site end r rest)
      ∙ rw (
        sevens_reads.again (r.site - site) (sevens (gap_before site end r) ++ (sevens (r.len - 1) ++ rest))
            (omega (arith, is.0.1)),
        sevens_reads.again (gap_before site end r) (sevens (r.len - 1) ++ rest) gap,
        sevens_reads.again (r.len - 1) rest (omega (arith, is.0.3)),
        tells site end r is,
      ) refl;
}

-- ---- ranges

abbrev AreNext : (count site end : ℕ) → List Range → Type 0
AreNext count site end ranges = (length ranges ≡ count) × AreAfter site end ranges

ranges_split : (site end : ℕ) (r : Range) (ranges : List Range) (rest : List ℕ)
    → ranges_after site end (r ∷ ranges) ++ rest
    ≡ range_after site end r ++ (ranges_after r.site (r.at + r.len) ranges ++ rest)
unfolding ranges_after
ranges_split site end r ranges rest =
    append_assoc (range_after site end r) (ranges_after r.site (r.at + r.len) ranges) rest

no_ranges : (site end : ℕ) → ranges_after site end [] ≡ []
unfolding ranges_after
no_ranges site end = refl

ranges_take : (count site end : ℕ) (bytes : List ℕ) (x : List Range) (rest : List ℕ) → IsBytes bytes
    → ranges_after_at count site end bytes ≡ Some (x, rest)
    → Took (ranges_after site end) (AreNext count site end) bytes x rest
unfolding ranges_after_at
ranges_take zero site end bytes x rest fits e =
    subst (λ (p : List Range × List ℕ). Took (ranges_after site end) (AreNext zero site end) bytes p.0 p.1)
    (some_is ([], bytes) (x, rest) e) (record {
      parts = ap (λ (l : List ℕ). l ++ bytes) (sym (no_ranges site end));
      rest_fits = fits;
      in_range = (refl, tt);
    })
ranges_take (suc n) site end bytes x rest fits e =
    let s = step _ _ _ (range_reads site end) _ bytes (x, rest) fits e in
    let others = bind_some (ranges_after_at n s.x.site (s.x.at + s.x.len) s.rest) _ (x, rest) s.goes_on in
    let t = ranges_take n s.x.site (s.x.at + s.x.len) s.rest others.0.0 others.0.1 s.took.rest_fits others.1 in
    let whole : bytes ≡ ranges_after site end (s.x ∷ others.0.0) ++ others.0.1 =
    s.took.parts ∙ ap (λ (y : List ℕ). range_after site end s.x ++ y) t.parts
    ∙ sym (ranges_split site end s.x others.0.0 others.0.1) in
    subst (λ (p : List Range × List ℕ). Took (ranges_after site end) (AreNext (suc n) site end) bytes p.0 p.1)
    (some_is _ _ others.2)
    (record {
      parts = whole;
      rest_fits = t.rest_fits;
      in_range = (ap suc t.in_range.0, (s.took.in_range.0, s.took.in_range.1, t.in_range.1));
    })

ranges_again : (site end : ℕ) (x : List Range) (rest : List ℕ) → AreAfter site end x
    → ranges_after_at (length x) site end (ranges_after site end x ++ rest) ≡ Some (x, rest)
unfolding ranges_after_at
ranges_again site end [] rest is = ap (λ (l : List ℕ). Some ([], l ++ rest)) (no_ranges site end)
ranges_again site end (r ∷ x) rest is =
    ap (ranges_after_at (suc (length x)) site end) (ranges_split site end r x rest)
    ∙ rw (
      (range_reads site end).again r (ranges_after r.site (r.at + r.len) x ++ rest) (is.0, is.1),
      ranges_again r.site (r.at + r.len) x rest is.2,
    ) refl

-- ---- sets

named : (count : ℕ) (ranges : List Range) → AreNext count 0 0 ranges → 0 < count → count ≤ MAX_RANGES → IsNamed ranges
named count ranges are some few = record {
  set = set_after 0 0 ranges are.1;
  some = omega (arith, are.0);
  few = omega (arith, are.0);
}

-- a test that let a step go on
went_on : {A : Type 0} (b : Bool) (o : Option A) (y : A) → cond b o None ≡ Some y → (b ≡ true) × (o ≡ Some y)
went_on true o y e = (refl, e)
went_on false o y e = absurd cc

pub packed_set_reads : Reads packed_set_at packed_set IsNamed
unfolding packed_set_at packed_set
packed_set_reads = record {
  takes = λ bytes x rest fits e.
      let s = step _ _ _ sevens_reads _ bytes (x, rest) fits e in
      let g = went_on (ltb s.x MAX_RANGES) (ranges_after_at (s.x + 1) 0 0 s.rest) (x, rest) s.goes_on in
      let few : s.x < MAX_RANGES = ltb-true _ _ g.0 in
      let t = ranges_take (s.x + 1) 0 0 s.rest x rest s.took.rest_fits g.1 in
      let count : s.x ≡ length x - 1 = omega (arith, t.in_range.0) in
      let whole : bytes ≡ packed_set x ++ rest =
      s.took.parts ∙ ap (λ (y : List ℕ). sevens s.x ++ y) t.parts
      ∙ ap (λ (n : ℕ). sevens n ++ (ranges_after 0 0 x ++ rest)) count
      ∙ sym (append_assoc (sevens (length x - 1)) (ranges_after 0 0 x) rest) in
      record {
        parts = whole;
        rest_fits = t.rest_fits;
        in_range = named (s.x + 1) x t.in_range (omega arith) (omega arith);
      };
  again = λ x rest is.
      let few : ltb (length x - 1) MAX_RANGES ≡ true = lt-ltb _ _ (omega (arith, is.some, is.few)) in
      let count : length x - 1 + 1 ≡ length x = omega (arith, is.some) in
      ap packed_set_at (append_assoc (sevens (length x - 1)) (ranges_after 0 0 x) rest)
      ∙ rw (
        sevens_reads.again (length x - 1) (ranges_after 0 0 x ++ rest) (omega (arith, is.few)),
        few,
        count,
      ) (ranges_again 0 0 x rest (after_nothing x is.set));
}

-- the set of the names of a set's ranges is that set
pub set_of-ranges : (ranges : List Range) → IsSet ranges → set_of (names_in ranges) ≡ ranges
set_of-ranges ranges set =
    sym (is_set_of ranges ranges ranges (IsPermutation-refl ranges) set (λ c. (λ h. h, λ h. h)))

-- what is read after its count is a set
pub read_is_named : (bytes : List ℕ) (more : ℕ) (raw rest : List ℕ) → IsBytes bytes → sevens_at bytes ≡ Some (more, raw)
    → more < MAX_RANGES → option_map (λ x. x.1) (ranges_after_at (more + 1) 0 0 raw) ≡ Some rest
    → IsSome (ranges_after_at (more + 1) 0 0 raw) × IsNamed (packed_ranges_in (more + 1) raw)
read_is_named bytes more raw rest fits first few e = go (ranges_after_at (more + 1) 0 0 raw) refl e
  where
    go : (read : Option (List Range × List ℕ)) → ranges_after_at (more + 1) 0 0 raw ≡ read
        → option_map (λ x. x.1) read ≡ Some rest → IsSome read × IsNamed (option_map_or (λ x. x.0) read [])
    go None is h = absurd cc
    go (Some x) is h =
        let s = sevens_reads.takes bytes more raw fits first in
        let t = ranges_take (more + 1) 0 0 raw x.0 x.1 s.rest_fits is in
        (refl, named (more + 1) x.0 t.in_range (omega arith) (omega arith))

-- a set that has few ranges isn't scattered, so that memory alone is refused
pub none_scattered : {T : Type 0} (result : Result T Refusal) (names all : List Range) → names ≡ all → IsNamed all
    → (IsErrOf result Scattered ↔ (MAX_RANGES < length names)) → IfErr result (λ e. e ≡ Scattered)
    → RefusedForMemoryAlone result
none_scattered (Ok x) names all is named scattered errors = tt
none_scattered (Err e) names all is named scattered errors =
    let many : MAX_RANGES < length names = scattered.0 (ap Err errors) in
    absurd (omega (arith, ap length is, named.few))

-- ---- one range after the other, as loops read them

-- what is left after the ranges that were read
abbrev pub rest_of : Option (List Range × List ℕ) → Option (List ℕ)
rest_of read = option_map (λ x. x.1) read

-- what was read before, and what is still read
abbrev with_front : List Range → Option (List Range × List ℕ) → Option (List Range × List ℕ)
with_front front read = read >>= λ x. Some (front ++ x.0, x.1)

more : (n site end : ℕ) (bytes : List ℕ) (r : Range) (after : List ℕ)
    → range_after_at site end bytes ≡ Some (r, after)
    → ranges_after_at (suc n) site end bytes
    ≡ with_front (r ∷ []) (ranges_after_at n r.site (r.at + r.len) after)
unfolding ranges_after_at
more n site end bytes r after there = rw there refl

missing : (n site end : ℕ) (bytes : List ℕ) → range_after_at site end bytes ≡ None
    → ranges_after_at (suc n) site end bytes ≡ None
unfolding ranges_after_at
missing n site end bytes none = rw none refl

one_left : (count i : ℕ) → i < count → count - i ≡ suc (count - (i + 1))
one_left count i lt = omega arith

rest_of-more : (front : List Range) (read : Option (List Range × List ℕ))
    → rest_of (with_front front read) ≡ rest_of read
rest_of-more front None = refl
rest_of-more front (Some x) = refl

pub rest_goes_on : (count i site end : ℕ) (bytes : List ℕ) (r : Range) (after : List ℕ)
    (total : Option (List ℕ)) → i < count → range_after_at site end bytes ≡ Some (r, after)
    → rest_of (ranges_after_at (count - i) site end bytes) ≡ total
    → rest_of (ranges_after_at (count - (i + 1)) r.site (r.at + r.len) after) ≡ total
rest_goes_on count i site end bytes r after total lt there so_far =
    let left : ℕ = count - (i + 1) in
    sym (rest_of-more (r ∷ []) (ranges_after_at left r.site (r.at + r.len) after))
    ∙ ap rest_of (sym (more left site end bytes r after there))
    ∙ ap (λ (n : ℕ). rest_of (ranges_after_at n site end bytes)) (sym (one_left count i lt)) ∙ so_far

pub rest_missing : (count i site end : ℕ) (bytes : List ℕ) (total : Option (List ℕ)) → i < count
    → range_after_at site end bytes ≡ None → rest_of (ranges_after_at (count - i) site end bytes) ≡ total
    → total ≡ None
rest_missing count i site end bytes total lt none so_far =
    sym so_far ∙ ap (λ (n : ℕ). rest_of (ranges_after_at n site end bytes)) (one_left count i lt)
    ∙ ap rest_of (missing (count - (i + 1)) site end bytes none)

-- no ranges are left
ranges_end : (n site end : ℕ) (bytes : List ℕ) → n ≡ 0 → ranges_after_at n site end bytes ≡ Some ([], bytes)
unfolding ranges_after_at
ranges_end n site end bytes none = rw none refl

pub rest_is : (count i site end : ℕ) (bytes : List ℕ) (total : Option (List ℕ)) → count ≤ i
    → rest_of (ranges_after_at (count - i) site end bytes) ≡ total → total ≡ Some bytes
rest_is count i site end bytes total le so_far =
    sym so_far ∙ ap rest_of (ranges_end (count - i) site end bytes (omega arith))

-- what was read, and what is still read, are all
pub record IsRead (all front : List Range) (count i site end : ℕ) (bytes : List ℕ) : Type 0 where
  pub rest : List ℕ
  pub all_is : with_front front (ranges_after_at (count - i) site end bytes) ≡ Some (all, rest)
  pub counted : length front ≡ i

nothing_before : (read : Option (List Range × List ℕ)) → with_front [] read ≡ read
nothing_before None = refl
nothing_before (Some x) = refl

pub read_there : (read : Option (List Range × List ℕ)) → IsSome read
    → (rest : List ℕ) × (read ≡ Some (option_map_or (λ x. x.0) read [], rest))
read_there None there = absurd cc
read_there (Some x) there = (x.1, refl)

pub none_read : (count : ℕ) (bytes : List ℕ) → IsSome (ranges_after_at count 0 0 bytes)
    → IsRead (packed_ranges_in count bytes) [] count 0 0 0 bytes
none_read count bytes there =
    let is = read_there (ranges_after_at count 0 0 bytes) there in
    record {
      rest = is.0;
      all_is = ap (λ (n : ℕ). with_front [] (ranges_after_at n 0 0 bytes)) (omega arith)
          ∙ nothing_before (ranges_after_at count 0 0 bytes) ∙ is.1;
      counted = refl;
    }

next_is : (n site end : ℕ) (bytes : List ℕ) (x : List Range × List ℕ)
    → ranges_after_at (suc n) site end bytes ≡ Some x
    → (next : Range × List ℕ) × (range_after_at site end bytes ≡ Some next)
unfolding ranges_after_at
next_is n site end bytes x e =
    let s = bind_some (range_after_at site end bytes) _ x e in (s.0, s.1)

pub one_is_there : (all front : List Range) (count i site end : ℕ) (bytes : List ℕ) → i < count
    → range_after_at site end bytes ≡ None → IsRead all front count i site end bytes → ⊥
one_is_there all front count i site end bytes lt none so_far =
    let s = bind_some (ranges_after_at (count - i) site end bytes) _ (all, so_far.rest) so_far.all_is in
    let next = next_is (count - (i + 1)) site end bytes s.0
    (ap (λ (n : ℕ). ranges_after_at n site end bytes) (sym (one_left count i lt)) ∙ s.1) in
    none-some _ (sym none ∙ next.1)

regroup : (front : List Range) (r : Range) (read : Option (List Range × List ℕ))
    → with_front front (with_front (r ∷ []) read) ≡ with_front (front ++ r ∷ []) read
regroup front r None = refl
regroup front r (Some x) = ap (λ (ranges : List Range). Some (ranges, x.1)) (simp append_assoc)

-- the next range is pushed
pub goes_on : (all front : List Range) (count i site end : ℕ) (bytes : List ℕ) (r : Range) (after : List ℕ)
    → i < count → range_after_at site end bytes ≡ Some (r, after) → IsRead all front count i site end bytes
    → IsRead all (front ++ r ∷ []) count (i + 1) r.site (r.at + r.len) after
goes_on all front count i site end bytes r after lt there so_far =
    let left : ℕ = count - (i + 1) in
    let read = ranges_after_at left r.site (r.at + r.len) after in
    let one : ranges_after_at (count - i) site end bytes ≡ with_front (r ∷ []) read =
    ap (λ (n : ℕ). ranges_after_at n site end bytes) (one_left count i lt)
    ∙ more left site end bytes r after there in
    record {
      rest = so_far.rest;
      all_is = sym (regroup front r read) ∙ ap (with_front front) (sym one) ∙ so_far.all_is;
      counted = omega (arith, length-append front (r ∷ []), so_far.counted);
    }

pub all_read : (all front : List Range) (count i site end : ℕ) (bytes : List ℕ) → count ≤ i
    → IsRead all front count i site end bytes → front ≡ all
all_read all front count i site end bytes le so_far =
    let last : with_front front (ranges_after_at (count - i) site end bytes) ≡ Some (front ++ [], bytes) =
    ap (with_front front) (ranges_end (count - i) site end bytes (omega arith)) in
    sym (append-nil front)
    ∙ ap (λ (x : List Range × List ℕ). x.0) (some_is _ _ (sym last ∙ so_far.all_is))
