-- Whether a set that is read is one name is told by its count and its first range.
use Rattle.std.proofs.Common.{◌≡◌, ℕ, zero, suc, ◌+◌, ◌&&◌, eqb, false, List, [], ◌∷◌, Option, Some, None, option_map, refl, sym, ap, ◌∙◌, arith}
use Rattle.std.proofs.lemmas.Bool.{ne_eqb}
use Rattle.std.specs.Option.{option_map_or}
use Rattle.byte_fields.specs.Fields.{◌>>=◌}
use Rattle.byte_fields.proofs.Readers.{bind_some, some_is}
use Rattle.operations.specs.NameSet.{Range}
use Rattle.packed.specs.Sets.{range_after_at, ranges_after_at, packed_ranges_in, is_one}

-- with no first range there is no name
none_is_one : (count : ℕ) (raw : List ℕ) → range_after_at 0 0 raw ≡ None → is_one (packed_ranges_in count raw) ≡ false
unfolding ranges_after_at
none_is_one zero raw none = refl
none_is_one (suc n) raw none = rw none refl

not_empty : (n : ℕ) (r : Range) (raw rest : List ℕ)
    → ranges_after_at (suc n) r.site (r.at + r.len) raw ≡ Some ([], rest) → ⊥
unfolding ranges_after_at
not_empty n r raw rest e =
    let s = bind_some (range_after_at r.site (r.at + r.len) raw) _ ([], rest) e in
    let t = bind_some (ranges_after_at n s.0.0.site (s.0.0.at + s.0.0.len) s.0.1) _ ([], rest) s.2 in
    absurd (cons_nil _ _ (ap (λ (x : List Range × List ℕ). x.0) (some_is _ _ t.2)))
  where
    cons_nil : (x : Range) (xs : List Range) → x ∷ xs ≡ [] → ⊥
    cons_nil x xs e = cc

-- two ranges or more
two_are_more : (n : ℕ) (r : Range) (o : Option (List Range × List ℕ)) (raw : List ℕ)
    → ranges_after_at (suc n) r.site (r.at + r.len) raw ≡ o
    → is_one (option_map_or (λ (x : List Range × List ℕ). x.0)
    (o >>= λ (others : List Range × List ℕ). Some (r ∷ others.0, others.1)) []) ≡ false
two_are_more n r None raw e = refl
two_are_more n r (Some ([], rest)) raw e = absurd (not_empty n r raw rest e)
two_are_more n r (Some (s ∷ ranges, rest)) raw e = refl

one_is : (count : ℕ) (raw : List ℕ) (r : Range) (rest : List ℕ) → range_after_at 0 0 raw ≡ Some (r, rest)
    → is_one (packed_ranges_in count raw) ≡ (eqb count 1 && eqb r.len 1)
unfolding ranges_after_at
one_is zero raw r rest first = refl
one_is (suc zero) raw r rest first = rw first refl
one_is (suc (suc n)) raw r rest first =
    let more : eqb (suc (suc n)) 1 ≡ false = ne_eqb (suc (suc n)) 1 (λ e. absurd (omega arith)) in
    rw (first, more) (two_are_more n r (ranges_after_at (suc n) r.site (r.at + r.len) rest) rest refl)

-- how many names the first range has
abbrev pub first_len_at : List ℕ → Option ℕ
first_len_at raw = option_map (λ (x : Range × List ℕ). x.0.len) (range_after_at 0 0 raw)

pub told_by_none : (count : ℕ) (raw : List ℕ) → first_len_at raw ≡ None → is_one (packed_ranges_in count raw) ≡ false
told_by_none count raw none = by (range_after_at 0 0 raw) refl none
  where
    by : (o : Option (Range × List ℕ)) → range_after_at 0 0 raw ≡ o
        → option_map (λ (x : Range × List ℕ). x.0.len) o ≡ None → is_one (packed_ranges_in count raw) ≡ false
    by None e none = none_is_one count raw e
    by (Some x) e none = absurd cc

pub told_by_first : (count : ℕ) (raw : List ℕ) (len : ℕ) → first_len_at raw ≡ Some len
    → is_one (packed_ranges_in count raw) ≡ (eqb count 1 && eqb len 1)
told_by_first count raw len first = by (range_after_at 0 0 raw) refl first
  where
    by : (o : Option (Range × List ℕ)) → range_after_at 0 0 raw ≡ o
        → option_map (λ (x : Range × List ℕ). x.0.len) o ≡ Some len
        → is_one (packed_ranges_in count raw) ≡ (eqb count 1 && eqb len 1)
    by None e first = absurd cc
    by (Some x) e first =
        one_is count raw x.0 x.1 e ∙ ap (λ (n : ℕ). eqb count 1 && eqb n 1) (some_is _ _ first)
