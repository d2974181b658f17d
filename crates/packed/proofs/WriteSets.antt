-- Sets of names, written range by range.
use Rattle.std.proofs.Common.{◌≡◌, ℕ, ◌+◌, ◌<◌, ◌≤◌, inl, List, [], ◌∷◌, ◌++◌, length, get_or, drop, sym, ap, subst, ◌∙◌}
use Rattle.std.proofs.lemmas.List.{append-nil, drop_more, drop_all}
use Rattle.operations.specs.NameSet.{Range, IsRange, IsBefore, IsSet}
use Rattle.operations.proofs.WithName.{First, IsRising, rising, ranges_of, pairs_of}
use Rattle.packed.specs.Sets.{FollowsApart, range_after, ranges_after}
use Rattle.packed.proofs.Parts.{IsPut, none_put, put_more, put_rest}

-- each range is in its file, and after the one before
abbrev pub AreAfter : (site end : ℕ) → List Range → Type 0
AreAfter site end [] = Unit {0}
AreAfter site end (r ∷ ranges) = IsRange r × FollowsApart site end r × AreAfter r.site (r.at + r.len) ranges

after_first : (r : Range) (ranges : List Range) → First (IsBefore r) ranges → IsRising ranges
    → AreAfter r.site (r.at + r.len) ranges
after_first r [] first h = tt
after_first r (s ∷ ranges) first h = (h.0, first, after_first s ranges h.1 h.2)

after_none : (ranges : List Range) → IsRising ranges → AreAfter 0 0 ranges
after_none [] h = tt
after_none (r ∷ ranges) h = (h.0, inl h.0.0, after_first r ranges h.1 h.2)

pub after_nothing : (ranges : List Range) → IsSet ranges → AreAfter 0 0 ranges
after_nothing ranges set = after_none ranges (rising ranges set.ranges set.rising)

first_after : (site end : ℕ) (ranges : List Range) → AreAfter site end ranges → IsRising ranges
first_after site end [] h = tt
first_after site end (r ∷ []) h = (h.0, tt, tt)
first_after site end (r ∷ s ∷ ranges) h = (h.0, h.2.1, first_after r.site (r.at + r.len) (s ∷ ranges) h.2)

pub set_after : (site end : ℕ) (ranges : List Range) → AreAfter site end ranges → IsSet ranges
set_after site end ranges h =
    let up : IsRising ranges = first_after site end ranges h in
    record { ranges = ranges_of ranges up; rising = pairs_of ranges up }

-- the ranges from i on are left
pub record IsPutTo (old new : List ℕ) (ranges : List Range) (i site end : ℕ) : Type 0 where
  pub put : IsPut old new (ranges_after 0 0 ranges) (ranges_after site end (drop i ranges))
  pub later : AreAfter site end (drop i ranges)

pub nothing_put : (old : List ℕ) (ranges : List Range) → IsSet ranges → IsPutTo old old ranges 0 0 0
nothing_put old ranges set = record {
  put = none_put old (ranges_after 0 0 ranges);
  later = after_nothing ranges set;
}

-- the next range
pub next_follows : (old new : List ℕ) (ranges : List Range) (i site end : ℕ) (r : Range) → i < length ranges
    → r ≡ get_or ranges i r → IsPutTo old new ranges i site end → FollowsApart site end r
next_follows old new ranges i site end r lt is so_far =
    let split : drop i ranges ≡ get_or ranges i r ∷ drop (i + 1) ranges = drop_more ranges i r lt in
    subst (FollowsApart site end) (sym is) (subst (AreAfter site end) split so_far.later).1

pub range_put : (old mid new : List ℕ) (ranges : List Range) (i site end : ℕ) (r : Range) → i < length ranges
    → r ≡ get_or ranges i r → IsPutTo old mid ranges i site end → new ≡ mid ++ range_after site end r
    → IsPutTo old new ranges (i + 1) r.site (r.at + r.len)
unfolding ranges_after
range_put old mid new ranges i site end r lt is so_far put =
    let split : drop i ranges ≡ r ∷ drop (i + 1) ranges =
    drop_more ranges i r lt ∙ ap (λ (s : Range). s ∷ drop (i + 1) ranges) (sym is) in
    record {
      put = put_more old mid new (ranges_after 0 0 ranges) (range_after site end r)
          (ranges_after r.site (r.at + r.len) (drop (i + 1) ranges))
          (subst (λ (rs : List Range). IsPut old mid (ranges_after 0 0 ranges) (ranges_after site end rs)) split
          so_far.put) put;
      later = (subst (AreAfter site end) split so_far.later).2;
    }

-- none are left
pub all_put : (old new : List ℕ) (ranges : List Range) (i site end : ℕ) → length ranges ≤ i
    → IsPutTo old new ranges i site end → new ≡ old ++ ranges_after 0 0 ranges
unfolding ranges_after
all_put old new ranges i site end past so_far =
    put_rest old new new (ranges_after 0 0 ranges) [] (subst (λ (rs : List Range). IsPut old new (ranges_after 0 0
    ranges) (ranges_after site end rs)) (drop_all i ranges past) so_far.put) (sym (append-nil new))
