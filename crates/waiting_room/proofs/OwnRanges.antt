-- Of a site's ranges in a set the last one goes furthest.
use Rattle.std.proofs.Common.{◌≡◌, ℕ, ◌-◌, ◌<◌, ◌≤◌, ◌↔◌, inl, inr, Bool, true, false, nat_le, List, length, get_or}
use Rattle.std.proofs.Common.{sym, ap, subst, ◌∙◌, arith, leb-true, le-leb}
use Rattle.std.specs.List.Sorted.{IsPartitionPoint, IsPartitionedBy}
use Rattle.std.proofs.lemmas.Bool.{both_ways, cases_eq, cases_lt}
use Rattle.std.proofs.lemmas.List.{get_or_default}
use Rattle.operations.specs.NameSet.{Range, IsBefore, IsSet, IsAmong}
use Rattle.waiting_room.specs.Room.{HasNamePast}
use Rattle.waiting_room.proofs.Past.{Reaches, by_ranges}

-- whether the range is of a site up to this one
abbrev pub is_up_to : ℕ → Range → Bool
is_up_to site r = nat_le r.site site

-- sites rise
site_rises : (r s : Range) → IsBefore r s → r.site ≤ s.site
site_rises r s (inl less) = omega arith
site_rises r s (inr (same, apart)) = omega arith

-- the ranges of sites up to this one stand first
pub IsPartitionedBy-up_to : (ranges : List Range) (site : ℕ) → IsSet ranges → IsPartitionedBy (is_up_to site) ranges
IsPartitionedBy-up_to ranges site set i j d le lt e =
    elim (cases_eq i j) [
      | inl same ↦ rw same e
      | inr apart ↦
          let rises = site_rises (get_or ranges i d) (get_or ranges j d) (set.rising i j d (omega arith) lt) in
          let up = leb-true _ _ e in
          le-leb _ _ (omega arith)
    ]

-- the ranges before this place are those of sites up to this one
abbrev pub EndsAt : List Range → (site at : ℕ) → Type 0
EndsAt ranges site at = IsPartitionPoint (λ r. is_up_to site r ≡ true) (λ r. is_up_to site r ≡ false) ranges at

module _ (ranges : List Range) (site end at : ℕ) (set : IsSet ranges) (point : EndsAt ranges site at) where
  -- a range of the site stands before it
  stands_before : (k : ℕ) (r : Range) → k < length ranges → get_or ranges k r ≡ r → r.site ≡ site → k < at
  stands_before k r lt is on =
      elim (cases_lt k at) [
        | inl before ↦ before
        | inr past ↦
            let upto : is_up_to site r ≡ true = le-leb _ _ (omega arith) in
            absurd (both_ways _ (subst (λ (s : Range). is_up_to site s ≡ false) is (point.1 k r past lt)) upto)
      ]

  -- where none does, no name of the site goes past the end
  pub none_reaches : at ≡ 0 → ¬ HasNamePast (IsAmong ranges) site end
  none_reaches none h =
      let (r, (k, lt, is), (on, past)) = (by_ranges ranges site end set.ranges).1 h in
      let before = stands_before k r lt is on in
      omega arith

  module _ (last : Range) (some : 0 < at) (in_set : at ≤ length ranges)
      (there : last ≡ get_or ranges (at - 1) last) where
    -- a range of the site that goes past the end is the last one, or that one goes past it, too
    by_place : (k : ℕ) (r : Range) → k < length ranges → get_or ranges k r ≡ r → Reaches site end r → Reaches site end last
    by_place k r lt is (on, past) =
        let before = stands_before k r lt is on in
        let last_is : get_or ranges (at - 1) r ≡ last = get_or_default ranges (at - 1) r last (omega arith) ∙ sym there in
        let upto : last.site ≤ site =
        leb-true _ _ (subst (λ (s : Range). is_up_to site s ≡ true) last_is (point.0 (at - 1) r (omega arith) (omega arith))) in
        elim (cases_eq k (at - 1)) [
          | inl same ↦
              let one : r ≡ last = sym is ∙ ap (λ (n : ℕ). get_or ranges n r) same ∙ last_is in
              subst (Reaches site end) one (on, past)
          | inr apart ↦
              let rising : IsBefore r last =
              subst (λ (s : Range). IsBefore s last) is
              (subst (IsBefore (get_or ranges k r)) last_is (set.rising k (at - 1) r (omega arith) (omega arith))) in
              elim rising [
                | inl less ↦ absurd (omega arith)
                | inr next ↦
                    let own = next.0 in
                    let after = next.1 in
                    (sym own ∙ on, omega arith)
              ]
        ]

    -- the last one tells it for all
    pub last_reaches : Reaches site end last ↔ HasNamePast (IsAmong ranges) site end
    last_reaches = (
      λ reaches.
          (by_ranges ranges site end set.ranges).0 (last, (at - 1, omega arith, sym there), reaches),
      λ h.
          let (r, (k, lt, is), reaches) = (by_ranges ranges site end set.ranges).1 h in
          by_place k r lt is reaches,
    )
