-- What was mentioned, with one range more.
use Rattle.std.proofs.Common.{◌≡◌, ℕ, zero, suc, ◌+◌, ◌<◌, ◌≤◌, inl, inr, max, List, [], ◌∷◌, ◌++◌, take, length, get_or, Some, None, IsSome}
use Rattle.std.proofs.Common.{refl, sym, ap, subst, ◌∙◌, arith, eq-eqb}
use Rattle.std.specs.Prelude.{nat_eq}
use Rattle.std.specs.Map.{lookup}
use Rattle.std.specs.Option.{option_map_or}
use Rattle.std.proofs.lemmas.Bool.{cases_eq, cond-true, cond-false, ne_eqb}
use Rattle.std.proofs.Math.Seq.{take-suc}
use Rattle.std.proofs.lemmas.List.Elements.{All-cons, All-contains, All-more, Contains-append_left, Contains-get_or, Contains-push}
use Rattle.char_files.specs.SiteMap.{IsPut}
use Rattle.operations.specs.NameSet.{Range}
use Rattle.note_admission.specs.Kept.{AreSeenBy, AreSeenIn, RangesEndBy, HasPlace, Offsets, Seen, end_in, offsets_of}

module _ (old new : Offsets) (site value : ℕ) (put : IsPut old site value new) where
  found : (other : ℕ) → site ≡ other → lookup (nat_eq other) new ≡ Some value
  found other same = put other ∙ cond-true _ _ _ (eq-eqb site other same)

  left : (other : ℕ) → (site ≡ other → ⊥) → lookup (nat_eq other) new ≡ lookup (nat_eq other) old
  left other apart = put other ∙ cond-false _ _ _ (ne_eqb site other apart)

  -- places stay
  pub places_stay : (other : ℕ) → HasPlace old other → HasPlace new other
  places_stay other has = elim (cases_eq site other) [
    | inl same ↦ subst IsSome (sym (found other same)) refl
    | inr apart ↦ subst IsSome (sym (left other apart)) has
  ]

  pub has_place : HasPlace new site
  has_place = subst IsSome (sym (found site refl)) refl

  pub put_end : (other : ℕ) → site ≡ other → end_in new other ≡ value
  put_end other same = ap (λ o. option_map_or (λ (n : ℕ). n) o 0) (found other same)

  pub other_end : (other : ℕ) → (site ≡ other → ⊥) → end_in new other ≡ end_in old other
  other_end other apart = ap (λ o. option_map_or (λ (n : ℕ). n) o 0) (left other apart)

-- a place says nothing
pub same_ends : (old new : Offsets) (site : ℕ) → lookup (nat_eq site) old ≡ None → IsPut old site 0 new
    → (other : ℕ) → end_in new other ≡ end_in old other
same_ends old new site none put other = elim (cases_eq site other) [
  | inl same ↦ put_end old new site 0 put other same
      ∙ sym (ap (λ o. option_map_or (λ (n : ℕ). n) o 0) (subst (λ (n : ℕ). lookup (nat_eq n) old ≡ None) same none))
  | inr apart ↦ other_end old new site 0 put other apart
]

abbrev Ends : (site off : ℕ) → Range → Type 0
Ends site off x = x.site ≡ site → x.at + x.len ≤ off

-- one range alone
alone : (r : Range) (site off : ℕ) → (r.site ≡ site → r.at + r.len ≤ off) → RangesEndBy (r ∷ []) site off
alone r site off ends =
    All-cons (λ (x : Range). x.site ≡ site → x.at + x.len ≤ off) r [] ends (λ k d lt. absurd (omega arith))

-- one range was mentioned
pub raised : (old new : Offsets) (r : Range) (value : ℕ) → value ≡ max (r.at + r.len) (end_in old r.site)
    → IsPut old r.site value new → AreSeenIn old (r ∷ []) new
raised old new r value is put site off = elim (cases_eq r.site site) [
  | inl same ↦
      let end = put_end old new r.site value put site same in
      let was : end_in old r.site ≡ end_in old site = ap (end_in old) same in (
        λ le. (omega arith, alone r site off (λ on. omega arith)),
        λ h. let le = h.0 in let ends = h.1 zero r (omega arith) same in omega arith,
      )
  | inr apart ↦
      let end = other_end old new r.site value put site apart in (
        λ le. (omega arith, alone r site off (λ on. absurd (apart on))),
        λ h. let le = h.0 in omega arith,
      )
]

-- one range more
pub seen_more : (old mid new : Offsets) (ranges : List Range) (i : ℕ) (r : Range) → i < length ranges
    → get_or ranges i r ≡ r → AreSeenIn old (take i ranges) mid → AreSeenIn mid (r ∷ []) new
    → AreSeenIn old (take (i + 1) ranges) new
seen_more old mid new ranges i r lt at before here site off = (
  λ le.
      let (le', own) = (here site off).0 le in
      let (was, ends) = (before site off).0 le' in (
        was,
        All-more (λ (x : Range). x.site ≡ site → x.at + x.len ≤ off) ranges i r lt ends
            (subst (λ (x : Range). x.site ≡ site → x.at + x.len ≤ off) (sym at) (own zero r (omega arith))),
      ),
  λ h.
      let all : RangesEndBy (take i ranges ++ r ∷ []) site off =
      subst (λ (xs : List Range). RangesEndBy xs site off) with_next h.1 in
      let ends : RangesEndBy (take i ranges) site off = λ k d less.
      All-contains (Ends site off) (take i ranges ++ r ∷ []) (get_or (take i ranges) k d) all
      (Contains-append_left (take i ranges) (r ∷ []) (get_or (take i ranges) k d)
      (Contains-get_or (take i ranges) k d less)) in
      let own = All-contains (Ends site off) (take i ranges ++ r ∷ []) r all (Contains-push (take i ranges) r) in
      (here site off).1 ((before site off).1 (h.0, ends), alone r site off own),
)
  where
    with_next : take (i + 1) ranges ≡ take i ranges ++ r ∷ []
    with_next =
        let next : i + 1 ≡ suc i = omega arith in
        ap (λ (n : ℕ). take n ranges) next ∙ (take-suc ranges i r lt ∙ ap (λ (x : Range). take i ranges ++ x ∷ []) at)

-- a chain's are raised
pub seen_by : (old new : Seen) (chain : ℕ) (mid raised : Offsets) (ranges : List Range)
    → lookup (nat_eq chain) old ≡ Some mid → IsPut old chain raised new → AreSeenIn mid ranges raised
    → AreSeenBy old chain ranges new
seen_by old new chain mid raised ranges was put here =
    let of_old : offsets_of old chain ≡ mid = ap (λ o. option_map_or (λ (x : Offsets). x) o []) was in
    let of_new : offsets_of new chain ≡ raised =
    ap (λ o. option_map_or (λ (x : Offsets). x) o []) (put chain ∙ cond-true _ _ _ (eq-eqb chain chain refl)) in
    record {
      own = subst (λ (xs : Offsets). AreSeenIn xs ranges (offsets_of new chain)) (sym of_old)
          (subst (λ (xs : Offsets). AreSeenIn mid ranges xs) (sym of_new) here);
      others = λ other apart. ap (λ o. option_map_or (λ (x : Offsets). x) o [])
          (put other ∙ cond-false _ _ _ (ne_eqb chain other (λ same. apart (sym same))));
    }
