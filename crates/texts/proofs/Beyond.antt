-- Where the operations beyond fronts begin, of one site after the other.
use Rattle.std.proofs.Common.{◌≡◌, ◌≢◌, ℕ, suc, ◌+◌, ◌<◌, ◌≤◌, true, false, inl, inr, List, [], ◌∷◌, ◌++◌, get_or, length, take, Some, None, Option}
use Rattle.std.proofs.Common.{Contains, ap, refl, sym, subst, ◌∙◌, arith}
use Rattle.std.specs.Prelude.{All, AllPairs, IfSome, min, slice_get}
use Rattle.std.proofs.lemmas.Bool.{cases_Bool, cases_eq, cases_lt, lt-ltb, ltb-true}
use Rattle.std.proofs.lemmas.List.{get_or-take, length-take, take_more}
use Rattle.std.proofs.lemmas.List.Elements.{All-contains, Contains-push}
use Rattle.std.proofs.lemmas.Option.{get_or_from_slice_get, slice_get_past, slice_get_within}
use Rattle.operations.specs.Operation.{Operation}
use Rattle.operations.specs.Spelling.{HasSpelling}
use Rattle.set_laws.specs.Fronts.{front_of, IsHeld}
use Rattle.set_laws.specs.Sets.{AreIdentified, KeepsCauses}
use Rattle.set_laws.proofs.Fronts.{held_up_to, up_to_front}
use Rattle.op_log.specs.Seen.{IsKnownIn}
use Rattle.texts.specs.Beyond.{BeginsBeyond}
use Rattle.texts.specs.Fronts.{front_in, is_beyond}
use Rattle.texts.specs.declared.front.Front.{Front}

module _ (fronts : List Front) (ops : List Operation) where
  -- an operation beyond the fronts has a number above its site's
  above : (op : Operation) (site : ℕ) → op.site ≡ site → is_beyond fronts op ≡ true → front_in fronts site < op.seq
  above op site on beyond =
      subst (λ (s : ℕ). front_in fronts s < op.seq) on (ltb-true (front_in fronts op.site) op.seq beyond)

  -- behind all nothing stands
  pub none_behind : (n : ℕ) → n ≡ length ops → IfSome (slice_get ops n) (λ op. is_beyond fronts op ≡ true)
  none_behind n is =
      subst (λ o. IfSome o (λ op. is_beyond fronts op ≡ true)) (sym (slice_get_past ops n (omega arith))) tt

  -- a site whose front is no further has none
  pub none_begins : (site place : ℕ) → front_of ops site ≤ front_in fronts site → place ≡ length ops
      → BeginsBeyond fronts ops site place
  none_begins site place up_to is = record {
    within = omega arith;
    here = none_behind place is;
    before = λ k op at on beyond.
        let past : front_in fronts site < op.seq = above op site on beyond in
        let held : Contains ops op = (k, slice_get_within ops k op at, get_or_from_slice_get ops k op op at) in
        let most : op.seq ≤ front_of ops site = subst (λ (s : ℕ). op.seq ≤ front_of ops s) on (up_to_front ops op held) in
        absurd (omega arith);
  }

  module _ (in_order : KeepsCauses ops) (known : AreIdentified ops) (once : AllPairs (λ a b. a ≢ b) ops)
      (site place : ℕ) (first : Operation) (there : slice_get ops place ≡ Some first) (of_site : first.site ≡ site)
      (next : first.seq ≡ front_in fronts site + 1) where
    -- none of the site's stands before the first one
    none_before : (k : ℕ) (op : Operation) → slice_get ops k ≡ Some op → op.site ≡ site → is_beyond fronts op ≡ true
        → place ≤ k
    none_before k op at on beyond =
        let past : front_in fronts site < op.seq = above op site on beyond in
        let within : k < length ops = slice_get_within ops k op at in
        let here : get_or ops k op ≡ op = get_or_from_slice_get ops k op op at in
        let part : take (k + 1) ops ≡ take k ops ++ op ∷ [] =
        take_more ops k op within ∙ ap (λ (o : Operation). take k ops ++ o ∷ []) here in
        let held : Contains (take (k + 1) ops) op =
        subst (λ (l : List Operation). Contains l op) (sym part) (Contains-push (take k ops) op) in
        let (o, (j, lt, is), same, seq) =
        held_up_to (take (k + 1) ops) (in_order (k + 1)).predecessors op held first.seq (omega arith) (omega arith) in
        let few = length-take (k + 1) ops in
        let early : j < k + 1 = omega arith in
        let found : get_or ops j o ≡ o = sym (get_or-take (k + 1) ops j o early) ∙ is in
        let one : o ≡ first =
        known.unique o first (j, omega arith, found)
        (place, slice_get_within ops place first there, get_or_from_slice_get ops place first first there)
        (same ∙ on ∙ sym of_site) seq in
        elim (cases_lt k place) [
          | inr later ↦ later
          | inl before ↦ absurd (once j place first (omega arith) (slice_get_within ops place first there)
              (subst (λ (x : Operation). get_or ops j x ≡ x) one found
              ∙ sym (get_or_from_slice_get ops place first first there)))
        ]

    pub begins_here : BeginsBeyond fronts ops site place
    begins_here = record {
      within = let lt = slice_get_within ops place first there in omega arith;
      here = subst (λ o. IfSome o (λ op. is_beyond fronts op ≡ true)) (sym there)
          (lt-ltb (front_in fronts first.site) first.seq
          (subst (λ (s : ℕ). front_in fronts s < first.seq) (sym of_site) (omega arith)));
      before = none_before;
    }

-- ---- of all sites

-- what stands at this place, if something does, is beyond the fronts, and none of these sites' is before that
pub record BeginsSoFar (fronts : List Front) (ops : List Operation) (rooms : List (ℕ × ℕ)) (n first : ℕ) : Type 0 where
  pub within : first ≤ length ops
  pub here : IfSome (slice_get ops first) (λ op. is_beyond fronts op ≡ true)
  pub before : (at site room : ℕ) → at < n → slice_get rooms at ≡ Some (site, room) → 0 < site
      → (k : ℕ) (op : Operation) → slice_get ops k ≡ Some op → op.site ≡ site → is_beyond fronts op ≡ true → first ≤ k

module _ (fronts : List Front) (ops : List Operation) (rooms : List (ℕ × ℕ)) where
  pub begins_at_all : (first : ℕ) → first ≡ length ops → BeginsSoFar fronts ops rooms 0 first
  begins_at_all first is = record {
    within = omega arith;
    here = none_behind fronts ops first is;
    before = λ at site room less. absurd (omega arith);
  }

  pub begins_more : (n first other new : ℕ) → BeginsSoFar fronts ops rooms n first → other ≤ length ops
      → IfSome (slice_get ops other) (λ op. is_beyond fronts op ≡ true)
      → IfSome (slice_get rooms n) (λ known. 0 < known.0 → BeginsBeyond fronts ops known.0 other)
      → new ≡ min first other → BeginsSoFar fronts ops rooms (n + 1) new
  begins_more n first other new so within here begins is = record {
    within = let le = so.within in omega arith;
    here = elim (cases_lt first other) [
      | inl less ↦ subst (λ (m : ℕ). IfSome (slice_get ops m) (λ op. is_beyond fronts op ≡ true)) (omega arith) so.here
      | inr least ↦ subst (λ (m : ℕ). IfSome (slice_get ops m) (λ op. is_beyond fronts op ≡ true)) (omega arith) here
    ];
    before = λ at site room less there some k op stands on beyond. elim (cases_eq at n) [
      | inr apart ↦ let le = so.before at site room (omega arith) there some k op stands on beyond in omega arith
      | inl last ↦
          let one = subst (λ o. IfSome o (λ known. 0 < known.0 → BeginsBeyond fronts ops known.0 other))
          (ap (slice_get rooms) (sym last) ∙ there) begins in
          let le = (one some).before k op stands on beyond in omega arith
    ];
  }

  -- where all sites are known, none stands before
  pub none_beyond : (known : (op : Operation) → Contains ops op → IsKnownIn rooms op.site) → All HasSpelling ops
      → (n first : ℕ) → length rooms ≤ n → BeginsSoFar fronts ops rooms n first
      → (k : ℕ) → k < first → IfSome (slice_get ops k) (λ op. is_beyond fronts op ≡ false)
  none_beyond known spelled n first all so k less = by (slice_get ops k) refl
    where
      by : (o : Option Operation) → slice_get ops k ≡ o → IfSome o (λ op. is_beyond fronts op ≡ false)
      by None is = tt
      by (Some op) is = elim (cases_Bool (is_beyond fronts op)) [
        | inr not_so ↦ not_so
        | inl beyond ↦
            let held : Contains ops op = (k, slice_get_within ops k op is, get_or_from_slice_get ops k op op is) in
            let (at, room, there) = known op held in
            let within = slice_get_within rooms at (op.site, room) there in
            let le : first ≤ k = so.before at op.site room (omega arith) there (All-contains HasSpelling ops op spelled held).site.0
            k op is refl beyond in
            absurd (omega arith)
      ]
