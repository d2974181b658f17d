-- The sites that have operations, by the first operation of each.
use Rattle.std.proofs.Common.{◌≡◌, ℕ, suc, ◌<◌, ◌↔◌, true, inl, inr, false, eqb, List, [], ◌∷◌, map}
use Rattle.std.proofs.Common.{AllPairs, Contains, IsPermutation, get_or, sym, ap, subst, ◌∙◌, eq-eqb, arith}
use Rattle.std.proofs.Common.{zero, ◌+◌, ◌++◌, ◌==◌, length, take, slice_get, if◌then◌else◌}
use Rattle.std.specs.Prelude.{IfSome}
use Rattle.std.specs.List.{IsDistinct}
use Rattle.std.specs.List.Sorted.{IsNonDecreasing}
use Rattle.std.proofs.lemmas.Bool.{cases_Bool, cases_eq, cond-true, cond-false, eqb-true, ne_eqb, both_ways}
use Rattle.std.proofs.lemmas.List.Elements.{Contains-get_or, recursion_from_All}
use Rattle.std.proofs.lemmas.List.Kept.{AllPairs-from_increasing}
use Rattle.std.proofs.lemmas.List.Sorted.{Contains-permutation, IsPermutation-sym}
use Rattle.std.proofs.lemmas.Map.Keys.{IsDistinct-cons, IsDistinct-IsPermutation, IsStrictlyIncreasing-from_distinct}
use Rattle.operations.specs.Operation.{Operation}
use Rattle.set_laws.specs.Fronts.{front_of, AreSites}
use Rattle.set_laws.specs.Sets.{AreHeldToTheFront}
use Rattle.set_laws.proofs.Picking.{Contains-head, Contains-tail, Contains-cases}
use Rattle.op_log.specs.Logged.{first_sites}
use Rattle.op_log.proofs.Files.{within_front}

-- each operation has an identity of its own
abbrev pub AreOnce : List Operation → Type 0
AreOnce ops = AllPairs (λ (a b : Operation). a.site ≡ b.site → a.seq ≡ b.seq → ⊥) ops

with_first : (o : Operation) (ops : List Operation) → eqb o.seq 1 ≡ true
    → first_sites (o ∷ ops) ≡ o.site ∷ first_sites ops
with_first o ops e = ap (map (λ (x : Operation). x.site)) (cond-true _ _ _ e)

without_other : (o : Operation) (ops : List Operation) → eqb o.seq 1 ≡ false
    → first_sites (o ∷ ops) ≡ first_sites ops
without_other o ops e = ap (map (λ (x : Operation). x.site)) (cond-false _ _ _ e)

-- one operation more
first_of : (ops : List Operation) (k site seq : ℕ) → k < length ops
    → IfSome (slice_get ops k) (λ op. (site ≡ op.site) × (seq ≡ op.seq))
    → first_sites (take (suc k) ops) ≡ first_sites (take k ops) ++ (if seq == 1 then site ∷ [] else [])
first_of [] k site seq lt told = absurd (omega arith)
first_of (o ∷ ops) zero site seq lt (on, at) =
    elim (cases_Bool (eqb o.seq 1)) [
      | inl e ↦
          with_first o [] e
          ∙ sym (ap (λ (n : ℕ). if n == 1 then site ∷ [] else []) at ∙ cond-true _ _ _ e ∙ ap (λ (s : ℕ). s ∷ []) on)
      | inr e ↦
          without_other o [] e ∙ sym (ap (λ (n : ℕ). if n == 1 then site ∷ [] else []) at ∙ cond-false _ _ _ e)
    ]
first_of (o ∷ ops) (suc k) site seq lt told =
    let more : List ℕ = if seq == 1 then site ∷ [] else [] in
    let rest = first_of ops k site seq (omega arith) told in
    elim (cases_Bool (eqb o.seq 1)) [
      | inl e ↦
          with_first o (take (suc k) ops) e ∙ ap (λ (xs : List ℕ). o.site ∷ xs) rest
          ∙ sym (ap (λ (xs : List ℕ). xs ++ more) (with_first o (take k ops) e))
      | inr e ↦
          without_other o (take (suc k) ops) e ∙ rest
          ∙ sym (ap (λ (xs : List ℕ). xs ++ more) (without_other o (take k ops) e))
    ]

pub first_sites_more : (ops : List Operation) (k site seq : ℕ) → k < length ops
    → IfSome (slice_get ops k) (λ op. (site ≡ op.site) × (seq ≡ op.seq)) → (old new : List ℕ)
    → old ≡ first_sites (take k ops) → new ≡ old ++ (if seq == 1 then site ∷ [] else [])
    → new ≡ first_sites (take (k + 1) ops)
first_sites_more ops k site seq lt told old new was is =
    let next : suc k ≡ k + 1 = omega arith in
    is ∙ ap (λ (xs : List ℕ). xs ++ (if seq == 1 then site ∷ [] else [])) was
    ∙ sym (first_of ops k site seq lt told) ∙ ap (λ (n : ℕ). first_sites (take n ops)) next

-- such a site has a first operation
told_by_first : (ops : List Operation) (site : ℕ) → Contains (first_sites ops) site
    → (op : Operation) × Contains ops op × (op.site ≡ site) × (op.seq ≡ 1)
told_by_first [] site (k, lt, is) = absurd (omega arith)
told_by_first (o ∷ ops) site h =
    elim (cases_Bool (eqb o.seq 1)) [
      | inl e ↦
          elim (Contains-cases o.site (first_sites ops) site
          (subst (λ (xs : List ℕ). Contains xs site) (with_first o ops e) h)) [
            | inl is ↦ (o, Contains-head o ops, is, eqb-true _ _ e)
            | inr after ↦ let (op, held, on, at) = told_by_first ops site after in
                (op, Contains-tail o ops op held, on, at)
          ]
      | inr e ↦
          let (op, held, on, at) =
          told_by_first ops site (subst (λ (xs : List ℕ). Contains xs site) (without_other o ops e) h) in
          (op, Contains-tail o ops op held, on, at)
    ]

-- and a first operation's site is one of them
first_told : (ops : List Operation) (op : Operation) → Contains ops op → op.seq ≡ 1
    → Contains (first_sites ops) op.site
first_told [] op (k, lt, is) at = absurd (omega arith)
first_told (o ∷ ops) op held at =
    elim (cases_Bool (eqb o.seq 1)) [
      | inl e ↦
          subst (λ (xs : List ℕ). Contains xs op.site) (sym (with_first o ops e))
          (elim (Contains-cases o ops op held) [
            | inl is ↦
                subst (Contains (o.site ∷ first_sites ops)) (ap (λ (x : Operation). x.site) is)
                (Contains-head o.site (first_sites ops))
            | inr after ↦ Contains-tail o.site (first_sites ops) op.site (first_told ops op after at)
          ])
      | inr e ↦
          subst (λ (xs : List ℕ). Contains xs op.site) (sym (without_other o ops e))
          (elim (Contains-cases o ops op held) [
            | inl is ↦
                absurd (both_ways _ e (eq-eqb _ _ (ap (λ (x : Operation). x.seq) is ∙ at)))
            | inr after ↦ first_told ops op after at
          ])
    ]

-- it is the site of no operation after
apart : (o : Operation) (ops : List Operation) → AreOnce (o ∷ ops) → o.seq ≡ 1 → (site : ℕ)
    → Contains (first_sites ops) site → eqb o.site site ≡ false
apart o ops once at site h =
    ne_eqb o.site site (λ on.
    let (op, held, there, first) = told_by_first ops site h in
    let (j, lt, is) = held in
    once 0 (suc j) op (omega arith) (omega arith) (on ∙ sym there ∙ ap (λ (x : Operation). x.site) (sym is))
    (at ∙ sym first ∙ ap (λ (x : Operation). x.seq) (sym is)))

-- each site stands there once
distinct : (ops : List Operation) → AreOnce ops → IsDistinct eqb (first_sites ops)
unfolding IsDistinct
distinct [] once = tt
distinct (o ∷ ops) once =
    let rest : AreOnce ops = λ i j d less lt. once (suc i) (suc j) d (omega arith) (omega arith) in
    elim (cases_Bool (eqb o.seq 1)) [
      | inr e ↦ subst (IsDistinct eqb) (sym (without_other o ops e)) (distinct ops rest)
      | inl e ↦ subst (IsDistinct eqb) (sym (with_first o ops e))
          (IsDistinct-cons eqb o.site (first_sites ops) (recursion_from_All (λ (s : ℕ). eqb o.site s ≡ false)
          (first_sites ops) (λ k d lt. apart o ops once (eqb-true _ _ e) (get_or (first_sites ops) k d)
          (Contains-get_or (first_sites ops) k d lt))) (distinct ops rest))
    ]

eqb_flips : (x y : ℕ) → eqb x y ≡ eqb y x
eqb_flips x y =
    elim (cases_eq x y) [
      | inl is ↦ eq-eqb x y is ∙ sym (eq-eqb y x (sym is))
      | inr apart ↦ ne_eqb x y apart ∙ sym (ne_eqb y x (λ is. apart (sym is)))
    ]

module _ (ops : List Operation) (sites : List ℕ) (perm : IsPermutation (first_sites ops) sites) where
  -- sorted, they rise
  sites_rise : AreOnce ops → IsNonDecreasing sites → AllPairs (λ (a b : ℕ). a < b) sites
  sites_rise once sorted =
      AllPairs-from_increasing sites (IsStrictlyIncreasing-from_distinct sites sorted
      (IsDistinct-IsPermutation eqb eqb_flips (first_sites ops) sites perm (distinct ops once)))

  -- and are those that have a front above 0
  sites_told : AreHeldToTheFront ops → (site : ℕ) → Contains sites site ↔ (0 < front_of ops site)
  sites_told held site = (
    λ h. let (op, here, on, at) = told_by_first ops site
        (Contains-permutation sites (first_sites ops) site (IsPermutation-sym (first_sites ops) sites perm) h) in
        let le = within_front ops op site here on in omega arith,
    λ some. let (op, here, on, at) = (held site 1).1 (omega arith, omega arith) in
        Contains-permutation (first_sites ops) sites site perm
        (subst (Contains (first_sites ops)) on (first_told ops op here at)),
  )

  -- so the first operations' sites, sorted, are the sites
  pub sites_sorted : AreOnce ops → AreHeldToTheFront ops → IsNonDecreasing sites → AreSites ops sites
  sites_sorted once held sorted = record { all = sites_told held; rising = sites_rise once sorted }
