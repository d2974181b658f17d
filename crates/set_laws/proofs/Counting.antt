-- Fronts, lengths of files and greatest stamps with one operation more.
use Rattle.std.proofs.Common.{◌≡◌, ℕ, suc, ◌+◌, ◌-◌, ◌<◌, ◌≤◌, inl, inr, max, cond, eqb, List, [], ◌∷◌}
use Rattle.std.proofs.Common.{◌++◌, false, Contains, refl, sym, ap, subst, ◌∙◌, eq-eqb, arith}
use Rattle.std.proofs.lemmas.Bool.{cases_Bool, cases_lt, cond-true, cond-false, eqb-true}
use Rattle.std.proofs.lemmas.List.Elements.{Contains-append_left, Contains-push}
use Rattle.operations.specs.Operation.{Operation, appended_len}
use Rattle.tree_order.specs.Good.{Good, IsPredecessor, file_before}
use Rattle.set_laws.specs.Fronts.{greatest, of_site, front_of, file_len, greatest_stamp}
use Rattle.set_laws.specs.Fronts.{greatest_stamp_of}
use Rattle.set_laws.specs.Sets.{IsPartOf, AreIdentified}
use Rattle.set_laws.specs.Verdict.{IsNew, FollowsOn, HasVerdict, IsAboveCauses, ready}
use Rattle.set_laws.specs.Growing.{AreCountedOn, AreDeterminedByCounts, HasLowerStamps, IsOwnNext}
use Rattle.set_laws.proofs.Fronts.{greatest_bound, held_to_front, up_to_front, own_stamps_rise}
use Rattle.set_laws.proofs.Fronts.{site_bound, site_reached}
use Rattle.set_laws.proofs.Lengths.{same_file, appended_by}
use Rattle.set_laws.proofs.Covered.{one_insert}
use Rattle.set_laws.proofs.Files.{here_is_char, char_is_here, follows_by_front, front_by_follows, next_seq}
use Rattle.set_laws.proofs.Files.{next_file, past_front}
use Rattle.set_laws.proofs.OneMore.{with_one, with_one_identified}

pub greatest-push : (f : Operation → ℕ) (ops : List Operation) (op : Operation)
    → greatest f (ops ++ op ∷ []) ≡ max (f op) (greatest f ops)
greatest-push f [] op = refl
greatest-push f (o ∷ ops) op = let rest = greatest-push f ops op in omega (arith, rest)

-- a site's greatest stamp
stamp_on : (ops : List Operation) (op : Operation) (site : ℕ) → greatest_stamp_of (with_one ops op) site
    ≡ cond (eqb op.site site) (max op.stamp (greatest_stamp_of ops site)) (greatest_stamp_of ops site)
stamp_on ops op site =
    let f : Operation → ℕ = of_site site (λ o. o.stamp) in
    let before : ℕ = greatest_stamp_of ops site in
    let push : greatest_stamp_of (with_one ops op) site ≡ max (f op) before = greatest-push f ops op in
    elim (cases_Bool (eqb op.site site)) [
      | inl e ↦ let is : f op ≡ op.stamp = cond-true _ _ _ e in
          let most : greatest_stamp_of (with_one ops op) site ≡ max op.stamp before = omega arith in
          most ∙ sym (cond-true _ _ _ e)
      | inr e ↦ let is : f op ≡ 0 = cond-false _ _ _ e in
          let same : greatest_stamp_of (with_one ops op) site ≡ before = omega arith in
          same ∙ sym (cond-false _ _ _ e)
    ]

module _ (ops : List Operation) (op : Operation) (good : Good ops) (known : AreIdentified ops)
    (new : IsNew ops op) (follows : FollowsOn ops op) where
  front_of_own : front_of (with_one ops op) op.site ≡ op.seq
  front_of_own =
      let f : Operation → ℕ = of_site op.site (λ o. o.seq) in
      let push : front_of (with_one ops op) op.site ≡ max (f op) (front_of ops op.site) =
      greatest-push f ops op in
      let is : f op ≡ op.seq = own in
      let at = next_seq ops good op new follows in
      omega arith
    where
      own : of_site op.site (λ o. o.seq) op ≡ op.seq
      own = cond-true _ _ _ (eq-eqb op.site op.site refl)

  front_of_other : (site : ℕ) → eqb op.site site ≡ false
      → front_of (with_one ops op) site ≡ front_of ops site
  front_of_other site apart =
      let f : Operation → ℕ = of_site site (λ o. o.seq) in
      let push : front_of (with_one ops op) site ≡ max (f op) (front_of ops site) = greatest-push f ops op in
      let is : f op ≡ 0 = cond-false _ _ _ apart in
      omega arith

  known' : AreIdentified (with_one ops op)
  known' = with_one_identified ops op known new

  old : IsPartOf ops (with_one ops op)
  old = Contains-append_left ops (op ∷ [])

  file_of_own : file_len (with_one ops op) op.site ≡ file_len ops op.site + appended_len op.kind
  file_of_own =
      let front = ap (λ (n : ℕ). file_before (with_one ops op) op.site (suc n)) front_of_own in
      let before = next_file ops (with_one ops op) good old known' op new follows in
      let len = appended_by (with_one ops op) known' op (Contains-push ops op) in
      omega (arith, front, before, len)

  file_of_other : (site : ℕ) → eqb op.site site ≡ false → file_len (with_one ops op) site ≡ file_len ops site
  file_of_other site apart =
      ap (λ (n : ℕ). file_before (with_one ops op) site (suc n)) (front_of_other site apart)
      ∙ sym (same_file ops (with_one ops op) old known' site (suc (front_of ops site))
      (λ seq some lt. held_to_front ops good.predecessors site seq some (omega arith)))

  pub counted_on : AreCountedOn ops op
  counted_on = record {
    front = λ site. elim (cases_Bool (eqb op.site site)) [
      | inl e ↦ subst (λ (s : ℕ). front_of (with_one ops op) s ≡ op.seq) (eqb-true _ _ e) front_of_own
          ∙ sym (cond-true _ _ _ e)
      | inr e ↦ front_of_other site e ∙ sym (cond-false _ _ _ e)
    ];
    file = λ site. elim (cases_Bool (eqb op.site site)) [
      | inl e ↦
          subst (λ (s : ℕ). file_len (with_one ops op) s ≡ file_len ops s + appended_len op.kind)
          (eqb-true _ _ e)
          file_of_own
          ∙ sym (cond-true _ _ _ e)
      | inr e ↦ file_of_other site e ∙ sym (cond-false _ _ _ e)
    ];
    site_stamp = stamp_on ops op;
    stamp = greatest-push (λ o. o.stamp) ops op;
  }

-- the predecessor of a new operation is at the front, and has the greatest stamp of its site
stamp_of_predecessor : (ops : List Operation) (op : Operation) → Good ops → AreIdentified ops → IsNew ops op
    → (p : Operation) → Contains ops p → IsPredecessor p op → p.stamp ≡ greatest_stamp_of ops op.site
stamp_of_predecessor ops op good known new p held is =
    subst (λ (s : ℕ). p.stamp ≡ greatest_stamp_of ops s) is.0
    (bounded (site_bound (λ o. o.stamp) ops p held) (site_reached (λ o. o.stamp) ops p.site))
  where
    lower : (x : Operation) → Contains ops x → x.site ≡ p.site → x.stamp ≤ p.stamp
    lower x there on =
        let past = past_front ops good op new in
        let front : x.seq ≤ front_of ops op.site =
        subst (λ (s : ℕ). x.seq ≤ front_of ops s) (on ∙ is.0) (up_to_front ops x there) in
        let next = is.1 in
        let far : x.seq + (p.seq - x.seq) ≡ p.seq = omega arith in
        own_stamps_rise ops good known (p.seq - x.seq) x p there held on far

    bounded : p.stamp ≤ greatest_stamp_of ops p.site
        → (0 < greatest_stamp_of ops p.site
        → (x : Operation) × Contains ops x × (x.site ≡ p.site) × (x.stamp ≡ greatest_stamp_of ops p.site))
        → p.stamp ≡ greatest_stamp_of ops p.site
    bounded least reached =
        elim (cases_lt 0 (greatest_stamp_of ops p.site)) [
          | inr none ↦ omega arith
          | inl some ↦ let (x, there, on, at) = reached some in let le = lower x there on in omega arith
        ]

pub determined_by_counts : (ops : List Operation) (op : Operation) → Good ops → AreIdentified ops → IsNew ops op
    → AreDeterminedByCounts ops op
determined_by_counts ops op good known new = record {
  here = λ name. (here_is_char ops good known name, char_is_here ops good known name);
  follows = (front_by_follows ops op, follows_by_front ops good op);
  predecessor = stamp_of_predecessor ops op good known new;
}

-- a predecessor and an Insert of a name are the only ones
pub above_causes : (ops : List Operation) (op : Operation) → Good ops → AreIdentified ops
    → HasLowerStamps ops op → IsAboveCauses ops op
above_causes ops op good known lower p held (inl (on, next)) =
    let counted = known.counted p held in
    let (q, there, is, less) = lower.predecessor (omega arith) in
    let q_next = is.1 in
    let same : q ≡ p = known.unique q p there held (is.0 ∙ sym on) (omega arith) in
    subst (λ (o : Operation). o.stamp < op.stamp) same less
above_causes ops op good known lower p held (inr (name, m, ins)) =
    let (i, is, less) = lower.mentions name m in
    let same : i ≡ p = one_insert ops known good.begins name i p is.held held is.inserts ins in
    subst (λ (o : Operation). o.stamp < op.stamp) same less

pub own_next_ready : (ops : List Operation) (op : Operation) → Good ops → AreIdentified ops
    → IsOwnNext ops op → HasVerdict ops op ready
own_next_ready ops op good known next = (
  follows_by_front ops good op (let at = next.seq in omega arith),
  record { begins = next.begins; own = λ name m on. next.mentions name m },
  λ name m apart. next.mentions name m,
  λ p held cause.
      let bound : p.stamp ≤ greatest_stamp ops = greatest_bound (λ o. o.stamp) ops p held in
      let less = next.stamp in
      omega arith,
)
