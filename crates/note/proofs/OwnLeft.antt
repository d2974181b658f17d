-- A site's own operations of a text beyond what is admitted: their seqs go on without a gap.
use Rattle.std.proofs.Common.{◌≡◌, ◌≢◌, ℕ, zero, suc, ◌+◌, ◌<◌, ◌≤◌, inl, inr, max, Bool, true, false, cond, eqb, ltb, List, [], ◌∷◌, ◌++◌, length, take, filter, get_or, Some, Contains, refl, sym, ap, subst, ◌∙◌, arith, length-append}
use Rattle.std.specs.Prelude.{AllPairs, ◌&&◌, slice_get}
use Rattle.std.proofs.lemmas.Bool.{cases_Bool, cond-true, cond-false, eqb-true, ltb-true, ltb-false, le-ltb}
use Rattle.std.proofs.lemmas.List.{append-nil, get_or-take, length-take, take_more}
use Rattle.std.proofs.lemmas.List.Elements.{filter-append}
use Rattle.std.proofs.lemmas.Option.{get_or_from_slice_get, slice_get-get_or, slice_get_within}
use Rattle.operations.specs.Operation.{Operation}
use Rattle.tree_order.specs.Good.{Good}
use Rattle.set_laws.specs.Fronts.{front_of, of_site}
use Rattle.set_laws.specs.Sets.{AreIdentified, KeepsCauses}
use Rattle.set_laws.specs.Verdict.{FollowsOn, IsNew}
use Rattle.set_laws.proofs.Counting.{greatest-push}
use Rattle.set_laws.proofs.Files.{next_seq}
use Rattle.set_laws.proofs.Fronts.{up_to_front}
use Rattle.set_laws.proofs.Picking.{Contains-head, Contains-tail}
use Rattle.set_laws.proofs.Preceding.{causes_before, first_part_within}

-- whether an operation is of this site, beyond this seq
abbrev pub is_beyond : (site front : ℕ) → Operation → Bool
is_beyond site front op = eqb op.site site && ltb front op.seq

both_true : (a b : Bool) → (a && b) ≡ true → (a ≡ true) × (b ≡ true)
both_true true b h = (refl, h)
both_true false b h = absurd cc

none_filtered : (p : Operation → Bool) (xs : List Operation) → ((x : Operation) → Contains xs x → p x ≡ false)
    → filter p xs ≡ []
none_filtered p [] none = refl
none_filtered p (x ∷ xs) none =
    cond-false (p x) (x ∷ filter p xs) (filter p xs) (none x (Contains-head x xs))
    ∙ none_filtered p xs (λ y held. none y (Contains-tail x xs y held))

-- none of these is beyond their front
pub none_beyond : (all xs : List Operation) (site : ℕ) → ((x : Operation) → Contains xs x → Contains all x)
    → filter (λ op. is_beyond site (front_of all site) op) xs ≡ []
none_beyond all xs site among =
    none_filtered (λ op. is_beyond site (front_of all site) op) xs (λ x held. elim (cases_Bool (eqb x.site site)) [
      | inl here ↦
          let bound : x.seq ≤ front_of all site =
          subst (λ (s : ℕ). x.seq ≤ front_of all s) (eqb-true x.site site here) (up_to_front all x (among x held)) in
          ap (λ (b : Bool). b && ltb (front_of all site) x.seq) here ∙ le-ltb (front_of all site) x.seq bound
      | inr apart ↦ ap (λ (b : Bool). b && ltb (front_of all site) x.seq) apart
    ])

-- one operation more
pub one_more : (ops : List Operation) (n : ℕ) (op : Operation) → slice_get ops n ≡ Some op
    → take (n + 1) ops ≡ take n ops ++ op ∷ []
one_more ops n op is =
    take_more ops n op (slice_get_within ops n op is)
    ∙ ap (λ (o : Operation). take n ops ++ o ∷ []) (get_or_from_slice_get ops n op op is)

module _ (ops : List Operation) (p : Operation → Bool) (n : ℕ) (op : Operation) (is : slice_get ops n ≡ Some op) where
  filtered_more : filter p (take (n + 1) ops) ≡ filter p (take n ops) ++ cond (p op) (op ∷ []) []
  filtered_more = ap (filter p) (one_more ops n op is) ∙ filter-append p (take n ops) (op ∷ [])

  -- one that passes
  pub filtered_one : p op ≡ true → filter p (take (n + 1) ops) ≡ filter p (take n ops) ++ op ∷ []
  filtered_one passes =
      filtered_more ∙ ap (λ (l : List Operation). filter p (take n ops) ++ l) (cond-true (p op) (op ∷ []) [] passes)

  -- one that doesn't
  pub filtered_none : p op ≡ false → filter p (take (n + 1) ops) ≡ filter p (take n ops)
  filtered_none fails =
      filtered_more ∙ ap (λ (l : List Operation). filter p (take n ops) ++ l) (cond-false (p op) (op ∷ []) [] fails)
      ∙ append-nil (filter p (take n ops))

module _ (ops : List Operation) (good : Good ops) (in_order : KeepsCauses ops) (known : AreIdentified ops)
    (once : AllPairs (λ a b. a ≢ b) ops) where
  module _ (n : ℕ) (op : Operation) (is : slice_get ops n ≡ Some op) where
    within : n < length ops
    within = slice_get_within ops n op is

    at_place : get_or ops n op ≡ op
    at_place = get_or_from_slice_get ops n op op is

    held : Contains ops op
    held = (n, within, at_place)

    not_before : Contains (take n ops) op → ⊥
    not_before (k, less, same) =
        let in_front : k < n = omega (arith, less, length-take n ops) in
        once k n op in_front within (sym (get_or-take n ops k op in_front) ∙ same ∙ sym at_place)

    new_here : IsNew (take n ops) op
    new_here = record {
      counted = known.counted op held;
      unheld = λ h. let (o, here, site, seq) = h in
          not_before (subst (Contains (take n ops)) (known.unique o op (first_part_within ops n o here) held site seq) here);
    }

    follows_here : FollowsOn (take n ops) op
    follows_here later =
        let (p, there, before) = good.predecessors op held later in
        (p, causes_before ops in_order known n op p is there (inl before), before)

    -- it is the next one of its site
    next_of_site : op.seq ≡ suc (front_of (take n ops) op.site)
    next_of_site = next_seq (take n ops) (in_order n) op new_here follows_here

  module _ (site front : ℕ) where
    -- so many of the first are beyond the seq
    many_before : ℕ → ℕ
    many_before n = length (filter (λ op. is_beyond site front op) (take n ops))

    -- the site's seqs reach as far as the seq, and one further for each beyond it
    Reaches : ℕ → Type 0
    Reaches n = max front (front_of (take n ops) site) ≡ front + many_before n

    module _ (n : ℕ) (op : Operation) (is : slice_get ops n ≡ Some op) where
      front_more : front_of (take (n + 1) ops) site ≡ max (of_site site (λ o. o.seq) op) (front_of (take n ops) site)
      front_more =
          ap (λ (l : List Operation). front_of l site) (one_more ops n op is)
          ∙ greatest-push (of_site site (λ o. o.seq)) (take n ops) op

      next_here : eqb op.site site ≡ true → op.seq ≡ suc (front_of (take n ops) site)
      next_here here =
          subst (λ (s : ℕ). op.seq ≡ suc (front_of (take n ops) s)) (eqb-true op.site site here) (next_of_site n op is)

      reaches_more : Reaches n → Reaches (n + 1)
      unfolding Reaches many_before
      reaches_more so = elim (cases_Bool (eqb op.site site)) [
        | inl here ↦
            let seq : of_site site (λ o. o.seq) op ≡ op.seq = cond-true (eqb op.site site) op.seq 0 here in
            let next : op.seq ≡ suc (front_of (take n ops) site) = next_here here in
            elim (cases_Bool (ltb front op.seq)) [
              | inl past ↦
                  let own : is_beyond site front op ≡ true = ap (λ (b : Bool). b && ltb front op.seq) here ∙ past in
                  let more = ap length (filtered_one ops (λ o. is_beyond site front o) n op is own)
                  ∙ length-append (filter (λ o. is_beyond site front o) (take n ops)) (op ∷ []) in
                  let less : front < op.seq = ltb-true front op.seq past in
                  omega (arith, front_more, more)
              | inr up_to ↦
                  let other : is_beyond site front op ≡ false = ap (λ (b : Bool). b && ltb front op.seq) here ∙ up_to in
                  let same = ap length (filtered_none ops (λ o. is_beyond site front o) n op is other) in
                  let le : op.seq ≤ front = ltb-false front op.seq up_to in
                  omega (arith, front_more, same)
            ]
        | inr apart ↦
            let seq : of_site site (λ o. o.seq) op ≡ 0 = cond-false (eqb op.site site) op.seq 0 apart in
            let other : is_beyond site front op ≡ false = ap (λ (b : Bool). b && ltb front op.seq) apart in
            let same = ap length (filtered_none ops (λ o. is_beyond site front o) n op is other) in
            omega (arith, front_more, same)
      ]

    reaches : (d : Operation) (n : ℕ) → n ≤ length ops → Reaches n
    unfolding Reaches many_before
    reaches d zero le = omega arith
    reaches d (suc n) le =
        let lt : n < length ops = omega (arith, le) in
        let more : n + 1 ≡ suc n = omega arith in
        subst Reaches more
        (reaches_more n (get_or ops n d) (slice_get-get_or ops n d lt) (reaches d n (omega (arith, le))))

    -- so the next one beyond the seq has the next seq
    pub next_beyond : (n : ℕ) (op : Operation) → slice_get ops n ≡ Some op → is_beyond site front op ≡ true
        → op.seq ≡ front + length (filter (λ o. is_beyond site front o) (take n ops)) + 1
    unfolding Reaches many_before
    next_beyond n op is own =
        let (here, past) = both_true (eqb op.site site) (ltb front op.seq) own in
        let lt : n < length ops = slice_get_within ops n op is in
        let reached = reaches op n (omega (arith, lt)) in
        let next : op.seq ≡ suc (front_of (take n ops) site) = next_here n op is here in
        let less : front < op.seq = ltb-true front op.seq past in
        omega (arith, reached)
