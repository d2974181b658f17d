-- How long sites' files are, in a list and in one that has more.
use Rattle.std.proofs.Common.{◌≡◌, ℕ, zero, suc, ◌<◌, ◌≤◌, ◌⊎◌, inl, inr, List, [], ◌∷◌}
use Rattle.std.proofs.Common.{eqb, ◌&&◌, Contains, refl, sym, ap, ◌∙◌, eq-eqb, arith}
use Rattle.std.proofs.lemmas.Bool.{and_parts, and_from, cases_Bool, cases_lt, cond-true, cond-false}
use Rattle.std.proofs.lemmas.Bool.{eqb-true, both_ways}
use Rattle.operations.specs.Operation.{Operation, appended_len}
use Rattle.tree_order.specs.Good.{appended_len_at, file_before}
use Rattle.set_laws.specs.Fronts.{IsHeld}
use Rattle.set_laws.specs.Sets.{IsPartOf, AreIdentified}
use Rattle.tree_order.proofs.Files.{file_before_grows}
use Rattle.set_laws.proofs.Picking.{Contains-head, Contains-tail, Contains-cases, Contains-none}

-- an operation of the identity is held, and tells what is appended, or nothing is appended under it
cases_appended : (ops : List Operation) (site seq : ℕ)
    → ((op : Operation) × Contains ops op × (op.site ≡ site) × (op.seq ≡ seq)
    × (appended_len_at ops site seq ≡ appended_len op.kind)) ⊎ ((IsHeld ops site seq → ⊥)
    × (appended_len_at ops site seq ≡ 0))
cases_appended [] site seq = inr (λ h. Contains-none h.0 h.1, refl)
cases_appended (o ∷ ops) site seq =
    elim (cases_Bool (eqb o.site site && eqb o.seq seq)) [
      | inl e ↦ let same = and_parts (eqb o.site site) (eqb o.seq seq) e in
          inl (o, Contains-head o ops, eqb-true _ _ same.0, eqb-true _ _ same.1, cond-true _ _ _ e)
      | inr e ↦ elim (cases_appended ops site seq) [
        | inl found ↦ let (op, held, on, at, is) = found in
            inl (op, Contains-tail o ops op held, on, at, cond-false _ _ _ e ∙ is)
        | inr none ↦ inr (
          λ h. elim (Contains-cases o ops h.0 h.1) [
            | inl is ↦ both_ways _ e (and_from _ _ (eq-eqb _ _ (ap (λ (x : Operation). x.site) is ∙ h.2))
                (eq-eqb _ _ (ap (λ (x : Operation). x.seq) is ∙ h.3)))
            | inr held ↦ none.0 (h.0, held, h.2, h.3)
          ],
          cond-false _ _ _ e ∙ none.1,
        )
      ]
    ]

-- what is held in the part tells what is appended in the whole
same_appended : (a b : List Operation) → IsPartOf a b → AreIdentified b → (site seq : ℕ) → IsHeld a site seq
    → appended_len_at a site seq ≡ appended_len_at b site seq
same_appended a b part known site seq (op, held, on, at) =
    elim (cases_appended a site seq) [
      | inr none ↦ absurd (none.0 (op, held, on, at))
      | inl found ↦
          let (x, here, x_on, x_at, is) = found in
          elim (cases_appended b site seq) [
            | inr none ↦ absurd (none.0 (op, part op held, on, at))
            | inl other ↦
                let (y, there, y_on, y_at, y_is) = other in
                let same : x ≡ y = known.unique x y (part x here) there (x_on ∙ sym y_on) (x_at ∙ sym y_at) in
                is ∙ ap (λ (o : Operation). appended_len o.kind) same ∙ sym y_is
          ]
    ]

-- nothing is appended under seq 0
none_at_zero : (ops : List Operation) → AreIdentified ops → (site : ℕ) → appended_len_at ops site 0 ≡ 0
none_at_zero ops known site =
    elim (cases_appended ops site 0) [
      | inl found ↦ let (op, held, on, at, is) = found in
          let counted = known.counted op held in absurd (omega arith)
      | inr none ↦ none.1
    ]

pub part_identified : (a b : List Operation) → IsPartOf a b → AreIdentified b → AreIdentified a
part_identified a b part known = record {
  counted = λ op held. known.counted op (part op held);
  unique = λ x y held other. known.unique x y (part x held) (part y other);
}

-- what the part holds of a site, it holds at the same places of the site's file
pub same_file : (a b : List Operation) → IsPartOf a b → AreIdentified b → (site n : ℕ)
    → ((seq : ℕ) → 0 < seq → seq < n → IsHeld a site seq) → file_before a site n ≡ file_before b site n
same_file a b part known site zero below = refl
same_file a b part known site (suc zero) below =
    let none = none_at_zero a (part_identified a b part known) site in
    let none' = none_at_zero b known site in
    omega (arith, none, none')
same_file a b part known site (suc (suc n)) below =
    let rest : file_before a site (suc n) ≡ file_before b site (suc n) =
    same_file a b part known site (suc n) (λ seq some lt. below seq some (omega arith)) in
    let next = same_appended a b part known site (suc n) (below (suc n) (omega arith) (omega arith)) in
    omega (arith, rest, next)

-- what an operation appends is what its site appends under its seq
pub appended_by : (ops : List Operation) → AreIdentified ops → (op : Operation) → Contains ops op
    → appended_len_at ops op.site op.seq ≡ appended_len op.kind
appended_by ops known op held =
    elim (cases_appended ops op.site op.seq) [
      | inl found ↦ let (x, here, on, at, is) = found in
          is ∙ ap (λ (o : Operation). appended_len o.kind) (known.unique x op here held on at)
      | inr none ↦ absurd (none.0 (op, held, refl, refl))
    ]

-- nothing is appended where nothing is held
pub appended_none : (ops : List Operation) (site seq : ℕ) → (IsHeld ops site seq → ⊥)
    → appended_len_at ops site seq ≡ 0
appended_none ops site seq none =
    elim (cases_appended ops site seq) [
      | inl found ↦ let (x, here, on, at, is) = found in absurd (none (x, here, on, at))
      | inr nothing ↦ nothing.1
    ]

-- each offset of a file is in what one seq appends
pub find_stretch : (ops : List Operation) (site n off : ℕ) → off < file_before ops site n
    → (seq : ℕ) × (seq < n) × (file_before ops site seq ≤ off) × (off < file_before ops site (suc seq))
find_stretch ops site zero off lt = absurd (omega arith)
find_stretch ops site (suc n) off lt =
    elim (cases_lt off (file_before ops site n)) [
      | inl less ↦ let (seq, below, from, to) = find_stretch ops site n off less in
          (seq, omega arith, from, to)
      | inr past ↦ (n, omega arith, past, lt)
    ]

-- two seqs that both append one offset are one
pub one_stretch : (ops : List Operation) (site m n off : ℕ) → file_before ops site m ≤ off
    → off < file_before ops site (suc m) → file_before ops site n ≤ off
    → off < file_before ops site (suc n) → m ≡ n
one_stretch ops site m n off from to from' to' =
    elim (cases_lt m n) [
      | inl less ↦ let grows = file_before_grows ops site (suc m) n (omega arith) in absurd (omega arith)
      | inr more ↦ elim (cases_lt n m) [
        | inl less ↦ let grows = file_before_grows ops site (suc n) m (omega arith) in absurd (omega arith)
        | inr same ↦ omega arith
      ]
    ]
