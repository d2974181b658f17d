-- Sites' files by their operations' seqs, and those of a list with one operation more.
use Rattle.std.proofs.Common.{◌≡◌, ℕ, zero, suc, ◌≤◌, inl, inr, cond, eqb, ◌&&◌, List, [], ◌∷◌, ◌++◌}
use Rattle.std.proofs.Common.{Contains, refl, ap, subst, eq-eqb, arith}
use Rattle.std.proofs.lemmas.Bool.{and_parts, cases_Bool, cond-true, cond-false, eqb-true}
use Rattle.operations.specs.Operation.{Operation, appended_len}
use Rattle.tree_order.specs.Good.{appended_len_at, file_before}
use Rattle.set_laws.specs.Fronts.{of_site, front_of}
use Rattle.set_laws.specs.Sets.{AreIdentified}
use Rattle.set_laws.proofs.Fronts.{up_to_front}
use Rattle.set_laws.proofs.Lengths.{appended_none}

-- no operation of a site is past the site's front
pub within_front : (ops : List Operation) (op : Operation) (site : ℕ) → Contains ops op → op.site ≡ site
    → op.seq ≤ front_of ops site
within_front ops op site held on = subst (λ (s : ℕ). op.seq ≤ front_of ops s) on (up_to_front ops op held)

-- a number of the operation counts for its own site alone
pub of_own : (f : Operation → ℕ) (op : Operation) (site : ℕ) → op.site ≡ site → of_site site f op ≡ f op
of_own f op site on = cond-true _ _ _ (eq-eqb op.site site on)

-- under seq 0 nothing stands
pub starts_empty : (ops : List Operation) → AreIdentified ops → (site : ℕ) → file_before ops site 1 ≡ 0
starts_empty ops known site =
    let none = appended_none ops site 0
    (λ h. let (op, held, on, at) = h in let counted = known.counted op held in omega arith) in
    omega arith

-- one operation more leaves what is appended under other identities
pub others_appended : (ops : List Operation) (op : Operation) (site seq : ℕ)
    → (op.site ≡ site → op.seq ≡ seq → ⊥)
    → appended_len_at (ops ++ op ∷ []) site seq ≡ appended_len_at ops site seq
others_appended [] op site seq apart =
    elim (cases_Bool (eqb op.site site && eqb op.seq seq)) [
      | inl e ↦ let same = and_parts (eqb op.site site) (eqb op.seq seq) e in
          absurd (apart (eqb-true _ _ same.0) (eqb-true _ _ same.1))
      | inr e ↦ cond-false _ _ _ e
    ]
others_appended (o ∷ ops) op site seq apart =
    ap (λ (n : ℕ). cond (eqb o.site site && eqb o.seq seq) (appended_len o.kind) n)
    (others_appended ops op site seq apart)

-- and the files up to its own slot
pub same_before : (ops : List Operation) (op : Operation) (site n : ℕ) → (op.site ≡ site → n ≤ op.seq)
    → file_before (ops ++ op ∷ []) site n ≡ file_before ops site n
same_before ops op site zero below = refl
same_before ops op site (suc n) below =
    let rest : file_before (ops ++ op ∷ []) site n ≡ file_before ops site n =
    same_before ops op site n (λ on. let le = below on in omega arith) in
    let here : appended_len_at (ops ++ op ∷ []) site n ≡ appended_len_at ops site n =
    others_appended ops op site n (λ on at. let le = below on in omega arith) in
    omega arith
