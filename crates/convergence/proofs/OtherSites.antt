-- Operations of one site leave the front and the file of any other as they were.
use Rattle.std.proofs.Common.{◌≡◌, ◌≢◌, ℕ, zero, suc, max, List, [], ◌∷◌, ◌++◌, false, All, cond, eqb}
use Rattle.std.proofs.Common.{◌&&◌, refl, sym, ap, ◌∙◌, arith}
use Rattle.std.proofs.lemmas.Bool.{and_left, cond-false, ne_eqb}
use Rattle.std.proofs.lemmas.List.Elements.{All-head, All-tail}
use Rattle.operations.specs.Operation.{Operation, appended_len}
use Rattle.tree_order.specs.Good.{appended_len_at, file_before}
use Rattle.set_laws.specs.Fronts.{file_len, front_of, of_site}

module _ (site other : ℕ) (apart : other ≢ site) where
  -- all of these are of the site
  abbrev pub AreOf : List Operation → Type 0
  AreOf more = All (λ op. op.site ≡ site) more

  -- its site isn't the other
  not_other : (op : Operation) → op.site ≡ site → eqb op.site other ≡ false
  not_other op on = ne_eqb op.site other (λ at. apart (sym at ∙ on))

  -- they have no front of the other site
  no_front : (more : List Operation) → AreOf more → front_of more other ≡ 0
  no_front [] of = refl
  no_front (op ∷ more) of =
      let none : of_site other (λ o. o.seq) op ≡ 0 =
      cond-false _ _ _ (not_other op (All-head (λ o. o.site ≡ site) op more of)) in
      let rest = no_front more (All-tail (λ o. o.site ≡ site) op more of) in
      omega (arith, none, rest)

  -- and append nothing to its file
  no_length : (more : List Operation) (seq : ℕ) → AreOf more → appended_len_at more other seq ≡ 0
  no_length [] seq of = refl
  no_length (op ∷ more) seq of =
      cond-false _ _ _ (and_left (eqb op.site other) (eqb op.seq seq)
      (not_other op (All-head (λ o. o.site ≡ site) op more of)))
      ∙ no_length more seq (All-tail (λ o. o.site ≡ site) op more of)

  module _ (more : List Operation) (of : AreOf more) where
    -- so the other's front is as before
    pub same_front : (ops : List Operation) → front_of (ops ++ more) other ≡ front_of ops other
    same_front [] = no_front more of
    same_front (op ∷ ops) = ap (max (of_site other (λ o. o.seq) op)) (same_front ops)

    -- and what each of its operations appends
    same_length : (ops : List Operation) (seq : ℕ)
        → appended_len_at (ops ++ more) other seq ≡ appended_len_at ops other seq
    same_length [] seq = no_length more seq of
    same_length (op ∷ ops) seq =
        ap (cond (eqb op.site other && eqb op.seq seq) (appended_len op.kind)) (same_length ops seq)

    -- and how long its file is before each
    same_file_before : (ops : List Operation) (seq : ℕ)
        → file_before (ops ++ more) other seq ≡ file_before ops other seq
    same_file_before ops zero = refl
    same_file_before ops (suc seq) =
        let before = same_file_before ops seq in
        let at = same_length ops seq in
        omega (arith, before, at)

    -- and in all
    pub same_file_len : (ops : List Operation) → file_len (ops ++ more) other ≡ file_len ops other
    same_file_len ops =
        same_file_before ops (suc (front_of (ops ++ more) other))
        ∙ ap (λ (n : ℕ). file_before ops other (suc n)) (same_front ops)
