-- Elements of a list that are looked for, kept, or taken out.
use Rattle.std.proofs.Common.{◌≡◌, zero, suc, ◌+◌, ◌⊎◌, inl, inr, List, [], ◌∷◌, length, Contains}
use Rattle.std.proofs.Common.{refl, sym, subst, ◌∙◌, arith}

module _ {X : Type 0} where
  pub Contains-head : (x : X) (xs : List X) → Contains (x ∷ xs) x
  Contains-head x xs = (0, omega arith, refl)

  pub Contains-tail : (y : X) (xs : List X) (x : X) → Contains xs x → Contains (y ∷ xs) x
  Contains-tail y xs x (k, lt, is) = (suc k, omega arith, is)

  pub Contains-cases : (y : X) (xs : List X) (x : X) → Contains (y ∷ xs) x → (y ≡ x) ⊎ Contains xs x
  Contains-cases y xs x (zero, lt, is) = inl is
  Contains-cases y xs x (suc k, lt, is) = inr (k, omega arith, is)

  pub Contains-none : (x : X) → Contains [] x → ⊥
  Contains-none x (k, lt, is) = omega arith

  module _ (P Q : X → Type 0) (either : (x : X) → P x ⊎ Q x) where
    -- all elements are so, or one is otherwise
    pub search_list : (xs : List X)
        → ((x : X) → Contains xs x → P x) ⊎ ((x : X) × Contains xs x × Q x)
    search_list [] = inl (λ x h. absurd (Contains-none x h))
    search_list (y ∷ ys) =
        elim (either y) [
          | inr q ↦ inr (y, Contains-head y ys, q)
          | inl p ↦ elim (search_list ys) [
            | inr found ↦ inr (found.0, Contains-tail y ys found.0 found.1, found.2)
            | inl all ↦ inl (λ x h. elim (Contains-cases y ys x h) [
              | inl is ↦ subst P is p
              | inr held ↦ all x held
            ])
          ]
        ]

    -- a list of those that are so
    pub chosen : (xs : List X) → (ys : List X)
        × ((x : X) → Contains xs x → Contains ys x ⊎ Q x) × ((x : X) → Contains ys x → Contains xs x × P x)
    chosen [] = ([], λ x h. absurd (Contains-none x h), λ x h. absurd (Contains-none x h))
    chosen (y ∷ ys) =
        let (rest, has, only) = chosen ys in
        elim (either y) [
          | inl p ↦ (
            y ∷ rest,
            λ x h. elim (Contains-cases y ys x h) [
              | inl is ↦ inl (subst (Contains (y ∷ rest)) is (Contains-head y rest))
              | inr held ↦ elim (has x held) [
                | inl in_rest ↦ inl (Contains-tail y rest x in_rest)
                | inr q ↦ inr q
              ]
            ],
            λ x h. elim (Contains-cases y rest x h) [
              | inl is ↦ (subst (Contains (y ∷ ys)) is (Contains-head y ys), subst P is p)
              | inr held ↦ let found = only x held in (Contains-tail y ys x found.0, found.1)
            ],
          )
          | inr q ↦ (
            rest,
            λ x h. elim (Contains-cases y ys x h) [
              | inl is ↦ inr (subst Q is q)
              | inr held ↦ has x held
            ],
            λ x h. let found = only x h in (Contains-tail y ys x found.0, found.1),
          )
        ]

  -- the list without one of its elements
  pub take_out : (xs : List X) (x : X) → Contains xs x → (ys : List X) × (length ys + 1 ≡ length xs)
      × ((z : X) → Contains xs z → (x ≡ z) ⊎ Contains ys z) × ((z : X) → Contains ys z → Contains xs z)
  take_out [] x h = absurd (Contains-none x h)
  take_out (y ∷ ys) x h =
      elim (Contains-cases y ys x h) [
        | inl is ↦ (
          ys,
          omega arith,
          λ z other. elim (Contains-cases y ys z other) [
            | inl same ↦ inl (sym is ∙ same)
            | inr held ↦ inr held
          ],
          Contains-tail y ys,
        )
        | inr there ↦
            let (rest, less, has, only) = take_out ys x there in (
              y ∷ rest,
              omega arith,
              λ z other. elim (Contains-cases y ys z other) [
                | inl same ↦ inr (subst (Contains (y ∷ rest)) same (Contains-head y rest))
                | inr held ↦ elim (has z held) [
                  | inl is ↦ inl is
                  | inr in_rest ↦ inr (Contains-tail y rest z in_rest)
                ]
              ],
              λ z other. elim (Contains-cases y rest z other) [
                | inl same ↦ subst (Contains (y ∷ ys)) same (Contains-head y ys)
                | inr held ↦ Contains-tail y ys z (only z held)
              ],
            )
      ]
