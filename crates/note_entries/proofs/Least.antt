-- Of all that have one place the one of least rank, kept as they come.
use Rattle.std.proofs.Common.{◌≡◌, ℕ, ◌<◌, ◌≤◌, ◌⊎◌, ◌↔◌, inl, inr, List, [], ◌∷◌, ◌++◌, Contains, refl, sym, ap, subst, ◌∙◌, arith}
use Rattle.std.proofs.lemmas.Bool.{cases_lt}
use Rattle.std.proofs.lemmas.List.Elements.{Contains-append_left, Contains-append_right, Contains-append_cases}
use Rattle.std.proofs.lemmas.List.Elements.{Contains-push, Contains-push_cases}

pub of_none : {X : Type 0} (x : X) → Contains [] x → ⊥
of_none x (k, lt, at) = omega arith

-- the first, or one after it
pub of_more : {X : Type 0} (y : X) (ys : List X) (x : X) → Contains (y ∷ ys) x → (y ≡ x) ⊎ Contains ys x
of_more y ys x held = elim (Contains-append_cases (y ∷ []) ys x held) [
  | inl first ↦ elim (Contains-push_cases [] y x first) [
    | inl none ↦ absurd (of_none x none)
    | inr is ↦ inl is
  ]
  | inr after ↦ inr after
]

-- what is said of things by their places and ranks
pub record Ranked {X : Type 0} (Beside : X → X → Type 0) : Type 0 where
  pub reflexive : (a : X) → Beside a a
  pub symmetric : (a b : X) → Beside a b → Beside b a
  pub transitive : (a b c : X) → Beside a b → Beside b c → Beside a c
  pub decided : (a b : X) → Beside a b ⊎ (Beside a b → ⊥)

module _ {X : Type 0} (Beside : X → X → Type 0) (rank : X → ℕ) (laws : Ranked Beside) where
  abbrev pub IsLeast : List X → X → Type 0
  IsLeast all x = Contains all x × ((other : X) → Contains all other → Beside x other → rank x ≤ rank other)

  abbrev pub AreLeast : (all kept : List X) → Type 0
  AreLeast all kept = (x : X) → Contains kept x ↔ IsLeast all x

  -- it is put in place of the one beside it
  abbrev pub IsPutBeside : (old : List X) → X → (new : List X) → Type 0
  IsPutBeside old s new = (x : X) → Contains new x ↔ (Contains old x × (Beside s x → ⊥)) ⊎ (x ≡ s)

  -- of this one and those beside it
  least_from : (all : List X) (best : X) → (x : X) × ((x ≡ best) ⊎ Contains all x) × Beside best x
      × rank x ≤ rank best × ((other : X) → Contains all other → Beside best other → rank x ≤ rank other)
  least_from [] best =
      (best, inl refl, laws.reflexive best, omega arith, λ other held. absurd (of_none other held))
  least_from (y ∷ ys) best =
      let (x, is, on, le, least) = least_from ys best in
      let among : (x ≡ best) ⊎ Contains (y ∷ ys) x =
      elim is [ inl same ↦ inl same | inr there ↦ inr (Contains-append_right (y ∷ []) ys x there) ] in
      elim (laws.decided best y) [
        | inr apart ↦ (
          x,
          among,
          on,
          le,
          λ other held beside. elim (of_more y ys other held) [
            | inl same ↦ absurd (apart (subst (Beside best) (sym same) beside))
            | inr after ↦ least other after beside
          ],
        )
        | inl beside_y ↦ elim (cases_lt (rank y) (rank x)) [
          | inl less ↦ (
            y,
            inr (Contains-append_left (y ∷ []) ys y (Contains-push [] y)),
            beside_y,
            omega arith,
            λ other held beside. elim (of_more y ys other held) [
              | inl same ↦ let equal = ap rank same in omega arith
              | inr after ↦ let after_it = least other after beside in omega arith
            ],
          )
          | inr ge ↦ (
            x,
            among,
            on,
            le,
            λ other held beside. elim (of_more y ys other held) [
              | inl same ↦ let equal = ap rank same in omega arith
              | inr after ↦ least other after beside
            ],
          )
        ]
      ]

  -- where there is one of a place, there is a least one
  pub some_least : (all : List X) (o : X) → Contains all o → (x : X) × IsLeast all x × Beside o x
  some_least all o held =
      let (x, is, on, le, least) = least_from all o in
      let made : Contains all x =
      elim is [ inl same ↦ subst (Contains all) (sym same) held | inr there ↦ there ] in
      (x, (made, λ other there beside. least other there (laws.transitive o x other on beside)), on)

  -- with one more that is no less than the one that is kept beside it
  pub still_least : (all kept : List X) (s k : X) → AreLeast all kept → Contains kept k → Beside s k
      → rank k ≤ rank s → (Contains all k → rank k ≡ rank s → s ≡ k) → AreLeast (all ++ s ∷ []) kept
  still_least all kept s k are held on le tie x = (
    λ there.
        let (made, least) = (are x).0 there in (
          Contains-append_left all (s ∷ []) x made,
          λ other h beside. elim (Contains-push_cases all s other h) [
            | inl old ↦ least other old beside
            | inr is ↦
                let with_k = laws.transitive x s k (subst (Beside x) (sym is) beside) on in
                let below = least k ((are k).0 held).0 with_k in
                let equal = ap rank is in
                omega arith
          ],
        ),
    λ h. elim (Contains-push_cases all s x h.0) [
      | inl old ↦ (are x).1 (old, λ other o beside. h.1 other (Contains-append_left all (s ∷ []) other o) beside)
      | inr is ↦
          let made = ((are k).0 held).0 in
          let below = h.1 k (Contains-append_left all (s ∷ []) k made) (subst (λ (y : X). Beside y k) is on) in
          let equal = ap rank is in
          let one : s ≡ k = tie made (omega arith) in
          subst (Contains kept) (sym one ∙ is) held
    ],
  )

  -- with one more that is less than any that is kept beside it
  pub least_with : (all old new : List X) (s : X) → AreLeast all old
      → ((k : X) → Contains old k → Beside s k → rank s < rank k) → IsPutBeside old s new
      → AreLeast (all ++ s ∷ []) new
  least_with all old new s are less put x = (
    λ there. elim ((put x).0 there) [
      | inl h ↦
          let (made, least) = (are x).0 h.0 in (
            Contains-append_left all (s ∷ []) x made,
            λ other o beside. elim (Contains-push_cases all s other o) [
              | inl was ↦ least other was beside
              | inr is ↦ absurd (h.1 (laws.symmetric x s (subst (Beside x) (sym is) beside)))
            ],
          )
      | inr is ↦ subst (IsLeast (all ++ s ∷ [])) (sym is) (
        Contains-push all s,
        λ other o beside. elim (Contains-push_cases all s other o) [
          | inl was ↦
              let (k, least, on) = some_least all other was in
              let below = less k ((are k).1 least) (laws.transitive s other k beside on) in
              let at_most = least.1 other was (laws.symmetric other k on) in
              omega arith
          | inr same ↦ let equal = ap rank same in omega arith
        ],
      )
    ],
    λ h. (put x).1 (elim (Contains-push_cases all s x h.0) [
      | inl made ↦
          let held = (are x).1
          (made, λ other o beside. h.1 other (Contains-append_left all (s ∷ []) other o) beside) in
          inl (
            held,
            λ beside.
                let below = less x held beside in
                let at_most = h.1 s (Contains-push all s) (laws.symmetric s x beside) in
                omega arith,
          )
      | inr is ↦ inr (sym is)
    ]),
  )
