-- Questions that have an answer, of lists and of the names that an operation mentions.
use Rattle.std.proofs.Common.{◌≡◌, ℕ, ◌<◌, ◌≤◌, ◌⊎◌, inl, inr, List, [], ◌∷◌, Contains, Option, Some, None, IsSome}
use Rattle.std.proofs.Common.{refl, ap, subst, arith}
use Rattle.std.proofs.lemmas.Bool.{cases_eq, cases_lt, cases_Bool, both_ways}
use Rattle.std.specs.Option.{is_some}
use Rattle.char_files.specs.CharName.{CharName}
use Rattle.operations.specs.Operation.{Operation, Mentions}
use Rattle.set_laws.proofs.Picking.{Contains-head, Contains-tail, Contains-cases, Contains-none}
use Rattle.set_laws.proofs.Verdicts.{search_mentions}

-- it is so, or it isn't
abbrev pub IsDecided : Type 0 → Type 0
IsDecided P = P ⊎ (P → ⊥)

pub both : {P Q : Type 0} → IsDecided P → IsDecided Q → IsDecided (P × Q)
both (inl p) (inl q) = inl (p, q)
both (inl p) (inr none) = inr (λ h. none h.1)
both (inr none) (inl q) = inr (λ h. none h.0)
both (inr none) (inr _) = inr (λ h. none h.0)

-- where this is asked only if that is so
pub only_if : {P Q : Type 0} → IsDecided P → IsDecided Q → IsDecided (P → Q)
only_if (inl p) (inl q) = inl (λ _. q)
only_if (inl p) (inr none) = inr (λ h. none (h p))
only_if (inr none) _ = inl (λ p. absurd (none p))

pub not_so : {P : Type 0} → IsDecided P → IsDecided (P → ⊥)
not_so (inl p) = inr (λ none. none p)
not_so (inr none) = inl none

pub is_less : (m n : ℕ) → IsDecided (m < n)
is_less m n = elim (cases_lt m n) [ inl less ↦ inl less | inr more ↦ inr (λ less. omega arith) ]

pub is_at_most : (m n : ℕ) → IsDecided (m ≤ n)
is_at_most m n = elim (cases_lt n m) [ inl less ↦ inr (λ le. omega arith) | inr le ↦ inl le ]

pub is_same : (a b : Option ℕ) → IsDecided (a ≡ b)
is_same None None = inl refl
is_same None (Some y) = inr (λ is. cc)
is_same (Some x) None = inr (λ is. cc)
is_same (Some x) (Some y) = elim (cases_eq x y) [ inl is ↦ inl (ap Some is) | inr none ↦ inr (λ is. none (cc)) ]

pub has_some : (o : Option ℕ) → IsDecided (IsSome o)
has_some o = elim (cases_Bool (is_some o)) [ inl is ↦ inl is | inr none ↦ inr (λ some. both_ways _ none some) ]

module _ {X : Type 0} (P Q : X → Type 0) where
  -- all elements are so, or one is otherwise
  pub search_within : (xs : List X) → ((x : X) → Contains xs x → P x ⊎ Q x)
      → ((x : X) → Contains xs x → P x) ⊎ ((x : X) × Contains xs x × Q x)
  search_within [] either = inl (λ x h. absurd (Contains-none x h))
  search_within (y ∷ ys) either =
      elim (either y (Contains-head y ys)) [
        | inr q ↦ inr (y, Contains-head y ys, q)
        | inl p ↦ elim (search_within ys (λ x h. either x (Contains-tail y ys x h))) [
          | inr found ↦ inr (found.0, Contains-tail y ys found.0 found.1, found.2)
          | inl all ↦ inl (λ x h. elim (Contains-cases y ys x h) [
            | inl is ↦ subst P is p
            | inr held ↦ all x held
          ])
        ]
      ]

module _ {X : Type 0} (P : X → Type 0) (xs : List X) where
  pub one_is : ((x : X) → Contains xs x → IsDecided (P x)) → IsDecided ((x : X) × Contains xs x × P x)
  one_is each =
      elim (search_within (λ x. P x → ⊥) P xs
      (λ x h. elim (each x h) [ inl p ↦ inr p | inr none ↦ inl none ])) [
        | inl none ↦ inr (λ h. none h.0 h.1 h.2)
        | inr found ↦ inl found
      ]

  pub all_are : ((x : X) → Contains xs x → IsDecided (P x)) → IsDecided ((x : X) → Contains xs x → P x)
  all_are each =
      elim (search_within P (λ x. P x → ⊥) xs each) [
        | inl all ↦ inl all
        | inr found ↦ inr (λ all. found.2 (all found.0 found.1))
      ]

module _ (P : CharName → Type 0) (op : Operation) (each : (name : CharName) → IsDecided (P name)) where
  pub one_mentioned_is : IsDecided ((name : CharName) × Mentions op name × P name)
  one_mentioned_is =
      elim (search_mentions (λ name. P name → ⊥) P
      (λ name. elim (each name) [ inl p ↦ inr p | inr none ↦ inl none ]) op) [
        | inl none ↦ inr (λ h. none h.0 h.1 h.2)
        | inr found ↦ inl found
      ]

  pub all_mentioned_are : IsDecided ((name : CharName) → Mentions op name → P name)
  all_mentioned_are =
      elim (search_mentions P (λ name. P name → ⊥) each op) [
        | inl all ↦ inl all
        | inr found ↦ inr (λ all. found.2 (all found.0 found.1))
      ]
