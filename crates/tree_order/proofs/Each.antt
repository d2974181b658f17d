-- What `all` answers, of names and of operations.
use Rattle.std.proofs.Common.{◌≡◌, ℕ, ◌<◌, ◌↔◌, Bool, true, false, List, [], ◌∷◌, length, All, Contains}
use Rattle.std.proofs.Common.{MatchBool, refl, arith}
use Rattle.std.specs.List.{AllWithin, HoldsAt}
use Rattle.std.proofs.lemmas.Bool.{false≢true}
use Rattle.std.proofs.lemmas.List.Elements.{All-contains, All-from_all_within, Contains-get_or}
use Rattle.char_files.specs.CharName.{CharName}

-- each element has P, or one hasn't
abbrev pub Answers : {X : Type 0} → (X → Type 0) → List X → Bool → Type 0
Answers P xs r =
    MatchBool r (AllWithin P xs 0 (length xs)) ((k : ℕ) × (k < length xs) × HoldsAt (λ x. ¬ P x) xs k)

-- the answer tells whether each element has P
pub each : {X : Type 0} (P : X → Type 0) (xs : List X) (r : Bool) → Answers P xs r → (r ≡ true) ↔ All P xs
each P xs true all = (λ e. All-from_all_within P xs all, λ h. refl)
each P [] false (k, lt, not) = absurd (omega arith)
each P (x ∷ xs) false (k, lt, not) = (λ e. absurd (false≢true e), λ h. absurd (not x (h k x lt)))

-- the same, where M are the names that the list has
pub each_name : (P M : CharName → Type 0) (names : List CharName) (r : Bool)
    → ((name : CharName) → Contains names name ↔ M name)
    → Answers P names r → (r ≡ true) ↔ ((name : CharName) → M name → P name)
each_name P M names r has answers =
    let all = each P names r answers in (
      λ e name m. All-contains P names name (all.0 e) ((has name).1 m),
      λ h. all.1
          (λ k d lt. h _ ((has _).0 (Contains-get_or names k d lt))),
    )
