-- Which of two paths goes first, by recursion on both.
use Rattle.std.proofs.Common.{◌≡◌, ◌≢◌, ◌⊎◌, true, inl, inr, List, [], ◌∷◌, ◌++◌, refl, sym, ap, subst, ◌∙◌}
use Rattle.std.proofs.Common.{arith}
use Rattle.std.proofs.lemmas.Bool.{cases_eq}
use Rattle.std.proofs.lemmas.Bool.Decides.{nat_tests}
use Rattle.looks.specs.Key.{is_below}
use Rattle.looks.specs.declared.key.Key.{Key}
use Rattle.char_files.specs.CharName.{CharName}
use Rattle.char_files.specs.declared.name.Anchor.{Anchor}
use Rattle.char_files.specs.declared.name.Anchor.TheVariants.{At}
use Rattle.operations.specs.Operation.{Operation, key_of}
use Rattle.tree_order.specs.Good.{Good}
use Rattle.tree_order.specs.Tree.{IsProperPrefix, LeadsDown}
use Rattle.tree_order.specs.Order.{HasGreaterKey, TurnsBefore}
use Rattle.operations.proofs.WithName.{same_name}
use Rattle.tree_order.proofs.Tree.{one_insert, siblings_differ}

-- names are equal or not
pub cases_name : (c d : CharName) → (c ≡ d) ⊎ (c ≢ d)
cases_name c d =
    elim (cases_eq c.site d.site) [
      | inl e ↦ elim (cases_eq c.off d.off) [
        | inl f ↦ inl (same_name c d e f)
        | inr g ↦ inr
            (λ h. g (ap (λ (x : CharName). x.off) h))
      ]
      | inr g ↦ inr (λ h. g (ap (λ (x : CharName). x.site) h))
    ]

-- to be below is a strict order on keys
below_irreflexive : (a : Key) → is_below a a ≡ true → ⊥
below_irreflexive a e = grind (arith, nat_tests)

below_transitive : (a b c : Key) → is_below a b ≡ true → is_below b c ≡ true → is_below a c ≡ true
below_transitive a b c e f = grind (arith, nat_tests)

-- and to have the greater key one on characters
greater_irreflexive : (ops : List Operation) → Good ops → (c : CharName) → HasGreaterKey ops c c → ⊥
greater_irreflexive ops good c (i, j, p, q, more) =
    below_irreflexive (key_of i) (subst (λ (o : Operation). is_below (key_of o) (key_of i) ≡ true)
    (one_insert ops good c j i q p) more)

greater_transitive : (ops : List Operation) → Good ops → (c d e : CharName) → HasGreaterKey ops c d
    → HasGreaterKey ops d e → HasGreaterKey ops c e
greater_transitive ops good c d e (i, j, p, q, more) (j', k, q', r, more') = (
  i,
  k,
  p,
  r,
  below_transitive (key_of k) (key_of j) (key_of i)
      (subst (λ (o : Operation). is_below (key_of k) (key_of o) ≡ true) (one_insert ops good d j' j q' q)
      more') more,
)

-- p goes before q: it ends first, or has the greater key where they first differ
abbrev pub Trail : List Operation → List CharName → List CharName → Type 0
Trail ops [] [] = ⊥
Trail ops [] (d ∷ q) = Unit {0}
Trail ops (c ∷ p) [] = ⊥
Trail ops (c ∷ p) (d ∷ q) = ((c ≡ d) × Trail ops p q) ⊎ ((c ≢ d) × HasGreaterKey ops c d)

-- the two ways to go first
pub Trail-from_prefix : (ops : List Operation) (p q : List CharName) → IsProperPrefix p q → Trail ops p q
Trail-from_prefix ops [] [] (x, rest, e) = absurd cc
Trail-from_prefix ops [] (d ∷ q) h = tt
Trail-from_prefix ops (c ∷ p) [] (x, rest, e) = absurd cc
Trail-from_prefix ops (c ∷ p) (d ∷ q) (x, rest, e) = let same : d ∷ q ≡ c ∷ (p ++ x ∷ rest) = e in
    inl (cc, Trail-from_prefix ops p q (x, rest, cc))

-- where two lists differ after a common front, the key decides
turned : (ops : List Operation) (common p q : List CharName) (c d : CharName) → c ≢ d
    → HasGreaterKey ops c d → Trail ops (common ++ c ∷ p) (common ++ d ∷ q)
turned ops [] p q c d apart more = inr (apart, more)
turned ops (x ∷ common) p q c d apart more = inl (refl, turned ops common p q c d apart more)

pub Trail-from_turn : (ops : List Operation) (p q : List CharName) → TurnsBefore ops p q → Trail ops p q
Trail-from_turn ops p q (common, c, d, p', q', e, f, apart, more) =
    rw (e, f) (turned ops common p' q' c d apart more)

-- the same after one more common name
longer : (ops : List Operation) (p q : List CharName) (c d : CharName) → c ≡ d → IsProperPrefix p q
    ⊎ TurnsBefore ops p q → IsProperPrefix (c ∷ p) (d ∷ q) ⊎ TurnsBefore ops (c ∷ p) (d ∷ q)
longer ops p q c d same (inl (x, rest, e)) = inl (x, rest, cc)
longer ops p q c d same (inr (common, a, b, p', q', e, f, apart, more)) =
    inr (c ∷ common, a, b, p', q', cc, cc, apart, more)

-- to go first is one of the two
pub cases_Trail : (ops : List Operation) (p q : List CharName) → Trail ops p q → IsProperPrefix p q
    ⊎ TurnsBefore ops p q
cases_Trail ops [] [] h = absurd h
cases_Trail ops [] (d ∷ q) h = inl (d, q, refl)
cases_Trail ops (c ∷ p) [] h = absurd h
cases_Trail ops (c ∷ p) (d ∷ q) (inl (same, h)) = longer ops p q c d same (cases_Trail ops p q h)
cases_Trail ops (c ∷ p) (d ∷ q) (inr (apart, more)) = inr ([], c, d, p, q, refl, refl, apart, more)

-- a strict order
pub Trail-irreflexive : (ops : List Operation) (p : List CharName) → Trail ops p p → ⊥
Trail-irreflexive ops [] h = h
Trail-irreflexive ops (c ∷ p) (inl (same, h)) = Trail-irreflexive ops p h
Trail-irreflexive ops (c ∷ p) (inr (apart, more)) = apart refl

pub Trail-transitive : (ops : List Operation) → Good ops → (p q r : List CharName) → Trail ops p q
    → Trail ops q r → Trail ops p r
Trail-transitive ops good p [] [] h k = absurd k
Trail-transitive ops good [] [] (e ∷ r) h k = tt
Trail-transitive ops good (c ∷ p) [] (e ∷ r) h k = absurd h
Trail-transitive ops good p (d ∷ q) [] h k = absurd k
Trail-transitive ops good [] (d ∷ q) (e ∷ r) h k = tt
Trail-transitive ops good (c ∷ p) (d ∷ q) (e ∷ r) (inl (same, h)) (inl (same', k)) =
    inl (same ∙ same', Trail-transitive ops good p q r h k)
Trail-transitive ops good (c ∷ p) (d ∷ q) (e ∷ r) (inl (same, h)) (inr (apart, more)) =
    inr (λ f. apart (sym same ∙ f), subst (λ (x : CharName). HasGreaterKey ops x e) (sym same) more)
Trail-transitive ops good (c ∷ p) (d ∷ q) (e ∷ r) (inr (apart, more)) (inl (same, k)) =
    inr (λ f. apart (f ∙ sym same), subst (λ (x : CharName). HasGreaterKey ops c x) same more)
Trail-transitive ops good (c ∷ p) (d ∷ q) (e ∷ r) (inr (apart, more)) (inr (apart', more')) =
    inr (
      λ f. greater_irreflexive ops good c (greater_transitive ops good c d c more
          (subst (λ (x : CharName). HasGreaterKey ops d x) (sym f) more')),
      greater_transitive ops good c d e more more',
    )

-- of two lists that lead down from one anchor one goes first, unless they are equal
pub cases_leads : (ops : List Operation) → Good ops → (a b b' : Anchor) (p q : List CharName)
    → LeadsDown ops a p b → LeadsDown ops a q b' → (p ≡ q) ⊎ (Trail ops p q ⊎ Trail ops q p)
cases_leads ops good a b b' [] [] h k = inl refl
cases_leads ops good a b b' [] (d ∷ q) h k = inr (inl tt)
cases_leads ops good a b b' (c ∷ p) [] h k = inr (inr tt)
cases_leads ops good a b b' (c ∷ p) (d ∷ q) (up, h) (uq, k) =
    elim (cases_name c d) [
      | inl same ↦ elim (cases_leads ops good (At c) b b' p q h
          (subst (λ (x : CharName). LeadsDown ops (At x) q b') (sym same) k)) [
            | inl e ↦ inl cc
            | inr t ↦ elim t [ inl t' ↦ inr (inl (inl (same, t'))) | inr t' ↦ inr (inr (inl (sym same, t'))) ]
          ]
      | inr apart ↦ elim (siblings_differ ops good c d a up uq apart) [
        | inl more ↦ inr (inl (inr (apart, more)))
        | inr more ↦ inr (inr (inr (λ e. apart (sym e), more)))
      ]
    ]

-- what goes before q is the beginning of q, or goes before it however it goes on
pub cases_longer : (ops : List Operation) (p q r : List CharName) → Trail ops p q
    → IsProperPrefix p q ⊎ Trail ops (p ++ r) q
cases_longer ops [] [] r h = absurd h
cases_longer ops [] (d ∷ q) r h = inl (d, q, refl)
cases_longer ops (c ∷ p) [] r h = absurd h
cases_longer ops (c ∷ p) (d ∷ q) r (inl (same, h)) =
    elim (cases_longer ops p q r h) [
      | inl (x, rest, e) ↦ inl (x, rest, cc)
      | inr t ↦ inr (inl (same, t))
    ]
cases_longer ops (c ∷ p) (d ∷ q) r (inr (apart, more)) = inr (inr (apart, more))
