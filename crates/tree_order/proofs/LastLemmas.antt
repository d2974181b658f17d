-- The operation of the greatest key among those that set something, found one by one.
use Rattle.std.proofs.Common.{◌≡◌, ℕ, ◌+◌, ◌<◌, inl, inr, true, false, ◌⊎◌, List, [], ◌∷◌, ◌++◌, get_or}
use Rattle.std.proofs.Common.{length, take, Option, Some, None, sym, ap, subst, ◌∙◌, Contains, arith}
use Rattle.std.specs.Prelude.{IfSome, IfNone}
use Rattle.std.proofs.lemmas.Bool.{false_from_ne_true}
use Rattle.std.proofs.lemmas.Bool.Decides.{nat_tests}
use Rattle.std.proofs.lemmas.List.{take_more}
use Rattle.std.proofs.lemmas.List.Elements.{Contains-push_cases}
use Rattle.looks.specs.Key.{is_below}
use Rattle.looks.specs.declared.key.Key.{Key}
use Rattle.operations.specs.Operation.{Operation, key_of}

-- an operation that sets it, and no one of the seen ones has a greater key
pub record IsLastOf (Sets : Operation → Type 0) (ops seen : List Operation) (op : Operation) : Type 0 where
  pub held : Contains ops op
  pub sets : Sets op
  pub greatest : (other : Operation) → Contains seen other → Sets other
      → is_below (key_of op) (key_of other) ≡ false

-- none of these operations sets it
abbrev pub NoneSets : (Operation → Type 0) → List Operation → Type 0
NoneSets Sets ops = (op : Operation) → Contains ops op → ¬ Sets op

pub irreflexive : (a : Key) → is_below a a ≡ false
irreflexive a = grind (arith, nat_tests)

-- what isn't above the lesser key isn't above the greater one
pub above_both : (a b c : Key) → is_below a b ≡ true → is_below a c ≡ false → is_below b c ≡ false
above_both a b c e f = grind (arith, nat_tests)

-- the first operations and the next
pub take_one_more : (ops : List Operation) (n : ℕ) (op : Operation) → n < length ops → op ≡ get_or ops n op
    → take (n + 1) ops ≡ take n ops ++ op ∷ []
take_one_more ops n op lt is = take_more ops n op lt ∙ ap (λ (o : Operation). take n ops ++ o ∷ []) (sym is)

module _ (Sets : Operation → Type 0) (ops : List Operation) (n : ℕ) (op : Operation) (lt : n < length ops)
    (is : op ≡ get_or ops n op) where
  -- the operations so far and this one
  among_more : (other : Operation) → Contains (take (n + 1) ops) other
      → Contains (take n ops) other ⊎ (op ≡ other)
  among_more other h = Contains-push_cases (take n ops) op other (rw (take_one_more ops n op lt is) at h)

  -- one more operation, the first that sets it
  pub last_first : NoneSets Sets (take n ops) → Sets op → IsLastOf Sets ops (take (n + 1) ops) op
  last_first none sets = record {
    held = (n, lt, sym is);
    sets = sets;
    greatest = λ other h s. elim (among_more other h) [
      | inl seen ↦ absurd (none other seen s)
      | inr e ↦ subst (λ (o : Operation). is_below (key_of op) (key_of o) ≡ false) e (irreflexive (key_of op))
    ];
  }

  -- one more operation whose key is greater, and which sets it
  pub last_taken : (last : Operation) → IsLastOf Sets ops (take n ops) last → Sets op
      → is_below (key_of last) (key_of op) ≡ true → IsLastOf Sets ops (take (n + 1) ops) op
  last_taken last so_far sets more = record {
    held = (n, lt, sym is);
    sets = sets;
    greatest = λ other h s. elim (among_more other h) [
      | inl seen ↦ above_both (key_of last) (key_of op) (key_of other) more (so_far.greatest other seen s)
      | inr e ↦ subst (λ (o : Operation). is_below (key_of op) (key_of o) ≡ false) e (irreflexive (key_of op))
    ];
  }

  -- one more operation that doesn't set it, or whose key isn't greater
  pub last_stays : (last : Operation) → IsLastOf Sets ops (take n ops) last
      → ¬ (Sets op × (is_below (key_of last) (key_of op) ≡ true)) → IsLastOf Sets ops (take (n + 1) ops) last
  last_stays last so_far not_over = record {
    held = so_far.held;
    sets = so_far.sets;
    greatest = λ other h s. elim (among_more other h) [
      | inl seen ↦ so_far.greatest other seen s
      | inr e ↦ subst (λ (o : Operation). is_below (key_of last) (key_of o) ≡ false) e
          (false_from_ne_true _ (λ below. not_over (subst Sets (sym e) s, below)))
    ];
  }

  -- one more operation that doesn't set it, where none did
  pub none_stays : NoneSets Sets (take n ops) → ¬ Sets op → NoneSets Sets (take (n + 1) ops)
  none_stays none not other h s = elim (among_more other h) [
    | inl seen ↦ none other seen s
    | inr e ↦ not (subst Sets (sym e) s)
  ]

  -- of what was found so far, seen by view, and this one the operation of the greatest key is this one
  pub last_after : {X : Type 0} (view : X → Operation) (last : Option X)
      → IfSome last (λ o. IsLastOf Sets ops (take n ops) (view o)) → IfNone last (NoneSets Sets (take n ops))
      → Sets op → IfSome last (λ o. is_below (key_of (view o)) (key_of op) ≡ true)
      → IsLastOf Sets ops (take (n + 1) ops) op
  last_after view None some none sets over = last_first none sets
  last_after view (Some o) some none sets over = last_taken (view o) some sets over

  -- it is what was found so far
  pub stays_after : {X : Type 0} (view : X → Operation) (last : Option X)
      → IfSome last (λ o. IsLastOf Sets ops (take n ops) (view o)) → IfNone last (NoneSets Sets (take n ops))
      → ¬ (Sets op × IfSome last (λ o. is_below (key_of (view o)) (key_of op) ≡ true))
      → IfSome last (λ o. IsLastOf Sets ops (take (n + 1) ops) (view o))
      × IfNone last (NoneSets Sets (take (n + 1) ops))
  stays_after view None some none not_over = (tt, none_stays none (λ sets. not_over (sets, tt)))
  stays_after view (Some o) some none not_over = (last_stays (view o) some not_over, tt)
