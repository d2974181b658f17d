-- A map whose values stand under keys of their own: what a look-up finds, and one value more.
use Rattle.std.proofs.Common.{◌≡◌, ◌≢◌, ◌<◌, ◌⊎◌, ◌↔◌, inl, inr, Bool, true, false, cond, List, length, Contains, get_or}
use Rattle.std.proofs.Common.{Option, Some, None, Bor, refl, sym, ap, subst, ◌∙◌, arith}
use Rattle.std.specs.Prelude.{IfSome, IfNone}
use Rattle.std.specs.Option.{option_copied}
use Rattle.std.specs.Cmp.{IsEquivalence}
use Rattle.std.specs.List.{IsDistinct}
use Rattle.std.specs.Map.{keys_of, values_of, lookup}
use Rattle.std.proofs.lemmas.Bool.{cases_Bool, cond-true, cond-false, false≢true}
use Rattle.std.proofs.lemmas.List.{get_or-map, length-map}
use Rattle.std.proofs.lemmas.List.Elements.{Contains-get_or}
use Rattle.std.proofs.lemmas.Map.Views.{Contains-from_lookup, lookup-from_Contains}
use Rattle.std.proofs.lemmas.Option.{same_Some}
use Rattle.note_entries.specs.Keyed.{StandUnderKeys}

module _ {K X : Type 0} (eq : K → K → Bool) (laws : IsEquivalence eq) (exact : (a b : K) → eq a b ≡ true → a ≡ b)
    (key_of : X → K) where
  -- the value stands under its key
  pub entered : (entries : List (K × X)) → StandUnderKeys eq key_of entries → (x : X) → Contains (values_of entries) x
      → Contains entries (key_of x, x)
  entered entries are x (k, lt, at) = by_entry (get_or entries k (key_of x, x)) refl
    where
      by_entry : (e : K × X) → get_or entries k (key_of x, x) ≡ e → Contains entries (key_of x, x)
      by_entry e is =
          let long = length-map entries (λ (e : K × X). e.1) in
          let there : k < length entries = omega arith in
          let held : Contains entries e = subst (Contains entries) is (Contains-get_or entries k (key_of x, x) there) in
          let value : e.1 ≡ x = sym (ap (λ (e : K × X). e.1) is)
          ∙ (sym (get_or-map (λ (e : K × X). e.1) entries k (key_of x, x) x there) ∙ at) in
          let key : e.0 ≡ key_of x = are.keyed e.0 e.1 held ∙ ap key_of value in
          subst (Contains entries) (λ i. (key i, value i)) held

  pub of_entry : (entries : List (K × X)) (k : K) (x : X) → Contains entries (k, x) → Contains (values_of entries) x
  of_entry entries k x (n, lt, at) =
      let long = length-map entries (λ (e : K × X). e.1) in
      (n, omega arith, get_or-map (λ (e : K × X). e.1) entries n (k, x) x lt ∙ ap (λ (e : K × X). e.1) at)

  module _ (entries : List (K × X)) (are : StandUnderKeys eq key_of entries) where
    -- what a look-up finds is a value of this key
    pub found : (k : K) (x : X) → lookup (eq k) entries ≡ Some x → Contains (values_of entries) x × (k ≡ key_of x)
    found k x at =
        let held = Contains-from_lookup exact k x entries at in
        (of_entry entries k x held, are.keyed k x held)

    -- and each value is found
    pub finds : (x : X) → Contains (values_of entries) x → lookup (eq (key_of x)) entries ≡ Some x
    finds x held = lookup-from_Contains laws (key_of x) x entries are.distinct (entered entries are x held)

    pub missing : (k : K) → lookup (eq k) entries ≡ None → (x : X) → Contains (values_of entries) x → k ≢ key_of x
    missing k none x held same =
        let at : lookup (eq k) entries ≡ Some x = ap (λ (q : K). lookup (eq q) entries) same ∙ finds x held in
        cc

    module _ (values : List X) (is : values_of entries ≡ values) (k : K) where
      pub looked_some : (r : Option (Bor X)) → option_copied r ≡ lookup (eq k) entries
          → IfSome r (λ x. Contains values x.now × (key_of x.now ≡ k))
      looked_some None got = tt
      looked_some (Some x) got =
          let (held, key) = found k x.now (sym got) in
          (subst (λ (xs : List X). Contains xs x.now) is held, sym key)

      pub looked_none : (r : Option (Bor X)) → option_copied r ≡ lookup (eq k) entries
          → IfNone r ((x : X) → Contains values x → key_of x ≢ k)
      looked_none None got = λ x held same.
          missing k (sym got) x (subst (λ (xs : List X). Contains xs x) (sym is) held) (sym same)
      looked_none (Some x) got = tt

  -- a value is put under its key, and all others stay
  abbrev pub IsPutIn : (old : List (K × X)) → X → (new : List (K × X)) → Type 0
  IsPutIn old s new = (q : K) → lookup (eq q) new ≡ cond (eq (key_of s) q) (Some s) (lookup (eq q) old)

  not_same : (a b : K) → a ≢ b → eq a b ≡ false
  not_same a b apart = elim (cases_Bool (eq a b)) [
    | inl is ↦ absurd (apart (exact a b is))
    | inr none ↦ none
  ]

  module _ (old new : List (K × X)) (s : X) (put : IsPutIn old s new) where
    -- an entry is the new one, or was there, under another key
    pub which : (k : K) (x : X) → lookup (eq k) new ≡ Some x
        → ((key_of s ≡ k) × (x ≡ s)) ⊎ ((key_of s ≢ k) × (lookup (eq k) old ≡ Some x))
    which k x at = elim (cases_Bool (eq (key_of s) k)) [
      | inl is ↦
          let one : Some s ≡ Some x = sym (put k ∙ cond-true _ _ _ is) ∙ at in
          inl (exact (key_of s) k is, sym (same_Some s x one))
      | inr none ↦ inr (
        λ same. false≢true (sym none ∙ subst (λ (q : K). eq (key_of s) q ≡ true) same (laws.refl (key_of s))),
        sym (put k ∙ cond-false _ _ _ none) ∙ at,
      )
    ]

    -- the new one is found, and so is each other
    pub finds_new : lookup (eq (key_of s)) new ≡ Some s
    finds_new = put (key_of s) ∙ cond-true _ _ _ (laws.refl (key_of s))

    pub finds_old : (k : K) → key_of s ≢ k → lookup (eq k) new ≡ lookup (eq k) old
    finds_old k apart = put k ∙ cond-false _ _ _ (not_same (key_of s) k apart)

  module _ (old new : List (K × X)) (s : X) (are : StandUnderKeys eq key_of old) (distinct : IsDistinct eq (keys_of new))
      (put : IsPutIn old s new) where
    pub keyed_with : StandUnderKeys eq key_of new
    keyed_with = record {
      keyed = λ k x held. elim (which old new s put k x (lookup-from_Contains laws k x new distinct held)) [
        | inl is ↦ sym is.0 ∙ ap key_of (sym is.1)
        | inr was ↦ (found old are k x was.1).1
      ];
      distinct = distinct;
    }

    pub values_with : (x : X) → Contains (values_of new) x
        ↔ (Contains (values_of old) x × (key_of s ≢ key_of x)) ⊎ (x ≡ s)
    values_with x = (
      λ held. elim (which old new s put (key_of x) x (finds new keyed_with x held)) [
        | inl is ↦ inr is.1
        | inr was ↦ inl ((found old are (key_of x) x was.1).0, was.0)
      ],
      λ h. elim h [
        | inl was ↦
            let at : lookup (eq (key_of x)) new ≡ Some x =
            finds_old old new s put (key_of x) was.1 ∙ finds old are x was.0 in
            (found new keyed_with (key_of x) x at).0
        | inr is ↦
            subst (Contains (values_of new)) (sym is) (found new keyed_with (key_of s) s (finds_new old new s put)).0
      ],
    )
