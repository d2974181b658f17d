-- Identities of two lists together.
use Rattle.std.proofs.Common.{◌≡◌, ◌↔◌, ℕ, ◌<◌, inl, inr, Bool, true, false, List, [], ◌∷◌, ◌++◌, refl, sym, ap}
use Rattle.std.proofs.Common.{subst, ◌∙◌}
use Rattle.std.specs.Prelude.{Contains, MatchBool}
use Rattle.std.proofs.Common.{Some, slice_get}
use Rattle.std.proofs.lemmas.Bool.{false≢true}
use Rattle.std.proofs.lemmas.Option.{same_Some}
use Rattle.std.proofs.lemmas.List.Elements.{Contains-append_cases, Contains-append_left, Contains-push}
use Rattle.std.proofs.lemmas.List.Elements.{Contains-push_cases}
use Rattle.operations.specs.Operation.{Operation}
use Rattle.set_laws.specs.Fronts.{IsHeld}
use Rattle.set_laws.specs.Sets.{AreIdentified, IsInConflict}
use Rattle.set_laws.proofs.Lengths.{part_identified}
use Rattle.op_log.proofs.Lists.{Contains-slice_get}

-- an operation that is held agrees with all that are
known_with_held : (ops : List Operation) (op : Operation) → AreIdentified ops → Contains ops op
    → AreIdentified (ops ++ op ∷ [])
known_with_held ops op known held =
    part_identified (ops ++ op ∷ []) ops
    (λ o h. elim (Contains-push_cases ops op o h) [
      | inl there ↦ there
      | inr is ↦ subst (Contains ops) is held
    ])
    known

-- so does one whose identity isn't held
pub known_with_new : (ops : List Operation) (op : Operation) → AreIdentified ops → 0 < op.seq
    → (IsHeld ops op.site op.seq → ⊥) → AreIdentified (ops ++ op ∷ [])
known_with_new ops op known some new = record {
  counted = λ o h. elim (Contains-push_cases ops op o h) [
    | inl there ↦ known.counted o there
    | inr is ↦ subst (λ (x : Operation). 0 < x.seq) is some
  ];
  unique = λ a b in_a in_b site seq. elim (Contains-push_cases ops op a in_a) [
    | inl a_here ↦ elim (Contains-push_cases ops op b in_b) [
      | inl b_here ↦ known.unique a b a_here b_here site seq
      | inr is ↦ absurd (new (
        a,
        a_here,
        site ∙ sym (ap (λ (o : Operation). o.site) is),
        seq ∙ sym (ap (λ (o : Operation). o.seq) is),
      ))
    ]
    | inr is ↦ elim (Contains-push_cases ops op b in_b) [
      | inl b_here ↦ absurd (new (
        b,
        b_here,
        sym (ap (λ (o : Operation). o.site) is ∙ site),
        sym (ap (λ (o : Operation). o.seq) is ∙ seq),
      ))
      | inr is' ↦ sym is ∙ is'
    ]
  ];
}

-- whether an operation is the one that is held tells whether it agrees
pub agrees_by : (ops : List Operation) (op held : Operation) (same : Bool) → AreIdentified ops → Contains ops held
    → held.site ≡ op.site → held.seq ≡ op.seq → (same ≡ true) ↔ (held ≡ op)
    → MatchBool same (AreIdentified (ops ++ op ∷ [])) (IsInConflict ops op)
agrees_by ops op held true known here site seq told =
    known_with_held ops op known (subst (Contains ops) (told.0 refl) here)
agrees_by ops op held false known here site seq told = (held, here, site, seq, λ is. false≢true (told.1 is))

-- the same, where the one that is held stands at a place of the list
pub agrees_there : (ops : List Operation) (op held : Operation) (at : ℕ) (same : Bool) → AreIdentified ops
    → slice_get ops at ≡ Some held → held.site ≡ op.site → held.seq ≡ op.seq
    → (same ≡ true) ↔ (slice_get ops at ≡ Some op)
    → MatchBool same (AreIdentified (ops ++ op ∷ [])) (IsInConflict ops op)
agrees_there ops op held at same known there site seq told =
    agrees_by ops op held same known (Contains-slice_get ops at held there) site seq
    (λ is. same_Some held op (sym there ∙ told.0 is), λ is. told.1 (there ∙ ap (λ (o : Operation). Some o) is))

-- where each operation of b agrees with a, they are identified together
pub joined : (a b : List Operation) → AreIdentified a → AreIdentified b
    → ((op : Operation) → Contains b op → AreIdentified (a ++ op ∷ [])) → AreIdentified (a ++ b)
joined a b known known' each =
    let mixed : (x y : Operation) → Contains a x → Contains b y → x.site ≡ y.site → x.seq ≡ y.seq → x ≡ y =
    λ x y in_x in_y. (each y in_y).unique x y (Contains-append_left a (y ∷ []) x in_x) (Contains-push a y) in
    record {
      counted = λ op h. elim (Contains-append_cases a b op h) [
        | inl here ↦ known.counted op here
        | inr there ↦ known'.counted op there
      ];
      unique = λ x y in_x in_y site seq. elim (Contains-append_cases a b x in_x) [
        | inl x_here ↦ elim (Contains-append_cases a b y in_y) [
          | inl y_here ↦ known.unique x y x_here y_here site seq
          | inr y_there ↦ mixed x y x_here y_there site seq
        ]
        | inr x_there ↦ elim (Contains-append_cases a b y in_y) [
          | inl y_here ↦ sym (mixed y x y_here x_there (sym site) (sym seq))
          | inr y_there ↦ known'.unique x y x_there y_there site seq
        ]
      ];
    }
