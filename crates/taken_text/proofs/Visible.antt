-- Of a set of names, all are visible where none is that of a hidden character.
use Rattle.std.proofs.Common.{◌≡◌, ◌<◌, Bool, true, false, not, inl, inr, List, length, All, Contains}
use Rattle.std.proofs.Common.{refl, sym, ap, subst, ◌∙◌, arith}
use Rattle.std.specs.Prelude.{◌↔◌, IsTrue}
use Rattle.std.proofs.lemmas.List.{length-map, get_or-map}
use Rattle.std.proofs.lemmas.Option.{slice_get_cases, get_or_from_slice_get}
use Rattle.char_files.specs.CharName.{CharName}
use Rattle.operations.specs.NameSet.{Range, IsAmong}
use Rattle.operations.specs.Operation.{Operation}
use Rattle.tree_order.specs.Registers.{Atom, AreAtoms}
use Rattle.tree_order.specs.RegisterLaws.{FollowRegisters}
use Rattle.tree_order.specs.Shown.{is_visible}
use Rattle.tree_order.specs.Tree.{IsChar}
use Rattle.piece_list.specs.Changing.{AreHere}
use Rattle.piece_list.specs.Spelled.{HasName}

-- a name that is here is that of a character
char_named : (atoms : List Atom) (c : CharName) → HasName atoms c → (k : Atom) × Contains atoms k × (k.name ≡ c)
char_named atoms c (i, lt, e) =
    let name : Atom → CharName = λ (k : Atom). k.name in
    let few : i < length atoms = omega (arith, length-map atoms name) in
    elim (slice_get_cases atoms i).1 [
      | inl found ↦
          let (k, within, is, same) = found in
          let here = get_or_from_slice_get atoms i k k is in
          (k, (i, few, here), sym (ap name here) ∙ sym (get_or-map name atoms i k c few) ∙ e)
      | inr past ↦ absurd (omega (arith, few, past.0))
    ]

not_true : (b : Bool) → IsTrue (not b) → IsTrue b → ⊥
not_true true out is = absurd cc
not_true false out is = absurd cc

true_unless : (b : Bool) → (IsTrue b → ⊥) → IsTrue (not b)
true_unless true out = absurd (out refl)
true_unless false out = refl

-- of operations and their atoms
module _ (ops : List Operation) (atoms : List Atom) (are : AreAtoms ops atoms) (all : All (FollowRegisters ops) atoms) where
  -- characters are here
  pub chars_are_here : (names : List Range) → ((c : CharName) → IsAmong names c → IsChar ops c) → AreHere names atoms
  chars_are_here names chars = λ c named. (are.order.each c).1 (chars c named)

  -- a character is visible unless it is hidden
  told : (k : Atom) → Contains atoms k → is_visible ops k.name ≡ not k.hidden.value
  told k (i, lt, is) = (subst (FollowRegisters ops) is (all i k lt)).visible

  pub all_visible : (names : List Range) → AreHere names atoms → (hidden : Bool)
      → (IsTrue hidden ↔ ((k : Atom) × Contains atoms k × IsAmong names k.name × IsTrue k.hidden.value))
      → IsTrue (not hidden) ↔ ((c : CharName) → IsAmong names c → IsTrue (is_visible ops c))
  all_visible names here hidden tells = (
    λ none c named.
        let (k, has, is) = char_named atoms c (here c named) in
        let out : IsTrue k.hidden.value → ⊥ =
        λ yes. not_true hidden none (tells.1 (k, has, subst (IsAmong names) (sym is) named, yes)) in
        subst (λ (d : CharName). IsTrue (is_visible ops d)) is (told k has ∙ true_unless k.hidden.value out),
    λ visible. true_unless hidden (λ yes.
        let (k, has, named, own) = tells.0 yes in
        not_true k.hidden.value (sym (told k has) ∙ visible k.name named) own),
  )

  -- a name that is here is visible unless its character is hidden
  pub visible_unless_hidden : (c : CharName) → HasName atoms c → (hidden : Bool)
      → ((k : Atom) → Contains atoms k → k.name ≡ c → k.hidden.value ≡ hidden) → is_visible ops c ≡ not hidden
  visible_unless_hidden c here hidden tells =
      let (k, has, is) = char_named atoms c here in
      subst (λ (d : CharName). is_visible ops d ≡ not hidden) is (told k has ∙ ap not (tells k has is))
