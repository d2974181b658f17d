-- The entries of a room, and the operations that wait in it.
use Rattle.std.proofs.Common.{◌≡◌, ℕ, suc, ◌+◌, ◌<◌, ◌↔◌, Bool, true, false, nat_eq, ◌&&◌, List, [], ◌∷◌, ◌++◌, length}
use Rattle.std.proofs.Common.{Contains, Option, Some, None, get_or, take, drop, remove, refl, sym, ap, subst}
use Rattle.std.proofs.Common.{◌∙◌, arith, eqb-true, is_some}
use Rattle.std.specs.Cmp.{IsEquivalence, nat_eq_equiv}
use Rattle.std.specs.List.{IsDistinct}
use Rattle.std.specs.Map.{keys_of, values_of, lookup}
use Rattle.std.proofs.lemmas.Bool.{and_from, and_parts, true≢false, false≢true}
use Rattle.std.proofs.lemmas.List.{get_or-map, length-map, length_push, map-append, take-map, drop-map}
use Rattle.std.proofs.lemmas.List.Edits.{length-remove}
use Rattle.std.proofs.lemmas.List.Elements.{All-append, All-take, All-drop, All-push, All-contains}
use Rattle.std.proofs.lemmas.Map.Views.{Contains-from_lookup, lookup-from_Contains, IsSome-lookup_from_Contains}
use Rattle.std.proofs.lemmas.Option.{same_Some}
use Rattle.indexmap.specs.IndexMap.{IndexMap, insert_entry}
use Rattle.indexmap.proofs.CallerLemmas.{insert_entry-new}
use Rattle.operations.specs.Operation.{Operation}
use Rattle.set_laws.specs.Fronts.{IsHeld}
use Rattle.set_laws.specs.Sets.{AreIdentified}
use Rattle.waiting_room.specs.Room.{AreInRoom, IsWaitingAs, without}
use Rattle.waiting_room.specs.declared.room.TheConstants.{MAX_WAITING}

-- an identity, under which an operation stands
abbrev pub Key : Type 0
Key = ℕ × ℕ

abbrev pub key_of : Operation → Key
key_of op = (op.site, op.seq)

abbrev pub same_key : Key → Key → Bool
same_key a b = nat_eq a.0 b.0 && nat_eq a.1 b.1

-- an operation stands under its identity, and is counted from 1
abbrev pub IsKeyed : Key × Operation → Type 0
IsKeyed e = e.0 ≡ (e.1.site, e.1.seq)

abbrev pub IsCounted : Key × Operation → Type 0
IsCounted e = 0 < e.1.seq

-- equal keys are the same
pub exact : (a b : Key) → same_key a b ≡ true → a ≡ b
exact a b e =
    let two = and_parts (nat_eq a.0 b.0) (nat_eq a.1 b.1) e in
    λ i. (eqb-true a.0 b.0 two.0 i, eqb-true a.1 b.1 two.1 i)

pub laws : IsEquivalence same_key
laws = record {
  refl = λ a. and_from _ _ (nat_eq_equiv.refl a.0) (nat_eq_equiv.refl a.1);
  symm = λ a b i. nat_eq_equiv.symm a.0 b.0 i && nat_eq_equiv.symm a.1 b.1 i;
  congr = λ a b c e. ap (λ k. same_key k c) (exact a b e);
}

module _ (entries : List (Key × Operation)) (are : AreInRoom entries) where
  -- what waits stands under its identity
  pub stands : (op : Operation) → Contains (values_of entries) op → Contains entries (key_of op, op)
  stands op (k, lt, at) = by_entry (get_or entries k (key_of op, op)) refl
    where
      by_entry : (e : Key × Operation) → get_or entries k (key_of op, op) ≡ e → Contains entries (key_of op, op)
      by_entry e is =
          let long = length-map entries (λ e. e.1) in
          let there : k < length entries = omega arith in
          let own : e.1 ≡ op =
          ap (λ e. e.1) (sym is) ∙ sym (get_or-map (λ e. e.1) entries k (key_of op, op) op there) ∙ at in
          let key : e.0 ≡ key_of e.1 =
          subst (λ e. e.0 ≡ key_of e.1) is (are.keyed k (key_of op, op) there) in
          (k, there, is ∙ (λ i. ((key ∙ ap key_of own) i, own i)))

  -- each operation that waits has an identity of its own
  pub identified : IsDistinct same_key (keys_of entries) → AreIdentified (values_of entries)
  identified distinct = record {
    counted = λ op held. All-contains IsCounted entries (key_of op, op) are.counted (stands op held);
    unique = λ a b held other on at.
        let first = lookup-from_Contains laws (key_of a) a entries distinct (stands a held) in
        let second = lookup-from_Contains laws (key_of b) b entries distinct (stands b other) in
        let same : key_of a ≡ key_of b = λ i. (on i, at i) in
        same_Some a b (sym first ∙ ap (λ k. lookup (same_key k) entries) same ∙ second);
  }

  -- what a look-up finds waits under this identity
  pub found : (key : Key) (op : Operation) → lookup (same_key key) entries ≡ Some op
      → Contains (values_of entries) op × (op.site ≡ key.0) × (op.seq ≡ key.1)
  found key op is =
      let there = Contains-from_lookup exact key op entries is in
      let keyed = All-contains IsKeyed entries (key, op) are.keyed there in
      (waits there, sym (ap (λ k. k.0) keyed), sym (ap (λ k. k.1) keyed))
    where
      waits : Contains entries (key, op) → Contains (values_of entries) op
      waits (k, lt, at) =
          let long = length-map entries (λ e. e.1) in
          (k, omega arith, get_or-map (λ e. e.1) entries k (key, op) op lt ∙ ap (λ e. e.1) at)

  -- the one that it finds waits as an equal one, or as another of its identity
  pub waiting_as : (op waiting : Operation) (same : Bool) → lookup (same_key (key_of op)) entries ≡ Some waiting
      → ((same ≡ true) ↔ (waiting ≡ op)) → IsWaitingAs (values_of entries) op (Some same)
  waiting_as op waiting true is told =
      subst (Contains (values_of entries)) (told.0 refl) (found (key_of op) waiting is).0
  waiting_as op waiting false is told =
      let there = found (key_of op) waiting is in
      (waiting, there.0, there.1, there.2, λ e. false≢true (told.1 e))

  -- where it finds nothing, no operation of this identity waits
  pub not_found : (key : Key) → lookup (same_key key) entries ≡ None → ¬ IsHeld (values_of entries) key.0 key.1
  not_found key none h =
      let (op, held, on, at) = h in
      let (k, lt, is) = stands op held in
      let long = length-map entries (λ e. e.0) in
      let same : key_of op ≡ key = λ i. (on i, at i) in
      let there : Contains (keys_of entries) key =
      (k, omega arith, get_or-map (λ e. e.0) entries k (key_of op, op) key lt ∙ ap (λ e. e.0) is ∙ same) in
      true≢false (sym (IsSome-lookup_from_Contains laws key entries there) ∙ ap is_some none)

  -- and where no such one waits, it finds nothing
  pub none_there : (key : Key) → ¬ IsHeld (values_of entries) key.0 key.1 → lookup (same_key key) entries ≡ None
  none_there key free = by_answer (lookup (same_key key) entries) refl
    where
      by_answer : (o : Option Operation) → lookup (same_key key) entries ≡ o → o ≡ None
      by_answer None is = refl
      by_answer (Some op) is = let f = found key op is in absurd (free (op, f.0, f.1, f.2))

  -- with another at the end it is a room's
  pub entered : (op : Operation) → 0 < op.seq → length entries < MAX_WAITING
      → AreInRoom (entries ++ (key_of op, op) ∷ [])
  entered op counted few = record {
    keyed = All-push IsKeyed entries (key_of op, op) are.keyed (λ i. key_of op);
    counted = All-push IsCounted entries (key_of op, op) are.counted counted;
    few = let long = length_push entries (key_of op, op) in omega arith;
  }

  -- and without the one at a place
  pub left : (i : ℕ) → i < length entries → AreInRoom (remove entries i)
  left i lt = record {
    keyed = All-append IsKeyed (take i entries) (drop (suc i) entries) (All-take IsKeyed i entries are.keyed)
        (All-drop IsKeyed (suc i) entries are.keyed);
    counted = All-append IsCounted (take i entries) (drop (suc i) entries) (All-take IsCounted i entries are.counted)
        (All-drop IsCounted (suc i) entries are.counted);
    few = let less = length-remove entries i lt in let few = are.few in omega arith;
  }

-- what waits then
pub left_waiting : (entries : List (Key × Operation)) (i : ℕ)
    → values_of (remove entries i) ≡ without (values_of entries) i
left_waiting entries i =
    let next : suc i ≡ i + 1 = omega arith in
    let value : Key × Operation → Operation = λ e. e.1 in
    map-append value (take i entries) (drop (suc i) entries)
    ∙ (λ j. sym (take-map value i entries) j ++ sym (drop-map value (suc i) entries) j)
    ∙ ap (λ n. take i (values_of entries) ++ drop n (values_of entries)) next

-- one whose identity is free goes last into the map
pub new_last : {S : Type 0} (m : IndexMap Key Operation S) → AreInRoom m.entries → (key : Key) (op : Operation)
    → key ≡ key_of op → ¬ IsHeld (values_of m.entries) op.site op.seq
    → insert_entry same_key m.entries key op ≡ m.entries ++ (key_of op, op) ∷ []
new_last m are key op is free =
    ap (λ (k : Key). insert_entry same_key m.entries k op) is
    ∙ insert_entry-new same_key m (key_of op) op (none_there m.entries are (key_of op) free)
