-- A change of a set's characters, range by range.
use Rattle.std.proofs.Common.{◌≡◌, ℕ, ◌+◌, ◌-◌, ◌<◌, ◌≤◌, Bool, true, false, cond, ◌||◌, inl, inr, List, []}
use Rattle.std.proofs.Common.{◌∷◌, length, get_or, take, map, Contains, refl, sym, ap, subst, ◌∙◌, arith}
use Rattle.std.specs.List.{list_any}
use Rattle.std.proofs.Math.Bool.{or-false}
use Rattle.std.proofs.lemmas.Bool.{cases_lt}
use Rattle.std.proofs.lemmas.List.{get_or-take, get_or_default, length-take}
use Rattle.std.proofs.lemmas.List.Folds.{Any-from_list_any, list_any_more}
use Rattle.char_files.specs.CharName.{CharName}
use Rattle.operations.specs.NameSet.{Range, IsIn, IsAmong, IsBefore, IsSet, range_contains}
use Rattle.tree_order.specs.Registers.{Atom, if_named}
use Rattle.piece_list.specs.Changing.{AreHere}
use Rattle.piece_list.specs.Spelled.{names_of_atoms, HasName}
use Rattle.piece_list.proofs.Changes.{contained, is_contained}

abbrev pub range : ℕ → ℕ → ℕ → Range
range site at len = record { site = site; at = at; len = len }

-- whether the set has the name
abbrev pub named : List Range → CharName → Bool
named names c = list_any (λ r. range_contains r c) names

pub is_false : (b : Bool) → (b ≡ true → ⊥) → b ≡ false
is_false true out = absurd (out refl)
is_false false out = refl

pub true_is_not : (b : Bool) → b ≡ true → b ≡ false → ⊥
true_is_not b has hasnt = absurd cc

-- the names of one range
pub only_range : (r : Range) (c : CharName) → IsAmong (r ∷ []) c → IsIn r c
only_range r c (k, x, few, there, held) =
    let first : k ≡ 0 = omega arith in
    let same : x ≡ r = sym there ∙ ap (λ (j : ℕ). get_or (r ∷ []) j x) first in
    subst (λ (s : Range). IsIn s c) same held

-- a map that changes nothing, and one map after another
map_same : (f : Atom → Atom) → ((k : Atom) → f k ≡ k) → (ks : List Atom) → map f ks ≡ ks
map_same f same [] = refl
map_same f same (k ∷ ks) =
    ap (λ (x : Atom). x ∷ map f ks) (same k) ∙ ap (λ (l : List Atom). k ∷ l) (map_same f same ks)

map_both : (f g h : Atom → Atom) → ((k : Atom) → g (f k) ≡ h k) → (ks : List Atom)
    → map g (map f ks) ≡ map h ks
map_both f g h both [] = refl
map_both f g h both (k ∷ ks) =
    ap (λ (x : Atom). x ∷ map g (map f ks)) (both k)
    ∙ ap (λ (l : List Atom). h k ∷ l) (map_both f g h both ks)

module _ (each : Atom → Atom) (keeps : (k : Atom) → (each k).name ≡ k.name) where
  -- a set without names changes nothing
  pub unchanged : (names : List Range) → ((c : CharName) → named names c ≡ false) → (ks : List Atom)
      → map (if_named names each) ks ≡ ks
  unchanged names none =
      map_same (if_named names each) (λ k. ap (λ (b : Bool). cond b (each k) k) (none k.name))

  pub name_stays : (names : List Range) (k : Atom) → (if_named names each k).name ≡ k.name
  name_stays names k = go (named names k.name)
    where
      go : (b : Bool) → (cond b (each k) k).name ≡ k.name
      go true = keeps k
      go false = refl

  -- names stay
  pub names_stay : (names : List Range) (ks : List Atom)
      → names_of_atoms (map (if_named names each) ks) ≡ names_of_atoms ks
  names_stay names [] = refl
  names_stay names (k ∷ ks) =
      ap (λ (c : CharName). c ∷ names_of_atoms (map (if_named names each) ks)) (name_stays names k)
      ∙ ap (λ (cs : List CharName). k.name ∷ cs) (names_stay names ks)

  -- two sets of different names make one
  both_once : (a b t : List Range) → ((c : CharName) → named a c ≡ true → named b c ≡ true → ⊥)
      → ((c : CharName) → (named a c || named b c) ≡ named t c) → (k : Atom)
      → if_named b each (if_named a each k) ≡ if_named t each k
  both_once a b t apart joined k = go (named a k.name) refl
    where
      go : (v : Bool) → named a k.name ≡ v → if_named b each (if_named a each k) ≡ if_named t each k
      go true is =
          let first : if_named a each k ≡ each k = ap (λ (v : Bool). cond v (each k) k) is in
          let other : named b (each k).name ≡ false =
          ap (named b) (keeps k) ∙ is_false (named b k.name) (apart k.name is) in
          let both : named t k.name ≡ true =
          sym (joined k.name) ∙ ap (λ (v : Bool). v || named b k.name) is in
          ap (if_named b each) first ∙ ap (λ (v : Bool). cond v (each (each k)) (each k)) other
          ∙ sym (ap (λ (v : Bool). cond v (each k) k) both)
      go false is =
          let first : if_named a each k ≡ k = ap (λ (v : Bool). cond v (each k) k) is in
          let both : named t k.name ≡ named b k.name =
          sym (joined k.name) ∙ ap (λ (v : Bool). v || named b k.name) is in
          ap (if_named b each) first ∙ sym (ap (λ (v : Bool). cond v (each k) k) both)

  together : (a b t : List Range) → ((c : CharName) → named a c ≡ true → named b c ≡ true → ⊥)
      → ((c : CharName) → (named a c || named b c) ≡ named t c) → (ks : List Atom)
      → map (if_named b each) (map (if_named a each) ks) ≡ map (if_named t each) ks
  together a b t apart joined =
      map_both (if_named a each) (if_named b each) (if_named t each) (both_once a b t apart joined)

  one : (r : Range) (c : CharName) → named (r ∷ []) c ≡ range_contains r c
  one r c = or-false (range_contains r c)

  -- a range and the one that goes on where it ends
  pub longer : (site at n m : ℕ) (ks : List Atom)
      → map (if_named (range site (at + n) m ∷ []) each) (map (if_named (range site at n ∷ []) each) ks)
      ≡ map (if_named (range site at (n + m) ∷ []) each) ks
  longer site at n m =
      together (range site at n ∷ []) (range site (at + n) m ∷ []) (range site at (n + m) ∷ []) apart joined
    where
      apart : (c : CharName) → named (range site at n ∷ []) c ≡ true
          → named (range site (at + n) m ∷ []) c ≡ true → ⊥
      apart c has_it too =
          let (s, from, to) = is_contained (range site at n) c (sym (one (range site at n) c) ∙ has_it) in
          let (t, later, end) =
          is_contained (range site (at + n) m) c (sym (one (range site (at + n) m) c) ∙ too) in
          omega arith

      both : (c : CharName) (u : Bool) → range_contains (range site at n) c ≡ u → (v : Bool)
          → range_contains (range site (at + n) m) c ≡ v
          → (u || v) ≡ range_contains (range site at (n + m)) c
      both c true e v f =
          let (s, from, to) = is_contained (range site at n) c e in
          sym (contained (range site at (n + m)) c (s, from, omega arith))
      both c false e true f =
          let (s, from, to) = is_contained (range site (at + n) m) c f in
          sym (contained (range site at (n + m)) c (s, omega arith, omega arith))
      both c false e false f =
          sym (is_false (range_contains (range site at (n + m)) c) (λ has_it.
          let (s, from, to) = is_contained (range site at (n + m)) c has_it in
          elim (cases_lt c.off (at + n)) [
            | inl lt ↦
                true_is_not (range_contains (range site at n) c)
                (contained (range site at n) c (s, from, lt)) e
            | inr ge ↦
                true_is_not (range_contains (range site (at + n) m) c)
                (contained (range site (at + n) m) c (s, ge, omega arith)) f
          ]))

      joined : (c : CharName) → (named (range site at n ∷ []) c || named (range site (at + n) m ∷ []) c)
          ≡ named (range site at (n + m) ∷ []) c
      joined c =
          ap (λ (v : Bool). v || named (range site (at + n) m ∷ []) c) (one (range site at n) c)
          ∙ ap (λ (v : Bool). range_contains (range site at n) c || v) (one (range site (at + n) m) c)
          ∙ both c (range_contains (range site at n) c) refl (range_contains (range site (at + n) m) c) refl
          ∙ sym (one (range site at (n + m)) c)

  -- an empty range
  pub no_range : (site at : ℕ) (ks : List Atom) → map (if_named (range site at 0 ∷ []) each) ks ≡ ks
  no_range site at =
      unchanged (range site at 0 ∷ []) (λ c.
      one (range site at 0) c ∙ is_false (range_contains (range site at 0) c) (λ has_it.
      let (s, from, to) = is_contained (range site at 0) c has_it in omega arith))

  -- the first ranges of a set and the next one
  pub one_more : (ranges : List Range) (i : ℕ) (r : Range) → IsSet ranges → i < length ranges
      → r ≡ get_or ranges i r → (ks : List Atom)
      → map (if_named (r ∷ []) each) (map (if_named (take i ranges) each) ks)
      ≡ map (if_named (take (i + 1) ranges) each) ks
  one_more ranges i r set lt is = together (take i ranges) (r ∷ []) (take (i + 1) ranges) apart joined
    where
      apart : (c : CharName) → named (take i ranges) c ≡ true → named (r ∷ []) c ≡ true → ⊥
      apart c has_it too =
          let (k, x, below, at, has) = Any-from_list_any (λ (s : Range). range_contains s c)
          (take i ranges) has_it in
          let few : k < i = omega (arith, length-take i ranges) in
          let there : get_or ranges k x ≡ x = sym (get_or-take i ranges k x few) ∙ at in
          let here : get_or ranges i x ≡ r = get_or_default ranges i x r lt ∙ sym is in
          let rising : IsBefore x r =
          subst (IsBefore x) here
          (subst (λ (s : Range). IsBefore s (get_or ranges i x)) there (set.rising k i x few lt)) in
          let (s, from, to) = is_contained x c has in
          let (t, later, end) = is_contained r c (sym (one r c) ∙ too) in
          elim rising [
            | inl less ↦ omega arith
            | inr before ↦ omega (arith, before.0, before.1)
          ]

      joined : (c : CharName) → (named (take i ranges) c || named (r ∷ []) c) ≡ named (take (i + 1) ranges) c
      joined c =
          ap (λ (v : Bool). named (take i ranges) c || v)
          (one r c ∙ ap (λ (s : Range). range_contains s c) is)
          ∙ sym (list_any_more (λ (s : Range). range_contains s c) ranges i r lt)

  -- one piece more of a range
  pub range_grows : (site from at to : ℕ) (name : CharName) (old now new : List Atom)
      → name ≡ record { site = site; off = at } → from ≤ at → at < to
      → now ≡ map (if_named (range site from (at - from) ∷ []) each) old
      → new ≡ map (if_named (range name.site name.off (to - name.off) ∷ []) each) now
      → new ≡ map (if_named (range site from (to - from) ∷ []) each) old
  range_grows site from at to name old now new is low lt first second =
      let there : at ≡ from + (at - from) = omega arith in
      let len : at - from + (to - at) ≡ to - from = omega arith in
      second
      ∙ ap (λ (c : CharName). map (if_named (range c.site c.off (to - c.off) ∷ []) each) now) is
      ∙ ap (map (if_named (range site at (to - at) ∷ []) each)) first
      ∙ ap (λ (o : ℕ). map (if_named (range site o (to - at) ∷ []) each)
      (map (if_named (range site from (at - from) ∷ []) each) old)) there
      ∙ longer site from (at - from) (to - at) old
      ∙ ap (λ (n : ℕ). map (if_named (range site from n ∷ []) each) old) len

  -- names that were there are there after a change
  still_here : (names : List Range) (c : CharName) (old now : List Atom)
      → now ≡ map (if_named names each) old → HasName old c → HasName now c
  still_here names c old now is =
      subst (λ (cs : List CharName). Contains cs c) (sym (ap names_of_atoms is ∙ names_stay names old))

  pub name_here : (names : List Range) (r : Range) (c : CharName) (old now : List Atom)
      → AreHere (r ∷ []) old → now ≡ map (if_named names each) old → IsIn r c → HasName now c
  name_here names r c old now here is held =
      still_here names c old now is (here c (0, r, omega arith, refl, held))

  pub range_here : (names ranges : List Range) (i : ℕ) (r : Range) (old now : List Atom)
      → i < length ranges → r ≡ get_or ranges i r → AreHere ranges old
      → now ≡ map (if_named names each) old → AreHere (r ∷ []) now
  range_here names ranges i r old now lt at here is = λ c held.
      still_here names c old now is (here c (i, r, lt, sym at, only_range r c held))
