-- The place of a character that is counted in the atoms is its place in the order.
use Rattle.std.proofs.Common.{◌≡◌, ℕ, ◌+◌, Bool, true, false, not, cond, ◌&&◌, ◌==◌, inl, inr, List, [], ◌∷◌, zero, suc}
use Rattle.std.proofs.Common.{Option, Some, None, eq-eqb, length, take, All, refl, sym, ap, ◌∙◌, arith}
use Rattle.std.specs.Prelude.{IfSome, IsSome, slice_get}
use Rattle.std.specs.List.{filter}
use Rattle.std.proofs.lemmas.List.Sums.{length-filter}
use Rattle.std.proofs.lemmas.Bool.{cases_Bool, and_parts, and_from, eqb-true, both_ways}
use Rattle.std.proofs.lemmas.List.Elements.{All-head, All-tail}
use Rattle.char_files.specs.CharName.{CharName}
use Rattle.char_files.specs.declared.name.Anchor.TheVariants.{At}
use Rattle.operations.specs.Operation.{Operation}
use Rattle.tree_order.specs.Order.{IsOrder}
use Rattle.tree_order.specs.Registers.{Atom}
use Rattle.tree_order.specs.RegisterLaws.{FollowRegisters}
use Rattle.tree_order.specs.Shown.{is_visible, up_to, IsPlace}
use Rattle.piece_list.specs.Shown.{AreShownTo}
use Rattle.piece_list.specs.Spelled.{shown_chars, names_of_atoms, HasName}

module _ (ops : List Operation) (c : CharName) where
  -- whether it is the name looked for
  abbrev is_it : Atom → Bool
  is_it k = k.name.site == c.site && k.name.off == c.off

  -- how many of the atoms up to the name are visible
  abbrev visible_to : List Atom → ℕ
  visible_to atoms = length (filter (is_visible ops) (up_to c (names_of_atoms atoms)))

  -- the name stands in the list, and so many characters up to it aren't hidden
  pub record Stands (atoms : List Atom) : Type 0 where
    pub at : ℕ
    pub is : slice_get (names_of_atoms atoms) at ≡ Some c
    pub count : length (shown_chars (take (at + 1) atoms)) ≡ visible_to atoms

  named : (k : Atom) → is_it k ≡ true → k.name ≡ c
  named k e =
      let both = and_parts (k.name.site == c.site) (k.name.off == c.off) e in
      let site : k.name.site ≡ c.site = eqb-true _ _ both.0 in
      let off : k.name.off ≡ c.off = eqb-true _ _ both.1 in
      ap (λ (s : ℕ). record { site = s; off = k.name.off }) site ∙ ap (λ (o : ℕ). record { site = c.site; off = o }) off

  -- one more of both at the front
  both_more : (b : Bool) (k : Atom) (ks : List Atom) (d : CharName) (ds : List CharName) → length ks ≡ length ds
      → length (cond b (k ∷ ks) ks) ≡ length (cond b (d ∷ ds) ds)
  both_more true k ks d ds same = omega (arith, same)
  both_more false k ks d ds same = same

  -- up to the name there is it alone
  at_front : (k : Atom) (atoms : List Atom) → is_it k ≡ true → FollowRegisters ops k → Stands (k ∷ atoms)
  at_front k atoms e tell = record {
    at = 0;
    is = ap (λ (d : CharName). Some d) (named k e);
    count =
        both_more (not k.hidden.value) k [] k.name [] refl
        ∙ ap (λ (b : Bool). length (cond b (k.name ∷ []) [])) (sym tell.visible)
        ∙ ap (λ (b : Bool). length (filter (is_visible ops) (k.name ∷ cond b [] (up_to c (names_of_atoms atoms))))) (sym e);
  }

  -- or it stands further after
  after : (k : Atom) (atoms : List Atom) → is_it k ≡ false → FollowRegisters ops k → Stands atoms → Stands (k ∷ atoms)
  after k atoms e tell rest = record {
    at = suc rest.at;
    is = rest.is;
    count =
        ap (λ (n : ℕ). length (shown_chars (take n (k ∷ atoms)))) next
        ∙ both_more (not k.hidden.value) k (shown_chars (take (rest.at + 1) atoms)) k.name
        (filter (is_visible ops) (up_to c (names_of_atoms atoms))) rest.count
        ∙ ap (λ (b : Bool). length (cond b (k.name ∷ filter (is_visible ops) (up_to c (names_of_atoms atoms)))
        (filter (is_visible ops) (up_to c (names_of_atoms atoms))))) (sym tell.visible)
        ∙ ap (λ (b : Bool). length (filter (is_visible ops) (k.name ∷ cond b [] (up_to c (names_of_atoms atoms))))) (sym e);
  }
    where
      next : suc rest.at + 1 ≡ suc (rest.at + 1)
      next = omega arith

  has_rest : (k : Atom) (atoms : List Atom) → is_it k ≡ false → HasName (k ∷ atoms) c → HasName atoms c
  has_rest k atoms e (zero, lt, same) =
      absurd (both_ways _ e (and_from _ _ (eq-eqb _ _ (ap (λ (d : CharName). d.site) same)) (eq-eqb _ _ (ap (λ (d : CharName). d.off) same))))
  has_rest k atoms e (suc i, lt, same) = (i, omega arith, same)

  stands : (atoms : List Atom) → All (FollowRegisters ops) atoms → HasName atoms c → Stands atoms
  stands [] all (i, lt, e) = absurd (omega arith)
  stands (k ∷ atoms) all has =
      elim (cases_Bool (is_it k)) [
        | inl e ↦ at_front k atoms e (All-head (FollowRegisters ops) k atoms all)
        | inr e ↦ after k atoms e (All-head (FollowRegisters ops) k atoms all)
            (stands atoms (All-tail (FollowRegisters ops) k atoms all) (has_rest k atoms e has))
      ]

-- so its place in the order is told
pub place_is : (ops : List Operation) (atoms : List Atom) → IsOrder ops (names_of_atoms atoms) → All (FollowRegisters ops) atoms
    → (c : CharName) (r : Option ℕ) → (IsSome r → HasName atoms c) → IfSome r (AreShownTo atoms c) → IfSome r (IsPlace ops (At c))
place_is ops atoms order all c None has count = count
place_is ops atoms order all c (Some n) has count =
    let s : Stands ops c atoms = stands ops c atoms all (has refl) in
    (names_of_atoms atoms, order, count s.at s.is ∙ s.count ∙ length-filter (is_visible ops) (up_to c (names_of_atoms atoms)))
