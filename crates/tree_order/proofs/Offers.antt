-- Registers, and what one operation more makes of them.
use Rattle.std.proofs.Common.{◌≡◌, inl, inr, Bool, true, false, cond, List, [], ◌∷◌, ◌++◌, refl}
use Rattle.std.proofs.Common.{sym, ap, subst, ◌∙◌}
use Rattle.std.specs.List.{list_any}
use Rattle.std.proofs.lemmas.Bool.{false≢true}
use Rattle.std.proofs.lemmas.List.Elements.{Contains-append_left, Contains-push, Contains-push_cases}
use Rattle.looks.specs.Key.{is_below}
use Rattle.looks.specs.Sel.{Selection}
use Rattle.looks.specs.declared.key.Key.{Key}
use Rattle.looks.specs.declared.looks.Looks.{Looks}
use Rattle.looks.specs.declared.register.Register.{Register}
use Rattle.operations.specs.NameSet.{Range, IsAmong, range_contains}
use Rattle.operations.specs.Operation.{Operation, OpKind, insert, delete, restore, change_looks, Inserts, key_of}
use Rattle.tree_order.specs.Tree.{IsInsertOf}
use Rattle.tree_order.specs.Looks.{looks_by, ChangesBy, Sets}
use Rattle.tree_order.specs.Shown.{SwitchesBy, is_delete}
use Rattle.tree_order.specs.Registers.{SetsHidden, IsRegister, Atom, HasRegisters, offered, offered_if}
use Rattle.tree_order.specs.Registers.{switched, relooked, if_named, atom_by, atom_after}
use Rattle.tree_order.proofs.LastLemmas.{irreflexive, above_both}
use Rattle.tree_order.proofs.SameSet.{insert_of}
use Rattle.tree_order.proofs.ShownLemmas.{among_is}

-- one register, with one operation more
module _ {V : Type 0} (Sets : Operation → Type 0) (gives : OpKind → V) (ops : List Operation) (op : Operation)
    (r : Register V) (is : IsRegister Sets gives ops r) where
  -- the register stays where the operation doesn't set it, or has no greater key
  atom_register : (Sets op → is_below r.key (key_of op) ≡ false) → IsRegister Sets gives (ops ++ op ∷ []) r
  atom_register low = record {
    last = is.last;
    is = record {
      held = Contains-append_left ops (op ∷ []) is.last is.is.held;
      sets = is.is.sets;
      greatest = λ other h s. elim (Contains-push_cases ops op other h) [
        | inl old ↦ is.is.greatest other old s
        | inr e ↦ subst (λ (o : Operation). is_below (key_of is.last) (key_of o) ≡ false) e
            (subst (λ (k : Key). is_below k (key_of op) ≡ false) is.key (low (subst Sets (sym e) s)))
      ];
    };
    key = is.key;
    value = is.value;
  }

  -- it holds what the operation gives where that sets it and has a greater key
  taken_register : Sets op → is_below r.key (key_of op) ≡ true
      → IsRegister Sets gives (ops ++ op ∷ []) (record { key = key_of op; value = gives op.kind })
  taken_register sets more =
      let over : is_below (key_of is.last) (key_of op) ≡ true =
      subst (λ (k : Key). is_below k (key_of op) ≡ true) is.key more in
      record {
        last = op;
        is = record {
          held = Contains-push ops op;
          sets = sets;
          greatest = λ other h s. elim (Contains-push_cases ops op other h) [
            | inl old ↦
                above_both (key_of is.last) (key_of op) (key_of other) over (is.is.greatest other old s)
            | inr e ↦
                subst (λ (o : Operation). is_below (key_of op) (key_of o) ≡ false) e (irreflexive (key_of op))
          ];
        };
        key = refl;
        value = refl;
      }

  -- it is the old one, offered what the operation gives
  offered_register : Sets op → IsRegister Sets gives (ops ++ op ∷ []) (offered r (key_of op) (gives op.kind))
  offered_register sets = go (is_below r.key (key_of op)) refl
    where
      go : (b : Bool) → is_below r.key (key_of op) ≡ b
          → IsRegister Sets gives (ops ++ op ∷ [])
          (cond b (record { key = key_of op; value = gives op.kind }) r)
      go true more = taken_register sets more
      go false low = atom_register (λ s. low)

  -- the same where a test tells whether the operation sets it
  offered_register_if : (selected : Bool) → (selected ≡ true → Sets op) → (Sets op → selected ≡ true)
      → IsRegister Sets gives (ops ++ op ∷ []) (offered_if selected r (key_of op) (gives op.kind))
  offered_register_if true sets tells = offered_register (sets refl)
  offered_register_if false sets tells = atom_register (λ s. absurd (false≢true (tells s)))

-- an atom, with one operation more that doesn't insert it
module _ (ops : List Operation) (op : Operation) (k : Atom) (has : HasRegisters ops k)
    (old : ¬ Inserts op k.name) where
  -- the key stays
  same_key : (i : Operation) × IsInsertOf (ops ++ op ∷ []) k.name i × (k.key ≡ key_of i)
  same_key = (
    has.key.0,
    insert_of ops (ops ++ op ∷ []) (λ o held. Contains-append_left ops (op ∷ []) o held) k.name has.key.0
        has.key.1,
    has.key.2,
  )

  -- where the operation doesn't change looks, the registers of looks stay
  module _ (none : (selects : Selection → Bool) → ¬ ChangesBy op.kind selects k.name) where
    not_set : (selects : Selection → Bool) → ¬ Sets op selects k.name
    not_set selects h = elim h [ inl inserts ↦ old inserts | inr changes ↦ none selects changes ]

    -- where a Delete or a Restore names these
    switched_registers : (hidden : Bool) (names : List Range) → is_delete op.kind ≡ hidden
        → (IsAmong names k.name → SwitchesBy op.kind k.name)
        → (SwitchesBy op.kind k.name → IsAmong names k.name)
        → HasRegisters (ops ++ op ∷ []) (if_named names (switched hidden (key_of op)) k)
    switched_registers hidden names is to back = go (list_any (λ r. range_contains r k.name) names) refl
      where
        registers : (r : Register Bool) → IsRegister (λ o. SetsHidden o k.name) is_delete (ops ++ op ∷ []) r
            → HasRegisters (ops ++ op ∷ []) (record k { hidden = r })
        registers r is_register = record {
          key = same_key;
          font = atom_register _ _ ops op k.font has.font (λ s. absurd (not_set _ s));
          colour = atom_register _ _ ops op k.colour has.colour (λ s. absurd (not_set _ s));
          offset = atom_register _ _ ops op k.offset has.offset (λ s. absurd (not_set _ s));
          hidden = is_register;
        }

        go : (b : Bool) → list_any (λ r. range_contains r k.name) names ≡ b
            → HasRegisters (ops ++ op ∷ []) (cond b (switched hidden (key_of op) k) k)
        go true named =
            let sets : SetsHidden op k.name = inr (to ((among_is names k.name).0 named)) in
            registers (offered k.hidden (key_of op) hidden)
            (subst (λ (v : Bool). IsRegister (λ o. SetsHidden o k.name) is_delete (ops ++ op ∷ [])
            (offered k.hidden (key_of op) v)) is (offered_register _ _ ops op k.hidden has.hidden sets))
        go false out =
            registers k.hidden (atom_register _ _ ops op k.hidden has.hidden (λ s. elim s [
              | inl inserts ↦ absurd (old inserts)
              | inr switches ↦
                  absurd (false≢true (sym out ∙ (among_is names k.name).1 (back switches)))
            ]))

    -- where it names none
    same_registers : ¬ SwitchesBy op.kind k.name → HasRegisters (ops ++ op ∷ []) k
    same_registers out = record {
      key = same_key;
      font = atom_register _ _ ops op k.font has.font (λ s. absurd (not_set _ s));
      colour = atom_register _ _ ops op k.colour has.colour (λ s. absurd (not_set _ s));
      offset = atom_register _ _ ops op k.offset has.offset (λ s. absurd (not_set _ s));
      hidden = atom_register _ _ ops op k.hidden has.hidden (λ s. elim s [
        | inl inserts ↦ absurd (old inserts)
        | inr switches ↦ absurd (out switches)
      ]);
    }

  -- where it is a ChangeLooks of these
  relooked_registers : (sel : Selection) (looks : Looks) (names : List Range)
      → op.kind ≡ change_looks sel looks names
      → HasRegisters (ops ++ op ∷ []) (if_named names (relooked sel looks (key_of op)) k)
  relooked_registers sel looks names is = go (list_any (λ r. range_contains r k.name) names) refl
    where
      changes : (selects : Selection → Bool) → Sets op selects k.name
          → ChangesBy (change_looks sel looks names) selects k.name
      changes selects h = elim h [
        | inl inserts ↦ absurd (old inserts)
        | inr changed ↦ subst (λ (kind : OpKind). ChangesBy kind selects k.name) is changed
      ]

      hidden : IsRegister (λ o. SetsHidden o k.name) is_delete (ops ++ op ∷ []) k.hidden
      hidden = atom_register _ _ ops op k.hidden has.hidden (λ s. elim s [
        | inl inserts ↦ absurd (old inserts)
        | inr switches ↦ absurd (subst (λ (kind : OpKind). SwitchesBy kind k.name) is switches)
      ])

      selected : {V : Type 0} (gives : OpKind → V) (selects : Selection → Bool) (r : Register V)
          → IsAmong names k.name → IsRegister (λ o. Sets o selects k.name) gives ops r
          → IsRegister (λ o. Sets o selects k.name) gives (ops ++ op ∷ [])
          (offered_if (selects sel) r (key_of op) (gives (change_looks sel looks names)))
      selected gives selects r named register =
          subst (λ (kind : OpKind). IsRegister (λ o. Sets o selects k.name) gives (ops ++ op ∷ [])
          (offered_if (selects sel) r (key_of op) (gives kind))) is
          (offered_register_if _ _ ops op r register (selects sel)
          (λ e. inr (subst (λ (kind : OpKind). ChangesBy kind selects k.name) (sym is) (e, named)))
          (λ s. (changes selects s).0))

      go : (b : Bool) → list_any (λ r. range_contains r k.name) names ≡ b
          → HasRegisters (ops ++ op ∷ []) (cond b (relooked sel looks (key_of op) k) k)
      go true named =
          let among = (among_is names k.name).0 named in
          record {
            key = same_key;
            font = selected (λ kind. (looks_by kind).font) (λ s. s.font) k.font among has.font;
            colour = selected (λ kind. (looks_by kind).colour) (λ s. s.colour) k.colour among has.colour;
            offset = selected (λ kind. (looks_by kind).offset) (λ s. s.offset) k.offset among has.offset;
            hidden = hidden;
          }
      go false out =
          let apart : (selects : Selection → Bool) → ¬ Sets op selects k.name =
          λ selects s. false≢true (sym out ∙ (among_is names k.name).1 (changes selects s).1) in
          record {
            key = same_key;
            font = atom_register _ _ ops op k.font has.font (λ s. absurd (apart _ s));
            colour = atom_register _ _ ops op k.colour has.colour (λ s. absurd (apart _ s));
            offset = atom_register _ _ ops op k.offset has.offset (λ s. absurd (apart _ s));
            hidden = hidden;
          }

-- the registers of a character with one operation more, which doesn't insert it
pub registers_after : (ops : List Operation) (op : Operation) (k : Atom) → HasRegisters ops k
    → ¬ Inserts op k.name → HasRegisters (ops ++ op ∷ []) (atom_after op k)
registers_after ops op k has old = go op.kind refl
  where
    none : (kind : OpKind) → op.kind ≡ kind → ((selects : Selection → Bool) → ¬ ChangesBy kind selects k.name)
        → (selects : Selection → Bool) → ¬ ChangesBy op.kind selects k.name
    none kind is out selects h = out selects (subst (λ (o : OpKind). ChangesBy o selects k.name) is h)

    go : (kind : OpKind) → op.kind ≡ kind → HasRegisters (ops ++ op ∷ []) (atom_by kind (key_of op) k)
    go (insert cause at looks bytes) is =
        same_registers ops op k has old (none _ is (λ selects h. h))
        (λ h. subst (λ (o : OpKind). SwitchesBy o k.name) is h)
    go (delete names) is =
        switched_registers ops op k has old (none _ is (λ selects h. h)) true names (ap is_delete is)
        (λ h. subst (λ (o : OpKind). SwitchesBy o k.name) (sym is) h)
        (λ h. subst (λ (o : OpKind). SwitchesBy o k.name) is h)
    go (restore names) is =
        switched_registers ops op k has old (none _ is (λ selects h. h)) false names (ap is_delete is)
        (λ h. subst (λ (o : OpKind). SwitchesBy o k.name) (sym is) h)
        (λ h. subst (λ (o : OpKind). SwitchesBy o k.name) is h)
    go (change_looks sel looks names) is = relooked_registers ops op k has old sel looks names is
