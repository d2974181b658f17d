-- Of the Deletes and Restores that name a character the one of the greatest key decides whether it is
-- visible.
use Rattle.std.proofs.Common.{◌≡◌, inl, inr, Bool, true, false, not, ◌&&◌, List, refl, sym, ap, subst}
use Rattle.std.proofs.Common.{◌∙◌, Contains}
use Rattle.std.specs.List.{list_any}
use Rattle.std.proofs.lemmas.Bool.{and_parts, and_from, false_from_ne_true, false≢true}
use Rattle.std.proofs.lemmas.List.Folds.{Any-from_list_any, list_any_at}
use Rattle.looks.specs.Key.{is_below}
use Rattle.char_files.specs.CharName.{CharName}
use Rattle.operations.specs.NameSet.{Range}
use Rattle.operations.specs.Operation.{Operation, OpKind, insert, delete, restore, change_looks, key_of}
use Rattle.tree_order.specs.Good.{Good}
use Rattle.tree_order.specs.Laws.{TheLastSwitchDecides}
use Rattle.tree_order.specs.Shown.{deletes_by, restores_by, hides, is_visible, SwitchesBy}
use Rattle.tree_order.specs.Shown.{IsLastToSwitch, is_delete}
use Rattle.tree_order.proofs.ShownLemmas.{among_is}
use Rattle.tree_order.proofs.Tree.{keys_order, same_operation}

-- what the tests of kinds tell

deletes_switch : (k : OpKind) (c : CharName) → deletes_by k c ≡ true → SwitchesBy k c
deletes_switch (insert cause at looks bytes) c e = absurd cc
deletes_switch (delete names) c e = (among_is names c).0 e
deletes_switch (restore names) c e = absurd cc
deletes_switch (change_looks sel looks names) c e = absurd cc

restores_switch : (k : OpKind) (c : CharName) → restores_by k c ≡ true → SwitchesBy k c
restores_switch (insert cause at looks bytes) c e = absurd cc
restores_switch (delete names) c e = absurd cc
restores_switch (restore names) c e = (among_is names c).0 e
restores_switch (change_looks sel looks names) c e = absurd cc

-- a test that some operation passes
passes : (p : Operation → Bool) (ops : List Operation) (op : Operation) → Contains ops op → p op ≡ true
    → list_any p ops ≡ true
passes p ops op (k, lt, is) h = list_any_at p ops k op lt (subst (λ (o : Operation). p o ≡ true) (sym is) h)

-- a test that no operation passes
none_passes : (p : Operation → Bool) (ops : List Operation)
    → ((op : Operation) → Contains ops op → p op ≡ true → ⊥) → list_any p ops ≡ false
none_passes p ops none =
    false_from_ne_true _ (λ e.
    let (k, op, lt, is, h) = Any-from_list_any p ops e in
    none op (k, lt, is) h)

-- where no Delete names the character, and no Restore does, it is visible
pub untouched : (ops : List Operation) (c : CharName)
    → ((op : Operation) → Contains ops op → ¬ SwitchesBy op.kind c) → is_visible ops c ≡ true
untouched ops c none =
    ap not (none_passes (hides ops c) ops (λ op held h.
    none op held (deletes_switch op.kind c (and_parts (deletes_by op.kind c) _ h).0)))

module _ (ops : List Operation) (good : Good ops) (c : CharName) (last : Operation)
    (is : IsLastToSwitch ops c last) where
  abbrev is_restored_over : Operation → Operation → Bool
  is_restored_over op r = restores_by r.kind c && is_below (key_of op) (key_of r)

  -- nothing is above the last
  none_over : list_any (is_restored_over last) ops ≡ false
  none_over = none_passes (is_restored_over last) ops (λ r held h.
      let both = and_parts (restores_by r.kind c) (is_below (key_of last) (key_of r)) h in
      false≢true (sym (is.greatest r held (restores_switch r.kind c both.0)) ∙ both.1))

  -- where the last one restores, no other one hides
  none_hides : (names : List Range) → last.kind ≡ restore names → (op : Operation) → Contains ops op
      → hides ops c op ≡ true → ⊥
  none_hides names e op held h =
      let both = and_parts (deletes_by op.kind c) (not (list_any (is_restored_over op) ops)) h in
      let restores : restores_by last.kind c ≡ true = ap (λ (k : OpKind). restores_by k c) e
      ∙ (among_is names c).1 (subst (λ (k : OpKind). SwitchesBy k c) e is.sets) in
      elim (keys_order op last) [
        | inl same ↦
            let one : op ≡ last = same_operation ops good op last held is.held same.0 same.1 in
            false≢true (sym (ap (λ (o : Operation). deletes_by o.kind c) one
            ∙ ap (λ (k : OpKind). deletes_by k c) e) ∙ both.0)
        | inr (inl more) ↦
            false≢true (sym (is.greatest op held (deletes_switch op.kind c both.0)) ∙ more)
        | inr (inr less) ↦
            let over = passes (is_restored_over op) ops last is.held (and_from _ _ restores less) in
            false≢true (sym (ap not over) ∙ both.1)
      ]

  -- the last one decides
  pub decided : is_visible ops c ≡ not (is_delete last.kind)
  decided = go last.kind refl
    where
      go : (k : OpKind) → last.kind ≡ k → is_visible ops c ≡ not (is_delete k)
      go (insert cause at looks bytes) e = absurd (subst (λ (k : OpKind). SwitchesBy k c) e is.sets)
      go (delete names) e =
          let deletes : deletes_by last.kind c ≡ true = ap (λ (k : OpKind). deletes_by k c) e
          ∙ (among_is names c).1 (subst (λ (k : OpKind). SwitchesBy k c) e is.sets) in
          ap not (passes (hides ops c) ops last is.held (and_from _ _ deletes (ap not none_over)))
      go (restore names) e = ap not (none_passes (hides ops c) ops (none_hides names e))
      go (change_looks sel looks names) e = absurd (subst (λ (k : OpKind). SwitchesBy k c) e is.sets)

-- both, of each character of a good set
pub last_switch_decides : (ops : List Operation) → Good ops → (c : CharName) → TheLastSwitchDecides ops c
last_switch_decides ops good c = record { none = untouched ops c; last = decided ops good c }
