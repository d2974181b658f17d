-- Where the first character of one Insert more stands: which old ones are before it, and which after it.
use Rattle.std.proofs.Common.{◌≡◌, ◌⊎◌, inl, inr, true, List, [], ◌∷◌, ◌++◌, refl, sym, subst}
use Rattle.std.proofs.Common.{append_assoc, Contains}
use Rattle.std.proofs.lemmas.List.Elements.{All-contains, Contains-append_left, Contains-append_right}
use Rattle.looks.specs.Key.{is_below}
use Rattle.char_files.specs.CharName.{CharName}
use Rattle.char_files.specs.declared.name.Anchor.{Anchor}
use Rattle.char_files.specs.declared.name.Anchor.TheVariants.{Root, At}
use Rattle.operations.specs.Operation.{Operation, Inserts, key_of}
use Rattle.tree_order.specs.Insertion.{IsOneMore}
use Rattle.tree_order.specs.Tree.{IsChar, IsInsertOf, IsParent, IsPath, LeadsDown}
use Rattle.tree_order.specs.Order.{Before, TurnsBefore}
use Rattle.tree_order.proofs.Ancestors.{Leads-split, Contains-path, IsUpTo, insert_up_to, below_up_to}
use Rattle.tree_order.proofs.Before.{trail_from_Before}
use Rattle.tree_order.proofs.OneMore.{new_insert, old_path, apart_from_path}
use Rattle.tree_order.proofs.Paths.{Leads-append}
use Rattle.tree_order.proofs.Sorted.{Contains-head}
use Rattle.tree_order.proofs.Trails.{Trail, Trail-irreflexive, Trail-transitive}
use Rattle.tree_order.proofs.Trails.{cases_longer}
use Rattle.tree_order.proofs.Tree.{one_insert}

-- a path that goes on is that of a descendant, or of the same character
here_or_below : (ops : List Operation) (d y : CharName) (common rest : List CharName)
    → IsPath ops d (common ++ d ∷ []) → IsPath ops y (common ++ d ∷ rest) → LeadsDown ops (At d) rest (At y)
    → (d ≡ y) ⊎ Before ops d y
here_or_below ops d y common [] up uq on =
    let both : At d ≡ At y = on in
    inl cc
here_or_below ops d y common (x ∷ rest) up uq on =
    let longer : common ++ d ∷ x ∷ rest ≡ (common ++ d ∷ []) ++ x ∷ rest =
    sym (append_assoc common (d ∷ []) (x ∷ rest)) in
    inr (common ++ d ∷ [], common ++ d ∷ x ∷ rest, up, uq, inl (x, rest, longer))

-- after a common front the rest decides
Trail-rest : (ops : List Operation) (common p q : List CharName) → Trail ops (common ++ p) (common ++ q)
    → Trail ops p q
Trail-rest ops [] p q t = t
Trail-rest ops (c ∷ common) p q (inl (same, t)) = Trail-rest ops common p q t
Trail-rest ops (c ∷ common) p q (inr (apart, more)) = absurd (apart refl)

-- An old character d at y or before it, which is after r, and whose key is smaller than that of i.
pub record TurnsOff (ops : List Operation) (i : Operation) (r y : CharName) : Type 0 where
  pub d : CharName
  pub old : IsChar ops d
  pub up_to : (d ≡ y) ⊎ Before (ops ++ i ∷ []) d y
  pub after : Before (ops ++ i ∷ []) r d
  pub insert : Operation
  pub inserts : IsInsertOf (ops ++ i ∷ []) d insert
  pub smaller : is_below (key_of insert) (key_of i) ≡ true

module _ (ops : List Operation) (i : Operation) (one : IsOneMore ops i) (r : CharName)
    (new : Inserts i r) where
  -- the first of the old characters after r that is on the path of y has a smaller key
  turns_off_at : (y : CharName) (p q : List CharName) → IsChar ops y → IsPath (ops ++ i ∷ []) r p
      → IsPath (ops ++ i ∷ []) y q → TurnsBefore (ops ++ i ∷ []) p q → TurnsOff ops i r y
  turns_off_at y p q is up uq (common, a, d, p', q', e, f, apart, (k, m, at_a, at_d, less)) =
      let all : List Operation = ops ++ i ∷ [] in
      let up' : IsPath all r (common ++ a ∷ p') = subst (IsPath all r) e up in
      let uq' : IsPath all y (common ++ d ∷ q') = subst (IsPath all y) f uq in
      let (to_a, from_a) = Leads-split all Root (At r) common a p' up' in
      let (to_d, from_d) = Leads-split all Root (At y) common d q' uq' in
      let turn : TurnsBefore all p (common ++ d ∷ []) =
      (common, a, d, p', [], e, refl, apart, (k, m, at_a, at_d, less)) in
      let ancestor : IsUpTo k i =
      insert_up_to all one.larger p' a r k i from_a at_a (new_insert ops i one r new) in
      let on : Contains q d =
      subst (λ (xs : List CharName). Contains xs d) (sym f)
      (Contains-append_right common (d ∷ q') d (Contains-head d q')) in
      record {
        d = d;
        old = All-contains (IsChar ops) q d (old_path ops i one y q is uq) on;
        up_to = here_or_below all d y common q' to_d uq' from_d;
        after =
            (p, common ++ d ∷ [], up, to_d, inr turn);
        insert = m;
        inserts = at_d;
        smaller = below_up_to m k i less ancestor;
      }

  -- where r stands before an old character
  pub turns_off : (y : CharName) → IsChar ops y → Before (ops ++ i ∷ []) r y → TurnsOff ops i r y
  turns_off y is (p, q, up, uq, inl (x, rest, e)) =
      let on : Contains q r =
      subst (λ (xs : List CharName). Contains xs r) (sym e)
      (Contains-append_left p (x ∷ rest) r (Contains-path (ops ++ i ∷ []) r p up)) in
      absurd (apart_from_path ops i one y r q is uq new on)
  turns_off y is (p, q, up, uq, inr turn) = turns_off_at y p q is up uq turn

  -- where an old character stands between the cause and r, it hangs below a sibling of greater key
  below_sibling : (b : CharName) (c : CharName) (m : Operation) (front rest : List CharName) → IsChar ops b
      → IsInsertOf (ops ++ i ∷ []) b m → IsPath (ops ++ i ∷ []) b (front ++ c ∷ rest)
      → Trail (ops ++ i ∷ []) (c ∷ rest) (r ∷ []) → is_below (key_of i) (key_of m) ≡ true
  below_sibling b c m front rest is at_b uq (inl (same, t)) =
      absurd (apart_from_path ops i one b r (front ++ c ∷ rest) is uq new
      (subst (λ (x : CharName). Contains (front ++ c ∷ rest) x) same
      (Contains-append_right front (c ∷ rest) c (Contains-head c rest))))
  below_sibling b c m front rest is at_b uq (inr (apart, (j, k, at_c, at_r, less))) =
      let all : List Operation = ops ++ i ∷ [] in
      let (to_c, from_c) = Leads-split all Root (At b) front c rest uq in
      let mine : k ≡ i = one_insert all one.larger r k i at_r (new_insert ops i one r new) in
      let greater : is_below (key_of i) (key_of j) ≡ true =
      subst (λ (o : Operation). is_below (key_of o) (key_of j) ≡ true) mine less in
      below_up_to i j m greater (insert_up_to all one.larger rest c b j m from_c at_c at_b)

  pub above_between : (cause : Anchor) (front : List CharName) (b : CharName) (m : Operation) → IsChar ops b
      → IsInsertOf (ops ++ i ∷ []) b m → LeadsDown (ops ++ i ∷ []) Root front cause
      → IsParent (ops ++ i ∷ []) r cause → (q : List CharName) → IsPath (ops ++ i ∷ []) b q
      → Trail (ops ++ i ∷ []) front q → Before (ops ++ i ∷ []) b r → is_below (key_of i) (key_of m) ≡ true
  above_between cause front b m is at_b up hung q uq earlier before =
      let all : List Operation = ops ++ i ∷ [] in
      let ur : IsPath all r (front ++ r ∷ []) =
      Leads-append all Root cause (At r) front (r ∷ []) up (hung, refl) in
      let t : Trail all q (front ++ r ∷ []) =
      trail_from_Before all one.larger b r q (front ++ r ∷ []) uq ur before in
      elim (cases_longer all front q (r ∷ []) earlier) [
        | inl (c, rest, e) ↦
            let uq' : IsPath all b (front ++ c ∷ rest) = subst (IsPath all b) e uq in
            let t' : Trail all (front ++ c ∷ rest) (front ++ r ∷ []) =
            subst (λ (xs : List CharName). Trail all xs (front ++ r ∷ [])) e t in
            below_sibling b c m front rest is at_b uq' (Trail-rest all front (c ∷ rest) (r ∷ []) t')
        | inr back ↦
            absurd (Trail-irreflexive all q (Trail-transitive all one.larger q (front ++ r ∷ []) q t back))
      ]
