-- A good set with one operation more, which is new: the old characters keep their paths, and the new ones are
-- apart from them.
use Rattle.std.proofs.Common.{◌≡◌, ◌⊎◌, inl, inr, List, [], ◌∷◌, ◌++◌, sym, subst, All, Contains}
use Rattle.std.proofs.lemmas.List.Elements.{All-contains, Contains-append_left, Contains-push}
use Rattle.char_files.specs.CharName.{CharName}
use Rattle.char_files.specs.declared.name.Anchor.TheVariants.{Root, At}
use Rattle.operations.specs.Operation.{Operation, Inserts}
use Rattle.tree_order.specs.Insertion.{IsOneMore}
use Rattle.tree_order.specs.Tree.{IsChar, IsInsertOf, IsPath, IsDescendant}
use Rattle.tree_order.specs.Order.{Before}
use Rattle.tree_order.proofs.Ancestors.{Contains-path}
use Rattle.tree_order.proofs.Before.{Before-total}
use Rattle.tree_order.proofs.SameSet.{Within}
use Rattle.tree_order.proofs.SameSet as lifted
use Rattle.tree_order.proofs.Tree.{has_path, one_insert, one_path}
use Rattle.tree_order.proofs.Turns.{All-path}

module _ (ops : List Operation) (i : Operation) (one : IsOneMore ops i) where
  pub within : Within ops (ops ++ i ∷ [])
  within op held = Contains-append_left ops (i ∷ []) op held

  pub held : Contains (ops ++ i ∷ []) i
  held = Contains-push ops i

  -- what i inserts
  pub new_insert : (c : CharName) → Inserts i c → IsInsertOf (ops ++ i ∷ []) c i
  new_insert c inserts = record { held = held; inserts = inserts }

  pub old_insert : (c : CharName) (j : Operation) → IsInsertOf ops c j → IsInsertOf (ops ++ i ∷ []) c j
  old_insert c j is = lifted.insert_of ops (ops ++ i ∷ []) within c j is

  pub old_char : (c : CharName) → IsChar ops c → IsChar (ops ++ i ∷ []) c
  old_char c is = lifted.char ops (ops ++ i ∷ []) within c is

  pub old_before : (c d : CharName) → Before ops c d → Before (ops ++ i ∷ []) c d
  old_before c d b = lifted.before ops (ops ++ i ∷ []) within c d b

  -- no character is both new and old
  pub not_both : (c : CharName) → IsChar ops c → Inserts i c → ⊥
  not_both c (j, is) inserts =
      let same : j ≡ i =
      one_insert (ops ++ i ∷ []) one.larger c j i (old_insert c j is) (new_insert c inserts) in
      one.new (subst (Contains ops) same is.held)

  -- the path of an old character has old ones alone
  pub old_path : (c : CharName) (path : List CharName) → IsChar ops c → IsPath (ops ++ i ∷ []) c path
      → All (IsChar ops) path
  old_path c path is p =
      let (q, up) = has_path ops one.good c is in
      let same : q ≡ path =
      one_path (ops ++ i ∷ []) one.larger c q path (lifted.leads ops (ops ++ i ∷ []) within Root (At c) q up)
      p in
      subst (All (IsChar ops)) same (All-path ops Root (At c) q up)

  -- so a new character is on no path of an old one
  pub apart_from_path : (c d : CharName) (path : List CharName) → IsChar ops c
      → IsPath (ops ++ i ∷ []) c path → Inserts i d → Contains path d → ⊥
  apart_from_path c d path is p inserts on =
      not_both d (All-contains (IsChar ops) path d (old_path c path is p) on) inserts

  -- and has no old descendants
  pub no_old_descendant : (c d : CharName) → Inserts i c → IsChar ops d → IsDescendant (ops ++ i ∷ []) c d → ⊥
  no_old_descendant c d inserts is (p, q, up, uq, (x, rest, e)) =
      let on : Contains q c =
      subst (λ (xs : List CharName). Contains xs c) (sym e)
      (Contains-append_left p (x ∷ rest) c (Contains-path (ops ++ i ∷ []) c p up)) in
      apart_from_path d c q is uq inserts on

  -- a new character stands before an old one, or the old one before it
  pub new_and_old : (c d : CharName) → Inserts i c → IsChar ops d
      → Before (ops ++ i ∷ []) c d ⊎ Before (ops ++ i ∷ []) d c
  new_and_old c d inserts is =
      elim (Before-total (ops ++ i ∷ []) one.larger c d (i, new_insert c inserts) (old_char d is)) [
        | inl same ↦ absurd (not_both d is (subst (Inserts i) same inserts))
        | inr either ↦ either
      ]
