-- What stands between two neighbouring bytes of one Insert.
use Rattle.std.proofs.Common.{◌≡◌, ℕ, ◌+◌, ◌-◌, inl, inr, false, eqb, List, [], ◌∷◌, ◌++◌, refl, ap, ne_eqb}
use Rattle.std.proofs.Common.{arith}
use Rattle.char_files.specs.CharName.{CharName}
use Rattle.char_files.specs.declared.name.Anchor.TheVariants.{Root, At}
use Rattle.operations.specs.Operation.{Operation, OpKind, insert, delete, restore, change_looks, InsertsBy}
use Rattle.tree_order.specs.Good.{Good}
use Rattle.tree_order.specs.Tree.{IsParent, IsPath, IsDescendant, parent_by}
use Rattle.tree_order.specs.Order.{Before}
use Rattle.tree_order.specs.Laws.{RunsStayTogether}
use Rattle.operations.proofs.WithName.{same_name}
use Rattle.tree_order.proofs.Before.{trail_from_Before}
use Rattle.tree_order.proofs.Paths.{Leads-append}
use Rattle.tree_order.proofs.Trails.{Trail, Trail-from_prefix, Trail-irreflexive, Trail-transitive}
use Rattle.tree_order.proofs.Trails.{cases_longer}

-- the next byte hangs on the one before
next_hangs : (site : ℕ) (kind : OpKind) (c d : CharName) → InsertsBy site kind c → InsertsBy site kind d
    → c.off + 1 ≡ d.off → At c ≡ parent_by kind d
next_hangs site (insert cause at looks bytes) c d h k next =
    let later : eqb d.off at ≡ false = ne_eqb d.off at (omega arith) in
    let same : c ≡ record { site = d.site; off = d.off - 1 } =
    same_name c (record { site = d.site; off = d.off - 1 }) (omega arith) (omega arith) in
    rw later (ap At same)
next_hangs site (delete names) c d h k next = absurd h
next_hangs site (restore names) c d h k next = absurd h
next_hangs site (change_looks sel looks names) c d h k next = absurd h

-- what stands between a character and one that hangs on it is a descendant of the former
pub between : (ops : List Operation) → Good ops → (c d x : CharName) → IsParent ops d (At c) → Before ops c x
    → Before ops x d → IsDescendant ops c x
between ops good c d x on b b' =
    let p = b.0 in
    let q = b.1 in
    let uq : IsPath ops d (p ++ d ∷ []) = Leads-append ops Root (At c) (At d) p (d ∷ []) b.2 (on, refl) in
    let t : Trail ops p q = trail_from_Before ops good c x p q b.2 b.3 b in
    let t' : Trail ops q (p ++ d ∷ []) = trail_from_Before ops good x d q (p ++ d ∷ []) b.3 uq b' in
    elim (cases_longer ops p q (d ∷ []) t) [
      | inl begins ↦ (p, q, b.2, b.3, begins)
      | inr before ↦ absurd (Trail-irreflexive ops q (Trail-transitive ops good q (p ++ d ∷ []) q t' before))
    ]

-- a descendant doesn't stand before its ancestor
not_below : (ops : List Operation) → Good ops → (d x : CharName) → Before ops x d → IsDescendant ops d x → ⊥
not_below ops good d x b (p, q, up, uq, begins) =
    let t : Trail ops q p = trail_from_Before ops good x d q p uq up b in
    Trail-irreflexive ops p (Trail-transitive ops good p q p (Trail-from_prefix ops p q begins) t)

-- text never splits a run
pub runs_stay : (ops : List Operation) → Good ops → RunsStayTogether ops
runs_stay ops good order c d x is run before after =
    let i = run.insert in
    let on : IsParent ops d (At c) =
    (i, run.second, next_hangs i.site i.kind c d run.first.inserts run.second.inserts run.next) in
    let b : Before ops c x = (is.before c x).0 before in
    let b' : Before ops x d = (is.before x d).0 after in
    (between ops good c d x on b b', not_below ops good d x b')
