-- What stands on the path of a character: keys don't fall on the way down.
use Rattle.std.proofs.Common.{◌≡◌, ◌⊎◌, ◌<◌, inl, inr, true, List, [], ◌∷◌, ◌++◌, refl, sym, subst}
use Rattle.std.proofs.Common.{Contains, arith}
use Rattle.std.proofs.lemmas.Bool.Decides.{nat_tests}
use Rattle.std.proofs.lemmas.List.Elements.{Contains-push}
use Rattle.looks.specs.Key.{is_below}
use Rattle.char_files.specs.CharName.{CharName}
use Rattle.char_files.specs.declared.name.Anchor.{Anchor}
use Rattle.char_files.specs.declared.name.Anchor.TheVariants.{Root, At}
use Rattle.operations.specs.Operation.{Operation, Inserts, key_of}
use Rattle.tree_order.specs.Good.{Good}
use Rattle.tree_order.specs.Tree.{IsInsertOf, IsPath, LeadsDown, parent_by}
use Rattle.tree_order.proofs.Files.{before, hangs}
use Rattle.tree_order.proofs.Paths.{LastStep, last_step}
use Rattle.tree_order.proofs.Tree.{one_insert}

-- a path that goes by d leads to d, and on from it
pub Leads-split : (ops : List Operation) (a b : Anchor) (p : List CharName) (d : CharName) (q : List CharName)
    → LeadsDown ops a (p ++ d ∷ q) b → LeadsDown ops a (p ++ d ∷ []) (At d) × LeadsDown ops (At d) q b
Leads-split ops a b [] d q h = ((h.0, refl), h.1)
Leads-split ops a b (c ∷ p) d q h =
    let (to, on) = Leads-split ops (At c) b p d q h.1 in
    ((h.0, to), on)

-- a path has its character
pub Contains-path : (ops : List Operation) (c : CharName) (path : List CharName) → IsPath ops c path
    → Contains path c
Contains-path ops c [] p = let both : Root ≡ At c = p in absurd cc
Contains-path ops c (d ∷ path) p =
    let s : LastStep ops Root (d ∷ path) (At c) = last_step ops Root (At c) d path p in
    let both : At s.last ≡ At c = s.ends in
    let same : s.last ≡ c = cc in
    let ends : Contains (s.front ++ s.last ∷ []) c =
    subst (λ (x : CharName). Contains (s.front ++ s.last ∷ []) x) same (Contains-push s.front s.last) in
    subst (λ (xs : List CharName). Contains xs c) (sym s.is) ends

-- one operation is the other, or is stamped below it
abbrev pub IsUpTo : Operation → Operation → Type 0
IsUpTo j k = (j ≡ k) ⊎ (j.stamp < k.stamp)

up_to_through : (j k m : Operation) → IsUpTo j k → IsUpTo k m → IsUpTo j m
up_to_through j k m (inl e) h = subst (λ (o : Operation). IsUpTo o m) (sym e) h
up_to_through j k m (inr lt) (inl e) = inr (subst (λ (o : Operation). j.stamp < o.stamp) e lt)
up_to_through j k m (inr lt) (inr lt') = inr (omega arith)

-- the Insert of what a character hangs on is that of the character, or is stamped below it
step_up : (ops : List Operation) → Good ops → (c d : CharName) (j k : Operation) → IsInsertOf ops c j
    → IsInsertOf ops d k → At c ≡ parent_by k.kind d → IsUpTo j k
step_up ops good c d j k p q hung =
    elim (hangs ops good d k q (At c) hung) [
      | inl first ↦ elim first.cause [
        | inl root ↦ absurd cc
        | inr named ↦
            let same : c ≡ named.0 = cc in
            let cause : Inserts j named.0 = subst (Inserts j) same p.inserts in
            inr (good.stamps k j q.held p.held (inr (named.0, named.2, cause)))
      ]
      | inr next ↦
          let same : c ≡ before d = let at : At c ≡ At (before d) = next.is in cc in
          inl (one_insert ops good c j k p (subst (λ (x : CharName). IsInsertOf ops x k) (sym same)
          next.former))
    ]

-- and so the Insert of each character that one hangs below
pub insert_up_to : (ops : List Operation) → Good ops → (path : List CharName) (c d : CharName)
    (j k : Operation) → LeadsDown ops (At c) path (At d) → IsInsertOf ops c j → IsInsertOf ops d k → IsUpTo j k
insert_up_to ops good [] c d j k h p q =
    let both : At c ≡ At d = h in
    let same : c ≡ d = cc in
    inl (one_insert ops good d j k (subst (λ (x : CharName). IsInsertOf ops x j) same p) q)
insert_up_to ops good (e ∷ path) c d j k ((m, is, hung), rest) p q =
    up_to_through j m k (step_up ops good c e j m p is hung) (insert_up_to ops good path e d m k rest is q)

-- keys along the way

pub below_up_to : (a j k : Operation) → is_below (key_of a) (key_of j) ≡ true → IsUpTo j k
    → is_below (key_of a) (key_of k) ≡ true
below_up_to a j k less (inl e) = subst (λ (o : Operation). is_below (key_of a) (key_of o) ≡ true) e less
below_up_to a j k less (inr lt) = grind (arith, nat_tests)
