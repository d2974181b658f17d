-- Two paths, step by step: which goes first; and the way up from a character.
use Rattle.std.proofs.Common.{◌≡◌, ◌≢◌, ℕ, zero, suc, ◌+◌, ◌-◌, ◌*◌, ◌^◌, ◌<◌, ◌≤◌, ◌⊎◌, ◌↔◌, min, false}
use Rattle.std.proofs.Common.{true, ◌==◌, ◌&&◌, inl, inr, List, [], ◌∷◌, All, length, get_or, take, drop}
use Rattle.std.proofs.Common.{length-drop, sym, ap, subst, ◌∙◌, arith}
use Rattle.std.proofs.lemmas.Bool.{cases_lt}
use Rattle.std.proofs.lemmas.Bool.Decides.{nat_tests}
use Rattle.std.proofs.lemmas.List.{drop_more, drop_all}
use Rattle.std.proofs.lemmas.List.Elements.{All-nil, All-cons}
use Rattle.looks.specs.Key.{is_below}
use Rattle.char_files.specs.CharName.{CharName}
use Rattle.char_files.specs.declared.name.Anchor.{Anchor}
use Rattle.char_files.specs.declared.name.Anchor.TheVariants.{At}
use Rattle.operations.specs.Operation.{Operation, OpKind, insert, delete, restore, change_looks, Inserts, key_of}
use Rattle.operations.specs.Operation.{InsertsBy}
use Rattle.operations.specs.Spelling.{HasSpelling, IsKind}
use Rattle.tree_order.specs.Good.{Good}
use Rattle.tree_order.specs.Tree.{IsChar, IsInsertOf, IsPath, IsProperPrefix, LeadsDown, parent_by}
use Rattle.tree_order.specs.Order.{HasGreaterKey, TurnsBefore, Before}
use Rattle.tree_order.proofs.Before.{trail_from_Before}
use Rattle.tree_order.proofs.Files.{before, hangs}
use Rattle.tree_order.proofs.Tree.{one_insert}
use Rattle.tree_order.proofs.Trails.{Trail, Trail-from_prefix, Trail-from_turn, cases_Trail}

-- p goes before q
abbrev GoesBefore : List Operation → List CharName → List CharName → Type 0
GoesBefore ops p q = IsProperPrefix p q ⊎ TurnsBefore ops p q

-- after a common beginning the rest decides
Trail-common : (ops : List Operation) (n : ℕ) (p q : List CharName) → n ≤ length p → n ≤ length q
    → take n p ≡ take n q → Trail ops p q ↔ Trail ops (drop n p) (drop n q)
Trail-common ops zero p q in_p in_q same = (λ t. t, λ t. t)
Trail-common ops (suc n) [] q in_p in_q same = absurd (omega arith)
Trail-common ops (suc n) (c ∷ p) [] in_p in_q same = absurd (omega arith)
Trail-common ops (suc n) (c ∷ p) (d ∷ q) in_p in_q same =
    let both : c ∷ take n p ≡ d ∷ take n q = same in
    let first : c ≡ d = cc in
    let rest = Trail-common ops n p q (omega arith) (omega arith) cc in (
      λ t. elim t [ inl h ↦ rest.0 h.1 | inr h ↦ absurd (h.0 first) ],
      λ t. inl (first, rest.1 t),
    )

Trail_iff : (ops : List Operation) (p q : List CharName) → Trail ops p q ↔ GoesBefore ops p q
Trail_iff ops p q = (
  cases_Trail ops p q,
  λ h. elim h [
    | inl k ↦ Trail-from_prefix ops p q k
    | inr k ↦ Trail-from_turn ops p
        q k
  ],
)

-- where two paths differ first, the keys decide
pub goes_before_at : (ops : List Operation) (p q : List CharName) (n : ℕ) (c d : CharName) → n < length p
    → n < length q → take n p ≡ take n q → c ≡ get_or p n c → d ≡ get_or q n d → c ≢ d
    → HasGreaterKey ops c d ↔ GoesBefore ops p q
goes_before_at ops p q n c d in_p in_q same at_p at_q apart =
    let common = Trail-common ops n p q (omega arith) (omega arith) same in
    let rest_p : drop n p ≡ c ∷ drop (n + 1) p = drop_more p n c in_p ∙ rw (← at_p) in
    let rest_q : drop n q ≡ d ∷ drop (n + 1) q = drop_more q n d in_q ∙ rw (← at_q) in
    let all = Trail_iff ops p q in (
      λ more. all.0 (common.1 (rw (rest_p, rest_q) (inr (apart, more)))),
      λ h. let t : Trail ops (c ∷ drop (n + 1) p) (d ∷ drop (n + 1) q) =
          rw (rest_p, rest_q) at (common.0 (all.1 h)) in
          elim t [ inl k ↦ absurd (apart k.0) | inr k ↦ k.1 ],
    )

none_before : (ops : List Operation) (p : List CharName) → Trail ops p [] → ⊥
none_before ops [] t = t
none_before ops (c ∷ p) t = t

before_some : (ops : List Operation) (q : List CharName) → 0 < length q → Trail ops [] q
before_some ops [] some = absurd (omega arith)
before_some ops (d ∷ q) some = tt

-- where one of two paths ends first, or both do, that one goes first which is shorter
pub goes_before_by_length : (ops : List Operation) (p q : List CharName) (n : ℕ)
    → n ≡ min (length p) (length q) → take n p ≡ take n q → (length p < length q) ↔ GoesBefore ops p q
goes_before_by_length ops p q n at same =
    let common = Trail-common ops n p q (omega arith) (omega arith) same in
    let all = Trail_iff ops p q in (
      λ less. let ended : drop n p ≡ [] = drop_all n p (omega arith) in
          all.0 (common.1 (rw ended (before_some ops (drop n q) (omega (arith, length-drop n q))))),
      λ h. elim (cases_lt (length p) (length q)) [
        | inl less ↦ less
        | inr ge ↦ let ended : drop n q ≡ [] = drop_all n q (omega arith) in
            absurd (none_before ops (drop n p) (rw ended at (common.0 (all.1 h))))
      ],
    )

-- a character's key is that of its one Insert
pub HasGreaterKey_iff : (ops : List Operation) → Good ops → (c d : CharName) (i j : Operation)
    → IsInsertOf ops c i → IsInsertOf ops d j
    → (is_below (key_of j) (key_of i) ≡ true) ↔ HasGreaterKey ops c d
HasGreaterKey_iff ops good c d i j is is' = (
  λ more. (i, j, is, is', more),
  λ (i', j', p, q, more). rw (one_insert ops good c i i' is p, one_insert ops good d j j' is' q) more,
)

in_file_by : (site : ℕ) (kind : OpKind) (c : CharName) → IsKind site kind → InsertsBy site kind c
    → c.off < 2 ^ 24
in_file_by site (insert cause at looks bytes) c valid h = omega (arith, h.2, valid.in_file)
in_file_by site (delete names) c valid h = absurd h
in_file_by site (restore names) c valid h = absurd h
in_file_by site (change_looks sel looks names) c valid h = absurd h

-- what a character hangs on has an Insert of a smaller stamp, or stands before it in the same Insert
pub climbs : (ops : List Operation) → Good ops → (c parent : CharName) (i j : Operation)
    → IsInsertOf ops c i → IsInsertOf ops parent j → At parent ≡ parent_by i.kind c → HasSpelling j
    → j.stamp * 2 ^ 24 + parent.off < i.stamp * 2 ^ 24 + c.off
climbs ops good c parent i j is up hung spelled =
    let small : parent.off < 2 ^ 24 = in_file_by j.site j.kind parent spelled.kind up.inserts in
    elim (hangs ops good c i is (At parent) hung) [
      | inl first ↦ elim first.cause [
        | inl root ↦ absurd cc
        | inr named ↦
            let same : parent ≡ named.0 = cc in
            let cause : Inserts j named.0 = subst (Inserts j) same up.inserts in
            let less : j.stamp < i.stamp = good.stamps i j is.held up.held (inr (named.0, named.2, cause)) in
            omega arith
      ]
      | inr next ↦
          let same : parent ≡ before c = let at : At parent ≡ At (before c) = next.is in cc in
          let one : j ≡ i =
          one_insert ops good parent j i up (subst (λ (d : CharName). IsInsertOf ops d i) (sym same)
          next.former) in
          let stamp : j.stamp ≡ i.stamp = ap (λ (o : Operation). o.stamp) one in
          let off : parent.off ≡ c.off - 1 = ap (λ (d : CharName). d.off) same in
          omega (arith, next.past)
    ]

-- what a character hangs on is one too
pub IsChar-parent : (ops : List Operation) → Good ops → (c parent : CharName) (i : Operation)
    → IsInsertOf ops c i → At parent ≡ parent_by i.kind c → IsChar ops parent
IsChar-parent ops good c parent i is hung =
    elim (hangs ops good c i is (At parent) hung) [
      | inl first ↦ elim first.cause [
        | inl root ↦ absurd cc
        | inr named ↦
            let same : named.0 ≡ parent = cc in
            let (j, held, cause) = good.mentions i named.0 is.held named.2 in
            (j, record { held = held; inserts = subst (Inserts j) same cause })
      ]
      | inr next ↦
          let same : before c ≡ parent = let at : At parent ≡ At (before c) = next.is in cc in
          (i, subst (λ (d : CharName). IsInsertOf ops d i) same next.former)
    ]

-- names that the test finds different
pub names_differ : (c d : CharName) → (c.site == d.site && c.off == d.off) ≡ false → c ≢ d
names_differ c d e same = subst (λ (x : CharName). (c.site == x.site && c.off == x.off) ≡ false
    → ⊥) same (λ h. grind (arith, nat_tests)) e

-- a path has characters alone
pub All-path : (ops : List Operation) (a b : Anchor) (path : List CharName) → LeadsDown ops a path b
    → All (IsChar ops) path
All-path ops a b [] h = All-nil (IsChar ops)
All-path ops a b (c ∷ path) h = All-cons (IsChar ops) c path (h.0.0, h.0.1) (All-path ops (At c) b path h.1)

-- a character stands before another where its path goes first
pub Before_iff : (ops : List Operation) → Good ops → (c d : CharName) (p q : List CharName) → IsPath ops c p
    → IsPath ops d q → Before ops c d ↔ GoesBefore ops p q
Before_iff ops good c d p q up uq =
    (λ b. (Trail_iff ops p q).0 (trail_from_Before ops good c d p q up uq b), λ h. (p, q, up, uq, h))
