-- What holds of the tree of a good set: each character has one Insert, one parent and one path, and siblings
-- have different keys.
use Rattle.std.proofs.Common.{◌≡◌, ℕ, zero, suc, ◌+◌, ◌-◌, ◌<◌, ◌≤◌, ◌⊎◌, inl, inr, true, List, [], ◌∷◌}
use Rattle.std.proofs.Common.{◌++◌, length, length-append, refl, sym, ap, subst, ◌∙◌, arith}
use Rattle.std.specs.Prelude.{◌≢◌, Contains}
use Rattle.std.proofs.lemmas.Bool.{cases_eq, cases_order}
use Rattle.std.proofs.lemmas.Bool.Decides.{nat_tests}
use Rattle.looks.specs.Key.{is_below}
use Rattle.looks.specs.declared.key.Key.{Key}
use Rattle.char_files.specs.CharName.{CharName}
use Rattle.char_files.specs.declared.name.Anchor.{Anchor}
use Rattle.char_files.specs.declared.name.Anchor.TheVariants.{Root, At}
use Rattle.operations.specs.Operation.{Operation, key_of}
use Rattle.tree_order.specs.Good.{Good, file_before}
use Rattle.tree_order.specs.Tree.{IsChar, IsInsertOf, IsParent, IsPath, LeadsDown, parent_by}
use Rattle.tree_order.specs.Order.{HasGreaterKey}
use Rattle.tree_order.specs.Laws.{KeysDiffer}
use Rattle.operations.proofs.WithName.{same_name}
use Rattle.tree_order.proofs.Files.{IsInStretch, in_stretch, before, IsFirst, IsNext, hangs}
use Rattle.tree_order.proofs.Files.{file_before_grows}
use Rattle.tree_order.proofs.Paths.{Leads-append, Leads-end, LastStep, last_step}

-- of two operations of a site the later has the greater stamp
pub stamps_rise : (ops : List Operation) → Good ops → (n : ℕ) (a b : Operation) → Contains ops a
    → Contains ops b → a.site ≡ b.site → a.seq < b.seq → b.seq ≤ n → a.stamp < b.stamp
stamps_rise ops good zero a b ha hb site lt le = absurd (omega arith)
stamps_rise ops good (suc n) a b ha hb site lt le =
    elim (cases_eq (a.seq + 1) b.seq) [
      | inl next ↦ good.stamps b a hb ha (inl (site, next))
      | inr far ↦
          let p = good.predecessors b hb (omega arith) in
          let rises : a.stamp < p.0.stamp =
          stamps_rise ops good n a p.0 ha p.1 (site ∙ sym p.2.0) (omega arith) (omega arith) in
          let last : p.0.stamp < b.stamp = good.stamps b p.0 hb p.1 (inl p.2) in
          omega arith
    ]

-- a site has one operation of a stamp
pub same_operation : (ops : List Operation) → Good ops → (a b : Operation) → Contains ops a → Contains ops b
    → a.site ≡ b.site → a.stamp ≡ b.stamp → a ≡ b
same_operation ops good a b ha hb site stamp =
    elim (cases_order a.seq b.seq) [
      | inl seq ↦ good.identities a b ha hb site seq
      | inr apart ↦ elim apart [
        | inl lt ↦ let rises : a.stamp < b.stamp =
            stamps_rise ops good b.seq a b ha hb site lt (omega arith) in absurd (omega arith)
        | inr gt ↦ let rises : b.stamp < a.stamp =
            stamps_rise ops good a.seq b a hb ha (sym site) gt (omega arith) in absurd (omega arith)
      ]
    ]

-- two operations have different keys
pub different_keys : (ops : List Operation) → Good ops → KeysDiffer ops
different_keys ops good a b ha hb e =
    same_operation ops good a b ha hb (ap (λ (k : Key). k.site) e) (ap (λ (k : Key). k.stamp) e)

-- two Inserts of a site have stretches of its file that are apart
apart_in_file : (ops : List Operation) (c : CharName) (i j : Operation) → IsInStretch ops c i
    → IsInStretch ops c j → i.site ≡ j.site → i.seq < j.seq → ⊥
apart_in_file ops c i j p q site lt =
    let grows = file_before_grows ops i.site (suc i.seq) j.seq lt in
    let same = ap (λ (s : ℕ). file_before ops s j.seq) site in
    omega (arith, grows, same, p.below, q.from)

-- a character is inserted by one operation
pub one_insert : (ops : List Operation) → Good ops → (c : CharName) (i j : Operation) → IsInsertOf ops c i
    → IsInsertOf ops c j → i ≡ j
one_insert ops good c i j p q =
    let at_i = in_stretch ops good c i p in
    let at_j = in_stretch ops good c j q in
    let site : i.site ≡ j.site = sym at_i.own ∙ at_j.own in
    elim (cases_order i.seq j.seq) [
      | inl seq ↦ good.identities i j p.held q.held site seq
      | inr apart ↦ elim apart [
        | inl lt ↦ absurd (apart_in_file ops c i j at_i at_j site lt)
        | inr gt ↦ absurd (apart_in_file ops c j i at_j at_i (sym site) gt)
      ]
    ]

-- a character hangs on one anchor
pub one_parent : (ops : List Operation) → Good ops → (c : CharName) (a b : Anchor) → IsParent ops c a
    → IsParent ops c b → a ≡ b
one_parent ops good c a b (i, p, e) (j, q, f) =
    e ∙ ap (λ (o : Operation). parent_by o.kind c) (one_insert ops good c i j p q) ∙ sym f

-- an Insert's first character isn't the sibling of another of its characters
first_apart : (ops : List Operation) → Good ops → (c d : CharName) (i : Operation) (a : Anchor)
    → Contains ops i → IsFirst ops c i a → IsNext ops d i a → d.site ≡ i.site → ⊥
first_apart ops good c d i a held first next own =
    elim first.cause [
      | inl root ↦ let both : Root ≡ At (before d) = sym root ∙ next.is in absurd cc
      | inr named ↦
          let both : At named.0 ≡ At (before d) = sym named.1 ∙ next.is in
          let same : named.0 ≡ before d = cc in
          let site : named.0.site ≡ i.site = ap (λ (n : CharName). n.site) same ∙ own in
          let lt = good.own i named.0 held named.2 site in
          let off : named.0.off ≡ d.off - 1 = ap (λ (n : CharName). n.off) same in
          omega (arith, lt, off, next.past)
    ]

-- an Insert has one character that hangs on an anchor
same_child : (ops : List Operation) → Good ops → (c d : CharName) (i : Operation) (a : Anchor)
    → IsInsertOf ops c i → IsInsertOf ops d i → a ≡ parent_by i.kind c → a ≡ parent_by i.kind d → c ≡ d
same_child ops good c d i a p q e f =
    let own_c : c.site ≡ i.site = (in_stretch ops good c i p).own in
    let own_d : d.site ≡ i.site = (in_stretch ops good d i q).own in
    let site : c.site ≡ d.site = own_c ∙ sym own_d in
    elim (hangs ops good c i p a e) [
      | inl first ↦ elim (hangs ops good d i q a f) [
        | inl other ↦ same_name c d site (first.start ∙ sym other.start)
        | inr next ↦ absurd (first_apart ops good c d i a p.held first next own_d)
      ]
      | inr next ↦ elim (hangs ops good d i q a f) [
        | inl first ↦ absurd (first_apart ops good d c i a p.held first next own_c)
        | inr other ↦
            let both : At (before c) ≡ At (before d) = sym next.is ∙ other.is in
            let same : before c ≡ before d = cc in
            let off : c.off - 1 ≡ d.off - 1 = ap (λ (n : CharName). n.off) same in
            same_name c d site (omega (arith, off, next.past, other.past))
      ]
    ]

-- two operations have one site and stamp, or one has the greater key
pub keys_order : (a b : Operation) → ((a.site ≡ b.site) × (a.stamp ≡ b.stamp))
    ⊎ ((is_below (key_of b) (key_of a) ≡ true) ⊎ (is_below (key_of a) (key_of b) ≡ true))
keys_order a b =
    elim (cases_order a.stamp b.stamp) [
      | inl stamp ↦ elim (cases_order a.site b.site) [
        | inl site ↦ inl (site, stamp)
        | inr apart ↦ elim apart [
          | inl lt ↦ inr (inr (grind (arith, nat_tests)))
          | inr gt ↦ inr
              (inl (grind (arith, nat_tests)))
        ]
      ]
      | inr apart ↦ elim apart [
        | inl lt ↦ inr (inr (grind (arith, nat_tests)))
        | inr gt ↦ inr
            (inl (grind (arith, nat_tests)))
      ]
    ]

-- of two characters that hang on one anchor one has the greater key
pub siblings_differ : (ops : List Operation) → Good ops → (c d : CharName) (a : Anchor) → IsParent ops c a
    → IsParent ops d a → c ≢ d → HasGreaterKey ops c d ⊎ HasGreaterKey ops d c
siblings_differ ops good c d a (i, p, e) (j, q, f) apart =
    elim (keys_order i j) [
      | inl same ↦
          let one : i ≡ j = same_operation ops good i j p.held q.held same.0 same.1 in
          let back = sym one in
          let r : IsInsertOf ops d i = subst (IsInsertOf ops d) back q in
          let g : a ≡ parent_by i.kind d = f ∙ ap (λ (o : Operation). parent_by o.kind d) back in
          absurd (apart (same_child ops good c d i a p r e g))
      | inr differ ↦ elim differ [ inl gt ↦ inl (i, j, p, q, gt) | inr lt ↦ inr (j, i, q, p, lt) ]
    ]

abbrev HasPath : List Operation → CharName → Type 0
HasPath ops c = (path : List CharName) × IsPath ops c path

-- the path of the parent and one step
next_path : (ops : List Operation) (c : CharName) (a : Anchor) (path : List CharName)
    → LeadsDown ops Root path a → IsParent ops c a → HasPath ops c
next_path ops c a path leads hung =
    (path ++ c ∷ [], Leads-append ops Root a (At c) path (c ∷ []) leads (hung, refl))

-- the characters of an Insert have paths if those of smaller stamps have
paths_within : (ops : List Operation) → Good ops → (n : ℕ) → ((d : CharName) (j : Operation)
    → IsInsertOf ops d j → j.stamp < n → HasPath ops d)
    → (k : ℕ) (c : CharName) (i : Operation) → IsInsertOf ops c i → i.stamp < suc n → c.off < k
    → HasPath ops c
paths_within ops good n below zero c i is stamp off = absurd (omega arith)
paths_within ops good n below (suc k) c i is stamp off =
    let a : Anchor = parent_by i.kind c in
    let hung : IsParent ops c a = (i, is, refl) in
    elim (hangs ops good c i is a refl) [
      | inl first ↦ elim first.cause [
        | inl root ↦ next_path ops c a [] (sym root) hung
        | inr named ↦
            let m = good.mentions i named.0 is.held named.2 in
            let smaller : m.0.stamp < i.stamp = good.stamps i m.0 is.held m.1 (inr (named.0, named.2, m.2)) in
            let up = below named.0 m.0 (record { held = m.1; inserts = m.2 }) (omega arith) in
            next_path ops c a up.0 (subst (LeadsDown ops Root up.0) (sym named.1) up.1) hung
      ]
      | inr next ↦
          let nearer : c.off - 1 < k = omega (arith, next.past) in
          let up = paths_within ops good n below k (before c) i next.former stamp nearer in
          next_path ops c a up.0 (subst (LeadsDown ops Root up.0) (sym next.is) up.1) hung
    ]

-- by the stamp of its Insert each character has a path
paths_below : (ops : List Operation) → Good ops → (n : ℕ) (c : CharName) (i : Operation)
    → IsInsertOf ops c i → i.stamp < n → HasPath ops c
paths_below ops good zero c i is lt = absurd (omega arith)
paths_below ops good (suc n) c i is lt =
    paths_within ops good n (paths_below ops good n) (suc c.off) c i is lt (omega arith)

-- each character has a path
pub has_path : (ops : List Operation) → Good ops → (c : CharName) → IsChar ops c → (path : List CharName)
    × IsPath ops c path
has_path ops good c (i, is) = paths_below ops good (suc i.stamp) c i is (omega arith)

-- from the root there is one way to an anchor: the last steps are one, and so on from the end
one_way : (ops : List Operation) → Good ops → (n : ℕ) (a : Anchor) (p q : List CharName) → length p ≤ n
    → LeadsDown ops Root p a → LeadsDown ops Root q a → p ≡ q
one_way ops good n a [] [] few up uq = refl
one_way ops good n a [] (d ∷ q) few up uq =
    let s : LastStep ops Root (d ∷ q) a = last_step ops Root a d q uq in
    let both : Root ≡ At s.last = up ∙ sym s.ends in
    absurd cc
one_way ops good n a (c ∷ p) [] few up uq =
    let s : LastStep ops Root (c ∷ p) a = last_step ops Root a c p up in
    let both : Root ≡ At s.last = uq ∙ sym s.ends in
    absurd cc
one_way ops good zero a (c ∷ p) (d ∷ q) few up uq = absurd (omega arith)
one_way ops good (suc n) a (c ∷ p) (d ∷ q) few up uq =
    let s : LastStep ops Root (c ∷ p) a = last_step ops Root a c p up in
    let t : LastStep ops Root (d ∷ q) a = last_step ops Root a d q uq in
    let both : At s.last ≡ At t.last = s.ends ∙ sym t.ends in
    let last : s.last ≡ t.last = cc in
    let hung : IsParent ops s.last t.x = subst (λ (e : CharName). IsParent ops e t.x) (sym last) t.hangs in
    let x : s.x ≡ t.x = one_parent ops good s.last s.x t.x s.hangs hung in
    let shorter : length s.front ≤ n = omega (arith, ap length s.is, length-append s.front (s.last ∷ [])) in
    let front : s.front ≡ t.front =
    one_way ops good n s.x s.front t.front shorter s.leads (subst (LeadsDown ops Root t.front) (sym x)
    t.leads) in
    s.is ∙ ap (λ (xs : List CharName). xs ++ s.last ∷ []) front ∙ ap (λ (e : CharName). t.front ++ e ∷ [])
    last ∙ sym t.is

-- and no more than one
pub one_path : (ops : List Operation) → Good ops → (c : CharName) (p q : List CharName) → IsPath ops c p
    → IsPath ops c q → p ≡ q
one_path ops good c p q up uq = one_way ops good (length p) (At c) p q (omega arith) up uq

-- a path ends at one character
pub one_end : (ops : List Operation) (c d : CharName) (path : List CharName) → IsPath ops c path
    → IsPath ops d path → c ≡ d
one_end ops c d path p q =
    let both : At c ≡ At d = Leads-end ops Root (At c) (At d) path p q in
    cc

-- what has a path is a character
pub IsChar-from_path : (ops : List Operation) (c : CharName) (path : List CharName) → IsPath ops c path
    → IsChar ops c
IsChar-from_path ops c [] p = let both : Root ≡ At c = p in absurd cc
IsChar-from_path ops c (d ∷ path) p =
    let s : LastStep ops Root (d ∷ path) (At c) = last_step ops Root (At c) d path p in
    let both : At s.last ≡ At c = s.ends in
    let same : s.last ≡ c = cc in
    subst (IsChar ops) same (s.hangs.0, s.hangs.1)
