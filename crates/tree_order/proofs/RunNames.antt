-- The run of an Insert: its names, and that they lead down from the cause.
use Rattle.std.proofs.Common.{◌≡◌, ℕ, zero, suc, ◌+◌, ◌-◌, ◌<◌, ◌≤◌, ◌↔◌, List, length}
use Rattle.std.proofs.Common.{refl, sym, ap, subst, ◌∙◌, eqb, eq-eqb, true, false, ne_eqb, Contains, arith}
use Rattle.std.proofs.lemmas.List.FromFn.{length-map-range_with_len, get_or-map-range_with_len}
use Rattle.looks.specs.declared.looks.Looks.{Looks}
use Rattle.char_files.specs.CharName.{CharName}
use Rattle.char_files.specs.declared.name.Anchor.{Anchor}
use Rattle.char_files.specs.declared.name.Anchor.TheVariants.{At}
use Rattle.operations.specs.NameSet.{Range, IsIn, names_of}
use Rattle.operations.specs.Operation.{Operation, OpKind, insert, Inserts, InsertsBy}
use Rattle.tree_order.specs.Insertion.{run_by, run_of, HasCauseBy, IsInsertAt}
use Rattle.tree_order.specs.Tree.{LeadsDown, parent_by}
use Rattle.operations.proofs.WithName.{same_name}

-- the names of a range are those that are in it
pub in_names : (r : Range) (c : CharName) → Contains (names_of r) c → IsIn r c
in_names r c (k, lt, e) =
    let name : ℕ → CharName = λ (off : ℕ). record { site = r.site; off = off } in
    let few : k < r.len = omega (arith, length-map-range_with_len name r.at r.len) in
    let is : name (r.at + k) ≡ c =
    sym (get_or-map-range_with_len name r.at r.len k (r.at + k) c few refl) ∙ e in
    let site : r.site ≡ c.site = ap (λ (x : CharName). x.site) is in
    let off : r.at + k ≡ c.off = ap (λ (x : CharName). x.off) is in
    (sym site, omega arith, omega arith)

pub names_have : (r : Range) (c : CharName) → IsIn r c → Contains (names_of r) c
names_have r c (site, from, to) =
    let name : ℕ → CharName = λ (off : ℕ). record { site = r.site; off = off } in
    let few : c.off - r.at < r.len = omega arith in
    let at : r.at + (c.off - r.at) ≡ c.off = omega arith in (
      c.off - r.at,
      omega (arith, length-map-range_with_len name r.at r.len),
      get_or-map-range_with_len name r.at r.len (c.off - r.at) c.off c few at
          ∙ same_name (name c.off) c (sym site) refl,
    )

-- the run has what the operation inserts
run_by_inserts : (site : ℕ) (kind : OpKind) (c : CharName)
    → Contains (run_by site kind) c ↔ InsertsBy site kind c
run_by_inserts site (insert cause at looks bytes) c =
    let r : Range = record { site = site; at = at; len = length bytes } in
    (in_names r c, names_have r c)
run_by_inserts site kind c = (λ h. omega arith, λ h. absurd h)

pub run_inserts : (i : Operation) (c : CharName) → Contains (run_of i) c ↔ Inserts i c
run_inserts i c = run_by_inserts i.site i.kind c

-- after the first name each hangs on the one before
next_parent : (site off at : ℕ) (cause : Anchor) (looks : Looks) (bytes : List ℕ) → at ≤ off
    → At (record { site = site; off = off })
    ≡ parent_by (insert cause at looks bytes) (record { site = site; off = off + 1 })
next_parent site off at cause looks bytes le =
    let later : eqb (off + 1) at ≡ false = ne_eqb (off + 1) at (omega arith) in
    let same : record { site = site; off = off } ≡ record { site = site; off = off + 1 - 1 } =
    same_name (record { site = site; off = off }) (record { site = site; off = off + 1 - 1 }) refl
    (omega arith) in
    rw later (ap At same)

-- the names of an Insert from one on lead down from its parent
names_lead : (ops : List Operation) (i : Operation) (cause : Anchor) (at : ℕ) (looks : Looks) (bytes : List ℕ)
    → Contains ops i → i.kind ≡ insert cause at looks bytes → (n off : ℕ) (a : Anchor) → at ≤ off
    → off + n ≤ at + length bytes
    → a ≡ parent_by (insert cause at looks bytes) (record { site = i.site; off = off })
    → (b : Anchor) × LeadsDown ops a (names_of (record { site = i.site; at = off; len = n })) b
names_lead ops i cause at looks bytes held is zero off a from to hung = (a, refl)
names_lead ops i cause at looks bytes held is (suc n) off a from to hung =
    let c : CharName = record { site = i.site; off = off } in
    let inserts : Inserts i c =
    subst (λ (kind : OpKind). InsertsBy i.site kind c) (sym is) (refl, from, omega arith) in
    let on : a ≡ parent_by i.kind c = hung ∙ ap (λ (kind : OpKind). parent_by kind c) (sym is) in
    let (b, rest) =
    names_lead ops i cause at looks bytes held is n (off + 1) (At c) (omega arith) (omega arith)
    (next_parent i.site off at cause looks bytes from) in
    (b, ((i, record { held = held; inserts = inserts }, on), rest))

run_leads_by : (ops : List Operation) (i : Operation) (kind : OpKind) (cause : Anchor) → Contains ops i
    → i.kind ≡ kind → HasCauseBy kind cause → (b : Anchor) × LeadsDown ops cause (run_by i.site kind) b
run_leads_by ops i (insert above at looks bytes) cause held is same =
    let start : eqb at at ≡ true = eq-eqb at at refl in
    names_lead ops i above at looks bytes held is (length bytes) at cause (omega arith) (omega arith)
    (rw start (sym same))
run_leads_by ops i kind cause held is same = absurd same

-- the run leads down from the cause
pub run_leads : (ops : List Operation) (i : Operation) (cause : Anchor) → Contains ops i → IsInsertAt i cause
    → (b : Anchor) × LeadsDown ops cause (run_of i) b
run_leads ops i cause held at = run_leads_by ops i i.kind cause held refl at
