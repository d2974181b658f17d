-- On each operation there is one verdict: each thing that it asks is so or not so.
use Rattle.std.proofs.Common.{◌≡◌, ◌≢◌, ℕ, zero, suc, ◌+◌, ◌<◌, ◌≤◌, ◌⊎◌, inl, inr, List}
use Rattle.std.proofs.Common.{length}
use Rattle.std.proofs.Common.{refl, sym, ap, subst, ◌∙◌, arith}
use Rattle.std.proofs.lemmas.Bool.{cases_lt, cases_eq}
use Rattle.char_files.specs.CharName.{CharName}
use Rattle.char_files.specs.declared.name.Anchor.TheVariants.{Root, At}
use Rattle.operations.specs.NameSet.{Range, IsIn, IsAmong}
use Rattle.operations.specs.Operation.{Operation, OpKind, insert, delete, restore, change_looks, Begins}
use Rattle.operations.specs.Operation.{InsertsBy, Inserts, Mentions, MentionsBy}
use Rattle.tree_order.specs.Good.{Good, IsPredecessor, IsCauseOf}
use Rattle.set_laws.specs.Fronts.{file_len, IsHeld, IsHere}
use Rattle.set_laws.specs.Sets.{AreIdentified}
use Rattle.set_laws.specs.Verdict.{FollowsOn, FitsFile, HasForeignNames, IsAboveCauses, HasVerdict, Verdict}
use Rattle.set_laws.specs.Verdict.{wait, misfit, low_stamp, ready}
use Rattle.set_laws.specs.Growing.{HasOneVerdict, MissesACause}
use Rattle.set_laws.proofs.Files.{char_is_here}
use Rattle.set_laws.proofs.Picking.{search_list}

module _ (P Q : CharName → Type 0) (either : (name : CharName) → P name ⊎ Q name) where
  -- all names of a range, or one of them
  search_range : (site at len : ℕ)
      → ((name : CharName) → IsIn (record { site = site; at = at; len = len }) name → P name)
      ⊎ ((name : CharName) × IsIn (record { site = site; at = at; len = len }) name × Q name)
  search_range site at zero = inl (λ name h. let from = h.1 in let to = h.2 in absurd (omega arith))
  search_range site at (suc len) =
      elim (either (record { site = site; off = at })) [
        | inr q ↦ inr (record { site = site; off = at }, (refl, omega arith, omega arith), q)
        | inl p ↦ elim (search_range site (suc at) len) [
          | inr found ↦ let (name, is, q) = found in
              let from = is.1 in let to = is.2 in inr (name, (is.0, omega arith, omega arith), q)
          | inl all ↦ inl (λ name h.
              let from = h.1 in
              let to = h.2 in
              elim (cases_eq at name.off) [
                | inl e ↦ subst P (named name site at (sym h.0) e) p
                | inr apart ↦ all name (h.0, omega arith, omega arith)
              ])
        ]
      ]
    where
      named : (name : CharName) (site off : ℕ) → site ≡ name.site → off ≡ name.off
          → record { site = site; off = off } ≡ name
      named name site off e f =
          let made : ℕ → ℕ → CharName = λ s o. record { site = s; off = o } in
          ap (λ (s : ℕ). made s off) e ∙ ap (made name.site) f

  -- all names of a set, or one of them
  search_set : (ranges : List Range)
      → ((name : CharName) → IsAmong ranges name → P name)
      ⊎ ((name : CharName) × IsAmong ranges name × Q name)
  search_set ranges =
      let each : Range → Type 0 = λ r. (name : CharName) → IsIn r name → P name in
      let some : Range → Type 0 = λ r. (name : CharName) × IsIn r name × Q name in
      elim (search_list each some (λ r. search_range r.site r.at r.len) ranges) [
        | inl all ↦ inl (λ name h. all h.1 (h.0, h.2, h.3) name h.4)
        | inr found ↦ let (r, held, q) = found in
            inr (q.0, (held.0, r, held.1, held.2, q.1), q.2)
      ]

  -- all names that an operation mentions, or one of them
  search_kind : (kind : OpKind)
      → ((name : CharName) → MentionsBy kind name → P name)
      ⊎ ((name : CharName) × MentionsBy kind name × Q name)
  search_kind (insert Root at looks bytes) = inl (λ name m. absurd m)
  search_kind (insert (At cause) at looks bytes) =
      elim (either cause) [
        | inl p ↦ inl (λ name m. subst P (sym m) p)
        | inr q ↦ inr (cause, refl, q)
      ]
  search_kind (delete names) = search_set names
  search_kind (restore names) = search_set names
  search_kind (change_looks sel looks names) = search_set names

  pub search_mentions : (op : Operation)
      → ((name : CharName) → Mentions op name → P name) ⊎ ((name : CharName) × Mentions op name × Q name)
  search_mentions op = search_kind op.kind

begins_or_not : (kind : OpKind) (len : ℕ) → Begins kind len ⊎ (Begins kind len → ⊥)
begins_or_not (insert cause at looks bytes) len = cases_eq at len
begins_or_not (delete names) len = inl tt
begins_or_not (restore names) len = inl tt
begins_or_not (change_looks sel looks names) len = inl tt

inserts_or_not : (site : ℕ) (kind : OpKind) (name : CharName) → (InsertsBy site kind name → ⊥)
    ⊎ InsertsBy site kind name
inserts_or_not site (insert cause at looks bytes) name =
    elim (cases_eq name.site site) [
      | inr apart ↦ inl (λ h. apart h.0)
      | inl on ↦ elim (cases_lt name.off at) [
        | inl early ↦ inl (λ h. let from = h.1 in omega arith)
        | inr from ↦ elim (cases_lt name.off (at + length bytes)) [
          | inl below ↦ inr (on, from, below)
          | inr late ↦ inl (λ h. let to = h.2 in omega arith)
        ]
      ]
    ]
inserts_or_not site (delete names) name = inl (λ h. h)
inserts_or_not site (restore names) name = inl (λ h. h)
inserts_or_not site (change_looks sel looks names) name = inl (λ h. h)

is_predecessor_or_not : (p op : Operation) → IsPredecessor p op ⊎ (IsPredecessor p op → ⊥)
is_predecessor_or_not p op =
    elim (cases_eq p.site op.site) [
      | inr apart ↦ inr (λ h. apart h.0)
      | inl on ↦ elim (cases_eq (p.seq + 1) op.seq) [
        | inl next ↦ inl (on, next)
        | inr apart ↦ inr (λ h. apart h.1)
      ]
    ]

is_cause_or_not : (p op : Operation) → IsCauseOf p op ⊎ (IsCauseOf p op → ⊥)
is_cause_or_not p op =
    elim (is_predecessor_or_not p op) [
      | inl is ↦ inl (inl is)
      | inr not_before ↦
          elim (search_mentions (λ name. Inserts p name → ⊥) (Inserts p) (inserts_or_not p.site p.kind) op) [
            | inr found ↦ inl (inr found)
            | inl none ↦ inr (λ cause. elim cause [
              | inl is ↦ not_before is
              | inr is ↦ none is.0 is.1 is.2
            ])
          ]
    ]

pub held_or_not : (ops : List Operation) (site seq : ℕ) → IsHeld ops site seq ⊎ (IsHeld ops site seq → ⊥)
held_or_not ops site seq =
    let here : Operation → Type 0 = λ o. (o.site ≡ site) × (o.seq ≡ seq) in
    elim (search_list (λ o. here o → ⊥) here (λ o. elim (cases_eq o.site site) [
      | inr apart ↦ inl (λ h. apart h.0)
      | inl on ↦ elim (cases_eq o.seq seq) [
        | inr apart ↦ inl (λ h. apart h.1)
        | inl at ↦ inr (on, at)
      ]
    ]) ops) [
      | inr found ↦ inl (found.0, found.1, found.2.0, found.2.1)
      | inl none ↦ inr (λ h. none h.0 h.1 (h.2, h.3))
    ]

-- each question of the verdict is answered

follows_or_not : (ops : List Operation) (op : Operation) → FollowsOn ops op ⊎ (FollowsOn ops op → ⊥)
follows_or_not ops op =
    elim (cases_lt 1 op.seq) [
      | inr first ↦ inl (λ later. absurd (omega arith))
      | inl later ↦
          elim (search_list (λ p. IsPredecessor p op → ⊥) (λ p. IsPredecessor p op) (λ p.
          elim (is_predecessor_or_not p op) [ inl is ↦ inr is | inr none ↦ inl none ]) ops) [
            | inr found ↦ inl (λ later. found)
            | inl none ↦ inr (λ follows. let found = follows later in none found.0 found.1 found.2)
          ]
    ]

here_or_not : (ops : List Operation) (name : CharName) → IsHere ops name ⊎ (IsHere ops name → ⊥)
here_or_not ops name =
    elim (cases_lt name.off (file_len ops name.site)) [
      | inl here ↦ inl here
      | inr past ↦ inr (λ here. omega arith)
    ]

-- where names of which this holds are here, or one isn't
names_here_or_not : (ops : List Operation) (op : Operation) (Asked : CharName → Type 0)
    → ((name : CharName) → Asked name ⊎ (Asked name → ⊥))
    → ((name : CharName) → Mentions op name → Asked name → IsHere ops name)
    ⊎ ((name : CharName) × Mentions op name × (Asked name × (IsHere ops name → ⊥)))
names_here_or_not ops op Asked asked =
    search_mentions (λ name. Asked name → IsHere ops name) (λ name. Asked name × (IsHere ops name → ⊥))
    (λ name. elim (asked name) [
      | inr none ↦ inl (λ h. absurd (none h))
      | inl is ↦ elim (here_or_not ops name) [
        | inl here ↦ inl (λ h. here)
        | inr past ↦ inr (is, past)
      ]
    ]) op

placed_or_not : (ops : List Operation) (op : Operation) → FitsFile ops op ⊎ (FitsFile ops op → ⊥)
placed_or_not ops op =
    elim (begins_or_not op.kind (file_len ops op.site)) [
      | inr apart ↦ inr (λ placed. apart placed.begins)
      | inl begins ↦
          elim (names_here_or_not ops op (λ name. name.site ≡ op.site) (λ name. cases_eq name.site op.site)) [
            | inl own ↦ inl (record { begins = begins; own = own })
            | inr found ↦ inr (λ placed. found.2.1 (placed.own found.0 found.1 found.2.0))
          ]
    ]

-- the foreign names are here, or one isn't
pub foreign_or_not : (ops : List Operation) (op : Operation) → HasForeignNames ops op
    ⊎ ((name : CharName) × Mentions op name × ((name.site ≢ op.site) × (IsHere ops name → ⊥)))
foreign_or_not ops op =
    names_here_or_not ops op (λ name. name.site ≢ op.site) (λ name.
    elim (cases_eq name.site op.site) [ inl on ↦ inr (λ h. h on) | inr apart ↦ inl apart ])

above_or_not : (ops : List Operation) (op : Operation) → IsAboveCauses ops op ⊎ (IsAboveCauses ops op → ⊥)
above_or_not ops op =
    elim (search_list (λ p. IsCauseOf p op → p.stamp < op.stamp) (λ p. IsCauseOf p op × (op.stamp ≤ p.stamp))
    (λ p. elim (is_cause_or_not p op) [
      | inr none ↦ inl (λ h. absurd (none h))
      | inl cause ↦ elim (cases_lt p.stamp op.stamp) [
        | inl less ↦ inl (λ h. less)
        | inr low ↦ inr (cause, low)
      ]
    ]) ops) [
      | inl all ↦ inl all
      | inr found ↦ inr (λ above.
          let less : found.0.stamp < op.stamp = above found.0 found.1 found.2.0 in
          let low : op.stamp ≤ found.0.stamp = found.2.1 in
          omega arith)
    ]

-- so there is a verdict
pub some_verdict : (ops : List Operation) (op : Operation) → (v : Verdict) × HasVerdict ops op v
some_verdict ops op =
    elim (follows_or_not ops op) [
      | inr none ↦ (wait, inl none)
      | inl follows ↦ elim (placed_or_not ops op) [
        | inr misplaced ↦ (misfit, (follows, misplaced))
        | inl placed ↦ elim (foreign_or_not ops op) [
          | inr found ↦
              (wait, inr (follows, placed, λ foreign. found.2.1 (foreign found.0 found.1 found.2.0)))
          | inl foreign ↦ elim (above_or_not ops op) [
            | inl above ↦ (ready, (follows, placed, foreign, above))
            | inr low ↦ (low_stamp, (follows, placed, foreign, low))
          ]
        ]
      ]
    ]

-- and only one
pub same_verdict : (ops : List Operation) (op : Operation) (v w : Verdict) → HasVerdict ops op v
    → HasVerdict ops op w → v ≡ w
same_verdict ops op wait wait p q = refl
same_verdict ops op misfit misfit p q = refl
same_verdict ops op low_stamp low_stamp p q = refl
same_verdict ops op ready ready p q = refl
same_verdict ops op wait misfit (inl none) q = absurd (none q.0)
same_verdict ops op wait misfit (inr p) q = absurd (q.1 p.1)
same_verdict ops op wait low_stamp (inl none) q = absurd (none q.0)
same_verdict ops op wait low_stamp (inr p) q = absurd (p.2 q.2)
same_verdict ops op wait ready (inl none) q = absurd (none q.0)
same_verdict ops op wait ready (inr p) q = absurd (p.2 q.2)
same_verdict ops op misfit wait p (inl none) = absurd (none p.0)
same_verdict ops op misfit wait p (inr q) = absurd (p.1 q.1)
same_verdict ops op misfit low_stamp p q = absurd (p.1 q.1)
same_verdict ops op misfit ready p q = absurd (p.1 q.1)
same_verdict ops op low_stamp wait p (inl none) = absurd (none p.0)
same_verdict ops op low_stamp wait p (inr q) = absurd (q.2 p.2)
same_verdict ops op low_stamp misfit p q = absurd (q.1 p.1)
same_verdict ops op low_stamp ready p q = absurd (p.3 q.3)
same_verdict ops op ready wait p (inl none) = absurd (none p.0)
same_verdict ops op ready wait p (inr q) = absurd (q.2 p.2)
same_verdict ops op ready misfit p q = absurd (q.1 p.1)
same_verdict ops op ready low_stamp p q = absurd (q.3 p.3)

pub one_verdict : (ops : List Operation) (op : Operation) → HasOneVerdict ops op
one_verdict ops op =
    let found = some_verdict ops op in
    record {
      verdict = found.0;
      is = found.1;
      only = λ other is. same_verdict ops op other found.0 is found.1;
    }

-- what waits misses a cause
pub waits_for_a_cause : (ops : List Operation) → Good ops → AreIdentified ops → (op : Operation)
    → HasVerdict ops op wait → MissesACause ops op
waits_for_a_cause ops good known op (inr (follows, placed, lacks)) =
    elim (foreign_or_not ops op) [
      | inl foreign ↦ absurd (lacks foreign)
      | inr found ↦ inr (found.0, found.1, λ char. found.2.1 (char_is_here ops good known found.0 char))
    ]
waits_for_a_cause ops good known op (inl none) =
    elim (cases_lt 1 op.seq) [
      | inr first ↦ absurd (none (λ later. absurd (omega arith)))
      | inl later ↦ inl (
        later,
        λ h.
            let (p, held, on, at) = h in
            none (λ more. (p, held, (on, omega arith))),
      )
    ]
