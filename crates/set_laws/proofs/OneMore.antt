-- A good set with one operation more that is ready.
use Rattle.std.proofs.Common.{◌≡◌, ℕ, ◌<◌, ◌≤◌, inl, inr, List, [], ◌∷◌, ◌++◌, Contains}
use Rattle.std.proofs.Common.{sym, ap, subst, ◌∙◌, arith}
use Rattle.std.proofs.lemmas.Bool.{cases_eq}
use Rattle.std.proofs.lemmas.List.Elements.{Contains-append_left, Contains-push, Contains-push_cases}
use Rattle.char_files.specs.CharName.{CharName}
use Rattle.operations.specs.Operation.{Operation, Inserts, Mentions, Begins}
use Rattle.tree_order.specs.Good.{Good, IsPredecessor, IsCauseOf, file_before}
use Rattle.tree_order.specs.Tree.{IsChar}
use Rattle.set_laws.specs.Fronts.{file_len, IsHeld}
use Rattle.set_laws.specs.Sets.{AreIdentified}
use Rattle.set_laws.specs.Verdict.{IsNew, FollowsOn, FitsFile, HasForeignNames, IsAboveCauses}
use Rattle.set_laws.proofs.Fronts.{held_up_to}
use Rattle.set_laws.proofs.Covered.{in_span, one_insert, AreLaid, part_file}
use Rattle.set_laws.proofs.Files.{here_is_char, next_file}

-- names that are placed or foreign are characters
pub mentioned_are_chars : (ops : List Operation) → Good ops → AreIdentified ops → (op : Operation)
    → FitsFile ops op → HasForeignNames ops op → (name : CharName) → Mentions op name → IsChar ops name
mentioned_are_chars ops good known op placed foreign name m =
    here_is_char ops good known name (elim (cases_eq name.site op.site) [
      | inl own ↦ placed.own name m own
      | inr other ↦ foreign name m other
    ])

module _ (ops : List Operation) (op : Operation) where
  -- the operations with one more
  abbrev pub with_one : List Operation
  with_one = ops ++ op ∷ []

  old : (x : Operation) → Contains ops x → Contains with_one x
  old = Contains-append_left ops (op ∷ [])

  pub with_one_identified : AreIdentified ops → IsNew ops op → AreIdentified with_one
  with_one_identified known new = record {
    counted = λ x held. elim (Contains-push_cases ops op x held) [
      | inl here ↦ known.counted x here
      | inr is ↦ subst (λ (o : Operation). 0 < o.seq) is new.counted
    ];
    unique = λ x y held other on at. elim (Contains-push_cases ops op x held) [
      | inl here ↦ elim (Contains-push_cases ops op y other) [
        | inl there ↦ known.unique x y here there on at
        | inr is ↦ absurd (new.unheld (
          x,
          here,
          on ∙ ap (λ (o : Operation). o.site) (sym is),
          at ∙ ap (λ (o : Operation). o.seq) (sym is),
        ))
      ]
      | inr is ↦ elim (Contains-push_cases ops op y other) [
        | inl there ↦ absurd (new.unheld (
          y,
          there,
          sym on ∙ ap (λ (o : Operation). o.site) (sym is),
          sym at ∙ ap (λ (o : Operation). o.seq) (sym is),
        ))
        | inr is' ↦ sym is ∙ is'
      ]
    ];
  }

  module _ (good : Good ops) (known : AreIdentified ops) (new : IsNew ops op) (follows : FollowsOn ops op)
      (placed : FitsFile ops op) (foreign : HasForeignNames ops op) (above : IsAboveCauses ops op) where
    known' : AreIdentified with_one
    known' = with_one_identified known new

    -- where operations stand in their files
    file_of_old : (x : Operation) → Contains ops x
        → file_before ops x.site x.seq ≡ file_before with_one x.site x.seq
    file_of_old x held = part_file ops with_one good.predecessors old known' x held

    file_of_new : file_len ops op.site ≡ file_before with_one op.site op.seq
    file_of_new = next_file ops with_one good old known' op new follows

    laid : AreLaid with_one
    laid x held = elim (Contains-push_cases ops op x held) [
      | inl here ↦ subst (Begins x.kind) (file_of_old x here) (good.begins x here)
      | inr is ↦ subst (λ (o : Operation). Begins o.kind (file_before with_one o.site o.seq)) is
          (subst (Begins op.kind) file_of_new placed.begins)
    ]

    predecessors : (x : Operation) → Contains with_one x → 1 < x.seq
        → (p : Operation) × Contains with_one p × IsPredecessor p x
    predecessors x held later = elim (Contains-push_cases ops op x held) [
      | inl here ↦ let (p, there, is) = good.predecessors x here later in (p, old p there, is)
      | inr same ↦
          let (p, there, is) = follows (let at = ap (λ (o : Operation). o.seq) same in omega arith) in
          (p, old p there, subst (IsPredecessor p) same is)
    ]

    new_mentions : (name : CharName) → Mentions op name → (i : Operation) × Contains ops i × Inserts i name
    new_mentions name m =
        let (i, is) = mentioned_are_chars ops good known op placed foreign name m in (i, is.held, is.inserts)

    mentions : (x : Operation) (name : CharName) → Contains with_one x → Mentions x name
        → (i : Operation) × Contains with_one i × Inserts i name
    mentions x name held m = elim (Contains-push_cases ops op x held) [
      | inl here ↦ let (i, there, is) = good.mentions x name here m in (i, old i there, is)
      | inr same ↦ let (i, there, is) =
          new_mentions name (subst (λ (o : Operation). Mentions o name) (sym same) m) in (i, old i there, is)
    ]

    new_own : (name : CharName) → Mentions op name → name.site ≡ op.site
        → name.off < file_before with_one op.site op.seq
    new_own name m on =
        subst (λ (n : ℕ). name.off < n) file_of_new
        (subst (λ (s : ℕ). name.off < file_len ops s) on (placed.own name m on))

    own : (x : Operation) (name : CharName) → Contains with_one x → Mentions x name → name.site ≡ x.site
        → name.off < file_before with_one x.site x.seq
    own x name held m on = elim (Contains-push_cases ops op x held) [
      | inl here ↦ subst (λ (n : ℕ). name.off < n) (file_of_old x here) (good.own x name here m on)
      | inr same ↦ subst (λ (o : Operation). name.off < file_before with_one o.site o.seq) same
          (new_own name (subst (λ (o : Operation). Mentions o name) (sym same) m)
          (on ∙ ap (λ (o : Operation). o.site) (sym same)))
    ]

    -- the new operation is no cause of one that is held
    no_old_cause : (x : Operation) → Contains ops x → IsCauseOf op x → ⊥
    no_old_cause x held (inl (on, next)) =
        let later : op.seq ≤ x.seq = omega arith in
        new.unheld (subst (λ (s : ℕ). IsHeld ops s op.seq) (sym on)
        (held_up_to ops good.predecessors x held op.seq new.counted later))
    no_old_cause x held (inr (name, m, ins)) =
        let (i, there, is) = good.mentions x name held m in
        let same : i ≡ op =
        one_insert with_one known' laid name i op (old i there) (Contains-push ops op) is ins in
        new.unheld (i, there, ap (λ (o : Operation). o.site) same, ap (λ (o : Operation). o.seq) same)

    -- nor of itself
    no_own_cause : IsCauseOf op op → ⊥
    no_own_cause (inl (on, next)) = omega arith
    no_own_cause (inr (name, m, ins)) =
        let span = in_span op.site (file_len ops op.site) op.kind name placed.begins ins in
        let here : name.off < file_len ops op.site =
        subst (λ (s : ℕ). name.off < file_len ops s) span.on (placed.own name m span.on) in
        let from = span.from in omega arith

    stamps : (x p : Operation) → Contains with_one x → Contains with_one p → IsCauseOf p x
        → p.stamp < x.stamp
    stamps x p held other cause = elim (Contains-push_cases ops op x held) [
      | inl here ↦ elim (Contains-push_cases ops op p other) [
        | inl there ↦ good.stamps x p here there cause
        | inr same ↦ absurd (no_old_cause x here (subst (λ (o : Operation). IsCauseOf o x) (sym same) cause))
      ]
      | inr is ↦ elim (Contains-push_cases ops op p other) [
        | inl there ↦ subst (λ (o : Operation). p.stamp < o.stamp) is
            (above p there (subst (IsCauseOf p) (sym is) cause))
        | inr same ↦ absurd (no_own_cause
            (subst (λ (o : Operation). IsCauseOf o op) (sym same) (subst (IsCauseOf p) (sym is) cause)))
      ]
    ]

    pub with_one_good : Good with_one
    with_one_good = record {
      identities = known'.unique;
      predecessors = predecessors;
      mentions = mentions;
      begins = laid;
      own = own;
      stamps = stamps;
    }
