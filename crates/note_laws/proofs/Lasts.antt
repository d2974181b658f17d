-- The last characters beyond, and the messages that inserted them.
use Rattle.std.proofs.Common.{◌≡◌, ◌≢◌, ℕ, zero, suc, ◌+◌, ◌<◌, ◌≤◌, ◌⊎◌, ◌↔◌, inl, inr, List, [], ◌∷◌, ◌++◌}
use Rattle.std.proofs.Common.{Contains, AllPairs, refl, sym, ap, subst, ◌∙◌, arith}
use Rattle.std.specs.List.{AllZip}
use Rattle.std.proofs.lemmas.Bool.{cases_eq}
use Rattle.std.proofs.lemmas.List.Elements.{Contains-append_left, Contains-get_or, Contains-push, Contains-push_cases}
use Rattle.std.proofs.lemmas.List.Quantifiers.{all_pairs_push}
use Rattle.char_files.specs.CharName.{CharName}
use Rattle.char_files.specs.declared.name.Anchor.TheVariants.{Root, At}
use Rattle.operations.specs.NameSet.{Range, IsAmong}
use Rattle.operations.specs.Operation.{Operation, OpKind, insert, delete, restore, change_looks, Inserts, Mentions}
use Rattle.operations.specs.Operation.{MentionsBy}
use Rattle.operations.proofs.WithName.{same_name}
use Rattle.tree_order.specs.Tree.{IsChar}
use Rattle.tree_order.proofs.Sorted.{same_sorted}
use Rattle.set_laws.proofs.Covered.{one_insert}
use Rattle.set_laws.proofs.Picking.{Contains-head, Contains-tail, Contains-cases, Contains-none}
use Rattle.note_laws.specs.Note.{Note, Entries, Saying, IsOfBase}
use Rattle.note_laws.specs.Chains.{operations}
use Rattle.note_laws.specs.Admission.{MentionsBeyond, IsLastBeyond, IsInsertedBy, BuildsOn, CountInTurn, said_of}
use Rattle.note_laws.proofs.Choosing.{is_of_base}
use Rattle.note_laws.proofs.Deciding.{IsDecided, both, only_if, not_so, is_less, is_at_most, is_same, all_are}
use Rattle.note_laws.proofs.Deciding.{one_mentioned_is, all_mentioned_are}
use Rattle.note_laws.proofs.InTurn.{one_of_identity, sound_whole}
use Rattle.note_laws.proofs.Lists.{has_op, of_op}

-- all numbers that ranges name are below a bound
bound_of_ranges : (ranges : List Range) → (n : ℕ) × ((r : Range) → Contains ranges r → r.site < n)
bound_of_ranges [] = (0, λ r held. absurd (Contains-none r held))
bound_of_ranges (r ∷ ranges) =
    let (n, below) = bound_of_ranges ranges in (
      suc (r.site + n),
      λ x held. elim (Contains-cases r ranges x held) [
        | inl is ↦ let same = ap (λ (y : Range). y.site) is in omega arith
        | inr rest ↦ let less = below x rest in omega arith
      ],
    )

bound_among : (ranges : List Range) → (n : ℕ) × ((name : CharName) → IsAmong ranges name → name.site < n)
bound_among ranges =
    let (n, below) = bound_of_ranges ranges in (
      n,
      λ name h. let (k, r, lt, at, is) = h in
          let less = below r (k, lt, at) in
          let on = is.0 in omega arith,
    )

bound_by : (kind : OpKind) → (n : ℕ) × ((name : CharName) → MentionsBy kind name → name.site < n)
bound_by (insert Root at looks bytes) = (0, λ name m. absurd m)
bound_by (insert (At cause) at looks bytes) =
    (suc cause.site, λ name is. let same = ap (λ (n : CharName). n.site) is in omega arith)
bound_by (delete names) = bound_among names
bound_by (restore names) = bound_among names
bound_by (change_looks sel looks names) = bound_among names

module _ (note : Note) (there : List Saying) (s : Saying) where
  -- what a character beyond is besides being mentioned
  abbrev Lies : CharName → Type 0
  Lies name = (name.site ≢ s.op.site) × ((IsOfBase note name.site → ⊥)
      × ((p : Saying) → Contains there p → p.op.site ≡ s.op.site → (seen : CharName) → Mentions p.op seen
      → seen.site ≡ name.site → seen.off < name.off))

  lies : (name : CharName) → IsDecided (Lies name)
  lies name =
      both (not_so (cases_eq name.site s.op.site)) (both (not_so (is_of_base note name.site))
      (all_are (λ p. p.op.site ≡ s.op.site → (seen : CharName) → Mentions p.op seen → seen.site ≡ name.site
      → seen.off < name.off) there (λ p held. only_if (cases_eq p.op.site s.op.site)
      (all_mentioned_are (λ seen. seen.site ≡ name.site → seen.off < name.off) p.op
      (λ seen. only_if (cases_eq seen.site name.site) (is_less seen.off name.off))))))

  beyond_if : (name : CharName) → Mentions s.op name → Lies name → MentionsBeyond note there s name
  beyond_if name m is = record {
    mentioned = m;
    foreign = is.0;
    not_of_base = is.1.0;
    beyond = λ p seen held on mentioned same. is.1.1 p held on seen mentioned same;
  }

  lies_if : (name : CharName) → MentionsBeyond note there s name → Lies name
  lies_if name is =
      (is.foreign, (is.not_of_base, λ p held on seen mentioned same. is.beyond p seen held on mentioned same))

  -- whether it mentions one beyond
  pub some_beyond : IsDecided ((name : CharName) × MentionsBeyond note there s name)
  some_beyond = elim (one_mentioned_is Lies s.op lies) [
    | inl found ↦ inl (found.0, beyond_if found.0 found.1 found.2)
    | inr none ↦ inr (λ h. none (h.0, h.1.mentioned, lies_if h.0 h.1))
  ]

  -- the last one beyond of a number
  abbrev IsLastOf : ℕ → CharName → Type 0
  IsLastOf site name = (name.site ≡ site) × (Lies name
      × ((other : CharName) → Mentions s.op other → other.site ≡ name.site → other.off ≤ name.off))

  is_last_of : (site : ℕ) (name : CharName) → IsDecided (IsLastOf site name)
  is_last_of site name =
      both (cases_eq name.site site) (both (lies name)
      (all_mentioned_are (λ other. other.site ≡ name.site → other.off ≤ name.off) s.op
      (λ other. only_if (cases_eq other.site name.site) (is_at_most other.off name.off))))

  last_of : (site : ℕ) → ((name : CharName) × IsLastBeyond note there s name × (name.site ≡ site))
      ⊎ ((name : CharName) → IsLastBeyond note there s name → name.site ≡ site → ⊥)
  last_of site = elim (one_mentioned_is (IsLastOf site) s.op (is_last_of site)) [
    | inl found ↦
        let (name, m, is) = found in
        inl (name, record { beyond = beyond_if name m is.1.0; last = is.1.1 }, is.0)
    | inr none ↦ inr (λ name is on. none (name, is.beyond.mentioned, (on, (lies_if name is.beyond, is.last))))
  ]

  -- a number has one
  same_last : (a b : CharName) → IsLastBeyond note there s a → IsLastBeyond note there s b → a.site ≡ b.site
      → a ≡ b
  same_last a b is is' on =
      let le : a.off ≤ b.off = is'.last a is.beyond.mentioned on in
      let ge : b.off ≤ a.off = is.last b is'.beyond.mentioned (sym on) in
      let off : a.off ≡ b.off = omega arith in
      same_name a b on off

  abbrev AreLastsBelow : ℕ → List CharName → Type 0
  AreLastsBelow n names = ((name : CharName)
      → Contains names name ↔ (IsLastBeyond note there s name × (name.site < n)))
      × AllPairs (λ a b. a.site < b.site) names

  with_last : (n : ℕ) (names : List CharName) (name : CharName) → AreLastsBelow n names
      → IsLastBeyond note there s name → name.site ≡ n → AreLastsBelow (suc n) (names ++ name ∷ [])
  with_last n names name are is on = (
    λ x. (
      λ held. elim (Contains-push_cases names name x held) [
        | inl old ↦ let found = (are.0 x).0 old in let less = found.1 in (found.0, omega arith)
        | inr same ↦
            let at = ap (λ (y : CharName). y.site) same in
            (subst (IsLastBeyond note there s) same is, omega arith)
      ],
      λ h. let less = h.1 in elim (cases_eq x.site n) [
        | inl at ↦ subst (Contains (names ++ name ∷ [])) (same_last name x is h.0 (on ∙ sym at))
            (Contains-push names name)
        | inr apart ↦
            let below : x.site < n = omega arith in
            Contains-append_left names (name ∷ []) x ((are.0 x).1 (h.0, below))
      ],
    ),
    all_pairs_push (λ a b. a.site < b.site) names name are.1
        (λ k d lt. let below = ((are.0 _).0 (Contains-get_or names k d lt)).1 in omega arith),
  )

  without_last : (n : ℕ) (names : List CharName) → AreLastsBelow n names
      → ((name : CharName) → IsLastBeyond note there s name → name.site ≡ n → ⊥) → AreLastsBelow (suc n) names
  without_last n names are none = (
    λ x. (
      λ held. let found = (are.0 x).0 held in let less = found.1 in (found.0, omega arith),
      λ h.
          let less = h.1 in
          let apart = none x h.0 in
          let below : x.site < n = elim (cases_eq x.site n) [
            | inl at ↦ absurd (apart at)
            | inr other ↦ omega arith
          ] in
          (are.0 x).1 (h.0, below),
    ),
    are.1,
  )

  lasts_below : (n : ℕ) → (names : List CharName) × AreLastsBelow n names
  lasts_below zero = (
    [],
    (
      λ name. (λ held. absurd (Contains-none name held), λ h. let less = h.1 in absurd (omega arith)),
      λ i j d lt within. absurd (omega arith),
    ),
  )
  lasts_below (suc n) =
      let (names, are) = lasts_below n in
      elim (last_of n) [
        | inl found ↦ let (name, is, on) = found in
            (names ++ name ∷ [], with_last n names name are is on)
        | inr none ↦ (names, without_last n names are none)
      ]

  -- the last ones of all numbers, rising
  pub record AreLasts (names : List CharName) : Type 0 where
    pub all : (name : CharName) → Contains names name ↔ IsLastBeyond note there s name
    pub rising : AllPairs (λ a b. a.site < b.site) names

  pub lasts : (names : List CharName) × AreLasts names
  lasts =
      let (n, below) = bound_by s.op.kind in
      let (names, are) = lasts_below n in (
        names,
        record {
          all = λ name. (
            λ held. ((are.0 name).0 held).0,
            λ is. (are.0 name).1 (is, below name is.beyond.mentioned),
          );
          rising = are.1;
        },
      )

  one_lasts : (a b : List CharName) → AreLasts a → AreLasts b → a ≡ b
  one_lasts a b is is' =
      same_sorted (λ x y. x.site < y.site) (λ x less. omega arith) (λ x y z p q. omega arith) a b is.rising
      is'.rising (λ x held. (is'.all x).1 ((is.all x).0 held)) (λ x held. (is.all x).1 ((is'.all x).0 held))

  -- the messages that inserted them
  hashes_of : (names : List CharName)
      → ((name : CharName) → Contains names name → IsChar (operations there) name)
      → (hashes : List ℕ) × AllZip (IsInsertedBy there) names hashes
  hashes_of [] chars = ([], tt)
  hashes_of (name ∷ names) chars =
      let (o, is) = chars name (Contains-head name names) in
      let (i, held, same) = of_op there o is.held in
      let (hashes, all) = hashes_of names (λ x h. chars x (Contains-tail name names x h)) in
      (i.hash ∷ hashes, ((i, held, subst (λ (p : Operation). Inserts p name) (sym same) is.inserts, refl), all))

  module _ (entries : Entries) (text : ℕ) (in_turn : CountInTurn note entries text there) where
    one_hash : (name : CharName) (a b : ℕ) → IsInsertedBy there name a → IsInsertedBy there name b → a ≡ b
    one_hash name a b (i, held, ins, is) (j, held', ins', is') =
        let sound = sound_whole note entries text there in_turn in
        let op : i.op ≡ j.op = one_insert (operations there) sound.known sound.good.begins name i.op j.op
        (has_op there i held) (has_op there j held') ins ins' in
        let same : i ≡ j = one_of_identity note entries text there in_turn i j held held'
        (ap (λ (o : Operation). o.site) op) (ap (λ (o : Operation). o.seq) op) in
        sym is ∙ (ap (λ (x : Saying). x.hash) same ∙ is')

    one_hashes : (names : List CharName) (a b : List ℕ) → AllZip (IsInsertedBy there) names a
        → AllZip (IsInsertedBy there) names b → a ≡ b
    one_hashes [] [] [] p q = refl
    one_hashes [] [] (y ∷ b) p q = absurd q
    one_hashes [] (x ∷ a) b p q = absurd p
    one_hashes (name ∷ names) [] b p q = absurd p
    one_hashes (name ∷ names) (x ∷ a) [] p q = absurd q
    one_hashes (name ∷ names) (x ∷ a) (y ∷ b) p q =
        let first = one_hash name x y p.0 q.0 in
        let rest = one_hashes names a b p.1 q.1 in
        cc

    -- whether it builds on what is there
    pub builds_on : ((name : CharName) → Mentions s.op name → IsChar (operations there) name)
        → IsDecided (BuildsOn note there s)
    builds_on chars =
        let (names, are) = lasts in
        let (hashes, inserted) = hashes_of names
        (λ name held. chars name ((are.all name).0 held).beyond.mentioned) in
        elim (is_same s.on (said_of note.digest hashes)) [
          | inl says ↦ inl (record {
            lasts = names;
            all = are.all;
            rising = are.rising;
            hashes = hashes;
            inserted = inserted;
            says = says;
          })
          | inr none ↦ inr (λ on.
              let same : on.lasts ≡ names =
              one_lasts on.lasts names (record { all = on.all; rising = on.rising }) are in
              let equal : on.hashes ≡ hashes = one_hashes names on.hashes hashes
              (subst (λ (xs : List CharName). AllZip (IsInsertedBy there) xs on.hashes) same on.inserted)
              inserted in
              none (on.says ∙ ap (said_of note.digest) equal))
        ]
