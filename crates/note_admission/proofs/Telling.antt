-- What the log and what is kept tell of the next message of a chain.
use Rattle.std.proofs.Common.{◌≡◌, ◌≢◌, ℕ, ◌<◌, ◌≤◌, ◌↔◌, inl, inr, Bool, true, false, ◌&&◌, ◌==◌, not, List, [], ◌∷◌, length, Some, None}
use Rattle.std.proofs.Common.{AllPairs, Contains, slice_get, get_or, refl, sym, ap, subst, ◌∙◌, arith, eq-eqb, leb-true, le-leb}
use Rattle.std.specs.List.{AllZip}
use Rattle.std.specs.Option.{is_some, option_map}
use Rattle.std.specs.Map.{lookup}
use Rattle.std.specs.Prelude.{nat_eq}
use Rattle.std.proofs.lemmas.Bool.{and_parts, and_from, cases_lt, eqb-true, false≢true}
use Rattle.std.proofs.lemmas.List.{get_or-map, get_or_default, length-map}
use Rattle.std.proofs.lemmas.List.Elements.{Contains-get_or}
use Rattle.std.proofs.lemmas.Option.{slice_get_cases, slice_get-map}
use Rattle.char_files.specs.CharName.{CharName}
use Rattle.operations.specs.NameSet.{IsAmong, IsSet}
use Rattle.operations.specs.Operation.{Operation, Inserts, Mentions}
use Rattle.tree_order.specs.Good.{Good, IsPredecessor}
use Rattle.tree_order.proofs.Sorted.{same_sorted}
use Rattle.set_laws.specs.Sets.{AreIdentified}
use Rattle.set_laws.proofs.Covered.{one_insert}
use Rattle.note_laws.specs.Note.{Note, Saying}
use Rattle.note_laws.specs.Chains.{operations}
use Rattle.note_laws.specs.Admission.{MentionsBeyond, IsLastBeyond, IsInsertedBy, BuildsOn, IsWellMade, said_of}
use Rattle.note_laws.proofs.Lists.{has_op, of_op}
use Rattle.note_admission.specs.Kept.{IsHashOfInsert, IsKeptOf, IsMadeOver, Kept, is_past_seen, seen_of}
use Rattle.note_admission.specs.Ranges.{lasts_of, mentioned_ranges_by}
use Rattle.note_admission.proofs.LastNames.{IsUpward, are_lasts, lasts_rise, mentions_ranges, some_last}

not_true : (b : Bool) → (b ≡ true → ⊥) → not b ≡ true
not_true true none = absurd (none refl)
not_true false none = refl

pub never_both : (b : Bool) → not b ≡ true → b ≡ true → ⊥
never_both true e f = false≢true e
never_both false e f = false≢true f

module _ (note : Note) (admitted : List Saying) (kept : Kept) (is : IsKeptOf note admitted kept) (s : Saying) where
  abbrev So : CharName → Bool
  So = is_past_seen kept s.op.site

  abbrev Other : CharName → Bool
  Other name = not (name.site == s.op.site)

  abbrev Free : CharName → Bool
  Free name = not (is_some (lookup (nat_eq name.site) kept.base))

  abbrev EndOf : ℕ → ℕ
  EndOf site = seen_of kept.seen s.op.site site

  -- a name that is mentioned is one beyond
  pub beyond : (name : CharName) → Mentions s.op name → So name ≡ true → MentionsBeyond note admitted s name
  beyond name m so =
      let (both, past) = and_parts (Other name && Free name) _ so in
      let (other, free) = and_parts (Other name) (Free name) both in
      record {
        mentioned = m;
        foreign = λ same. never_both (name.site == s.op.site) other (eq-eqb _ _ same);
        not_of_base = λ base. never_both _ free ((is.base name.site).1 base);
        beyond = λ p seen held on mentioned same.
            (is.seen s.op.site name.site name.off).0 (leb-true _ _ past) p seen held on mentioned same;
      }

  pub so_if : (name : CharName) → MentionsBeyond note admitted s name → So name ≡ true
  so_if name b =
      let other : Other name ≡ true = not_true _ (λ same. b.foreign (eqb-true _ _ same)) in
      let free : Free name ≡ true = not_true _ (λ some. b.not_of_base ((is.base name.site).0 some)) in
      let past = (is.seen s.op.site name.site name.off).1 (λ p seen held on mentioned same.
      b.beyond p seen held on mentioned same) in
      and_from (Other name && Free name) _ (and_from (Other name) (Free name) other free) (le-leb _ _ past)

  upward : IsUpward So
  upward = record {
    up = λ a b same le so.
        let (both, past) = and_parts (Other a && Free a) _ so in
        let (other, free) = and_parts (Other a) (Free a) both in
        let from : EndOf a.site ≤ a.off = leb-true _ _ past in
        and_from (Other b && Free b) _
        (and_from (Other b) (Free b) (subst (λ (n : ℕ). not (n == s.op.site) ≡ true) same other)
        (subst (λ (n : ℕ). not (is_some (lookup (nat_eq n) kept.base)) ≡ true) same free))
        (le-leb _ _ (subst (λ (n : ℕ). EndOf n ≤ b.off) same (omega arith)));
  }

  module _ (set : IsSet (mentioned_ranges_by s.op.kind)) where
    abbrev pub Lasts : List CharName
    Lasts = lasts_of So (mentioned_ranges_by s.op.kind)

    among : (name : CharName) → Mentions s.op name ↔ IsAmong (mentioned_ranges_by s.op.kind) name
    among name = mentions_ranges s.op.kind name

    pub lasts_beyond : (name : CharName) → Contains Lasts name ↔ IsLastBeyond note admitted s name
    lasts_beyond name = (
      λ held.
          let last = (are_lasts So _ set name).0 held in
          record {
            beyond = beyond name ((among name).1 last.among) last.is;
            last = λ other m on. last.last other ((among other).0 m) on;
          },
      λ last. (are_lasts So _ set name).1 (record {
        among = (among name).0 last.beyond.mentioned;
        is = so_if name last.beyond;
        last = λ other h on. last.last other ((among other).1 h) on;
      }),
    )

    rising : AllPairs (λ (a b : CharName). a.site < b.site) Lasts
    rising = lasts_rise So _ set

    -- it mentions one beyond where there are last ones
    some_beyond : (0 < length Lasts) ↔ ((name : CharName) × MentionsBeyond note admitted s name)
    some_beyond = (
      λ some.
          let none : CharName = record { site = 0; off = 0 } in
          let name = get_or Lasts 0 none in
          (name, ((lasts_beyond name).0 (Contains-get_or Lasts 0 none some)).beyond),
      λ h.
          let (name, b) = h in
          some_last So upward _ set name ((among name).0 b.mentioned) (so_if name b),
    )

    pub well_made : IsMadeOver (operations admitted) s Lasts ↔ IsWellMade note admitted s
    well_made = (
      λ made. record {
        above = λ p held before. made.above p.op (has_op admitted p held) before;
        fits = made.fits;
        says = (λ some. some_beyond.0 (made.says.0 some), λ h. made.says.1 (some_beyond.1 h));
      },
      λ made. record {
        above = λ op held before.
            let (p, there, same) = of_op admitted op held in
            subst (λ (o : Operation). o.stamp < s.op.stamp) same
            (made.above p there (subst (λ (o : Operation). IsPredecessor o s.op) (sym same) before));
        fits = made.fits;
        says = (λ some. some_beyond.1 (made.says.0 some), λ h. made.says.1 (some_beyond.0 h));
      },
    )

    -- the hash of what was admitted at the place of an Insert
    inserted_by : (name : CharName) (hash : ℕ) → IsHashOfInsert (operations admitted) kept.hashes name hash
        → IsInsertedBy admitted name hash
    inserted_by name hash (place, op, at, ins, there) =
        elim (slice_get_cases admitted place).1 [
          | inl found ↦
              let (i, lt, is_at, got) = found in
              let op_is : Some i.op ≡ Some op =
              sym (slice_get-map (λ (x : Saying). x.op) admitted place ∙ ap (option_map (λ (x : Saying). x.op)) is_at) ∙ at in
              let hash_is : Some i.hash ≡ Some hash =
              sym (ap (λ (xs : List ℕ). slice_get xs place) is.hashes ∙ (slice_get-map (λ (x : Saying). x.hash) admitted place
              ∙ ap (option_map (λ (x : Saying). x.hash)) is_at)) ∙ there in
              let same : i.op ≡ op = cc in
              (i, (place, lt, got), subst (λ (o : Operation). Inserts o name) (sym same) ins, cc)
          | inr past ↦
              let none : slice_get (operations admitted) place ≡ None =
              slice_get-map (λ (x : Saying). x.op) admitted place ∙ ap (option_map (λ (x : Saying). x.op)) past.1 in
              cc
        ]

    pub all_inserted : (names : List CharName) (hashes : List ℕ)
        → AllZip (IsHashOfInsert (operations admitted) kept.hashes) names hashes
        → AllZip (IsInsertedBy admitted) names hashes
    all_inserted [] [] all = tt
    all_inserted [] (h ∷ hs) all = absurd all
    all_inserted (n ∷ ns) [] all = absurd all
    all_inserted (n ∷ ns) (h ∷ hs) all = (inserted_by n h all.0, all_inserted ns hs all.1)

    module _ (good : Good (operations admitted)) (known : AreIdentified (operations admitted))
        (once : AllPairs (λ a b. a ≢ b) (operations admitted)) where
      apart : (m n : ℕ) (i j : Saying) → m < n → n < length admitted → get_or admitted m i ≡ i
          → get_or admitted n j ≡ j → i.op ≡ j.op → ⊥
      apart m n i j less within at at' same =
          once m n i.op less (subst (λ (k : ℕ). n < k) (sym (length-map admitted (λ (x : Saying). x.op))) within)
          (get_or-map (λ (x : Saying). x.op) admitted m i i.op (omega arith) ∙ (ap (λ (x : Saying). x.op) at ∙ (same
          ∙ (sym (ap (λ (x : Saying). x.op) at') ∙ sym (get_or-map (λ (x : Saying). x.op) admitted n j i.op within)))))

      same_saying : (i j : Saying) → Contains admitted i → Contains admitted j → i.op ≡ j.op → i ≡ j
      same_saying i j (m, lt, at) (n, lt', at') same =
          elim (cases_lt m n) [
            | inl less ↦ absurd (apart m n i j less lt' at at' same)
            | inr le ↦ elim (cases_lt n m) [
              | inl less ↦ absurd (apart n m j i less lt at' at (sym same))
              | inr ge ↦
                  let one : m ≡ n = omega arith in
                  sym at ∙ (ap (λ (k : ℕ). get_or admitted k i) one ∙ (get_or_default admitted n i j lt' ∙ at'))
            ]
          ]

      one_hash : (name : CharName) (a b : ℕ) → IsInsertedBy admitted name a → IsInsertedBy admitted name b → a ≡ b
      one_hash name a b (i, held, ins, is_a) (j, held', ins', is_b) =
          let op : i.op ≡ j.op = one_insert (operations admitted) known good.begins name i.op j.op
          (has_op admitted i held) (has_op admitted j held') ins ins' in
          sym is_a ∙ (ap (λ (x : Saying). x.hash) (same_saying i j held held' op) ∙ is_b)

      one_hashes : (names : List CharName) (a b : List ℕ) → AllZip (IsInsertedBy admitted) names a
          → AllZip (IsInsertedBy admitted) names b → a ≡ b
      one_hashes [] [] [] p q = refl
      one_hashes [] [] (y ∷ b) p q = absurd q
      one_hashes [] (x ∷ a) b p q = absurd p
      one_hashes (name ∷ names) [] b p q = absurd p
      one_hashes (name ∷ names) (x ∷ a) [] p q = absurd q
      one_hashes (name ∷ names) (x ∷ a) (y ∷ b) p q =
          let first = one_hash name x y p.0 q.0 in
          let rest = one_hashes names a b p.1 q.1 in
          cc

      one_lasts : (others : List CharName) → ((name : CharName) → Contains others name ↔ IsLastBeyond note admitted s name)
          → AllPairs (λ (a b : CharName). a.site < b.site) others → others ≡ Lasts
      one_lasts others all rise =
          same_sorted (λ (x y : CharName). x.site < y.site) (λ x less. omega arith) (λ x y z p q. omega arith) others Lasts rise
          rising (λ x held. (lasts_beyond x).1 ((all x).0 held)) (λ x held. (all x).1 ((lasts_beyond x).0 held))

      pub builds_on : (hashes : List ℕ) → AllZip (IsHashOfInsert (operations admitted) kept.hashes) Lasts hashes
          → (s.on ≡ said_of note.digest hashes) ↔ BuildsOn note admitted s
      builds_on hashes all =
          let inserted = all_inserted Lasts hashes all in (
            λ says. record {
              lasts = Lasts;
              all = lasts_beyond;
              rising = rising;
              hashes = hashes;
              inserted = inserted;
              says = says;
            },
            λ on.
                let same = one_lasts on.lasts on.all on.rising in
                let equal : on.hashes ≡ hashes = one_hashes Lasts on.hashes hashes
                (subst (λ (xs : List CharName). AllZip (IsInsertedBy admitted) xs on.hashes) same on.inserted) inserted in
                on.says ∙ ap (said_of note.digest) equal,
          )
