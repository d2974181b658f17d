-- There is an admission: one message that counts after the other is added, until none counts.
use Rattle.std.proofs.Common.{◌≡◌, ℕ, zero, suc, ◌⊎◌, inl, inr, List, [], ◌∷◌, ◌++◌, length, take}
use Rattle.std.proofs.Common.{Contains, get_or, refl, sym, subst, ◌∙◌, arith}
use Rattle.std.proofs.lemmas.Bool.{cases_lt, cases_eq}
use Rattle.std.proofs.Math.ListN.{get_or-append}
use Rattle.std.proofs.lemmas.List.{length-append, take-append-le, take_all}
use Rattle.std.proofs.lemmas.List.Elements.{Contains-append_left, Contains-push}
use Rattle.std.proofs.lemmas.Option.{slice_get_within, slice_get_read, get_or_from_slice_get}
use Rattle.operations.specs.Operation.{Operation}
use Rattle.set_laws.specs.Verdict.{IsNew, FollowsOn}
use Rattle.set_laws.proofs.Picking.{take_out}
use Rattle.set_laws.proofs.Verdicts.{held_or_not, some_verdict}
use Rattle.note_laws.specs.Note.{Note, Entries, Saying}
use Rattle.note_laws.specs.Chains.{operations, HoldsItsPlace, NamesTheOneBefore, ComesNext}
use Rattle.note_laws.specs.Admission.{Fate, counts, wrong, held_back, lacks, on_others, MeetsFate, IsAdmissible}
use Rattle.note_laws.specs.Admission.{CountInTurn, IsAdmission}
use Rattle.note_laws.proofs.Choosing.{holding, names_the_one_before}
use Rattle.note_laws.proofs.Deciding.{IsDecided, both, is_less, search_within}
use Rattle.note_laws.proofs.Fates.{follows_by, same_fate, some_fate}
use Rattle.note_laws.proofs.Lists.{get_or-push, has_op}

module _ (note : Note) (entries : Entries) (text : ℕ) where
  -- whether the message names the one before it, which one of the base needn't
  names_or_base : (there : List Saying) (s : Saying) → HoldsItsPlace note entries s
      → IsDecided (Contains note.base s ⊎ NamesTheOneBefore there s)
  names_or_base there s (inl base) = inl (inl base)
  names_or_base there s (inr by) = elim (names_the_one_before there s) [
    | inl names ↦ inl (inr names)
    | inr none ↦ inr (λ h. elim h [ inl base ↦ by.0.free (s, base, refl) | inr names ↦ none names ])
  ]

  is_new : (ops : List Operation) (op : Operation) → IsDecided (IsNew ops op)
  is_new ops op = elim (is_less 0 op.seq) [
    | inr none ↦ inr (λ new. none new.counted)
    | inl counted ↦ elim (held_or_not ops op.site op.seq) [
      | inl there ↦ inr (λ new. new.unheld there)
      | inr unheld ↦ inl (record { counted = counted; unheld = unheld })
    ]
  ]

  follows_or_not : (ops : List Operation) (op : Operation) → IsDecided (FollowsOn ops op)
  follows_or_not ops op = let (v, is) = some_verdict ops op in follows_by ops op v is

  is_next : (there : List Saying) (s : Saying) → HoldsItsPlace note entries s
      → IsDecided (ComesNext note entries text there s)
  is_next there s holds =
      elim (both (both (cases_eq s.op.text text) (is_new (operations there) s.op))
      (both (follows_or_not (operations there) s.op) (names_or_base there s holds))) [
        | inr none ↦ inr (λ next. none ((next.of_text, next.new), (next.follows, next.names)))
        | inl is ↦ inl (record {
          of_text = is.0.0;
          new = is.0.1;
          follows = is.1.0;
          holds = holds;
          names = is.1.1;
        })
      ]

  counts_by : (there : List Saying) (s : Saying) → ComesNext note entries text there s → (fate : Fate)
      → MeetsFate note there s fate
      → (IsAdmissible note entries text there s → ⊥) ⊎ IsAdmissible note entries text there s
  counts_by there s next counts is = inr (next, is)
  counts_by there s next wrong is = inl (λ h. let same = same_fate note there s wrong counts is h.1 in cc)
  counts_by there s next held_back is = inl (λ h. let same = same_fate note there s held_back counts is h.1 in cc)
  counts_by there s next lacks is = inl (λ h. let same = same_fate note there s lacks counts is h.1 in cc)
  counts_by there s next on_others is = inl (λ h. let same = same_fate note there s on_others counts is h.1 in cc)

  counts_or_not : (there : List Saying) → CountInTurn note entries text there → (s : Saying)
      → HoldsItsPlace note entries s
      → (IsAdmissible note entries text there s → ⊥) ⊎ IsAdmissible note entries text there s
  counts_or_not there in_turn s holds =
      elim (is_next there s holds) [
        | inr none ↦ inl (λ h. none h.0)
        | inl next ↦
            let (fate, is) = some_fate note entries text there in_turn s next.follows in
            counts_by there s next fate is
      ]

  -- with one more that counts they count in turn
  pub one_more : (there : List Saying) (s : Saying) → CountInTurn note entries text there
      → IsAdmissible note entries text there s → CountInTurn note entries text (there ++ s ∷ [])
  one_more there s in_turn is n x at =
      let len = length-append there (s ∷ []) in
      let within = slice_get_within (there ++ s ∷ []) n x at in
      let here : get_or (there ++ s ∷ []) n x ≡ x = get_or_from_slice_get (there ++ s ∷ []) n x x at in
      elim (cases_lt n (length there)) [
        | inl before ↦
            let old : get_or there n x ≡ x = sym (get_or-append there (s ∷ []) x n before) ∙ here in
            let same : take n (there ++ s ∷ []) ≡ take n there = take-append-le n there (s ∷ []) (omega arith) in
            subst (λ (xs : List Saying). IsAdmissible note entries text xs x) (sym same)
            (in_turn n x (slice_get_read there (length there) n x refl before (sym old)))
        | inr past ↦
            let last : n ≡ length there = omega arith in
            let same : take n (there ++ s ∷ []) ≡ there =
            take-append-le n there (s ∷ []) (omega arith) ∙ take_all n there past in
            let it : s ≡ x = sym (get_or-push there s n x last) ∙ here in
            subst (λ (xs : List Saying). IsAdmissible note entries text xs x) (sym same)
            (subst (IsAdmissible note entries text there) it is)
      ]

  -- each message that holds its place is there, or among the rest
  record IsDivided (there rest : List Saying) : Type 0 where
    in_turn : CountInTurn note entries text there
    each : (s : Saying) → HoldsItsPlace note entries s → Contains there s ⊎ Contains rest s
    hold : (s : Saying) → Contains rest s → HoldsItsPlace note entries s

  full_by_none : (there rest : List Saying) → IsDivided there rest
      → ((s : Saying) → Contains rest s → IsAdmissible note entries text there s → ⊥)
      → IsAdmission note entries text there
  full_by_none there rest divided none = record {
    in_turn = divided.in_turn;
    full = λ s is. elim (divided.each s is.0.holds) [
      | inl old ↦ is.0.new.unheld (s.op, has_op there s old, refl, refl)
      | inr left ↦ none s left is
    ];
  }

  divided_on : (there rest fewer : List Saying) (s : Saying) → IsDivided there rest
      → IsAdmissible note entries text there s
      → ((x : Saying) → Contains rest x → (s ≡ x) ⊎ Contains fewer x)
      → ((x : Saying) → Contains fewer x → Contains rest x) → IsDivided (there ++ s ∷ []) fewer
  divided_on there rest fewer s divided is has only = record {
    in_turn = one_more there s divided.in_turn is;
    each = λ x holds. elim (divided.each x holds) [
      | inl old ↦ inl (Contains-append_left there (s ∷ []) x old)
      | inr left ↦ elim (has x left) [
        | inl same ↦ inl (subst (Contains (there ++ s ∷ [])) same (Contains-push there s))
        | inr still ↦ inr still
      ]
    ];
    hold = λ x held. divided.hold x (only x held);
  }

  filled : (n : ℕ) (there rest : List Saying) → length rest ≡ n → IsDivided there rest
      → (full : List Saying) × IsAdmission note entries text full
  filled zero there rest len divided =
      (there, full_by_none there rest divided (λ s held is. let lt = held.1 in omega arith))
  filled (suc n) there rest len divided =
      elim (search_within (λ s. IsAdmissible note entries text there s → ⊥) (IsAdmissible note entries text there) rest
      (λ s held. counts_or_not there divided.in_turn s (divided.hold s held))) [
        | inl none ↦ (there, full_by_none there rest divided none)
        | inr found ↦
            let (s, held, is) = found in
            let (fewer, less, has, only) = take_out rest s held in
            filled n (there ++ s ∷ []) fewer (omega arith)
            (divided_on there rest fewer s divided is has only)
      ]

  pub some_admission : (full : List Saying) × IsAdmission note entries text full
  some_admission =
      let (all, hold) = holding note entries in
      filled (length all) [] all refl (record {
        in_turn = λ n s at. let within = slice_get_within [] n s at in absurd (omega arith);
        each = λ s holds. inr ((hold s).0 holds);
        hold = λ s held. (hold s).1 held;
      })
