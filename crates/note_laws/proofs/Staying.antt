-- What is admitted stays admitted, what is wrong stays wrong.
use Rattle.std.proofs.Common.{◌≡◌, ℕ, zero, suc, ◌⊎◌, inl, inr, List, length, take, Some}
use Rattle.std.proofs.Common.{Contains, slice_get, sym, ap, subst, ◌∙◌, arith}
use Rattle.std.proofs.Math.Seq.{take-length}
use Rattle.std.proofs.lemmas.List.{take_all}
use Rattle.std.proofs.lemmas.List.Elements.{Contains-push_cases}
use Rattle.std.proofs.lemmas.Option.{slice_get_cases}
use Rattle.operations.specs.Operation.{Operation}
use Rattle.set_laws.specs.Fronts.{IsHeld}
use Rattle.set_laws.specs.Verdict.{IsAboveCauses}
use Rattle.set_laws.proofs.Picking.{Contains-none}
use Rattle.set_laws.proofs.Verdicts.{held_or_not}
use Rattle.note_laws.specs.Note.{Note, Entries, Saying}
use Rattle.note_laws.specs.Chains.{operations, HoldsItsPlace, ComesNext}
use Rattle.note_laws.specs.Admission.{wrong, MeetsFate, IsWellMade, CountInTurn, IsAdmission}
use Rattle.note_laws.specs.Laws.{IsBaseIdentified, AreToldApart, AreAmong, KeepTheirPlaces}
use Rattle.note_laws.proofs.InTurn.{IsSound, sound_part, sound_whole}
use Rattle.note_laws.proofs.Lists.{has_op, of_op, of_take, take_next, index_of, held_at}
use Rattle.note_laws.proofs.OnMore.{counts_there, next_there, well_made_there, well_made_before}
use Rattle.note_laws.proofs.OnMore.{in_reach_there, foreign_there, builds_there}
use Rattle.note_laws.proofs.OwnChain.{IsPast, ops_within, well_made_same}
use Rattle.note_laws.proofs.Places.{same_there}

-- a message that keeps its place is there, or its identity isn't held there
pub held_or_absent : (note : Note) (entries more : Entries) (text : ℕ) (a b : List Saying) (x : Saying)
    → CountInTurn note more text b → AreAmong a b → IsBaseIdentified note → AreToldApart more
    → ComesNext note entries text a x → HoldsItsPlace note more x
    → Contains b x ⊎ (IsHeld (operations b) x.op.site x.op.seq → ⊥)
held_or_absent note entries more text a b x in_turn within base told next holds =
    elim (held_or_not (operations b) x.op.site x.op.seq) [
      | inr absent ↦ inr absent
      | inl there ↦
          let (o, held, on, at) = there in
          let (y, here, is) = of_op b o held in
          let site : x.op.site ≡ y.op.site = sym (ap (λ (op : Operation). op.site) is ∙ on) in
          let seq : x.op.seq ≡ y.op.seq = sym (ap (λ (op : Operation). op.seq) is ∙ at) in
          let same : x ≡ y =
          same_there note entries more text a b x in_turn within base told next holds y here site seq in
          inl (subst (Contains b) (sym same) here)
    ]

module _ (note : Note) (entries more : Entries) (text : ℕ) (a b : List Saying)
    (in_turn : CountInTurn note entries text a) (base : IsBaseIdentified note) (told : AreToldApart more) where
  module _ (keep : KeepTheirPlaces note more a) (is : IsAdmission note more text b) where
    next_stays : (n : ℕ) (x : Saying) → slice_get a n ≡ Some x → AreAmong (take n a) b → Contains b x
    next_stays n x at within =
        let counts = in_turn n x at in
        let holds = keep x (held_at a n x at) in
        let sound = sound_part note entries text a in_turn n in
        elim (held_or_absent note entries more text (take n a) b x is.in_turn within base told counts.0 holds) [
          | inl there ↦ there
          | inr absent ↦ absurd (is.full x
              (counts_there note entries more text (take n a) b x sound is.in_turn within counts.0 absent holds
              counts))
        ]

    part_stays : (n : ℕ) → AreAmong (take n a) b
    part_stays zero s held = absurd (Contains-none s held)
    part_stays (suc n) s held =
        elim (slice_get_cases a n).1 [
          | inl found ↦
              let (x, lt, at, same) = found in
              let rest : AreAmong (take n a) b = part_stays n in
              elim (Contains-push_cases (take n a) x s
              (subst (λ (xs : List Saying). Contains xs s) (take_next a n x at) held)) [
                | inl before ↦ rest s before
                | inr last ↦ subst (Contains b) last (next_stays n x at rest)
              ]
          | inr past ↦
              let le = past.0 in
              let same : take (suc n) a ≡ take n a = take_all (suc n) a (omega arith) ∙ sym (take_all n a le) in
              part_stays n s (subst (λ (xs : List Saying). Contains xs s) same held)
        ]

    pub all_stays : AreAmong a b
    all_stays s held =
        part_stays (length a) s (subst (λ (xs : List Saying). Contains xs s) (sym (take-length a)) held)

  module _ (in_turn' : CountInTurn note more text b) (within : AreAmong a b) (x : Saying)
      (next : ComesNext note entries text a x) (holds : HoldsItsPlace note more x) where
    sound : IsSound a
    sound = sound_whole note entries text a in_turn

    -- with its causes it would stand above them
    above_if_there : Contains b x → IsAboveCauses (operations a) x.op
    above_if_there there o held cause =
        (sound_whole note more text b in_turn').good.stamps x.op o (has_op b x there)
        (ops_within a b within o held) cause

    made_if_there : Contains b x → IsWellMade note a x
    made_if_there there =
        let (n, at) = index_of b x there in
        let counts = in_turn' n x at in
        let past : IsPast b a x.op =
        record { sound = sound; within = within; new = next.new; follows = next.follows } in
        let past' : IsPast b (take n b) x.op = record {
          sound = sound_part note more text b in_turn' n;
          within = of_take b n;
          new = counts.0.new;
          follows = counts.0.follows;
        } in
        well_made_same note more text b in_turn' (take n b) a x past' past counts.1.0

    not_there : MeetsFate note a x wrong → Contains b x → ⊥
    not_there (inl not_made) there = not_made (made_if_there there)
    not_there (inr low) there = low.4 (above_if_there there)

    module _ (absent : IsHeld (operations b) x.op.site x.op.seq → ⊥) where
      wrong_there : MeetsFate note a x wrong → MeetsFate note b x wrong
      wrong_there (inl not_made) = inl (λ made. not_made
          (well_made_before note entries more text a b x sound in_turn' within next absent made))
      wrong_there (inr (made, near, foreign, on, low)) = inr (
        well_made_there note entries more text a b x sound in_turn' within next absent made,
        in_reach_there note entries more text a b x sound in_turn' within next absent near,
        foreign_there note entries more text a b x sound in_turn' within next absent foreign,
        builds_there note entries more text a b x sound in_turn' within next absent on,
        λ above. low (λ o held. above o (ops_within a b within o held)),
      )

    pub stays_wrong : MeetsFate note a x wrong → ComesNext note more text b x × MeetsFate note b x wrong
    stays_wrong is =
        elim (held_or_absent note entries more text a b x in_turn' within base told next holds) [
          | inl there ↦ absurd (not_there is there)
          | inr absent ↦ (
            next_there note entries more text a b x sound in_turn' within next absent holds,
            wrong_there absent is,
          )
        ]
