-- What counts in turn is good, and has one message of an identity.
use Rattle.std.proofs.Common.{◌≡◌, ℕ, zero, suc, ◌<◌, inl, inr, List, [], ◌∷◌, ◌++◌, length, take, Some}
use Rattle.std.proofs.Common.{Contains, slice_get, sym, ap, subst, ◌∙◌, arith}
use Rattle.std.proofs.Math.Seq.{take-length}
use Rattle.std.proofs.lemmas.Bool.{cases_lt}
use Rattle.std.proofs.lemmas.List.{take_all, take-map}
use Rattle.std.proofs.lemmas.Option.{slice_get_cases, slice_get_within}
use Rattle.operations.specs.Operation.{Operation}
use Rattle.tree_order.specs.Good.{Good}
use Rattle.set_laws.specs.Sets.{AreIdentified, KeepsCauses}
use Rattle.set_laws.specs.Verdict.{ready, HasVerdict}
use Rattle.set_laws.proofs.Closing.{lemma_nothing_is_good, nothing_is_identified}
use Rattle.set_laws.proofs.Freed.{good_if_ready}
use Rattle.set_laws.proofs.OneMore.{with_one_identified}
use Rattle.set_laws.proofs.Preceding.{causes_before}
use Rattle.note_laws.specs.Note.{Note, Entries, Saying}
use Rattle.note_laws.specs.Chains.{operations}
use Rattle.note_laws.specs.Admission.{IsAdmissible, CountInTurn}
use Rattle.note_laws.specs.Laws.{CountAsGoodSet}
use Rattle.note_laws.proofs.Lists.{has_op, ops_push, take_next, index_of, in_take}

-- operations that are good, under one identity each
pub record IsSound (there : List Saying) : Type 0 where
  pub good : Good (operations there)
  pub known : AreIdentified (operations there)

-- what counts is ready
pub ready_if_counts : (note : Note) (entries : Entries) (text : ℕ) (there : List Saying) (s : Saying)
    → IsAdmissible note entries text there s → HasVerdict (operations there) s.op ready
ready_if_counts note entries text there s (next, (made, near, foreign, on, above)) =
    (next.follows, made.fits, foreign, above)

module _ (note : Note) (entries : Entries) (text : ℕ) (there : List Saying)
    (in_turn : CountInTurn note entries text there) where
  sound_with_next : (n : ℕ) (s : Saying) → slice_get there n ≡ Some s → IsSound (take n there)
      → IsSound (take (suc n) there)
  sound_with_next n s at sound =
      let counts = in_turn n s at in
      let ops : List Operation = operations (take n there) in
      let is = ready_if_counts note entries text (take n there) s counts in
      let same : operations (take (suc n) there) ≡ ops ++ s.op ∷ [] =
      ap operations (take_next there n s at) ∙ ops_push (take n there) s in
      record {
        good = subst Good (sym same) (good_if_ready ops s.op sound.good sound.known counts.0.new is);
        known = subst AreIdentified (sym same) (with_one_identified ops s.op sound.known counts.0.new);
      }

  -- each first part is sound
  pub sound_part : (n : ℕ) → IsSound (take n there)
  sound_part zero = record { good = lemma_nothing_is_good; known = nothing_is_identified }
  sound_part (suc n) =
      elim (slice_get_cases there n).1 [
        | inl found ↦ let (s, lt, at, is) = found in sound_with_next n s at (sound_part n)
        | inr past ↦ let le = past.0 in
            let same : take n there ≡ take (suc n) there =
            take_all n there le ∙ sym (take_all (suc n) there (omega arith)) in
            subst IsSound same (sound_part n)
      ]

  pub sound_whole : IsSound there
  sound_whole = subst IsSound (take-length there) (sound_part (length there))

  keep_causes : KeepsCauses (operations there)
  keep_causes n = subst Good (sym (take-map (λ (s : Saying). s.op) n there)) (sound_part n).good

  pub as_good_set : CountAsGoodSet there
  as_good_set = record {
    identified = sound_whole.known;
    keep_causes = keep_causes;
    causes_before = causes_before (operations there) keep_causes sound_whole.known;
  }

  -- a later message has another identity than one before it
  later_differs : (m n : ℕ) (x y : Saying) → slice_get there m ≡ Some x → slice_get there n ≡ Some y → m < n
      → x.op.site ≡ y.op.site → x.op.seq ≡ y.op.seq → ⊥
  later_differs m n x y at other lt site seq =
      let within = slice_get_within there n y other in
      let held = has_op (take n there) x (in_take there m n x at lt (omega arith)) in
      (in_turn n y other).0.new.unheld (x.op, held, site, seq)

  -- so one identity has one message
  pub one_of_identity : (x y : Saying) → Contains there x → Contains there y → x.op.site ≡ y.op.site
      → x.op.seq ≡ y.op.seq → x ≡ y
  one_of_identity x y held other site seq =
      let (m, at) = index_of there x held in
      let (n, at') = index_of there y other in
      elim (cases_lt m n) [
        | inl less ↦ absurd (later_differs m n x y at at' less site seq)
        | inr more ↦ elim (cases_lt n m) [
          | inl less ↦ absurd (later_differs n m y x at' at less (sym site) (sym seq))
          | inr same ↦
              let equal : m ≡ n = omega arith in
              let both : Some x ≡ Some y = sym at ∙ ap (slice_get there) equal ∙ at' in
              cc
        ]
      ]
