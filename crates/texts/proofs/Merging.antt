-- What a merge takes over of another text's operations, one after the other.
use Rattle.std.proofs.Common.{◌≡◌, ◌≢◌, ℕ, zero, suc, ◌+◌, ◌<◌, ◌≤◌, inl, inr, true, false, List, [], ◌∷◌, ◌++◌, length, take}
use Rattle.std.proofs.Common.{drop, Some, Result, Ok, Err, refl, sym, ap, subst, ◌∙◌, arith, append_assoc}
use Rattle.std.proofs.Common.{length-append}
use Rattle.std.specs.Prelude.{AllPairs, Contains, IfSome, OnErr, OnOk, slice_get}
use Rattle.std.specs.Result.{is_err}
use Rattle.std.proofs.lemmas.Bool.{cases_lt, false≢true, le-ltb, lt-ltb}
use Rattle.std.proofs.lemmas.List.{append-nil, length-take-le, take_all, take_at}
use Rattle.std.proofs.lemmas.List.Elements.{All-contains, Contains-append_cases, Contains-append_left}
use Rattle.std.proofs.lemmas.List.Elements.{Contains-append_right}
use Rattle.std.proofs.lemmas.List.Sums.{count_by-le-length, length-filter}
use Rattle.std.proofs.lemmas.Option.{get_or_from_slice_get, slice_get_within}
use Rattle.operations.specs.Operation.{Operation}
use Rattle.set_laws.specs.Fronts.{front_of}
use Rattle.set_laws.specs.Sets.{AreIdentified, HasCausesBefore, HasToTheFront, IsPartOf}
use Rattle.set_laws.specs.Verdict.{IsNew, ready}
use Rattle.texts.specs.Merge.{CanMerge, Merges, MergesShort, is_past_front, news}
use Rattle.texts.specs.Taking.{HasTaken, HasTakenAll, IsJudged}
use Rattle.texts.specs.Text.{IsText}
use Rattle.texts.specs.TextState.{TextState}
use Rattle.texts.specs.declared.merge_refusal.MergeRefusal.TheVariants.{Stopped}
use Rattle.set_laws.proofs.Fronts.{has_to_the_front}
use Rattle.set_laws.proofs.Freed.{ready_from_others}
use Rattle.set_laws.proofs.Lengths.{part_identified}
use Rattle.set_laws.proofs.Preceding.{first_part_within}
use Rattle.texts.proofs.News.{next_passes, next_fails, parts_filtered, news_of}
use Rattle.texts.proofs.News.{held_or_new, held_with_news, stands_once}

-- what a call says where it is refused, and where it isn't
pub when_err : {T E P : Type 0} (r : Result T E) → is_err r ≡ true → OnErr r P → P
when_err (Ok x) e p = absurd (false≢true e)
when_err (Err x) e p = p

pub when_ok : {T E P : Type 0} (r : Result T E) → is_err r ≡ false → OnOk r P → P
when_ok (Ok x) e p = p
when_ok (Err x) e p = absurd (false≢true (sym e))

-- within a list something stands
pub standing_within : (ops : List Operation) (i : ℕ) → i < length ops → (op : Operation) × (slice_get ops i ≡ Some op)
standing_within [] i within = absurd (omega arith)
standing_within (op ∷ ops) zero within = (op, refl)
standing_within (op ∷ ops) (suc i) within = standing_within ops i (omega arith)

-- an identity that was read at a place is that of what stands there
pub read_of : (ops : List Operation) (i : ℕ) (op : Operation) (read : ℕ × ℕ) → slice_get ops i ≡ Some op
    → IfSome (slice_get ops i) (λ o. (read.0 ≡ o.site) × (read.1 ≡ o.seq)) → (read.0 ≡ op.site) × (read.1 ≡ op.seq)
read_of ops i op read there told =
    subst (λ o. IfSome o (λ (x : Operation). (read.0 ≡ x.site) × (read.1 ≡ x.seq))) there told

-- what is to be known of both texts
pub record CanTakeOver (start other : TextState) : Type 0 where
  pub is : IsText start
  pub is_other : IsText other
  pub can : CanMerge start other
  pub once : AllPairs (λ a b. a ≢ b) other.operations
  pub before : HasCausesBefore other.operations

-- of the first i operations of the other text those that weren't held are taken over
pub record IsTakenTo (start other : TextState) (i done : ℕ) (now : TextState) : Type 0 where
  pub by : CanTakeOver start other
  pub taken : HasTakenAll start (news_of start (take i other.operations)) now
  pub count : done ≡ length (news_of start (take i other.operations))

-- at the start none is
pub begun : (start other : TextState) → CanTakeOver start other → IsTakenTo start other 0 0 start
begun start other by = record {
  by = by;
  taken = record {
    is = by.is;
    grown = ap (λ (ops : List Operation). record start { operations = ops }) (sym (append-nil start.operations));
  };
  count = refl;
}

module _ {start other now : TextState} {i done : ℕ} (u : IsTakenTo start other i done now) where
  abbrev can : CanMerge start other
  can = u.by.can

  abbrev first : List Operation
  first = take i other.operations

  ops_now : now.operations ≡ start.operations ++ news_of start first
  ops_now = ap (λ (t : TextState). t.operations) u.taken.grown

  told : HasToTheFront start.operations other.operations
  told = has_to_the_front start.operations other.operations u.by.is.good can.identified

  stays_held : IsPartOf start.operations now.operations
  stays_held op h =
      subst (λ (ops : List Operation). Contains ops op) (sym ops_now)
      (Contains-append_left start.operations (news_of start first) op h)

  first_held : IsPartOf first now.operations
  first_held op h =
      subst (λ (ops : List Operation). Contains ops op) (sym ops_now)
      (held_or_new start other.operations first told (first_part_within other.operations i) op h)

  only_first : IsPartOf now.operations (start.operations ++ first)
  only_first op h =
      held_with_news start first op (subst (λ (ops : List Operation). Contains ops op) ops_now h)

  known : AreIdentified (now.operations ++ other.operations)
  known =
      part_identified (now.operations ++ other.operations) (start.operations ++ other.operations)
      (λ op h. elim (Contains-append_cases now.operations other.operations op h) [
        | inr there ↦ Contains-append_right start.operations other.operations op there
        | inl here ↦ elim (Contains-append_cases start.operations first op (only_first op here)) [
          | inl held ↦ Contains-append_left start.operations other.operations op held
          | inr before ↦
              Contains-append_right start.operations other.operations op (first_part_within other.operations i op before)
        ]
      ])
      can.identified

  told_now : HasToTheFront now.operations other.operations
  told_now = has_to_the_front now.operations other.operations u.taken.is.good known

  -- no more are taken in than were looked at
  pub few : i ≤ length other.operations → done ≤ i
  few within =
      let count = u.count in
      let passed = length-filter (is_past_front start) first in
      let bound = count_by-le-length (is_past_front start) first in
      let len = length-take-le i other.operations within in
      omega arith

  -- in the end all are
  pub all_taken : length other.operations ≤ i → Merges start other (Ok done) now
  all_taken past =
      let whole : news_of start first ≡ news start other = ap (news_of start) (take_all i other.operations past) in (
        can,
        u.count ∙ ap (λ (ops : List Operation). length ops) whole,
        subst (λ (ops : List Operation). HasTakenAll start ops now) whole u.taken,
      )

  module _ {op : Operation} (at : slice_get other.operations i ≡ Some op) where
    within : i < length other.operations
    within = slice_get_within other.operations i op at

    here : Contains other.operations op
    here = (i, within, get_or_from_slice_get other.operations i op op at)

    -- it doesn't stand among the first ones
    not_earlier : Contains first op → ⊥
    not_earlier = stands_once other.operations u.by.once i op at

    -- it is past the front now just where it was at the start
    past_at_start : front_of now.operations op.site < op.seq → is_past_front start op ≡ true
    past_at_start past =
        elim (cases_lt (front_of start.operations op.site) op.seq) [
          | inl less ↦ lt-ltb _ _ less
          | inr most ↦
              let up_to = (told_now op here).0 (stays_held op ((told op here).1 most)) in absurd (omega arith)
        ]

    held_at_start : op.seq ≤ front_of now.operations op.site → is_past_front start op ≡ false
    held_at_start most =
        elim (Contains-append_cases start.operations first op (only_first op ((told_now op here).1 most))) [
          | inl held ↦ le-ltb _ _ ((told op here).0 held)
          | inr before ↦ absurd (not_earlier before)
        ]

    one_new : front_of now.operations op.site < op.seq
        → news_of start (take (i + 1) other.operations) ≡ news_of start first ++ op ∷ []
    one_new past = next_passes (is_past_front start) other.operations i op at (past_at_start past)

    none_new : op.seq ≤ front_of now.operations op.site
        → news_of start (take (i + 1) other.operations) ≡ news_of start first
    none_new most = next_fails (is_past_front start) other.operations i op at (held_at_start most)

    one_counted : front_of now.operations op.site < op.seq
        → done + 1 ≡ length (news_of start (take (i + 1) other.operations))
    one_counted past =
        let count = u.count in
        let next = ap (λ (xs : List Operation). length xs) (one_new past) in
        let long = length-append (news_of start first) (op ∷ []) in
        omega arith

    -- past the front it is ready
    pub is_ready : front_of now.operations op.site < op.seq → IsJudged now op ready
    is_ready past =
        let texts_are_one : op.text ≡ now.text =
        All-contains (λ (o : Operation). o.text ≡ other.text) other.operations op u.by.is_other.of_text here
        ∙ sym can.same_text ∙ sym (ap (λ (t : TextState). t.text) u.taken.grown) in
        let new : IsNew now.operations op = record {
          counted = u.by.is_other.identified.counted op here;
          unheld = λ h. let (o, held, site, seq) = h in
              let same : o ≡ op = known.unique o op (Contains-append_left now.operations other.operations o held)
              (Contains-append_right now.operations other.operations op here) site seq in
              let up_to = (told_now op here).0 (subst (Contains now.operations) same held) in
              omega arith;
        } in (
          texts_are_one,
          new,
          ready_from_others now.operations other.operations op u.taken.is.good u.by.is_other.good known here new
              (λ p there cause. first_held p (u.by.before i op p at there cause)),
        )

    -- and is taken in
    pub one_taken : (new : TextState) → front_of now.operations op.site < op.seq → HasTaken now op new
        → IsTakenTo start other (i + 1) (done + 1) new
    one_taken new past has =
        let ops : List Operation → TextState = λ xs. record start { operations = xs; order = new.order } in
        record {
          by = u.by;
          taken = record {
            is = has.is;
            grown =
                has.grown
                ∙ ap (λ (t : TextState). record t { operations = t.operations ++ op ∷ []; order = new.order })
                u.taken.grown
                ∙ ap ops (append_assoc start.operations (news_of start first) (op ∷ [])
                ∙ ap (λ (xs : List Operation). start.operations ++ xs) (sym (one_new past)));
          };
          count = one_counted past;
        }

    -- else it is held
    pub one_passed : op.seq ≤ front_of now.operations op.site → IsTakenTo start other (i + 1) done now
    one_passed most = record {
      by = u.by;
      taken = subst (λ (xs : List Operation). HasTakenAll start xs now) (sym (none_new most)) u.taken;
      count = u.count ∙ ap (λ (xs : List Operation). length xs) (sym (none_new most));
    }

    -- where it is refused for want of memory, some are taken in, and not all
    pub stopped : front_of now.operations op.site < op.seq → MergesShort start other (Err (Stopped done)) now
    stopped past =
        let more = one_counted past in
        let long = ap (λ (xs : List Operation). length xs)
        (parts_filtered (is_past_front start) other.operations (i + 1)) in
        let both = length-append (news_of start (take (i + 1) other.operations))
        (news_of start (drop (i + 1) other.operations)) in
        let first_ones : take done (news start other) ≡ news_of start first =
        ap (take done) (parts_filtered (is_past_front start) other.operations i)
        ∙ take_at (news_of start first) (news_of start (drop i other.operations)) done (sym u.count) in (
          can,
          omega arith,
          subst (λ (xs : List Operation). HasTakenAll start xs now) (sym first_ones) u.taken,
        )
