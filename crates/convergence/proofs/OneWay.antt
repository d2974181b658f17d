-- A draining goes one way.
use Rattle.std.proofs.Common.{◌≡◌, ℕ, ◌+◌, ◌⊎◌, inl, inr, List, [], ◌∷◌, ◌++◌, length-append, Bool}
use Rattle.std.proofs.Common.{true, false, All, Contains, refl, sym, ap, subst, ◌∙◌, arith}
use Rattle.std.proofs.lemmas.List.Elements.{All-contains, All-head, All-tail, Contains-append_cases}
use Rattle.std.proofs.lemmas.List.Elements.{Contains-append_left, Contains-append_right, Contains-get_or}
use Rattle.operations.specs.Operation.{Operation}
use Rattle.tree_order.specs.Good.{Good}
use Rattle.set_laws.specs.Sets.{AreIdentified, IsPartOf}
use Rattle.set_laws.specs.Verdict.{wait, misfit, low_stamp, ready}
use Rattle.waiting_room.specs.Room.{StaysWaiting}
use Rattle.texts.specs.Draining.{AllStay, Drains, ends, stops, takes_in, throws_away, IsNextOut, IsThrownAway}
use Rattle.texts.specs.Taking.{HasTaken, IsJudged}
use Rattle.texts.specs.Text.{AreWaitingFor, IsText}
use Rattle.texts.specs.TextState.{TextState, with_room}
use Rattle.convergence.specs.Outcomes.{DrainsOneWay}
use Rattle.set_laws.proofs.Verdicts.{same_verdict}
use Rattle.texts.proofs.Chars.{one_text_with}

module _ {X : Type 0} (P : X → Type 0) where
  -- a list is split in one way after the first ones that have P, where the next one doesn't
  pub one_split : (before before' after after' : List X) (x x' : X) → before ++ x ∷ after ≡ before' ++ x' ∷ after'
      → All P before → ¬ P x → All P before' → ¬ P x' → (before ≡ before') × (x ≡ x') × (after ≡ after')
  one_split [] [] after after' x x' e all not all' not' =
      let same : x ≡ x' = cc in let rest : after ≡ after' = cc in (refl, same, rest)
  one_split [] (y ∷ before') after after' x x' e all not all' not' =
      let same : y ≡ x = cc in absurd (not (subst P same (All-head P y before' all')))
  one_split (y ∷ before) [] after after' x x' e all not all' not' =
      let same : y ≡ x' = cc in absurd (not' (subst P same (All-head P y before all)))
  one_split (y ∷ before) (y' ∷ before') after after' x x' e all not all' not' =
      let first : y ≡ y' = cc in
      let rest : before ++ x ∷ after ≡ before' ++ x' ∷ after' = cc in
      let found = one_split before before' after after' x x' rest (All-tail P y before all) not
      (All-tail P y' before' all') not' in
      let same = found.0 in
      (cc, found.1, found.2)

  -- what all have, those of a part have
  pub all_of_part : (part whole : List X) → ((x : X) → Contains part x → Contains whole x) → All P whole → All P part
  all_of_part part whole within all k d lt =
      All-contains P whole _ all (within _ (Contains-get_or part k d lt))

-- what is left where one goes is part of what was
pub without_one : (before after : List Operation) (op : Operation) → IsPartOf (before ++ after) (before ++ op ∷ after)
without_one before after op x held =
    elim (Contains-append_cases before after x held) [
      | inl there ↦ Contains-append_left before (op ∷ after) x there
      | inr there ↦
          Contains-append_right before (op ∷ after) x (Contains-append_right (op ∷ []) after x there)
    ]

pub identified_part : (part whole : List Operation) → IsPartOf part whole → AreIdentified whole → AreIdentified part
identified_part part whole within known = record {
  counted = λ op held. known.counted op (within op held);
  unique = λ a b held held'. known.unique a b (within a held) (within b held');
}

-- a room that one has left is a room
pub room_without : (text : ℕ) (before after : List Operation) (op : Operation)
    → AreWaitingFor text (before ++ op ∷ after) → AreWaitingFor text (before ++ after)
room_without text before after op are =
    let within = without_one before after op in
    let few = are.few in
    let long = length-append before (op ∷ after) in
    let short = length-append before after in
    record {
      of_text = all_of_part (λ o. o.text ≡ text) (before ++ after) (before ++ op ∷ after) within are.of_text;
      identified = identified_part (before ++ after) (before ++ op ∷ after) within are.identified;
      few = omega arith;
    }

-- a text with another room is one
pub text_with_room : (t : TextState) (room : List Operation) → IsText t → AreWaitingFor t.text room
    → IsText (with_room t room)
text_with_room t room is are = record {
  good = is.good;
  in_order = is.in_order;
  identified = is.identified;
  of_text = is.of_text;
  chars = is.chars;
  deleted = is.deleted;
  waiting = are;
}

-- and so with all but the next one out
pub text_without : (t : TextState) (before after : List Operation) (op : Operation) → IsText t
    → IsNextOut t before op after → IsText (with_room t (before ++ after))
text_without t before after op is next =
    text_with_room t (before ++ after) is (room_without t.text before after op
    (subst (AreWaitingFor t.text) next.room is.waiting))

-- one operation more leaves one text
pub one_taken : (t : TextState) (op : Operation) (new new' : TextState) → IsText t → op.text ≡ t.text
    → HasTaken t op new → HasTaken t op new' → new ≡ new'
one_taken t op new new' is own taken taken' =
    let operations : new.operations ≡ t.operations ++ op ∷ [] = ap (λ (u : TextState). u.operations) taken.grown in
    let one = one_text_with t op is (subst Good operations taken.is.good)
    (subst AreIdentified operations taken.is.identified) own in
    one.only new taken.is taken.grown ∙ sym (one.only new' taken'.is taken'.grown)

-- an operation that can be taken in isn't thrown away
not_both : (t : TextState) (op : Operation) → IsJudged t op ready → ¬ IsThrownAway t op
not_both t op good (inl held) = good.1.unheld held
not_both t op good (inr (inl bad)) =
    let same = same_verdict t.operations op ready misfit good.2 bad.2 in cc
not_both t op good (inr (inr bad)) =
    let same = same_verdict t.operations op ready low_stamp good.2 bad.2 in cc

-- and neither waits
pub ready_goes : (t : TextState) (op : Operation) → IsJudged t op ready → ¬ StaysWaiting t.operations op
ready_goes t op good stays =
    let same = same_verdict t.operations op ready wait good.2 stays.1 in cc

pub thrown_goes : (t : TextState) (op : Operation) → IsThrownAway t op → ¬ StaysWaiting t.operations op
thrown_goes t op (inl held) stays = stays.0.unheld held
thrown_goes t op (inr (inl bad)) stays =
    let same = same_verdict t.operations op misfit wait bad.2 stays.1 in cc
thrown_goes t op (inr (inr bad)) stays =
    let same = same_verdict t.operations op low_stamp wait bad.2 stays.1 in cc

-- where all stay none goes
none_goes : (t : TextState) (before after : List Operation) (op : Operation) → AllStay t
    → IsNextOut t before op after → ¬ (¬ StaysWaiting t.operations op)
none_goes t before after op all next goes =
    goes (All-contains (StaysWaiting t.operations) (before ++ op ∷ after) op
    (subst (All (StaysWaiting t.operations)) next.room all)
    (Contains-append_right before (op ∷ after) op (Contains-append_left (op ∷ []) after op (0, omega arith, refl))))

-- the next one out is one
one_next : (t : TextState) (before before' after after' : List Operation) (op op' : Operation)
    → IsNextOut t before op after → IsNextOut t before' op' after' → ¬ StaysWaiting t.operations op
    → ¬ StaysWaiting t.operations op' → (before ≡ before') × (op ≡ op') × (after ≡ after')
one_next t before before' after after' op op' next next' goes goes' =
    one_split (StaysWaiting t.operations) before before' after after' op op' (sym next.room ∙ next'.room) next.stay
    goes next'.stay goes'

-- how a draining begins
data Begins (t : TextState) (n m : ℕ) (b : Bool) (new : TextState) : Type 0 where
  ended : AllStay t → n ≡ 0 → m ≡ 0 → b ≡ false → new ≡ t → Begins t n m b new
  stopped : (before after : List Operation) (op : Operation) → IsNextOut t before op after → IsJudged t op ready
      → n ≡ 0 → m ≡ 0 → b ≡ true → new ≡ t → Begins t n m b new
  took_in : (before after : List Operation) (op : Operation) (with_op : TextState) (less : ℕ)
      → IsNextOut t before op after → IsJudged t op ready → HasTaken (with_room t (before ++ after)) op with_op
      → Drains with_op less m b new → n ≡ less + 1 → Begins t n m b new
  threw_away : (before after : List Operation) (op : Operation) (less : ℕ) → IsNextOut t before op after
      → IsThrownAway t op → Drains (with_room t (before ++ after)) n less b new → m ≡ less + 1
      → Begins t n m b new

begun : {t new : TextState} {n m : ℕ} {b : Bool} → Drains t n m b new → Begins t n m b new
begun (ends all) = ended all refl refl refl refl
begun (stops before after op next good) = stopped before after op next good refl refl refl refl
begun (takes_in {with_op = with_op} {drained = less} before after op next good taken rest) =
    took_in before after op with_op less next good taken rest refl
begun (throws_away {dropped = less} before after op next bad rest) =
    threw_away before after op less next bad rest refl

-- the whole room was drained, or the counts are told
abbrev AreTold : Bool → (n n' m m' : ℕ) → Type 0
AreTold b n n' m m' = (b ≡ false) ⊎ ((n ≡ n') × (m ≡ m'))

abbrev IsOne : (n n' m m' : ℕ) (new new' : TextState) → Type 0
IsOne n n' m m' new new' = (n ≡ n') × (m ≡ m') × (new ≡ new')

told_less : (b : Bool) (n n' m m' : ℕ) → AreTold b (n + 1) (n' + 1) m m' → AreTold b n n' m m'
told_less b n n' m m' (inl whole) = inl whole
told_less b n n' m m' (inr same) = let first = same.0 in inr (omega arith, same.1)

told_fewer : (b : Bool) (n n' m m' : ℕ) → AreTold b n n' (m + 1) (m' + 1) → AreTold b n n' m m'
told_fewer b n n' m m' (inl whole) = inl whole
told_fewer b n n' m m' (inr same) = let last = same.1 in inr (same.0, omega arith)

from_ended : (t new' : TextState) (n' m' : ℕ) (b : Bool) → AllStay t → b ≡ false → Begins t n' m' b new'
    → IsOne 0 n' 0 m' t new'
from_ended t new' n' m' b all whole (ended all' none none' not same) = (sym none, sym none', sym same)
from_ended t new' n' m' b all whole (stopped before after op next good none none' is same) =
    absurd (none_goes t before after op all next (ready_goes t op good))
from_ended t new' n' m' b all whole (took_in before after op with_op less next good taken rest more) =
    absurd (none_goes t before after op all next (ready_goes t op good))
from_ended t new' n' m' b all whole (threw_away before after op less next bad rest more) =
    absurd (none_goes t before after op all next (thrown_goes t op bad))

-- one that was stopped at once took in none and threw none away, where the counts are told
taken_none : (n' m' less : ℕ) → AreTold true 0 n' 0 m' → ¬ (n' ≡ less + 1)
taken_none n' m' less (inl not) more = absurd (cc)
taken_none n' m' less (inr same) more = let first = same.0 in omega arith

thrown_none : (n' m' less : ℕ) → AreTold true 0 n' 0 m' → ¬ (m' ≡ less + 1)
thrown_none n' m' less (inl not) more = absurd (cc)
thrown_none n' m' less (inr same) more = let last = same.1 in omega arith

from_stopped : (t new' : TextState) (n' m' : ℕ) (before after : List Operation) (op : Operation)
    → IsNextOut t before op after → IsJudged t op ready → AreTold true 0 n' 0 m' → Begins t n' m' true new'
    → IsOne 0 n' 0 m' t new'
from_stopped t new' n' m' before after op next good told (ended all none none' not same) =
    absurd (none_goes t before after op all next (ready_goes t op good))
from_stopped t new' n' m' before after op next good told (stopped before' after' op' next' good' none none' is same) =
    (sym none, sym none', sym same)
from_stopped t new' n' m' before after op next good told
    (took_in before' after' op' with_op less next' good' taken rest more) =
    absurd (taken_none n' m' less told more)
from_stopped t new' n' m' before after op next good told
    (threw_away before' after' op' less next' bad rest more) =
    absurd (thrown_none n' m' less told more)

-- all that follows is one
abbrev GoesOn : (t new : TextState) (n m : ℕ) (b : Bool) → Type 0
GoesOn t new n m b = (n' m' : ℕ) (new' : TextState) → Drains t n' m' b new' → AreTold b n n' m m'
    → IsOne n n' m m' new new'

none_taken : (b : Bool) (n n' m m' : ℕ) → b ≡ true → n' ≡ 0 → ¬ AreTold b (n + 1) n' m m'
none_taken b n n' m m' is none (inl not) = absurd (cc)
none_taken b n n' m m' is none (inr same) = let first = same.0 in omega arith

none_thrown : (b : Bool) (n n' m m' : ℕ) → b ≡ true → m' ≡ 0 → ¬ AreTold b n n' (m + 1) m'
none_thrown b n n' m m' is none (inl not) = absurd (cc)
none_thrown b n n' m m' is none (inr same) = let last = same.1 in omega arith

from_taken : (t new new' with_op : TextState) (n n' m m' : ℕ) (b : Bool) (before after : List Operation)
    (op : Operation) → IsText t → IsNextOut t before op after → IsJudged t op ready
    → HasTaken (with_room t (before ++ after)) op with_op → GoesOn with_op new n m b
    → AreTold b (n + 1) n' m m' → Begins t n' m' b new' → IsOne (n + 1) n' m m' new new'
from_taken t new new' with_op n n' m m' b before after op is next good taken on told
    (ended all none none' not same) =
    absurd (none_goes t before after op all next (ready_goes t op good))
from_taken t new new' with_op n n' m m' b before after op is next good taken on told
    (stopped before' after' op' next' good' none none' stop same) =
    absurd (none_taken b n n' m m' stop none told)
from_taken t new new' with_op n n' m m' b before after op is next good taken on told
    (took_in before' after' op' with_op' less next' good' taken' rest more) =
    let found = one_next t before before' after after' op op' next next' (ready_goes t op good)
    (ready_goes t op' good') in
    let same_order = found.0 in
    let same_after = found.2 in
    let room : before' ++ after' ≡ before ++ after = cc in
    let left : HasTaken (with_room t (before ++ after)) op' with_op' =
    subst (λ (room : List Operation). HasTaken (with_room t room) op' with_op') room taken' in
    let moved : HasTaken (with_room t (before ++ after)) op with_op' =
    subst (λ (o : Operation). HasTaken (with_room t (before ++ after)) o with_op') (sym found.1) left in
    let same : with_op' ≡ with_op = one_taken (with_room t (before ++ after)) op with_op' with_op
    (text_without t before after op is next) good.0 moved taken in
    let end = on less m' new' (subst (λ (u : TextState). Drains u less m' b new') same rest)
    (told_less b n less m m' (subst (λ (k : ℕ). AreTold b (n + 1) k m m') more told)) in
    let first = end.0 in
    (omega arith, end.1, end.2)
from_taken t new new' with_op n n' m m' b before after op is next good taken on told
    (threw_away before' after' op' less next' bad rest more) =
    let found = one_next t before before' after after' op op' next next' (ready_goes t op good)
    (thrown_goes t op' bad) in
    absurd (not_both t op good (subst (IsThrownAway t) (sym found.1) bad))

from_thrown : (t new new' : TextState) (n n' m m' : ℕ) (b : Bool) (before after : List Operation)
    (op : Operation) → IsNextOut t before op after → IsThrownAway t op
    → GoesOn (with_room t (before ++ after)) new n m b → AreTold b n n' (m + 1) m' → Begins t n' m' b new'
    → IsOne n n' (m + 1) m' new new'
from_thrown t new new' n n' m m' b before after op next bad on told (ended all none none' not same) =
    absurd (none_goes t before after op all next (thrown_goes t op bad))
from_thrown t new new' n n' m m' b before after op next bad on told
    (stopped before' after' op' next' good' none none' stop same) =
    absurd (none_thrown b n n' m m' stop none' told)
from_thrown t new new' n n' m m' b before after op next bad on told
    (took_in before' after' op' with_op' less next' good' taken' rest more) =
    let found = one_next t before before' after after' op op' next next' (thrown_goes t op bad)
    (ready_goes t op' good') in
    absurd (not_both t op' good' (subst (IsThrownAway t) found.1 bad))
from_thrown t new new' n n' m m' b before after op next bad on told
    (threw_away before' after' op' less next' bad' rest more) =
    let found = one_next t before before' after after' op op' next next' (thrown_goes t op bad)
    (thrown_goes t op' bad') in
    let same_order = found.0 in
    let same_after = found.2 in
    let room : before' ++ after' ≡ before ++ after = cc in
    let end = on n' less new' (subst (λ (room : List Operation). Drains (with_room t room) n' less b new') room rest)
    (told_fewer b n n' m less (subst (λ (k : ℕ). AreTold b n n' (m + 1) k) more told)) in
    let last = end.1 in
    (end.0, omega arith, end.2)

-- two drainings of one text, of which the whole room was drained or the counts are told, are one
one_draining : {t new : TextState} {n m : ℕ} {b : Bool} → Drains t n m b new → IsText t → GoesOn t new n m b
one_draining (ends {t = t} all) is n' m' new' other told =
    from_ended t new' n' m' false all refl (begun other)
one_draining (stops {t = t} before after op next good) is n' m' new' other told =
    from_stopped t new' n' m' before after op next good told (begun other)
one_draining
    (takes_in {t = t} {with_op = with_op} {new = new} {drained = n} {dropped = m} {stopped = b} before after op next
    good taken rest)
    is n' m' new' other told =
    from_taken t new new' with_op n n' m m' b before after op is next good taken (one_draining rest taken.is) told
    (begun other)
one_draining
    (throws_away {t = t} {new = new} {drained = n} {dropped = m} {stopped = b} before after op next bad rest)
    is n' m' new' other told =
    from_thrown t new new' n n' m m' b before after op next bad
    (one_draining rest (text_without t before after op is next)) told (begun other)

pub drain_one_way : DrainsOneWay
drain_one_way = record {
  whole = λ t new new' n n' m m' is drains drains'. one_draining drains is n' m' new' drains' (inl refl);
  stopped = λ t new new' n m is drains drains'. (one_draining drains is n m new' drains' (inr (refl, refl))).2;
}
