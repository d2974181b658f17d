-- A message has one answer, and leaves one text.
use Rattle.std.proofs.Common.{◌≡◌, ℕ, ◌<◌, ◌≤◌, ◌==◌, inl, inr, List, Contains, Bool, true, false, MatchBool}
use Rattle.std.proofs.Common.{if◌then◌else◌, length, nat_lt, Result, refl, sym, ap, subst, ◌∙◌, arith}
use Rattle.std.proofs.lemmas.Bool.{cases_lt}
use Rattle.looks.specs.declared.refusal.Refusal.{Refusal}
use Rattle.operations.specs.Operation.{Operation}
use Rattle.set_laws.specs.Fronts.{IsHeld}
use Rattle.set_laws.specs.Sets.{AreIdentified, IsInConflict}
use Rattle.set_laws.specs.Verdict.{Verdict, wait, misfit, low_stamp, ready, HasVerdict, IsNew}
use Rattle.waiting_room.specs.declared.room.TheConstants.{MAX_WAITING}
use Rattle.texts.specs.Draining.{Drains}
use Rattle.texts.specs.Take.{Becomes, HasFate, Stays, Takes, TakesIn, TakesShort, Encodes}
use Rattle.texts.specs.Text.{IsText}
use Rattle.texts.specs.TextState.{TextState}
use Rattle.texts.specs.declared.fate.Fate.{Fate}
use Rattle.texts.specs.declared.fate.Fate.TheVariants.{OtherText, Known, Conflicting, AlreadyWaits, Wait}
use Rattle.texts.specs.declared.fate.Fate.TheVariants.{Misfit, LowStamp, Ready}
use Rattle.texts.specs.declared.took.Took.{Took}
use Rattle.convergence.specs.Outcomes.{TakesOneWay}
use Rattle.operations.proofs.ReadMessages.{same_operation}
use Rattle.set_laws.proofs.Verdicts.{same_verdict}
use Rattle.convergence.proofs.OneWay.{drain_one_way}
use Rattle.convergence.proofs.OneWay.{one_taken}

-- the order in which what becomes of an operation is told
abbrev rank : Fate → ℕ
rank OtherText = 0
rank Known = 1
rank Conflicting = 2
rank AlreadyWaits = 3
rank Wait = 4
rank Misfit = 5
rank LowStamp = 6
rank Ready = 7

abbrev fate_at : ℕ → Fate
fate_at n =
    if n == 0 then OtherText else (if n == 1 then Known else (if n == 2 then Conflicting
    else (if n == 3 then AlreadyWaits else (if n == 4 then Wait else (if n == 5 then Misfit
    else (if n == 6 then LowStamp else Ready))))))

at_its_rank : (f : Fate) → fate_at (rank f) ≡ f
at_its_rank OtherText = refl
at_its_rank Known = refl
at_its_rank Conflicting = refl
at_its_rank AlreadyWaits = refl
at_its_rank Wait = refl
at_its_rank Misfit = refl
at_its_rank LowStamp = refl
at_its_rank Ready = refl

one_rank : (f g : Fate) → rank f ≡ rank g → f ≡ g
one_rank f g same = sym (at_its_rank f) ∙ ap fate_at same ∙ at_its_rank g

-- the verdict after the last four
abbrev verdict_of : Fate → Verdict
verdict_of Wait = wait
verdict_of Misfit = misfit
verdict_of LowStamp = low_stamp
verdict_of fate = ready

abbrev fate_by : Verdict → Fate
fate_by wait = Wait
fate_by misfit = Misfit
fate_by low_stamp = LowStamp
fate_by ready = Ready

by_its_verdict : (f : Fate) → 3 < rank f → fate_by (verdict_of f) ≡ f
by_its_verdict OtherText lt = absurd (omega arith)
by_its_verdict Known lt = absurd (omega arith)
by_its_verdict Conflicting lt = absurd (omega arith)
by_its_verdict AlreadyWaits lt = absurd (omega arith)
by_its_verdict Wait lt = refl
by_its_verdict Misfit lt = refl
by_its_verdict LowStamp lt = refl
by_its_verdict Ready lt = refl

-- one of the operations isn't in conflict with them
pub no_conflict : (ops : List Operation) (op : Operation) → AreIdentified ops → Contains ops op → ¬ IsInConflict ops op
no_conflict ops op known held (other, there, on, at, differs) = differs (known.unique other op there held on at)

conflict_held : (ops : List Operation) (op : Operation) → IsInConflict ops op → IsHeld ops op.site op.seq
conflict_held ops op (other, there, on, at, differs) = (other, there, on, at)

module _ (t : TextState) (op : Operation) where
  -- all but the first are of this text
  pub own_text : (f : Fate) → 0 < rank f → HasFate t op f → op.text ≡ t.text
  own_text OtherText lt has = absurd (omega arith)
  own_text Known lt has = has.0
  own_text Conflicting lt has = has.0
  own_text AlreadyWaits lt has = has.0
  own_text Wait lt has = has.1.0
  own_text Misfit lt has = has.1.0
  own_text LowStamp lt has = has.1.0
  own_text Ready lt has = has.1.0

  -- those after the third are new
  is_free : (f : Fate) → 2 < rank f → HasFate t op f → IsNew t.operations op
  is_free OtherText lt has = absurd (omega arith)
  is_free Known lt has = absurd (omega arith)
  is_free Conflicting lt has = absurd (omega arith)
  is_free AlreadyWaits lt has = has.1
  is_free Wait lt has = has.1.1
  is_free Misfit lt has = has.1.1
  is_free LowStamp lt has = has.1.1
  is_free Ready lt has = has.1.1

  -- none waits under the identity of those after the fourth, and there is the verdict
  is_unmet : (f : Fate) → 3 < rank f → HasFate t op f → ¬ IsHeld t.waiting_room op.site op.seq
  is_unmet OtherText lt has = absurd (omega arith)
  is_unmet Known lt has = absurd (omega arith)
  is_unmet Conflicting lt has = absurd (omega arith)
  is_unmet AlreadyWaits lt has = absurd (omega arith)
  is_unmet Wait lt has = has.0
  is_unmet Misfit lt has = has.0
  is_unmet LowStamp lt has = has.0
  is_unmet Ready lt has = has.0

  has_verdict : (f : Fate) → 3 < rank f → HasFate t op f → HasVerdict t.operations op (verdict_of f)
  has_verdict OtherText lt has = absurd (omega arith)
  has_verdict Known lt has = absurd (omega arith)
  has_verdict Conflicting lt has = absurd (omega arith)
  has_verdict AlreadyWaits lt has = absurd (omega arith)
  has_verdict Wait lt has = has.1.2
  has_verdict Misfit lt has = has.1.2
  has_verdict LowStamp lt has = has.1.2
  has_verdict Ready lt has = has.1.2

  -- one that is held has none of the later fates
  known_only : IsText t → Contains t.operations op → (g : Fate) → 1 < rank g → ¬ HasFate t op g
  known_only is held OtherText lt has = absurd (omega arith)
  known_only is held Known lt has = absurd (omega arith)
  known_only is held Conflicting lt (own, inl conflict) = no_conflict t.operations op is.identified held conflict
  known_only is held Conflicting lt (own, inr clash) = clash.0.unheld (op, held, refl, refl)
  known_only is held AlreadyWaits lt has = has.1.unheld (op, held, refl, refl)
  known_only is held Wait lt has = has.1.1.unheld (op, held, refl, refl)
  known_only is held Misfit lt has = has.1.1.unheld (op, held, refl, refl)
  known_only is held LowStamp lt has = has.1.1.unheld (op, held, refl, refl)
  known_only is held Ready lt has = has.1.1.unheld (op, held, refl, refl)

  -- and so with one that waits in conflict
  clash_only : IsText t → IsInConflict t.waiting_room op → (g : Fate) → 2 < rank g → ¬ HasFate t op g
  clash_only is clash OtherText lt has = absurd (omega arith)
  clash_only is clash Known lt has = absurd (omega arith)
  clash_only is clash Conflicting lt has = absurd (omega arith)
  clash_only is clash AlreadyWaits lt has = no_conflict t.waiting_room op is.waiting.identified has.2 clash
  clash_only is clash Wait lt has = has.0 (conflict_held t.waiting_room op clash)
  clash_only is clash Misfit lt has = has.0 (conflict_held t.waiting_room op clash)
  clash_only is clash LowStamp lt has = has.0 (conflict_held t.waiting_room op clash)
  clash_only is clash Ready lt has = has.0 (conflict_held t.waiting_room op clash)

  -- no fate but the last four goes with a later one
  no_later : IsText t → (f g : Fate) → rank f < rank g → rank f ≤ 3 → HasFate t op f → ¬ HasFate t op g
  no_later is OtherText g lt le has has' = has (own_text g lt has')
  no_later is Known g lt le has has' = known_only is has.1 g lt has'
  no_later is Conflicting g lt le (own, inl conflict) has' =
      (is_free g lt has').unheld (conflict_held t.operations op conflict)
  no_later is Conflicting g lt le (own, inr clash) has' = clash_only is clash.1 g lt has'
  no_later is AlreadyWaits g lt le has has' = is_unmet g lt has' (op, has.2, refl, refl)
  no_later is Wait g lt le has has' = absurd (omega arith)
  no_later is Misfit g lt le has has' = absurd (omega arith)
  no_later is LowStamp g lt le has has' = absurd (omega arith)
  no_later is Ready g lt le has has' = absurd (omega arith)

  same_rank : IsText t → (f g : Fate) → rank f ≤ 3 → HasFate t op f → HasFate t op g → f ≡ g
  same_rank is f g low has has' =
      elim (cases_lt (rank f) (rank g)) [
        | inl lt ↦ absurd (no_later is f g lt low has has')
        | inr ge ↦ elim (cases_lt (rank g) (rank f)) [
          | inl lt ↦ absurd (no_later is g f lt (omega arith) has' has)
          | inr le ↦ one_rank f g (omega arith)
        ]
      ]

  -- there is one fate
  pub same_fate : IsText t → (f g : Fate) → HasFate t op f → HasFate t op g → f ≡ g
  same_fate is f g has has' =
      elim (cases_lt 3 (rank f)) [
        | inr low ↦ same_rank is f g low has has'
        | inl high ↦ elim (cases_lt 3 (rank g)) [
          | inr low ↦ sym (same_rank is g f low has' has)
          | inl high' ↦
              let same = same_verdict t.operations op (verdict_of f) (verdict_of g) (has_verdict f high has)
              (has_verdict g high' has') in
              sym (by_its_verdict f high) ∙ ap fate_by same ∙ by_its_verdict g high'
        ]
      ]

abbrev IsOneAnswer : (result result' : Result Took Refusal) (new new' : TextState) → Type 0
IsOneAnswer result result' new new' = (result ≡ result') × (new ≡ new')

same_stays : (t : TextState) (answer result result' : Result Took Refusal) (new new' : TextState)
    → Stays t answer result new → Stays t answer result' new' → IsOneAnswer result result' new new'
same_stays t answer result result' new new' (e, stays) (e', stays') = (e ∙ sym e', stays ∙ sym stays')

same_match : (b : Bool) (t u : TextState) (answer other result result' : Result Took Refusal) (new new' : TextState)
    → MatchBool b (Stays u answer result new) (Stays t other result new)
    → MatchBool b (Stays u answer result' new') (Stays t other result' new') → IsOneAnswer result result' new new'
same_match true t u answer other result result' new new' = same_stays u answer result result' new new'
same_match false t u answer other result result' new new' = same_stays t other result result' new new'

-- one that is ready is taken in one way
one_taking : (t : TextState) (op : Operation) (result result' : Result Took Refusal) (new new' : TextState)
    → IsText t → op.text ≡ t.text → TakesIn t op false result new → TakesIn t op false result' new'
    → IsOneAnswer result result' new new'
one_taking t op result result' new new' is own (with_op, n, m, taken, drained, e)
    (with_op', n', m', taken', drained', e') =
    let same : with_op' ≡ with_op = one_taken t op with_op' with_op is own taken' taken in
    let moved : Drains with_op n' m' false new' =
    subst (λ (u : TextState). Drains u n' m' false new') same drained' in
    let end = drain_one_way.whole with_op new new' n n' m m' taken.is drained moved in
    let first = end.0 in
    let second = end.1 in
    (cc, end.2)

-- and so where memory was refused
one_short : (t : TextState) (op : Operation) (result : Result Took Refusal) (new new' : TextState)
    → IsText t → op.text ≡ t.text → TakesIn t op true result new → TakesIn t op true result new' → new ≡ new'
one_short t op result new new' is own (with_op, n, m, taken, drained, e) (with_op', n', m', taken', drained', e') =
    let same : with_op' ≡ with_op = one_taken t op with_op' with_op is own taken' taken in
    let first : n' ≡ n = cc in
    let second : m' ≡ m = cc in
    let moved : Drains with_op n' m' true new' =
    subst (λ (u : TextState). Drains u n' m' true new') same drained' in
    let counted : Drains with_op n m true new' =
    subst (λ (k : ℕ). Drains with_op n k true new') second
    (subst (λ (k : ℕ). Drains with_op k m' true new') first moved) in
    drain_one_way.stopped with_op new new' n m taken.is drained counted

one_becoming : (t : TextState) (op : Operation) (f : Fate) (result result' : Result Took Refusal)
    (new new' : TextState) → IsText t → HasFate t op f → Becomes t op f result new → Becomes t op f result' new'
    → IsOneAnswer result result' new new'
one_becoming t op OtherText result result' new new' is has = same_stays t _ result result' new new'
one_becoming t op Known result result' new new' is has = same_stays t _ result result' new new'
one_becoming t op Conflicting result result' new new' is has = same_stays t _ result result' new new'
one_becoming t op AlreadyWaits result result' new new' is has = same_stays t _ result result' new new'
one_becoming t op Wait result result' new new' is has =
    same_match (nat_lt (length t.waiting_room) MAX_WAITING) t _ _ _ result result' new new'
one_becoming t op Misfit result result' new new' is has = same_stays t _ result result' new new'
one_becoming t op LowStamp result result' new new' is has = same_stays t _ result result' new new'
one_becoming t op Ready result result' new new' is has = one_taking t op result result' new new' is has.1.0

-- a message tells one operation
pub one_told : (message : List ℕ) (a b : Operation) → Encodes message a → Encodes message b → a ≡ b
one_told message a b tells tells' = same_operation a b tells.valid tells'.valid (sym tells.spelled ∙ tells'.spelled)

whole : (t new new' : TextState) (message : List ℕ) (result result' : Result Took Refusal) → IsText t
    → Takes t message result new → Takes t message result' new' → IsOneAnswer result result' new new'
whole t new new' message result result' is (inl none) (inl none') =
    same_stays t _ result result' new new' none.1 none'.1
whole t new new' message result result' is (inl none) (inr (op, f, tells, has, becomes)) =
    absurd (none.0 op tells.valid tells.spelled)
whole t new new' message result result' is (inr (op, f, tells, has, becomes)) (inl none) =
    absurd (none.0 op tells.valid tells.spelled)
whole t new new' message result result' is (inr (op, f, tells, has, becomes))
    (inr (op', f', tells', has', becomes')) =
    let same : op' ≡ op = one_told message op' op tells' tells in
    let moved : HasFate t op f' = subst (λ (o : Operation). HasFate t o f') same has' in
    let fates : f' ≡ f = same_fate t op is f' f moved has in
    one_becoming t op f result result' new new' is has becomes
    (subst (λ (g : Fate). Becomes t op g result' new') fates
    (subst (λ (o : Operation). Becomes t o f' result' new') same becomes'))

short : (t new new' : TextState) (message : List ℕ) (result : Result Took Refusal) → IsText t
    → TakesShort t message result new → TakesShort t message result new' → new ≡ new'
short t new new' message result is (inl stays) (inl stays') = stays.1.1 ∙ sym stays'.1.1
short t new new' message result is (inl stays) (inr (op, tells, has, takes)) =
    let same = stays.1.0 in let taken = takes.5 in absurd (cc)
short t new new' message result is (inr (op, tells, has, takes)) (inl stays) =
    let same = stays.1.0 in let taken = takes.5 in absurd (cc)
short t new new' message result is (inr (op, tells, has, takes)) (inr (op', tells', has', takes')) =
    let same : op' ≡ op = one_told message op' op tells' tells in
    one_short t op result new new' is has.1.0 takes
    (subst (λ (o : Operation). TakesIn t o true result new') same takes')

pub take_one_way : TakesOneWay
take_one_way = record { whole = whole; short = short }
