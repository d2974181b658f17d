-- The text as it was, as its operations are taken in one after the other.
use Rattle.std.proofs.Common.{◌≡◌, ◌≢◌, ℕ, ◌+◌, ◌<◌, ◌≤◌, ◌⊎◌, inl, inr, Bool, true, false, not, List, [], ◌∷◌, ◌++◌}
use Rattle.std.proofs.Common.{length, take, Some, refl, sym, ap, subst, ◌∙◌, arith}
use Rattle.std.specs.Prelude.{AllPairs, Contains, slice_get}
use Rattle.std.proofs.lemmas.Bool.{cases_eq, cases_lt, le-ltb, lt-ltb, ltb-false, not-true, not_from_false, not_from_true}
use Rattle.std.proofs.lemmas.List.{take_all, take_more}
use Rattle.std.proofs.lemmas.List.Elements.{All-contains, Contains-append_cases, Contains-append_left, Contains-push}
use Rattle.std.proofs.lemmas.List.Elements.{Contains-push_cases, filter_passes}
use Rattle.std.proofs.lemmas.Option.{get_or_from_slice_get, slice_get_within}
use Rattle.operations.specs.Operation.{Operation}
use Rattle.tree_order.specs.Good.{Good, IsCauseOf}
use Rattle.tree_order.specs.Laws.{AreSameSet}
use Rattle.set_laws.specs.Closure.{IsGreatestGoodPart}
use Rattle.set_laws.specs.Fronts.{front_of}
use Rattle.set_laws.specs.Sets.{AreIdentified, HasToTheFront, IsPartOf}
use Rattle.set_laws.specs.Verdict.{HasVerdict, IsNew, ready}
use Rattle.waiting_room.specs.Judged.{verdict_of}
use Rattle.waiting_room.specs.declared.judging.Verdict.{Verdict}
use Rattle.waiting_room.specs.declared.judging.Verdict.TheVariants.{Wait, Misfit, LowStamp, Ready}
use Rattle.texts.specs.Fronts.{front_in, is_beyond, up_to_fronts}
use Rattle.texts.specs.Laws.{AreTextsAlike, StoodAt, ThePastIsTheTextOfThen}
use Rattle.texts.specs.Past.{HasSomeOf, IsDue, IsPastOf, ends, keeps, leaves_out}
use Rattle.texts.specs.Taking.{HasTaken, IsJudged}
use Rattle.texts.specs.Text.{IsText}
use Rattle.texts.specs.TextState.{TextState, empty_text}
use Rattle.texts.specs.declared.front.Front.{Front}
use Rattle.set_laws.proofs.Covered.{IsCausallyClosedIn, closed_is_good, good_part_closed}
use Rattle.set_laws.proofs.Freed.{ready_from_others}
use Rattle.set_laws.proofs.Fronts.{front_reached, has_to_the_front, up_to_front}
use Rattle.set_laws.proofs.Lengths.{part_identified}
use Rattle.set_laws.proofs.Picking.{chosen}
use Rattle.set_laws.proofs.Preceding.{first_part_within}
use Rattle.set_laws.proofs.Verdicts.{same_verdict}
use Rattle.texts.proofs.Chars.{operations_tell}
use Rattle.texts.proofs.News.{kept_if_it_passes, next_fails, next_passes, there_before_filter, stands_once}

-- whether an operation is up to the fronts
abbrev pub is_up_to : List Front → Operation → Bool
is_up_to fronts op = not (is_beyond fronts op)

is_so : (fronts : List Front) (op : Operation) → op.seq ≤ front_in fronts op.site → is_up_to fronts op ≡ true
is_so fronts op most = not_from_false _ (le-ltb (front_in fronts op.site) op.seq most)

isnt_so : (fronts : List Front) (op : Operation) → front_in fronts op.site < op.seq → is_up_to fronts op ≡ false
isnt_so fronts op past = not_from_true _ (lt-ltb (front_in fronts op.site) op.seq past)

-- of the operations up to the fronts are those of the list whose seqs are no greater, and no others
in_up_to : (fronts : List Front) (ops : List Operation) (op : Operation) → Contains ops op
    → op.seq ≤ front_in fronts op.site → Contains (up_to_fronts fronts ops) op
in_up_to fronts ops op held most = kept_if_it_passes (is_up_to fronts) ops op held (is_so fronts op most)

from_up_to : (fronts : List Front) (ops : List Operation) → IsPartOf (up_to_fronts fronts ops) ops
from_up_to fronts ops = there_before_filter (is_up_to fronts) ops

no_further : (fronts : List Front) (ops : List Operation) (op : Operation) → Contains (up_to_fronts fronts ops) op
    → op.seq ≤ front_in fronts op.site
no_further fronts ops op held =
    let so : is_up_to fronts op ≡ true =
    All-contains (λ (x : Operation). is_up_to fronts x ≡ true) (up_to_fronts fronts ops) op
    (filter_passes (is_up_to fronts) ops) held in
    ltb-false (front_in fronts op.site) op.seq (not-true (is_beyond fronts op) so)

-- an operation has another one's identity, or has not
abbrev HasIdentityOf : Operation → Operation → Type 0
HasIdentityOf op x = (x.site ≡ op.site) × (x.seq ≡ op.seq)

has_it_or_not : (op x : Operation) → (HasIdentityOf op x → ⊥) ⊎ HasIdentityOf op x
has_it_or_not op x =
    elim (cases_eq x.site op.site) [
      | inr apart ↦ inl (λ h. apart h.0)
      | inl on ↦ elim (cases_eq x.seq op.seq) [
        | inr apart ↦ inl (λ h. apart h.1)
        | inl at ↦ inr (on, at)
      ]
    ]

-- with one more there are some of it, with and without that
some_without : {ops some : List Operation} (op : Operation) → HasSomeOf ops some → HasSomeOf (ops ++ op ∷ []) some
some_without op ends = leaves_out op ends
some_without op (leaves_out x rest) = leaves_out x (some_without op rest)
some_without op (keeps x rest) = keeps x (some_without op rest)

some_with : {ops some : List Operation} (op : Operation) → HasSomeOf ops some
    → HasSomeOf (ops ++ op ∷ []) (some ++ op ∷ [])
some_with op ends = keeps op ends
some_with op (leaves_out x rest) = leaves_out x (some_with op rest)
some_with op (keeps x rest) = keeps x (some_with op rest)

-- of the first i operations of the text those that can be are taken in
pub record IsPastTo (t : TextState) (fronts : List Front) (i : ℕ) (now : TextState) : Type 0 where
  pub is : IsText t
  pub once : AllPairs (λ a b. a ≢ b) t.operations
  pub past : IsPastOf (record t { operations = take i t.operations }) fronts now

-- at the start none is
pub begun : (t : TextState) (fronts : List Front) → IsText t → AllPairs (λ a b. a ≢ b) t.operations
    → IsText (empty_text t.text t.site) → IsPastTo t fronts 0 (empty_text t.text t.site)
begun t fronts is once empty = record {
  is = is;
  once = once;
  past = record {
    is = empty;
    text = refl;
    site = refl;
    in_order = ends;
    closure = record { within = λ op held. held; good = empty.good; greatest = λ other within good. within };
    waiting = refl;
    last_stretch = refl;
    last_set = refl;
    asked = refl;
  };
}

-- in the end all are
pub finished : {t now : TextState} {fronts : List Front} {i : ℕ} → IsPastTo t fronts i now
    → length t.operations ≤ i → IsPastOf t fronts now
finished {t} {now} {fronts} {i} u past = record {
  is = u.past.is;
  text = u.past.text;
  site = u.past.site;
  in_order = subst (λ (ops : List Operation). HasSomeOf ops now.operations) (take_all i t.operations past) u.past.in_order;
  closure = subst (λ (ops : List Operation). IsGreatestGoodPart (up_to_fronts fronts ops) now.operations)
      (take_all i t.operations past) u.past.closure;
  waiting = u.past.waiting;
  last_stretch = u.past.last_stretch;
  last_set = u.past.last_set;
  asked = u.past.asked;
}

module _ {t now : TextState} {fronts : List Front} {i : ℕ} (u : IsPastTo t fronts i now) {op : Operation}
    (at : slice_get t.operations i ≡ Some op) where
  abbrev ops : List Operation
  ops = t.operations

  abbrev first : List Operation
  first = take i t.operations

  -- those of the first ones that are up to the fronts
  abbrev so_far : List Operation
  so_far = up_to_fronts fronts (take i t.operations)

  here : Contains ops op
  here = (i, slice_get_within ops i op at, get_or_from_slice_get ops i op op at)

  not_earlier : Contains first op → ⊥
  not_earlier = stands_once ops u.once i op at

  -- it is no cause of an earlier one
  no_cause : (x : Operation) → Contains first x → IsCauseOf op x → ⊥
  no_cause x held cause =
      not_earlier (good_part_closed first ops (u.is.in_order i) (first_part_within ops i) u.is.identified
      u.is.good.begins x op held here cause)

  -- what is taken in is of the first ones
  taken_in_first : IsPartOf now.operations first
  taken_in_first x held = from_up_to fronts first x (u.past.closure.within x held)

  taken_in_ops : IsPartOf now.operations ops
  taken_in_ops x held = first_part_within ops i x (taken_in_first x held)

  -- so it is new
  pub is_new : IsNew now.operations op
  is_new = record {
    counted = u.is.identified.counted op here;
    unheld = λ h.
        let (x, held, site, seq) = h in
        let same : x ≡ op = u.is.identified.unique x op (taken_in_ops x held) here site seq in
        not_earlier (subst (Contains first) same (taken_in_first x held));
  }

  pub is_judged : HasVerdict now.operations op ready → IsJudged now op ready
  is_judged verdict = (
    All-contains (λ (o : Operation). o.text ≡ t.text) ops op u.is.of_text here ∙ sym u.past.text,
    is_new,
    verdict,
  )

  -- a good set of those so far and this one
  module _ (other : List Operation) (among : IsPartOf other (so_far ++ op ∷ [])) (good : Good other) where
    in_ops : IsPartOf other ops
    in_ops x held = elim (Contains-push_cases so_far op x (among x held)) [
      | inl old ↦ first_part_within ops i x (from_up_to fronts first x old)
      | inr same ↦ subst (Contains ops) same here
    ]

    is_this : (x : Operation) → Contains other x → HasIdentityOf op x → op ≡ x
    is_this x held (site, seq) = u.is.identified.unique op x here (in_ops x held) (sym site) (sym seq)

    rest : (part : List Operation)
        × ((x : Operation) → Contains other x → Contains part x ⊎ HasIdentityOf op x)
        × ((x : Operation) → Contains part x → Contains other x × (HasIdentityOf op x → ⊥))
    rest = chosen (λ x. HasIdentityOf op x → ⊥) (HasIdentityOf op) (has_it_or_not op) other

    rest_so_far : IsPartOf rest.0 so_far
    rest_so_far x held =
        let (there, apart) = rest.2 x held in
        elim (Contains-push_cases so_far op x (among x there)) [
          | inl old ↦ old
          | inr same ↦ absurd (apart
              (ap (λ (o : Operation). o.site) (sym same), ap (λ (o : Operation). o.seq) (sym same)))
        ]

    rest_closed : IsCausallyClosedIn rest.0 other
    rest_closed x p held there cause = elim (rest.1 p there) [
      | inl left ↦ left
      | inr same ↦ absurd (no_cause x (from_up_to fronts first x (rest_so_far x held))
          (subst (λ (o : Operation). IsCauseOf o x) (sym (is_this p there same)) cause))
    ]

    -- without this one it is good, and so is taken in
    rest_taken : IsPartOf rest.0 now.operations
    rest_taken =
        u.past.closure.greatest rest.0 rest_so_far
        (closed_is_good rest.0 other good (part_identified other ops in_ops u.is.identified)
        (λ x held. (rest.2 x held).0) rest_closed)

    taken_or_this : (x : Operation) → Contains other x → Contains now.operations x ⊎ (op ≡ x)
    taken_or_this x held = elim (rest.1 x held) [
      | inl left ↦ inl (rest_taken x left)
      | inr same ↦ inr (is_this x held same)
    ]

    -- and where it has this one, that is ready
    ready_if_there : Contains other op → HasVerdict now.operations op ready
    ready_if_there held =
        ready_from_others now.operations other op u.past.is.good good
        (part_identified (now.operations ++ other) ops
        (λ x h. elim (Contains-append_cases now.operations other x h) [
          | inl taken ↦ taken_in_ops x taken
          | inr there ↦ in_ops x there
        ])
        u.is.identified)
        held is_new
        (λ p there cause. elim (taken_or_this p there) [
          | inl taken ↦ taken
          | inr same ↦
              let less : p.stamp < op.stamp = good.stamps op p held there cause in
              let equal : op.stamp ≡ p.stamp = ap (λ (o : Operation). o.stamp) same in
              absurd (omega arith)
        ])

  next : take (i + 1) ops ≡ first ++ op ∷ []
  next =
      take_more ops i op (slice_get_within ops i op at)
      ∙ ap (λ (o : Operation). take i ops ++ o ∷ []) (get_or_from_slice_get ops i op op at)

  -- what is taken in is the greatest good part of one operation more
  stays : IsGreatestGoodPart (up_to_fronts fronts (take (i + 1) ops)) now.operations → IsPastTo t fronts (i + 1) now
  stays closure = record {
    is = u.is;
    once = u.once;
    past = record {
      is = u.past.is;
      text = u.past.text;
      site = u.past.site;
      in_order = subst (λ (xs : List Operation). HasSomeOf xs now.operations) (sym next) (some_without op u.past.in_order);
      closure = closure;
      waiting = u.past.waiting;
      last_stretch = u.past.last_stretch;
      last_set = u.past.last_set;
      asked = u.past.asked;
    };
  }

  with_this : op.seq ≤ front_in fronts op.site → up_to_fronts fronts (take (i + 1) ops) ≡ so_far ++ op ∷ []
  with_this most = next_passes (is_up_to fronts) ops i op at (is_so fronts op most)

  -- one that is beyond the fronts is left out
  one_beyond : front_in fronts op.site < op.seq → IsPastTo t fronts (i + 1) now
  one_beyond past =
      stays (subst (λ (xs : List Operation). IsGreatestGoodPart xs now.operations)
      (sym (next_fails (is_up_to fronts) ops i op at (isnt_so fronts op past))) u.past.closure)

  -- so is one that isn't ready
  one_unready : op.seq ≤ front_in fronts op.site → (HasVerdict now.operations op ready → ⊥)
      → IsPastTo t fronts (i + 1) now
  one_unready most unready =
      let closure : IsGreatestGoodPart (so_far ++ op ∷ []) now.operations = record {
        within = λ x held. Contains-append_left so_far (op ∷ []) x (u.past.closure.within x held);
        good = u.past.closure.good;
        greatest = λ other among good x held. elim (taken_or_this other among good x held) [
          | inl taken ↦ taken
          | inr same ↦ absurd (unready (ready_if_there other among good (subst (Contains other) (sym same) held)))
        ];
      } in
      stays (subst (λ (xs : List Operation). IsGreatestGoodPart xs now.operations) (sym (with_this most)) closure)

  pub one_passed : (IsDue now.operations fronts op → ⊥) → IsPastTo t fronts (i + 1) now
  one_passed not_due = elim (cases_lt (front_in fronts op.site) op.seq) [
    | inl past ↦ one_beyond past
    | inr most ↦ one_unready most (λ verdict. not_due (most, verdict))
  ]

  -- one that is due is taken in
  pub one_taken : (new : TextState) → IsDue now.operations fronts op → HasTaken now op new
      → IsPastTo t fronts (i + 1) new
  one_taken new (most, verdict) taken =
      let grown : new.operations ≡ now.operations ++ op ∷ [] = ap (λ (v : TextState). v.operations) taken.grown in
      let closure : IsGreatestGoodPart (so_far ++ op ∷ []) (now.operations ++ op ∷ []) = record {
        within = λ x held. elim (Contains-push_cases now.operations op x held) [
          | inl old ↦ Contains-append_left so_far (op ∷ []) x (u.past.closure.within x old)
          | inr same ↦ subst (Contains (so_far ++ op ∷ [])) same (Contains-push so_far op)
        ];
        good = subst Good grown taken.is.good;
        greatest = λ other among good x held. elim (taken_or_this other among good x held) [
          | inl old ↦ Contains-append_left now.operations (op ∷ []) x old
          | inr same ↦ subst (Contains (now.operations ++ op ∷ [])) same (Contains-push now.operations op)
        ];
      } in
      record {
        is = u.is;
        once = u.once;
        past = record {
          is = taken.is;
          text = ap (λ (v : TextState). v.text) taken.grown ∙ u.past.text;
          site = ap (λ (v : TextState). v.site) taken.grown ∙ u.past.site;
          in_order = subst (λ (xs : List Operation). HasSomeOf xs new.operations) (sym next)
              (subst (HasSomeOf (first ++ op ∷ [])) (sym grown) (some_with op u.past.in_order));
          closure = subst (λ (xs : List Operation). IsGreatestGoodPart xs new.operations) (sym (with_this most))
              (subst (IsGreatestGoodPart (so_far ++ op ∷ [])) (sym grown) closure);
          waiting = ap (λ (v : TextState). v.waiting_room) taken.grown ∙ u.past.waiting;
          last_stretch = ap (λ (v : TextState). v.last_stretch) taken.grown ∙ u.past.last_stretch;
          last_set = ap (λ (v : TextState). v.last_set) taken.grown ∙ u.past.last_set;
          asked = ap (λ (v : TextState). v.asked) taken.grown ∙ u.past.asked;
        };
      }

-- where the verdict is another one, the operation isn't ready
pub other_verdict : (ops : List Operation) (op : Operation) (v : Verdict) → v ≢ Ready
    → HasVerdict ops op (verdict_of v) → HasVerdict ops op ready → ⊥
other_verdict ops op Wait other has is = let same = same_verdict ops op (verdict_of Wait) ready has is in cc
other_verdict ops op Misfit other has is = let same = same_verdict ops op (verdict_of Misfit) ready has is in cc
other_verdict ops op LowStamp other has is = let same = same_verdict ops op (verdict_of LowStamp) ready has is in cc
other_verdict ops op Ready other has is = other refl

-- a text of more operations has no lower fronts
front_grows : (a b : List Operation) → IsPartOf a b → (site : ℕ) → front_of a site ≤ front_of b site
front_grows a b within site =
    elim (cases_lt 0 (front_of a site)) [
      | inl some ↦
          let (op, held, on, at) = front_reached a site some in
          let most : op.seq ≤ front_of b site =
          subst (λ (s : ℕ). op.seq ≤ front_of b s) on (up_to_front b op (within op held)) in
          omega arith
      | inr none ↦ omega arith
    ]

-- a text stood at its own fronts
pub stood_at_its_fronts : (fronts : List Front) (t was : TextState) → IsText was
    → IsPartOf was.operations t.operations
    → ((site : ℕ) → front_in fronts site ≡ front_of was.operations site) → StoodAt fronts t was
stood_at_its_fronts fronts t was is part own = record {
  is = is;
  part = part;
  reach = λ site.
      let front = own site in
      let most = front_grows was.operations t.operations part site in
      omega arith;
}

-- and it stands at fronts that none of its own is past
pub stands_at_the_last : (fronts : List Front) (t : TextState) → IsText t
    → ((site : ℕ) → front_of t.operations site ≤ front_in fronts site) → StoodAt fronts t t
stands_at_the_last fronts t is past = record {
  is = is;
  part = λ op held. held;
  reach = λ site. let most = past site in omega arith;
}

-- the past at fronts is the text of then
pub past_is_then : ThePastIsTheTextOfThen
past_is_then t was p fronts is stood past =
    let known : AreIdentified (was.operations ++ t.operations) =
    part_identified (was.operations ++ t.operations) t.operations
    (λ op held. elim (Contains-append_cases was.operations t.operations op held) [
      | inl before ↦ stood.part op before
      | inr now ↦ now
    ])
    is.identified in
    let told : HasToTheFront was.operations t.operations =
    has_to_the_front was.operations t.operations stood.is.good known in
    let back : IsPartOf (up_to_fronts fronts t.operations) was.operations = λ op held.
    let there : Contains t.operations op = from_up_to fronts t.operations op held in
    let most = no_further fronts t.operations op held in
    let most' = up_to_front t.operations op there in
    let front = stood.reach op.site in
    (told op there).1 (omega arith) in
    let to : IsPartOf was.operations (up_to_fronts fronts t.operations) = λ op held.
    let there : Contains t.operations op = stood.part op held in
    let most = (told op there).0 held in
    let front = stood.reach op.site in
    in_up_to fronts t.operations op there (omega arith) in
    let same : AreSameSet p.operations was.operations = λ op. (
      λ held. back op (past.closure.within op held),
      past.closure.greatest was.operations to stood.is.good op,
    ) in
    operations_tell p was past.is stood.is same

up_to_part : (fronts : List Front) (a b : List Operation) → IsPartOf a b → IsPartOf (up_to_fronts fronts a) (up_to_fronts fronts b)
up_to_part fronts a b part op held =
    in_up_to fronts b op (part op (from_up_to fronts a op held)) (no_further fronts a op held)

-- of texts that have taken in the same operations the pasts at one place are alike
pub same_pasts : (t u p q : TextState) (fronts : List Front) → AreSameSet t.operations u.operations
    → IsPastOf t fronts p → IsPastOf u fronts q → AreTextsAlike p q
same_pasts t u p q fronts same past past' =
    let to : IsPartOf p.operations q.operations =
    past'.closure.greatest p.operations
    (λ op held. up_to_part fronts t.operations u.operations (λ o. (same o).0) op (past.closure.within op held)) past.is.good in
    let back : IsPartOf q.operations p.operations =
    past.closure.greatest q.operations
    (λ op held. up_to_part fronts u.operations t.operations (λ o. (same o).1) op (past'.closure.within op held)) past'.is.good in
    operations_tell p q past.is past'.is (λ op. (to op, back op))
