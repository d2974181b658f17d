-- What a text hands another is taken in there, one operation after the other.
use Rattle.std.proofs.Common.{◌≡◌, ◌≢◌, ℕ, ◌⊎◌, inl, inr, List, [], ◌∷◌, ◌++◌, length, length-append, take, Some}
use Rattle.std.proofs.Common.{true, false, not, All, Contains, Result, Ok, refl, sym, ap, subst, ◌∙◌, arith}
use Rattle.std.proofs.Common.{ltb-true, slice_get}
use Rattle.std.specs.Prelude.{AllPairs, map}
use Rattle.std.proofs.lemmas.Bool.{cases_Bool, cond-false, cond-true, ltb-false}
use Rattle.std.proofs.lemmas.List.{append-nil, append_assoc, get_or_append_left, get_or_at, take_at}
use Rattle.std.proofs.lemmas.List.Elements.{All-cons, All-contains, All-nil, Contains-append_cases, Contains-append_left}
use Rattle.std.proofs.lemmas.List.Elements.{Contains-append_right, Contains-push_cases, filter-append}
use Rattle.std.proofs.lemmas.Option.{slice_get_read}
use Rattle.looks.specs.declared.refusal.Refusal.{Refusal}
use Rattle.operations.specs.Operation.{Operation}
use Rattle.operations.specs.Spelling.{HasSpelling, spelling}
use Rattle.set_laws.specs.Fronts.{IsHeld}
use Rattle.set_laws.specs.Growing.{HoldsCausesAmong}
use Rattle.set_laws.specs.Sets.{AreIdentified, IsPartOf}
use Rattle.set_laws.specs.Verdict.{IsNew}
use Rattle.tree_order.specs.Laws.{AreSameSet}
use Rattle.waiting_room.specs.Room.{StaysWaiting}
use Rattle.texts.specs.Draining.{AllStay, ends}
use Rattle.texts.specs.Fronts.{beyond, is_beyond, up_to_fronts}
use Rattle.texts.specs.Merge.{CanMerge}
use Rattle.texts.specs.Take.{Becomes, HasFate, Takes}
use Rattle.texts.specs.Taking.{HasTaken}
use Rattle.texts.specs.Text.{IsText}
use Rattle.texts.specs.TextState.{TextState}
use Rattle.texts.specs.declared.fate.Fate.{Fate}
use Rattle.texts.specs.declared.fate.Fate.TheVariants.{Known, Ready}
use Rattle.texts.specs.declared.front.Front.{Front}
use Rattle.texts.specs.declared.took.Took.{Took}
use Rattle.texts.specs.declared.took.Took.TheVariants.{Repeat}
use Rattle.convergence.specs.Meeting.{AreFrontsOf, CanMeet, HoldsBoth, IsTakenAlone, IsTakenOrHeld, SinceIsTakenIn, TakesAll}
use Rattle.convergence.specs.Meeting.{TheyMeet, messages_since}
use Rattle.set_laws.proofs.Freed.{ready_from_others}
use Rattle.set_laws.proofs.Fronts.{has_to_the_front, up_to_front}
use Rattle.set_laws.proofs.Lengths.{part_identified}
use Rattle.set_laws.proofs.Picking.{Contains-none}
use Rattle.set_laws.proofs.Preceding.{causes_before}
use Rattle.set_laws.proofs.SameSets.{are_sets}
use Rattle.set_laws.proofs.Verdicts.{held_or_not}
use Rattle.texts.proofs.Chars.{operations_tell}
use Rattle.convergence.proofs.Fates.{one_told, same_fate}
use Rattle.convergence.proofs.Kept.{both_parts, one_within}
use Rattle.convergence.proofs.OneWay.{drain_one_way}

-- a message is answered by the fate of its operation
answered_by : (t new : TextState) (op : Operation) (fate : Fate) (answer : Result Took Refusal) → IsText t
    → HasSpelling op → HasFate t op fate → Takes t (spelling op) answer new → Becomes t op fate answer new
answered_by t new op fate answer is spelled has (inl none) = absurd (none.0 op spelled refl)
answered_by t new op fate answer is spelled has (inr (op', fate', told, has', becomes)) =
    let same : op' ≡ op = one_told (spelling op) op' op told (record { valid = spelled; spelled = refl }) in
    let one : fate' ≡ fate =
    same_fate t op is fate' fate (subst (λ (o : Operation). HasFate t o fate') same has') has in
    subst (λ (f : Fate). Becomes t op f answer new) one
    (subst (λ (o : Operation). Becomes t o fate' answer new) same becomes)

-- one that is ready is taken in alone where nothing waits
taken_alone : (t new : TextState) (op : Operation) (answer : Result Took Refusal) → t.waiting_room ≡ []
    → Becomes t op Ready answer new → IsTakenAlone answer × HasTaken t op new
taken_alone t new op answer none (with_op, drained, dropped, has, drains, told) =
    let still : with_op.waiting_room ≡ [] = ap (λ (u : TextState). u.waiting_room) has.grown ∙ none in
    let stay : AllStay with_op =
    subst (All (StaysWaiting with_op.operations)) (sym still) (All-nil (StaysWaiting with_op.operations)) in
    let end = drain_one_way.whole with_op new with_op drained 0 dropped 0 has.is drains (ends stay) in
    let first = end.0 in
    let second = end.1 in
    (cc, subst (HasTaken t op) (sym end.2) has)

-- the first of some messages is answered, and then the others
record AreAnswered (t : TextState) (message : List ℕ) (messages : List (List ℕ)) (answers : List (Result Took Refusal))
    (new : TextState) : Type 0 where
  answer : Result Took Refusal
  others : List (Result Took Refusal)
  all : answers ≡ answer ∷ others
  next : TextState
  first : Takes t message answer next
  rest : TakesAll next messages others new

answered : (t new : TextState) (message : List ℕ) (messages : List (List ℕ)) (answers : List (Result Took Refusal))
    → TakesAll t (message ∷ messages) answers new → AreAnswered t message messages answers new
answered t new message messages [] none = absurd none
answered t new message messages (answer ∷ others) (next, first, rest) =
    record { answer = answer; others = others; all = refl; next = next; first = first; rest = rest }

-- the same sets are the same with one operation more
same_with_one : (a b : List Operation) (op : Operation) → AreSameSet a b → AreSameSet (a ++ op ∷ []) (b ++ op ∷ [])
same_with_one a b op same x = (
  both_parts a b (op ∷ []) (op ∷ []) (λ y held. (same y).0 held) (λ y held. held) x,
  both_parts b a (op ∷ []) (op ∷ []) (λ y held. (same y).1 held) (λ y held. held) x,
)

-- and with one that is held
same_if_held : (a b : List Operation) (op : Operation) → AreSameSet a b → Contains a op → AreSameSet a (b ++ op ∷ [])
same_if_held a b op same held x = (
  λ h. Contains-append_left b (op ∷ []) x ((same x).0 h),
  λ h. elim (Contains-push_cases b op x h) [
    | inl old ↦ (same x).1 old
    | inr last ↦ subst (Contains a) last held
  ],
)

-- the text has taken in these first ones of another's operations
record HasFirst (u : TextState) (done : List Operation) (now : TextState) : Type 0 where
  is : IsText now
  text : now.text ≡ u.text
  operations : AreSameSet now.operations (u.operations ++ done)
  none_waits : now.waiting_room ≡ []

module _ (t u : TextState) (is : IsText t) (can : CanMerge u t) where
  -- the next one of the other's operations
  module _ (done rest : List Operation) (op : Operation) (now : TextState) (split : t.operations ≡ done ++ op ∷ rest)
      (has : HasFirst u done now) where
    here : Contains t.operations op
    here = subst (λ (ops : List Operation). Contains ops op) (sym split) (one_within done rest op)

    first_within : IsPartOf done t.operations
    first_within x held =
        subst (λ (ops : List Operation). Contains ops x) (sym split) (Contains-append_left done (op ∷ rest) x held)

    known : AreIdentified (now.operations ++ t.operations)
    known =
        part_identified (now.operations ++ t.operations) (u.operations ++ t.operations)
        (λ x held. elim (Contains-append_cases now.operations t.operations x held) [
          | inr there ↦ Contains-append_right u.operations t.operations x there
          | inl old ↦ elim (Contains-append_cases u.operations done x ((has.operations x).0 old)) [
            | inl before ↦ Contains-append_left u.operations t.operations x before
            | inr first ↦ Contains-append_right u.operations t.operations x (first_within x first)
          ]
        ])
        can.identified

    of_text : op.text ≡ now.text
    of_text =
        All-contains (λ (o : Operation). o.text ≡ t.text) t.operations op is.of_text here ∙ sym can.same_text
        ∙ sym has.text

    at_its_place : slice_get t.operations (length done) ≡ Some op
    at_its_place =
        let long = length-append done (op ∷ rest) in
        subst (λ (ops : List Operation). slice_get ops (length done) ≡ Some op) (sym split)
        (slice_get_read (done ++ op ∷ rest) (length (done ++ op ∷ rest)) (length done) op refl (omega arith)
        (sym (get_or_at done op rest op (length done) refl)))

    causes_held : HoldsCausesAmong now.operations t.operations op
    causes_held p there cause =
        let before : Contains (take (length done) t.operations) p =
        causes_before t.operations is.in_order is.identified (length done) op p at_its_place there cause in
        let first : take (length done) t.operations ≡ done =
        ap (take (length done)) split ∙ take_at done (op ∷ rest) (length done) refl in
        (has.operations p).1
        (Contains-append_right u.operations done p (subst (λ (ops : List Operation). Contains ops p) first before))

    -- it is held where its identity is
    held_by_identity : IsHeld now.operations op.site op.seq → Contains now.operations op
    held_by_identity (o, there, on, at) =
        subst (Contains now.operations)
        (known.unique o op (Contains-append_left now.operations t.operations o there)
        (Contains-append_right now.operations t.operations op here) on at)
        there

    -- and is ready where that isn't
    is_ready : ¬ IsHeld now.operations op.site op.seq → HasFate now op Ready
    is_ready unheld =
        let new : IsNew now.operations op = record { counted = is.identified.counted op here; unheld = unheld } in (
          λ waits. Contains-none waits.0
              (subst (λ (room : List Operation). Contains room waits.0) has.none_waits waits.1),
          (
            of_text,
            new,
            ready_from_others now.operations t.operations op has.is.good is.good known here new causes_held,
          ),
        )

    with_held : Contains now.operations op → HasFirst u (done ++ op ∷ []) now
    with_held held = record {
      is = has.is;
      text = has.text;
      operations =
          subst (AreSameSet now.operations) (append_assoc u.operations done (op ∷ []))
          (same_if_held now.operations (u.operations ++ done) op has.operations held);
      none_waits = has.none_waits;
    }

    with_taken : (next : TextState) → HasTaken now op next → HasFirst u (done ++ op ∷ []) next
    with_taken next taken = record {
      is = taken.is;
      text = ap (λ (s : TextState). s.text) taken.grown ∙ has.text;
      operations =
          subst (λ (ops : List Operation). AreSameSet ops (u.operations ++ (done ++ op ∷ [])))
          (sym (ap (λ (s : TextState). s.operations) taken.grown))
          (subst (AreSameSet (now.operations ++ op ∷ [])) (append_assoc u.operations done (op ∷ []))
          (same_with_one now.operations (u.operations ++ done) op has.operations));
      none_waits = ap (λ (s : TextState). s.waiting_room) taken.grown ∙ has.none_waits;
    }

    -- by its message it is taken in, or it was held
    one_more : (answer : Result Took Refusal) (next : TextState) → HasSpelling op → Takes now (spelling op) answer next
        → HasFirst u (done ++ op ∷ []) next
        × (IsTakenAlone answer ⊎ ((answer ≡ Ok Repeat) × Contains (u.operations ++ done) op))
    one_more answer next spelled takes = elim (held_or_not now.operations op.site op.seq) [
      | inl at ↦
          let held = held_by_identity at in
          let stays = answered_by now next op Known answer has.is spelled (of_text, held) takes in (
            subst (HasFirst u (done ++ op ∷ [])) (sym stays.1) (with_held held),
            inr (stays.0, (has.operations op).0 held),
          )
      | inr unheld ↦
          let becomes = answered_by now next op Ready answer has.is spelled (is_ready unheld) takes in
          let alone = taken_alone now next op answer has.none_waits becomes in
          (with_taken next alone.1, inl alone.0)
    ]

  -- all of t's operations, where those up to the fronts are held; each answer is so if taken is, and repeat where it is due
  module _ (spelled : All HasSpelling t.operations) (fronts : List Front) (Is : Result Took Refusal → Type 0)
      (taken : (answer : Result Took Refusal) → IsTakenAlone answer → Is answer)
      (repeat : (done rest : List Operation) (op : Operation) → t.operations ≡ done ++ op ∷ rest
      → is_beyond fronts op ≡ true → Contains (u.operations ++ done) op → Is (Ok Repeat))
      (old : (done rest : List Operation) (op : Operation) → t.operations ≡ done ++ op ∷ rest
      → is_beyond fronts op ≡ false → Contains u.operations op) where
    all_taken : (done rest : List Operation) (answers : List (Result Took Refusal)) (now new : TextState)
        → t.operations ≡ done ++ rest → HasFirst u done now
        → TakesAll now (map spelling (beyond fronts rest)) answers new
        → HasFirst u t.operations new × All Is answers
    all_taken done [] [] now new split has same = (
      subst (HasFirst u t.operations) (sym same)
          (subst (λ (ops : List Operation). HasFirst u ops now) (sym (split ∙ append-nil done)) has),
      All-nil Is,
    )
    all_taken done [] (answer ∷ answers) now new split has none = absurd none
    all_taken done (op ∷ rest) answers now new split has takes =
        let messages : List Operation → Type 0 = λ ops. TakesAll now (map spelling ops) answers new in
        let next_split : t.operations ≡ (done ++ op ∷ []) ++ rest = split ∙ sym (append_assoc done (op ∷ []) rest) in
        elim (cases_Bool (is_beyond fronts op)) [
          | inl past ↦
              let a = answered now new (spelling op) (map spelling (beyond fronts rest)) answers
              (subst messages (cond-true _ _ _ past) takes) in
              let valid = All-contains HasSpelling t.operations op spelled (here done rest op now split has) in
              let one = one_more done rest op now split has a.answer a.next valid a.first in
              let end = all_taken (done ++ op ∷ []) rest a.others a.next new next_split one.0 a.rest in
              let is_one : Is a.answer = elim one.1 [
                | inl is_taken ↦ taken a.answer is_taken
                | inr (same, held) ↦ subst Is (sym same) (repeat done rest op split past held)
              ] in
              (end.0, subst (All Is) (sym a.all) (All-cons Is a.answer a.others is_one end.1))
          | inr before ↦
              let held = (has.operations op).1
              (Contains-append_left u.operations done op (old done rest op split before)) in
              all_taken (done ++ op ∷ []) rest answers now new next_split (with_held done rest op now split has held)
              (subst messages (cond-false _ _ _ before) takes)
        ]

    both_held : (answers : List (Result Took Refusal)) (new : TextState) → IsText u → u.waiting_room ≡ []
        → TakesAll u (messages_since fronts t) answers new → HoldsBoth u t new × All Is answers
    both_held answers new is' none takes =
        let begin : HasFirst u [] u = record {
          is = is';
          text = refl;
          operations = subst (AreSameSet u.operations) (sym (append-nil u.operations)) (λ x. (λ h. h, λ h. h));
          none_waits = none;
        } in
        let end = all_taken [] t.operations answers u new refl begin takes in
        (record { is = end.0.is; operations = end.0.operations; none_waits = end.0.none_waits }, end.1)

-- what is up to the fronts is among all that is
up_to_has : (fronts : List Front) (ops done rest : List Operation) (op : Operation) → ops ≡ done ++ op ∷ rest
    → is_beyond fronts op ≡ false → Contains (up_to_fronts fronts ops) op
up_to_has fronts ops done rest op split before =
    let parts : up_to_fronts fronts ops ≡ up_to_fronts fronts done ++ op ∷ up_to_fronts fronts rest =
    ap (up_to_fronts fronts) split ∙ filter-append (λ (o : Operation). not (is_beyond fronts o)) done (op ∷ rest)
    ∙ ap (λ (xs : List Operation). up_to_fronts fronts done ++ xs) (cond-true _ _ _ (ap not before)) in
    subst (λ (xs : List Operation). Contains xs op) (sym parts)
    (one_within (up_to_fronts fronts done) (up_to_fronts fronts rest) op)

pub since_taken_in : SinceIsTakenIn
since_taken_in t u new fronts answers is is' can spelled none within takes =
    both_held t u is can spelled fronts IsTakenOrHeld (λ answer taken. inl taken)
    (λ done rest op split past held. inr refl)
    (λ done rest op split before. within op (up_to_has fronts t.operations done rest op split before))
    answers new is' none takes

-- at u's own fronts: what t has up to them is held there, and nothing of what it has beyond them
module _ (t u : TextState) (fronts : List Front) (is : CanMeet t) (is' : CanMeet u) (can : CanMerge u t)
    (front : AreFrontsOf u fronts) where
  held_to_fronts : (done rest : List Operation) (op : Operation) → t.operations ≡ done ++ op ∷ rest
      → is_beyond fronts op ≡ false → Contains u.operations op
  held_to_fronts done rest op split before =
      let there : Contains t.operations op =
      subst (λ (ops : List Operation). Contains ops op) (sym split) (one_within done rest op) in
      let most = ltb-false _ _ before in
      let same = front op.site in
      (has_to_the_front u.operations t.operations is'.is.good can.identified op there).1 (omega arith)

  not_again : (done rest : List Operation) (op : Operation) → t.operations ≡ done ++ op ∷ rest → ¬ Contains done op
  not_again done rest op split (k, lt, at) =
      let once : AllPairs (λ (a b : Operation). a ≢ b) (done ++ op ∷ rest) =
      subst (AllPairs (λ (a b : Operation). a ≢ b)) split is.once in
      let long = length-append done (op ∷ rest) in
      once k (length done) op lt (omega arith)
      (get_or_append_left done (op ∷ rest) op k lt ∙ at ∙ sym (get_or_at done op rest op (length done) refl))

  never_repeated : (done rest : List Operation) (op : Operation) → t.operations ≡ done ++ op ∷ rest
      → is_beyond fronts op ≡ true → Contains (u.operations ++ done) op → IsTakenAlone (Ok Repeat)
  never_repeated done rest op split past held = elim (Contains-append_cases u.operations done op held) [
    | inl there ↦
        let more = ltb-true _ _ past in
        let most = up_to_front u.operations op there in
        let same = front op.site in
        absurd (omega arith)
    | inr again ↦ absurd (not_again done rest op split again)
  ]

  all_new : (answers : List (Result Took Refusal)) (new : TextState) → TakesAll u (messages_since fronts t) answers new
      → HoldsBoth u t new × All IsTakenAlone answers
  all_new answers new takes =
      both_held t u is.is can is.spelled fronts IsTakenAlone (λ answer taken. taken) never_repeated held_to_fronts
      answers new is'.is is'.none_waits takes

pub they_meet : TheyMeet
they_meet t u t' u' fronts fronts' answers answers' is is' can front front' takes takes' =
    let same = (are_sets t.operations u.operations []).commutative in
    let can_back : CanMerge u t = record {
      same_text = sym can.same_text;
      identified =
          part_identified (u.operations ++ t.operations) (t.operations ++ u.operations) (λ op held. (same op).1 held)
          can.identified;
    } in
    let here = all_new u t fronts is' is can front answers t' takes in
    let there = all_new t u fronts' is is' can_back front' answers' u' takes' in (
      operations_tell t' u' here.0.is there.0.is (λ op. (
        λ held. (there.0.operations op).1 ((same op).0 ((here.0.operations op).0 held)),
        λ held. (here.0.operations op).1 ((same op).1 ((there.0.operations op).0 held)),
      )),
      here.1,
      there.1,
    )
