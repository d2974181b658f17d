-- How what is kept goes on: as operations are handed in, are taken in, and leave the room.
use Rattle.std.proofs.Common.{◌≡◌, ℕ, ◌⊎◌, inl, inr, List, [], ◌∷◌, ◌++◌, Bool, Contains}
use Rattle.std.proofs.Common.{refl, sym, ap, subst, arith}
use Rattle.std.proofs.lemmas.List.{append-nil, length-append}
use Rattle.std.proofs.lemmas.List.Elements.{All-contains, All-contains_itself, All-weaker}
use Rattle.std.proofs.lemmas.List.Elements.{Contains-append_left, Contains-append_right, Contains-append_cases}
use Rattle.std.proofs.lemmas.List.Elements.{Contains-push_cases}
use Rattle.operations.specs.Operation.{Operation}
use Rattle.tree_order.specs.Good.{Good}
use Rattle.set_laws.specs.Closure.{IsKept}
use Rattle.set_laws.specs.Sets.{AreIdentified, IsPartOf}
use Rattle.set_laws.specs.Verdict.{HasVerdict, misfit, low_stamp}
use Rattle.texts.specs.Draining.{Drains, IsThrownAway}
use Rattle.texts.specs.Draining.Drains.{ends, stops, takes_in, throws_away}
use Rattle.texts.specs.Taking.{HasTaken, HasTakenAll}
use Rattle.texts.specs.Text.{AreWaitingFor, IsText}
use Rattle.texts.specs.TextState.{TextState, with_room}
use Rattle.convergence.specs.HandedIn.{AccountsFor}
use Rattle.set_laws.proofs.Closing.{kept_on}
use Rattle.set_laws.proofs.Lengths.{part_identified}

-- it is taken in, or refused for its offset or its stamp
abbrev pub IsSettled : List Operation → Operation → Type 0
IsSettled taken op = Contains taken op ⊎ (HasVerdict taken op misfit ⊎ HasVerdict taken op low_stamp)

-- parts of two lists, put together
pub both_parts : (a a' b b' : List Operation) → IsPartOf a a' → IsPartOf b b' → IsPartOf (a ++ b) (a' ++ b')
both_parts a a' b b' first second op held = elim (Contains-append_cases a b op held) [
  | inl here ↦ Contains-append_left a' b' op (first op here)
  | inr here ↦ Contains-append_right a' b' op (second op here)
]

-- what is settled need not wait
pub kept_without : (taken waiting fewer all : List Operation) → IsPartOf fewer waiting
    → ((op : Operation) → Contains waiting op → Contains fewer op ⊎ IsSettled taken op)
    → IsKept taken waiting all → IsKept taken fewer all
kept_without taken waiting fewer all within left kept = record {
  taken_in = kept.taken_in;
  kept_waiting = λ op held. kept.kept_waiting op (within op held);
  others = λ op held. elim (kept.others op held) [
    | inl (inl there) ↦ inl (inl there)
    | inl (inr waits) ↦ elim (left op waits) [
      | inl stays ↦ inl (inr stays)
      | inr (inl there) ↦ inl (inl there)
      | inr (inr refused) ↦ inr refused
    ]
    | inr refused ↦ inr refused
  ];
}

-- what is handed in may wait
pub kept_waiting_more : (taken waiting all more : List Operation) → IsKept taken waiting all
    → IsKept taken (waiting ++ more) (all ++ more)
kept_waiting_more taken waiting all more kept = record {
  taken_in = λ op held. Contains-append_left all more op (kept.taken_in op held);
  kept_waiting = both_parts waiting all more more kept.kept_waiting (λ op held. held);
  others = λ op held. elim (Contains-append_cases all more op held) [
    | inr new ↦ inl (inr (Contains-append_right waiting more op new))
    | inl old ↦ elim (kept.others op old) [
      | inl (inl there) ↦ inl (inl there)
      | inl (inr waits) ↦ inl (inr (Contains-append_left waiting more op waits))
      | inr refused ↦ inr refused
    ]
  ];
}

-- or be taken in
pub kept_taking : (taken waiting all more : List Operation) → AreIdentified (all ++ more)
    → Good taken → Good (taken ++ more) → IsKept taken waiting all
    → IsKept (taken ++ more) waiting (all ++ more)
kept_taking taken waiting all more known good good' kept =
    kept_without (taken ++ more) (waiting ++ more) waiting (all ++ more) (Contains-append_left waiting more)
    (λ op held. elim (Contains-append_cases waiting more op held) [
      | inl here ↦ inl here
      | inr new ↦ inr (inl (Contains-append_right taken more op new))
    ])
    (kept_on taken (taken ++ more) (waiting ++ more) (all ++ more) known good good'
    (Contains-append_left taken more)
    (both_parts taken all more more kept.taken_in (λ op held. held))
    (kept_waiting_more taken waiting all more kept))

-- or be one that waits or is settled
pub kept_as_it_is : (taken waiting all : List Operation) (op : Operation)
    → Contains waiting op ⊎ IsSettled taken op → IsKept taken waiting all → IsKept taken waiting (all ++ op ∷ [])
kept_as_it_is taken waiting all op is kept =
    kept_without taken (waiting ++ op ∷ []) waiting (all ++ op ∷ []) (Contains-append_left waiting (op ∷ []))
    (λ x held. elim (Contains-push_cases waiting op x held) [
      | inl here ↦ inl here
      | inr same ↦ subst (λ (o : Operation). Contains waiting o ⊎ IsSettled taken o) same is
    ])
    (kept_waiting_more taken waiting all (op ∷ []) kept)

module _ (before after : List Operation) (op : Operation) where
  -- all but one are a part
  pub others_within : IsPartOf (before ++ after) (before ++ op ∷ after)
  others_within = both_parts before before after (op ∷ after) (λ x held. held)
      (Contains-append_right (op ∷ []) after)

  -- the one is there
  pub one_within : Contains (before ++ op ∷ after) op
  one_within = Contains-append_right before (op ∷ after) op
      (Contains-append_left (op ∷ []) after op (0, omega arith, refl))

  -- each is the one, or of the others
  pub one_or_others : (x : Operation) → Contains (before ++ op ∷ after) x
      → Contains (before ++ after) x ⊎ (op ≡ x)
  one_or_others x held = elim (Contains-append_cases before (op ∷ after) x held) [
    | inl here ↦ inl (Contains-append_left before after x here)
    | inr there ↦ elim (Contains-append_cases (op ∷ []) after x there) [
      | inl one ↦ elim (Contains-push_cases [] op x one) [
        | inl none ↦ inl (Contains-append_left before after x (Contains-append_left [] before x none))
        | inr same ↦ inr same
      ]
      | inr here ↦ inl (Contains-append_right before after x here)
    ]
  ]

  -- the others are a room's
  others_waiting : (text : ℕ) → AreWaitingFor text (before ++ op ∷ after) → AreWaitingFor text (before ++ after)
  others_waiting text waiting = record {
    of_text = All-weaker (Contains (before ++ after)) (λ o. o.text ≡ text)
        (λ x held. All-contains (λ o. o.text ≡ text) (before ++ op ∷ after) x waiting.of_text
        (others_within x held))
        (before ++ after) (All-contains_itself (before ++ after));
    identified = part_identified (before ++ after) (before ++ op ∷ after) others_within waiting.identified;
    few =
        let len = length-append before (op ∷ after) in
        let len' = length-append before after in
        let most = waiting.few in
        omega (arith, len, len', most);
  }

  -- one that is settled leaves the room
  kept_leaving : (taken all : List Operation) → IsSettled taken op → IsKept taken (before ++ op ∷ after) all
      → IsKept taken (before ++ after) all
  kept_leaving taken all settled kept =
      kept_without taken (before ++ op ∷ after) (before ++ after) all others_within
      (λ x held. elim (one_or_others x held) [
        | inl stays ↦ inl stays
        | inr same ↦ inr (subst (IsSettled taken) same settled)
      ])
      kept

-- a text with fewer that wait
text_with_room : (t : TextState) (room : List Operation) → IsText t → AreWaitingFor t.text room
    → IsText (with_room t room)
text_with_room t room text waiting = record {
  good = text.good;
  in_order = text.in_order;
  identified = text.identified;
  of_text = text.of_text;
  chars = text.chars;
  deleted = text.deleted;
  waiting = waiting;
}

-- a text keeps what its operations and its room keep
pub keeps_by : (t : TextState) (taken waiting all : List Operation) → t.operations ≡ taken → t.waiting_room ≡ waiting
    → AreIdentified all → IsKept taken waiting all → AccountsFor t all
keeps_by t taken waiting all operations room known kept = record {
  identified = known;
  kept = rw operations (rw room kept);
}

-- nothing more is kept where nothing is taken in
pub same_kept : (t new : TextState) (all : List Operation) → AccountsFor t all → new ≡ t → AccountsFor new (all ++ [])
same_kept t new all keeps same = rw same (subst (AccountsFor t) (sym (append-nil all)) keeps)

-- where operations are handed in and taken in, all is kept
pub kept_with_all : (t new : TextState) (more all : List Operation) → IsText t → AccountsFor t all
    → HasTakenAll t more new → AreIdentified (all ++ more) → AccountsFor new (all ++ more)
kept_with_all t new more all text keeps has known =
    let operations : new.operations ≡ t.operations ++ more = ap (λ (u : TextState). u.operations) has.grown in
    keeps_by new (t.operations ++ more) t.waiting_room (all ++ more) operations
    (ap (λ (u : TextState). u.waiting_room) has.grown) known
    (kept_taking t.operations t.waiting_room all more known text.good
    (subst Good operations has.is.good) keeps.kept)

-- where one that waits is taken in, all is kept
kept_with_one_out : (t with_op : TextState) (before after : List Operation) (op : Operation)
    (all : List Operation) → t.waiting_room ≡ before ++ op ∷ after → IsText t → AccountsFor t all
    → HasTaken (with_room t (before ++ after)) op with_op → AccountsFor with_op all
kept_with_one_out t with_op before after op all room text keeps has =
    let operations : with_op.operations ≡ t.operations ++ op ∷ [] =
    ap (λ (u : TextState). u.operations) has.grown in
    let kept : IsKept t.operations (before ++ op ∷ after) all =
    subst (λ (r : List Operation). IsKept t.operations r all) room keeps.kept in
    let within : IsPartOf (t.operations ++ op ∷ []) all = λ x held.
    elim (Contains-push_cases t.operations op x held) [
      | inl old ↦ kept.taken_in x old
      | inr same ↦ subst (Contains all) same (kept.kept_waiting op (one_within before after op))
    ] in
    keeps_by with_op (t.operations ++ op ∷ []) (before ++ after) all operations
    (ap (λ (u : TextState). u.waiting_room) has.grown) keeps.identified
    (kept_leaving before after op (t.operations ++ op ∷ []) all
    (inl (Contains-append_right t.operations (op ∷ []) op (0, omega arith, refl)))
    (kept_on t.operations (t.operations ++ op ∷ []) (before ++ op ∷ after) all keeps.identified text.good
    (subst Good operations has.is.good) (Contains-append_left t.operations (op ∷ [])) within kept))

-- what is thrown away is settled
settled_if_thrown : (t : TextState) (op : Operation) (all : List Operation) → AreIdentified all
    → IsPartOf t.operations all → Contains all op → IsThrownAway t op → IsSettled t.operations op
settled_if_thrown t op all known within held (inl (other, there, on, at)) =
    inl (subst (Contains t.operations) (known.unique other op (within other there) held on at) there)
settled_if_thrown t op all known within held (inr (inl (of_text, new, verdict))) = inr (inl verdict)
settled_if_thrown t op all known within held (inr (inr (of_text, new, verdict))) = inr (inr verdict)

-- where one that waits is thrown away, all is kept
kept_with_one_thrown : (t : TextState) (before after : List Operation) (op : Operation) (all : List Operation)
    → t.waiting_room ≡ before ++ op ∷ after → AccountsFor t all → IsThrownAway t op
    → AccountsFor (with_room t (before ++ after)) all
kept_with_one_thrown t before after op all room keeps thrown =
    let kept : IsKept t.operations (before ++ op ∷ after) all =
    subst (λ (r : List Operation). IsKept t.operations r all) room keeps.kept in
    record {
      identified = keeps.identified;
      kept = kept_leaving before after op t.operations all
          (settled_if_thrown t op all keeps.identified kept.taken_in
          (kept.kept_waiting op (one_within before after op)) thrown)
          kept;
    }

-- draining leaves all kept
pub kept_draining : {t new : TextState} {drained dropped : ℕ} {stopped : Bool}
    (all : List Operation) → IsText t → AccountsFor t all → Drains t drained dropped stopped new → AccountsFor new all
kept_draining all text keeps (ends stay) = keeps
kept_draining all text keeps (stops before after op next ready) = keeps
kept_draining {t = t} all text keeps (takes_in {with_op = with_op} before after op next ready has more) =
    kept_draining all has.is
    (kept_with_one_out t with_op before after op all next.room text keeps has) more
kept_draining {t = t} all text keeps (throws_away before after op next thrown more) =
    kept_draining all
    (text_with_room t (before ++ after) text
    (others_waiting before after op t.text (subst (AreWaitingFor t.text) next.room text.waiting)))
    (kept_with_one_thrown t before after op all next.room keeps thrown) more
