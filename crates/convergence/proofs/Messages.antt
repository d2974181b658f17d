-- Texts to which the same messages were handed.
use Rattle.std.proofs.Common.{rules, ◌≡◌, ◌≢◌, ℕ, zero, suc, ◌⊎◌, ◌↔◌, inl, inr, List, [], ◌∷◌, ◌++◌, length, take}
use Rattle.std.proofs.Common.{length-append, nat_lt, Bool, true, false, MatchBool, Contains, Result, Ok, Err, refl, sym}
use Rattle.std.proofs.Common.{ap, subst, ◌∙◌, arith, ltb-true}
use Rattle.std.proofs.lemmas.List.Elements.{All-nil, All-push, Contains-append_left, Contains-push}
use Rattle.std.proofs.lemmas.List.Elements.{Contains-push_cases}
use Rattle.looks.specs.declared.refusal.Refusal.{Refusal}
use Rattle.looks.specs.declared.refusal.Refusal.TheVariants.{RoomFull}
use Rattle.char_files.specs.CharName.{CharName}
use Rattle.operations.specs.Operation.{Operation}
use Rattle.tree_order.specs.Good.{Good}
use Rattle.tree_order.specs.Order.{IsBeforeIn}
use Rattle.tree_order.specs.Tree.{IsPath}
use Rattle.set_laws.specs.Sets.{AreIdentified, IsPartOf}
use Rattle.waiting_room.specs.declared.room.TheConstants.{MAX_WAITING}
use Rattle.texts.specs.Draining.{AllStay, Drains, ends, stops, takes_in, throws_away}
use Rattle.texts.specs.Take.{Becomes, HasFate, IsConflicting, Stays, Takes, TakesOp, TakesOpShort, Encodes}
use Rattle.texts.specs.Text.{IsText}
use Rattle.texts.specs.TextState.{TextState, empty_text, with_room}
use Rattle.texts.specs.declared.fate.Fate.{Fate}
use Rattle.texts.specs.declared.fate.Fate.TheVariants.{OtherText, Known, Conflicting, AlreadyWaits, Wait}
use Rattle.texts.specs.declared.fate.Fate.TheVariants.{Misfit, LowStamp, Ready}
use Rattle.texts.specs.declared.took.Took.{Took}
use Rattle.texts.specs.declared.took.Took.TheVariants.{Waits}
use Rattle.convergence.specs.Headline.{AreSameMessages, HasTakenMessages, begins, goes_on, IsTold, KeptTextsAreAlike}
use Rattle.convergence.specs.Headline.{SameMessagesEndAlike, TellNoConflict}
use Rattle.convergence.specs.HandedIn.{AccountsFor, KeptByTaking, NothingIsKept, StayWaiting, is_handed_in}
use Rattle.convergence.proofs.Fates.{one_told, own_text}
use Rattle.convergence.proofs.OneWay.{identified_part, text_with_room, text_without}

none_held : {X : Type 0} (x : X) → ¬ Contains [] x
none_held x held = let lt = held.1 in omega arith

-- a text that nothing has changed

no_path : (c : CharName) (path : List CharName) → ¬ IsPath [] c path
no_path c [] is = absurd (cc)
no_path c (d ∷ path) is = none_held is.0.0 is.0.1.held

none_before : (c d : CharName) → ¬ IsBeforeIn [] c d
none_before c d (i, j, lt, at, at') = absurd (cc)

goods : Good [] → (n : ℕ) → Good (take n [])
goods good zero = good
goods good (suc n) = good

empty_is_text : (text site : ℕ) → Good [] → AreIdentified [] → IsText (empty_text text site)
empty_is_text text site good known = record {
  good = good;
  in_order = goods good;
  identified = known;
  of_text = All-nil (λ (op : Operation). op.text ≡ text);
  chars = record {
    order = record {
      each = λ c. (λ held. absurd (none_held c held), λ is. absurd (none_held is.0 is.1.held));
      once = λ i j d lt short. absurd (omega arith);
      before = λ c d. (λ is. absurd (none_before c d is), λ is. absurd (no_path c is.0 is.2));
    };
    bytes = All-nil _;
    looks = All-nil _;
  };
  deleted = λ c among. let lt = among.2 in absurd (omega arith);
  waiting = record {
    of_text = All-nil (λ (op : Operation). op.text ≡ text);
    identified = known;
    few = search rules;
  };
}

-- it is a text, and of the same number
abbrev IsTextOf : ℕ → TextState → Type 0
IsTextOf text t = IsText t × (t.text ≡ text)

-- a text that was drained is one
drained_text : {t new : TextState} {n m : ℕ} {b : Bool} → Drains t n m b new → IsText t → IsTextOf t.text new
drained_text (ends all) is = (is, refl)
drained_text (stops before after op next good) is = (is, refl)
drained_text (takes_in before after op next good taken rest) is =
    let end = drained_text rest taken.is in
    (end.0, end.1 ∙ ap (λ (u : TextState). u.text) taken.grown)
drained_text (throws_away {t = t} before after op next bad rest) is =
    drained_text rest (text_without t before after op is next)

stayed_text : (text : ℕ) (t new : TextState) → IsTextOf text t → new ≡ t → IsTextOf text new
stayed_text text t new is stays = subst (IsTextOf text) (sym stays) is

module _ (t new : TextState) (op : Operation) (result : Result Took Refusal) (is : IsText t)
    (own : op.text ≡ t.text) (known : AreIdentified (t.waiting_room ++ op ∷ [])) where
  entered_text : (b : Bool) → nat_lt (length t.waiting_room) MAX_WAITING ≡ b
      → MatchBool b ((result ≡ Ok Waits) × (new ≡ with_room t (t.waiting_room ++ op ∷ [])))
      (Stays t (Err RoomFull) result new) → IsTextOf t.text new
  entered_text true fits enters =
      let less = ltb-true (length t.waiting_room) MAX_WAITING fits in
      let long = length-append t.waiting_room (op ∷ []) in
      let room = t.waiting_room ++ op ∷ [] in
      subst (IsTextOf t.text) (sym enters.1) (
        text_with_room t room is (record {
          of_text = All-push (λ (o : Operation). o.text ≡ t.text) t.waiting_room op is.waiting.of_text own;
          identified = known;
          few = omega arith;
        }),
        refl,
      )
  entered_text false fits stays = stayed_text t.text t new (is, refl) stays.1

  -- a text that was handed an operation is one
  next_text : (f : Fate) → Becomes t op f result new → IsTextOf t.text new
  next_text OtherText stays = stayed_text t.text t new (is, refl) stays.1
  next_text Known stays = stayed_text t.text t new (is, refl) stays.1
  next_text Conflicting stays = stayed_text t.text t new (is, refl) stays.1
  next_text AlreadyWaits stays = stayed_text t.text t new (is, refl) stays.1
  next_text Wait enters = entered_text (nat_lt (length t.waiting_room) MAX_WAITING) refl enters
  next_text Misfit stays = stayed_text t.text t new (is, refl) stays.1
  next_text LowStamp stays = stayed_text t.text t new (is, refl) stays.1
  next_text Ready (with_op, n, m, taken, drains, answer) =
      let end = drained_text drains taken.is in
      (end.0, end.1 ∙ ap (λ (u : TextState). u.text) taken.grown)

-- and so is one to which an operation was handed, whether memory was there or not
pub text_after_op : (t new : TextState) (op : Operation) (result : Result Took Refusal) → IsText t
    → AreIdentified (t.waiting_room ++ op ∷ []) → TakesOp t op result new ⊎ TakesOpShort t op result new → IsText new
text_after_op t new op result is known (inl (OtherText, has, (answer, same))) = subst IsText (sym same) is
text_after_op t new op result is known (inl (Known, has, becomes)) = (next_text t new op result is has.0 known Known becomes).0
text_after_op t new op result is known (inl (Conflicting, has, becomes)) =
    (next_text t new op result is has.0 known Conflicting becomes).0
text_after_op t new op result is known (inl (AlreadyWaits, has, becomes)) =
    (next_text t new op result is has.0 known AlreadyWaits becomes).0
text_after_op t new op result is known (inl (Wait, has, becomes)) = (next_text t new op result is has.1.0 known Wait becomes).0
text_after_op t new op result is known (inl (Misfit, has, becomes)) =
    (next_text t new op result is has.1.0 known Misfit becomes).0
text_after_op t new op result is known (inl (LowStamp, has, becomes)) =
    (next_text t new op result is has.1.0 known LowStamp becomes).0
text_after_op t new op result is known (inl (Ready, has, becomes)) = (next_text t new op result is has.1.0 known Ready becomes).0
text_after_op t new op result is known (inr (inl (has, (place, (answer, same))))) = subst IsText (sym same) is
text_after_op t new op result is known (inr (inr (has, inl (with_op, n, m, taken, drains, answer)))) =
    (drained_text drains taken.is).0
text_after_op t new op result is known (inr (inr (has, inr (answer, same)))) = subst IsText (sym same) is

entered_counts : (b : Bool) (t new u : TextState) (result : Result Took Refusal) → result ≢ Err RoomFull
    → MatchBool b ((result ≡ Ok Waits) × (new ≡ u)) (Stays t (Err RoomFull) result new) → is_handed_in result ≡ true
entered_counts true t new u result fits enters = ap is_handed_in enters.0
entered_counts false t new u result fits stays = absurd (fits stays.0)

-- one of this text that isn't in conflict counts among those handed in, where it had a place
counts : (t new : TextState) (op : Operation) (result : Result Took Refusal) (f : Fate) → f ≢ OtherText
    → f ≢ Conflicting → result ≢ Err RoomFull → Becomes t op f result new → is_handed_in result ≡ true
counts t new op result OtherText here calm fits stays = absurd (here refl)
counts t new op result Known here calm fits stays = ap is_handed_in stays.0
counts t new op result Conflicting here calm fits stays = absurd (calm refl)
counts t new op result AlreadyWaits here calm fits stays = ap is_handed_in stays.0
counts t new op result Wait here calm fits enters =
    entered_counts (nat_lt (length t.waiting_room) MAX_WAITING) t new (with_room t (t.waiting_room ++ op ∷ [])) result
    fits enters
counts t new op result Misfit here calm fits stays = ap is_handed_in stays.0
counts t new op result LowStamp here calm fits stays = ap is_handed_in stays.0
counts t new op result Ready here calm fits (with_op, n, m, taken, drains, answer) = ap is_handed_in answer

-- an operation of this text is told by one of the messages
abbrev IsToldOf : ℕ → List (List ℕ) → Operation → Type 0
IsToldOf text messages op = IsTold messages op × (op.text ≡ text)

-- what messages tell, with one message more
module _ (messages : List (List ℕ)) (message : List ℕ) (op : Operation) where
  told_before : IsTold messages op → IsTold (messages ++ message ∷ []) op
  told_before (m, held, tells) = (m, Contains-append_left messages (message ∷ []) m held, tells)

  told_last : Encodes message op → IsTold (messages ++ message ∷ []) op
  told_last tells = (message, Contains-push messages message, tells)

  told_cases : IsTold (messages ++ message ∷ []) op → IsTold messages op ⊎ Encodes message op
  told_cases (m, held, tells) =
      elim (Contains-push_cases messages message m held) [
        | inl old ↦ inl (m, old, tells)
        | inr same ↦ inr (subst (λ (x : List ℕ). Encodes x op) (sym same) tells)
      ]

identified_told : (text : ℕ) (messages : List (List ℕ)) (all : List Operation) → TellNoConflict text messages
    → ((op : Operation) → Contains all op → IsToldOf text messages op) → AreIdentified all
identified_told text messages all calm told = record {
  counted = λ op held. (told op held).0.2.valid.seq.0;
  unique = λ a b held held' on at.
      let told_a = told a held in
      let told_b = told b held' in
      calm a b told_a.0 told_b.0 told_a.1 told_b.1 on at;
}

-- the text keeps all of its own operations that the messages tell, and what waits in it stays
record Reached (text : ℕ) (messages : List (List ℕ)) (t : TextState) : Type 0 where
  all : List Operation
  is : IsText t
  own : t.text ≡ text
  stay : AllStay t
  keeps : AccountsFor t all
  told : (op : Operation) → Contains all op ↔ IsToldOf text messages op

module _ (taking : KeptByTaking) (waiting : StayWaiting) (text : ℕ) where
  -- a message that tells no operation of this text leaves it
  unmoved : (messages : List (List ℕ)) (message : List ℕ) (t new : TextState) → Reached text messages t
      → ((op : Operation) → Encodes message op → op.text ≢ text) → new ≡ t
      → Reached text (messages ++ message ∷ []) new
  unmoved messages message t new r elsewhere stays =
      subst (Reached text (messages ++ message ∷ [])) (sym stays) (record {
        all = r.all;
        is = r.is;
        own = r.own;
        stay = r.stay;
        keeps = r.keeps;
        told = λ op. (
          λ held. let is = (r.told op).0 held in (told_before messages message op is.0, is.1),
          λ is. elim (told_cases messages message op is.0) [
            | inl old ↦ (r.told op).1 (old, is.1)
            | inr tells ↦ absurd (elsewhere op tells is.1)
          ],
        );
      })

  module _ (messages : List (List ℕ)) (message : List ℕ) (t new : TextState) (result : Result Took Refusal)
      (op : Operation) (r : Reached text messages t) (calm : TellNoConflict text (messages ++ message ∷ []))
      (tells : Encodes message op) (here : op.text ≡ t.text) where
    -- it is told with those before it
    told_with : (x : Operation)
        → Contains (r.all ++ op ∷ []) x ↔ IsToldOf text (messages ++ message ∷ []) x
    told_with x = (
      λ held. elim (Contains-push_cases r.all op x held) [
        | inl old ↦ let is = (r.told x).0 old in (told_before messages message x is.0, is.1)
        | inr same ↦ subst (IsToldOf text (messages ++ message ∷ [])) same
            (told_last messages message op tells, here ∙ r.own)
      ],
      λ is. elim (told_cases messages message x is.0) [
        | inl old ↦ Contains-append_left r.all (op ∷ []) x ((r.told x).1 (old, is.1))
        | inr tells' ↦ subst (Contains (r.all ++ op ∷ [])) (one_told message op x tells tells')
            (Contains-push r.all op)
      ],
    )

    known_with : AreIdentified (r.all ++ op ∷ [])
    known_with = identified_told text (messages ++ message ∷ []) (r.all ++ op ∷ []) calm (λ x. (told_with x).0)

    with_it : (ops : List Operation) → IsPartOf ops r.all → IsPartOf (ops ++ op ∷ []) (r.all ++ op ∷ [])
    with_it ops within x held =
        elim (Contains-push_cases ops op x held) [
          | inl old ↦ Contains-append_left r.all (op ∷ []) x (within x old)
          | inr same ↦ subst (Contains (r.all ++ op ∷ [])) same (Contains-push r.all op)
        ]

    -- it isn't in conflict with one that is held or waits
    no_clash : ¬ IsConflicting t op
    no_clash (inl (x, held, on, at, differs)) =
        differs (known_with.unique x op
        (Contains-append_left r.all (op ∷ []) x (r.keeps.kept.taken_in x held)) (Contains-push r.all op) on at)
    no_clash (inr (free, (x, held, on, at, differs))) =
        differs (known_with.unique x op
        (Contains-append_left r.all (op ∷ []) x (r.keeps.kept.kept_waiting x held)) (Contains-push r.all op) on at)

    -- where it counts, the text is reached with it
    moved : (f : Fate) → Takes t message result new → is_handed_in result ≡ true → Becomes t op f result new
        → Reached text (messages ++ message ∷ []) new
    moved f takes counts becomes =
        let room_known = identified_part (t.waiting_room ++ op ∷ []) (r.all ++ op ∷ [])
        (with_it t.waiting_room r.keeps.kept.kept_waiting) known_with in
        let end = next_text t new op result r.is here room_known f becomes in
        let kept = subst (λ (b : Bool). MatchBool b
        ((x : Operation) → Encodes message x → AreIdentified (r.all ++ x ∷ []) → AccountsFor new (r.all ++ x ∷ []))
        (AccountsFor new r.all)) counts (taking t new message result r.all r.is r.keeps (inl takes)) in
        record {
          all = r.all ++ op ∷ [];
          is = end.0;
          own = end.1 ∙ r.own;
          stay = waiting.taken t new message result r.is r.stay takes;
          keeps = kept op tells known_with;
          told = told_with;
        }

  one_fate : (messages : List (List ℕ)) (message : List ℕ) (t new : TextState) (result : Result Took Refusal)
      (op : Operation) (f : Fate) → Reached text messages t → TellNoConflict text (messages ++ message ∷ [])
      → Takes t message result new → result ≢ Err RoomFull → Encodes message op → HasFate t op f
      → Becomes t op f result new → Reached text (messages ++ message ∷ []) new
  one_fate messages message t new result op OtherText r calm takes fits tells has stays =
      unmoved messages message t new r
      (λ x tells' here.
      let same = one_told message op x tells tells' in
      has (ap (λ (o : Operation). o.text) same ∙ here ∙ sym r.own))
      stays.1
  one_fate messages message t new result op Conflicting r calm takes fits tells has stays =
      absurd (no_clash messages message t new result op r calm tells has.0 has.1)
  one_fate messages message t new result op f r calm takes fits tells has becomes =
      moved messages message t new result op r calm tells (own_text t op f (omega arith) has) f takes
      (counts t new op result f (λ e. cc) (λ e. cc) fits becomes) becomes

  one_message : (messages : List (List ℕ)) (message : List ℕ) (t new : TextState) (result : Result Took Refusal)
      → Reached text messages t → TellNoConflict text (messages ++ message ∷ []) → Takes t message result new
      → result ≢ Err RoomFull → Reached text (messages ++ message ∷ []) new
  one_message messages message t new result r calm (inl none) fits =
      unmoved messages message t new r (λ op tells. absurd (none.0 op tells.valid tells.spelled)) none.1.1
  one_message messages message t new result r calm (inr (op, f, tells, has, becomes)) fits =
      one_fate messages message t new result op f r calm (inr (op, f, tells, has, becomes)) fits tells has becomes

  module _ (kept : NothingIsKept) (good : Good []) (known : AreIdentified []) (site : ℕ) where
    reached_none : Reached text [] (empty_text text site)
    reached_none = record {
      all = [];
      is = empty_is_text text site good known;
      own = refl;
      stay = All-nil _;
      keeps = kept text site;
      told = λ op. (λ held. absurd (none_held op held), λ is. absurd (none_held is.0.0 is.0.1));
    }

    calm_before : (messages : List (List ℕ)) (message : List ℕ) → TellNoConflict text (messages ++ message ∷ [])
        → TellNoConflict text messages
    calm_before messages message calm a b told told' =
        calm a b (told_before messages message a told) (told_before messages message b told')

    reached : {messages : List (List ℕ)} {t : TextState} → HasTakenMessages (empty_text text site) messages t
        → TellNoConflict text messages → Reached text messages t
    reached begins calm = reached_none
    reached (goes_on {messages = messages} {u = u} message result new first takes fits) calm =
        one_message messages message u new result (reached first (calm_before messages message calm)) calm takes fits

-- what keeps all of one list keeps all of another that has the same
kept_same : (t : TextState) (all other : List Operation) → AreIdentified other
    → ((op : Operation) → Contains all op ↔ Contains other op) → AccountsFor t all → AccountsFor t other
kept_same t all other known same keeps = record {
  identified = known;
  kept = record {
    taken_in = λ op held. (same op).0 (keeps.kept.taken_in op held);
    kept_waiting = λ op held. (same op).0 (keeps.kept.kept_waiting op held);
    others = λ op held. keeps.kept.others op ((same op).1 held);
  };
}

told_same : (a b : List (List ℕ)) → AreSameMessages a b → (op : Operation) → IsTold a op ↔ IsTold b op
told_same a b same op = (
  λ is. (is.0, (same is.0).0 is.1, is.2),
  λ is. (is.0, (same is.0).1 is.1, is.2),
)

pub messages_end_alike : KeptByTaking → StayWaiting → NothingIsKept → Good [] → AreIdentified []
    → KeptTextsAreAlike → SameMessagesEndAlike
messages_end_alike taking waiting kept good known alike text site site' a b t u taken taken' same calm =
    let calm' : TellNoConflict text b =
    λ x y told told'. calm x y ((told_same a b same x).1 told) ((told_same a b same y).1 told') in
    let r = reached taking waiting text kept good known site taken calm in
    let r' = reached taking waiting text kept good known site' taken' calm' in
    let equal : (op : Operation) → Contains r'.all op ↔ Contains r.all op =
    λ op. (
      λ held. let is = (r'.told op).0 held in (r.told op).1 ((told_same a b same op).1 is.0, is.1),
      λ held. let is = (r.told op).0 held in (r'.told op).1 ((told_same a b same op).0 is.0, is.1),
    ) in
    alike t u r.all r.is r'.is r.keeps (kept_same u r'.all r.all r.keeps.identified equal r'.keeps) r.stay r'.stay
