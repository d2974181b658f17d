-- To unpack chunks is to take the messages of their operations.
use Rattle.std.proofs.Common.{◌≡◌, ℕ, ◌+◌, Bool, true, false, inl, inr, List, [], ◌∷◌, ◌++◌, map}
use Rattle.std.proofs.Common.{Result, Ok, Err, ap, sym, subst, refl, ◌∙◌}
use Rattle.std.specs.Prelude.{All, MatchBool, nat_lt, length}
use Rattle.std.proofs.lemmas.List.{map-append}
use Rattle.std.proofs.lemmas.List.Elements.{All-cons, All-filter, All-head, All-nil, All-tail}
use Rattle.looks.specs.declared.refusal.Refusal.{Refusal}
use Rattle.looks.specs.declared.refusal.Refusal.TheVariants.{RoomFull}
use Rattle.operations.specs.Operation.{Operation}
use Rattle.operations.specs.Spelling.{HasSpelling, spelling}
use Rattle.operations.proofs.ReadMessages.{same_operation}
use Rattle.chunks.specs.Chunks.{Placed, IsChunkOf, chunks, operations_of}
use Rattle.chunks.specs.Laws.{AreChunksOf, ChunksTell, OneChunk, WhatIsBeyondCanCome}
use Rattle.packed.specs.Laws.{IsHistory}
use Rattle.kept_file.proofs.Following.{is_history}
use Rattle.texts.specs.Draining.{Drains, ends, stops, takes_in, throws_away}
use Rattle.texts.specs.Fronts.{beyond, front_in, is_beyond}
use Rattle.texts.specs.Take.{Becomes, Stays, Takes, TakesOp}
use Rattle.texts.specs.Taking.{HasTaken}
use Rattle.texts.specs.TextState.{TextState, with_room}
use Rattle.texts.specs.declared.fate.Fate.{Fate}
use Rattle.texts.specs.declared.fate.Fate.TheVariants.{OtherText, Known, Conflicting, AlreadyWaits, Wait}
use Rattle.texts.specs.declared.fate.Fate.TheVariants.{Misfit, LowStamp, Ready}
use Rattle.texts.specs.declared.took.Took.{Took}
use Rattle.texts.specs.declared.took.Took.TheVariants.{Waits}
use Rattle.waiting_room.specs.declared.room.TheConstants.{MAX_WAITING}
use Rattle.text_chunks.specs.Laws.{ChunksHandInTheMessages, TakesEach, UnpacksEach}
use Rattle.text_chunks.specs.Packing.{placed_beyond}
use Rattle.text_chunks.specs.Unpacking.{HandsIn, HandsInAll, Unpacks, counted_in, nothing_unpacked}
use Rattle.text_chunks.specs.declared.unpacked.UnpackRefusal.{UnpackRefusal}
use Rattle.text_chunks.specs.declared.unpacked.Unpacked.{Unpacked}

-- ---- a message leaves the text's number

text_taken : (t new : TextState) (op : Operation) → HasTaken t op new → new.text ≡ t.text
text_taken t new op taken = ap (λ (u : TextState). u.text) taken.grown

text_drained : (t new : TextState) (drained dropped : ℕ) (stopped : Bool) → Drains t drained dropped stopped new
    → new.text ≡ t.text
text_drained t new drained dropped stopped (ends stay) = refl
text_drained t new drained dropped stopped (stops before after op next judged) = refl
text_drained t new drained dropped stopped (takes_in before after op next judged taken drains) =
    text_drained _ new _ _ _ drains ∙ text_taken _ _ op taken
text_drained t new drained dropped stopped (throws_away before after op next thrown drains) =
    text_drained _ new _ _ _ drains

-- nothing changed, or what changed isn't the text's number
text_of_answer : (t new : TextState) (op : Operation) (fate : Fate) (took : Took) → Becomes t op fate (Ok took) new
    → new.text ≡ t.text
text_of_answer t new op OtherText took stays = absurd (let is = stays.0 in cc)
text_of_answer t new op Known took stays = ap (λ (u : TextState). u.text) stays.1
text_of_answer t new op Conflicting took stays = absurd (let is = stays.0 in cc)
text_of_answer t new op AlreadyWaits took stays = ap (λ (u : TextState). u.text) stays.1
text_of_answer t new op Wait took enters = by (nat_lt (length t.waiting_room) MAX_WAITING) enters
  where
    by : (b : Bool) → MatchBool b ((◌≡◌ {A = Result Took Refusal} (Ok took) (Ok Waits)) × (new ≡ with_room t (t.waiting_room ++ op ∷ [])))
        (Stays t (Err RoomFull) (Ok took) new) → new.text ≡ t.text
    by true waits = ap (λ (v : TextState). v.text) waits.1
    by false stays = absurd (let is = stays.0 in cc)
text_of_answer t new op Misfit took stays = absurd (let is = stays.0 in cc)
text_of_answer t new op LowStamp took stays = absurd (let is = stays.0 in cc)
text_of_answer t new op Ready took (with_op, drained, dropped, taken, drains, is) =
    text_drained with_op new drained dropped false drains ∙ text_taken t with_op op taken

text_of_message : (t new : TextState) (message : List ℕ) (took : Took) → Takes t message (Ok took) new
    → new.text ≡ t.text
text_of_message t new message took (inl (none, stays)) = absurd (let is = stays.0 in cc)
text_of_message t new message took (inr (op, fate, encodes, has, becomes)) = text_of_answer t new op fate took becomes

text_of_messages : (messages : List (List ℕ)) (t new : TextState) → TakesEach t messages new → new.text ≡ t.text
text_of_messages [] t new same = ap (λ (u : TextState). u.text) same
text_of_messages (message ∷ messages) t new (took, mid, takes, rest) =
    text_of_messages messages mid new rest ∙ text_of_message t mid message took takes

-- ---- messages one after the other

joined : (xs ys : List (List ℕ)) (t mid new : TextState) → TakesEach t xs mid → TakesEach mid ys new
    → TakesEach t (xs ++ ys) new
joined [] ys t mid new same rest = subst (λ (u : TextState). TakesEach u ys new) same rest
joined (x ∷ xs) ys t mid new (took, next, takes, others) rest =
    (took, next, takes, joined xs ys next mid new others rest)

parted : (xs ys : List (List ℕ)) (t new : TextState) → TakesEach t (xs ++ ys) new
    → (mid : TextState) × TakesEach t xs mid × TakesEach mid ys new
parted [] ys t new takes = (t, refl, takes)
parted (x ∷ xs) ys t new (took, next, takes, others) =
    let (mid, front, rest) = parted xs ys next new others in (mid, (took, next, takes, front), rest)

-- ---- an operation and its message

pub message_of_op : (t new : TextState) (op : Operation) (took : Result Took Refusal) → HasSpelling op → TakesOp t op took new
    → Takes t (spelling op) took new
message_of_op t new op took spelled (fate, has, becomes) =
    inr (op, fate, record { valid = spelled; spelled = refl }, has, becomes)

op_of_message : (t new : TextState) (op : Operation) (took : Took) → HasSpelling op → Takes t (spelling op) (Ok took) new
    → TakesOp t op (Ok took) new
op_of_message t new op took spelled (inl (none, stays)) = absurd (let is = stays.0 in cc)
op_of_message t new op took spelled (inr (other, fate, encodes, has, becomes)) =
    subst (λ (o : Operation). TakesOp t o (Ok took) new)
    (same_operation other op encodes.valid spelled (sym encodes.spelled)) (fate, has, becomes)

-- ---- a chunk's operations

-- once memory was refused it stays so
stays_short : (ops : List Operation) (done : ℕ) (c : Unpacked) (t new : TextState) (result : Result Unpacked UnpackRefusal)
    → HandsIn done c true t ops false result new → ⊥
stays_short [] done c t new result last = absurd (let is = last.0 in cc)
stays_short (op ∷ ops) done c t new result (one, Ok how, mid, takes, rest) =
    stays_short ops (done + 1) (counted_in c t mid how) mid new result rest
stays_short (op ∷ ops) done c t new result (one, Err why, mid, takes, last) = absurd (let is = last.0 in cc)

take_messages : (ops : List Operation) (done : ℕ) (c all : Unpacked) (t new : TextState) → All HasSpelling ops
    → HandsIn done c false t ops false (Ok all) new → TakesEach t (map spelling ops) new
take_messages [] done c all t new spelled last = last.2
take_messages (op ∷ ops) done c all t new spelled (false, Ok how, mid, takes, rest) = (
  how,
  mid,
  message_of_op t mid op (Ok how) (All-head HasSpelling op ops spelled) takes,
  take_messages ops (done + 1) (counted_in c t mid how) all mid new (All-tail HasSpelling op ops spelled) rest,
)
take_messages (op ∷ ops) done c all t new spelled (true, Ok how, mid, takes, rest) =
    absurd (stays_short ops (done + 1) (counted_in c t mid how) mid new (Ok all) rest)
take_messages (op ∷ ops) done c all t new spelled (one, Err why, mid, takes, last) = absurd (let is = last.1 in cc)

hand_in : (ops : List Operation) (done : ℕ) (c : Unpacked) (t new : TextState) → All HasSpelling ops
    → TakesEach t (map spelling ops) new → (all : Unpacked) × HandsIn done c false t ops false (Ok all) new
hand_in [] done c t new spelled same = (c, (refl, refl, same))
hand_in (op ∷ ops) done c t new spelled (how, mid, takes, rest) =
    let (all, hands) = hand_in ops (done + 1) (counted_in c t mid how) mid new (All-tail HasSpelling op ops spelled) rest in
    (all, (false, Ok how, mid, op_of_message t mid op how (All-head HasSpelling op ops spelled) takes, hands))

-- ---- a chunk

module _ (once : OneChunk) (text : ℕ) (part : List Placed) (bytes : List ℕ) (is : IsChunkOf text part bytes) where
  unpacked : (u new : TextState) (c : Unpacked) → u.text ≡ text → Unpacks u bytes (Ok c) new
      → HandsInAll u (operations_of part) false (Ok c) new
  unpacked u new c same (inl (none, stays)) = absurd (none text part is)
  unpacked u new c same (inr (other, ps, of, inl (apart, stays))) = absurd (let is = stays.0 in cc)
  unpacked u new c same (inr (other, ps, of, inr (own, hands))) =
      subst (λ (l : List Placed). HandsInAll u (operations_of l) false (Ok c) new) (once bytes other text ps part of is).1
      hands

  takes_chunk : (u new : TextState) (c : Unpacked) → All HasSpelling (operations_of part) → u.text ≡ text
      → Unpacks u bytes (Ok c) new → TakesEach u (map spelling (operations_of part)) new
  takes_chunk u new c spelled same unpacks =
      take_messages (operations_of part) 0 nothing_unpacked c u new spelled (unpacked u new c same unpacks)

  unpacks_chunk : (u new : TextState) → All HasSpelling (operations_of part) → u.text ≡ text
      → TakesEach u (map spelling (operations_of part)) new → (c : Unpacked) × Unpacks u bytes (Ok c) new
  unpacks_chunk u new spelled same takes =
      let (c, hands) = hand_in (operations_of part) 0 nothing_unpacked u new spelled takes in
      (c, inr (text, part, is, inr (sym same, hands)))

-- ---- chunks one after the other

messages_parted : (ps part rest : List Placed) → ps ≡ part ++ rest
    → map spelling (operations_of ps) ≡ map spelling (operations_of part) ++ map spelling (operations_of rest)
messages_parted ps part rest e =
    ap (λ (l : List Placed). map spelling (operations_of l)) e
    ∙ ap (map spelling) (map-append (λ (p : Placed). p.op) part rest)
    ∙ map-append spelling (operations_of part) (operations_of rest)

both_spelled : (front rest : List Operation) → All HasSpelling (front ++ rest)
    → All HasSpelling front × All HasSpelling rest
both_spelled [] rest all = (All-nil HasSpelling, all)
both_spelled (op ∷ front) rest all =
    let both = both_spelled front rest (All-tail HasSpelling op (front ++ rest) all) in
    (All-cons HasSpelling op front (All-head HasSpelling op (front ++ rest) all) both.0, both.1)

spelled_parted : (ps part rest : List Placed) → ps ≡ part ++ rest → All HasSpelling (operations_of ps)
    → All HasSpelling (operations_of part) × All HasSpelling (operations_of rest)
spelled_parted ps part rest e spelled =
    both_spelled (operations_of part) (operations_of rest)
    (subst (All HasSpelling) (ap operations_of e ∙ map-append (λ (p : Placed). p.op) part rest) spelled)

take_each : (list : List (List ℕ)) → OneChunk → (text : ℕ) (ps : List Placed) → All HasSpelling (operations_of ps)
    → AreChunksOf text ps list → (u new : TextState) → u.text ≡ text → UnpacksEach u list new
    → TakesEach u (map spelling (operations_of ps)) new
take_each [] once text ps spelled none u new same is =
    subst (λ (l : List Placed). TakesEach u (map spelling (operations_of l)) new) (sym none) is
take_each (bytes ∷ list) once text ps spelled (part, rest, e, is, are) u new same (c, mid, unpacks, others) =
    let both = spelled_parted ps part rest e spelled in
    let front = takes_chunk once text part bytes is u mid c both.0 same unpacks in
    let after = take_each list once text rest both.1 are mid new
    (text_of_messages (map spelling (operations_of part)) u mid front ∙ same) others in
    subst (λ (l : List (List ℕ)). TakesEach u l new) (sym (messages_parted ps part rest e))
    (joined (map spelling (operations_of part)) (map spelling (operations_of rest)) u mid new front after)

unpack_each : (list : List (List ℕ)) → OneChunk → (text : ℕ) (ps : List Placed) → All HasSpelling (operations_of ps)
    → AreChunksOf text ps list → (u new : TextState) → u.text ≡ text
    → TakesEach u (map spelling (operations_of ps)) new → UnpacksEach u list new
unpack_each [] once text ps spelled none u new same takes =
    subst (λ (l : List Placed). TakesEach u (map spelling (operations_of l)) new) none takes
unpack_each (bytes ∷ list) once text ps spelled (part, rest, e, is, are) u new same takes =
    let both = spelled_parted ps part rest e spelled in
    let (mid, front, after) = parted (map spelling (operations_of part)) (map spelling (operations_of rest)) u new
    (subst (λ (l : List (List ℕ)). TakesEach u l new) (messages_parted ps part rest e) takes) in
    let (c, unpacks) = unpacks_chunk once text part bytes is u mid both.0 same front in (
      c,
      mid,
      unpacks,
      unpack_each list once text rest both.1 are mid new
          (text_of_messages (map spelling (operations_of part)) u mid front ∙ same) after,
    )

-- the chunks of what a text has beyond fronts
pub chunks_hand_in_the_messages : OneChunk → ChunksTell → WhatIsBeyondCanCome → ChunksHandInTheMessages
chunks_hand_in_the_messages one tell come t u new fronts is once spelled same =
    let history : IsHistory t.text t.operations =
    is_history t.text t.operations is.in_order is.identified once spelled is.of_text in
    let comes = come t.text t.operations (front_in fronts) history in
    let ps : List Placed = placed_beyond fronts t in
    let these : operations_of ps ≡ beyond fronts t.operations = comes.1 in
    let list : List (List ℕ) = chunks t.text ps in
    let are : AreChunksOf t.text ps list = tell t.text ps comes.0 in
    let all : All HasSpelling (operations_of ps) = subst (All HasSpelling) (sym these)
    (All-filter (λ (op : Operation). is_beyond fronts op) HasSpelling t.operations spelled) in (
      λ unpacks. subst (λ (l : List Operation). TakesEach u (map spelling l) new) these
          (take_each list one t.text ps all are u new same unpacks),
      λ takes. unpack_each list one t.text ps all are u new same
          (subst (λ (l : List Operation). TakesEach u (map spelling l) new) (sym these) takes),
    )
