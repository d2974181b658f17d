-- The sites and the seqs of a run's operations fit a message's places.
use Rattle.std.proofs.Common.{◌≡◌, ℕ, zero, suc, ◌+◌, ◌-◌, ◌^◌, ◌<◌, ◌≤◌, length, true, false, Bool, List, [], ◌∷◌}
use Rattle.std.proofs.Common.{◌++◌, All, map, Option, Some, None, Result, Ok, Err, refl, sym, ap, subst, ◌∙◌, inl, inr}
use Rattle.std.proofs.Common.{arith, get_or}
use Rattle.std.specs.Prelude.{◌⊎◌, ◌==◌, MatchBool, if◌then◌else◌, nat_lt, slice_get, slice_set, take}
use Rattle.std.specs.List.{range_with_len}
use Rattle.std.specs.Option.{option_map_or}
use Rattle.std.proofs.lemmas.List.Elements.{All-append, All-filter, All-nil, All-take}
use Rattle.std.proofs.lemmas.Option.{same_Some}
use Rattle.looks.specs.declared.refusal.Refusal.{Refusal}
use Rattle.looks.specs.declared.refusal.Refusal.TheVariants.{Behind, Conflict, RoomFull, SeqSpent, WrongText}
use Rattle.char_files.specs.Stretch.{Stretch}
use Rattle.char_files.specs.declared.TheConstants.{MAX_FILE}
use Rattle.operations.specs.Operation.{Operation, OpKind}
use Rattle.operations.specs.Spelling.{HasSpelling}
use Rattle.shelf.specs.Files.{Files}
use Rattle.set_laws.specs.Fronts.{front_of}
use Rattle.texts.specs.Draining.{Drains, ends, stops, takes_in, throws_away}
use Rattle.texts.specs.Edit.{Edit, after, insertion, deletion, inserts, is_in_text, is_restored, looks_change}
use Rattle.texts.specs.Edit.{own_insert, own_op, pieces_of, plan, recalling, restoration, with_operation}
use Rattle.texts.specs.Merge.{Merges, MergesShort, is_past_front, news}
use Rattle.operations.specs.NameSet.{Range}
use Rattle.texts.specs.Named.{names_changed, op_by_names}
use Rattle.texts.proofs.NamedEdits.{naming}
use Rattle.texts.specs.Outcome.{Edits, EditsShort, count_standing, first_refusal, refusal_for, refusal_or}
use Rattle.texts.specs.Take.{Becomes, Stays, TakesIn}
use Rattle.texts.specs.Taking.{HasTakenAll}
use Rattle.texts.specs.TextState.{TextState, all_told, empty_text, with_room}
use Rattle.texts.specs.declared.TheConstants.{MAX_SEQ}
use Rattle.texts.specs.declared.by_names.ByNames.{ByNames}
use Rattle.texts.specs.declared.edit_refusal.EditRefusal.{EditRefusal}
use Rattle.texts.specs.declared.edit_refusal.EditRefusal.TheVariants.{Whole, Partial}
use Rattle.texts.specs.declared.fate.Fate.{Fate}
use Rattle.texts.specs.declared.fate.Fate.TheVariants.{OtherText, Known, Conflicting, AlreadyWaits, Wait, Misfit}
use Rattle.texts.specs.declared.fate.Fate.TheVariants.{LowStamp, Ready}
use Rattle.texts.specs.declared.merge_refusal.MergeRefusal.{MergeRefusal}
use Rattle.texts.specs.declared.merge_refusal.MergeRefusal.TheVariants.{Whole as MergesNothing, Stopped}
use Rattle.texts.specs.declared.took.Took.{Took}
use Rattle.texts.specs.declared.took.Took.TheVariants.{Waits}
use Rattle.text_chunks.specs.Unpacking.{TakesOpSo}
use Rattle.machine.specs.SiteTexts.{SiteTexts, IsTextOf, fresh_texts}
use Rattle.machine.specs.Events.{Reply}
use Rattle.machine.specs.OnTexts.{CopiesText, CopiesTextShort, EditsNames, EditsText, EditsTextShort, MergesText, MergesTextShort}
use Rattle.machine.specs.OnTexts.{SettlesText, TakesText}
use Rattle.machine.specs.OnTexts.{TakesTextShort, copied, is_copy_in}
use Rattle.machine.specs.State.{IsTextAt, State, new_state}
use Rattle.machine_laws.proofs.FrontLines.{small_front}
use Rattle.machine_laws.proofs.Going.{TextGoes, TextsGo, as_they_are, begins as begins_anew, by_text, copies, copies_short}
use Rattle.machine_laws.proofs.Going.{edits_names, edits_names_short}
use Rattle.machine_laws.proofs.NamedEdits.{left_short, made_or_left}
use Rattle.machine_laws.proofs.Going.{edits as edited, edits_short as in_part, empties, merges_short as merged_short, merges_so}
use Rattle.machine_laws.proofs.Going.{replies_go, settles_so, takes, takes_short as taken_short, unpacks_short, unpacks_so}
use Rattle.machine_laws.proofs.Reaching.{set_cases}
use Rattle.machine_laws.proofs.Reopening.{Begins}
use Rattle.machine_laws.proofs.Unpacking.{unpacking_keeps, unpacking_short_keeps}
use Rattle.machine_laws.specs.Laws.{HaveMessageNumbers, Reached, WhatIsReachedIsNumbered, begins, goes_on}
use Rattle.machine_laws.specs.Laws.{others_write}

-- an operation whose site and seq fit
abbrev IsNumbered : Operation → Type 0
IsNumbered op = (op.site < 2 ^ 16) × (op.seq < 2 ^ 32)

-- the text's own site fits, and so do the operations taken in and those that wait
record HasNumbers (t : TextState) : Type 0 where
  site : t.site < 2 ^ 16
  taken : HaveMessageNumbers t.operations
  waits : HaveMessageNumbers t.waiting_room

one : (op : Operation) → IsNumbered op → HaveMessageNumbers (op ∷ [])
one op is zero d within = is
one op is (suc k) d within = absurd (omega (arith, within))

first_of_all : (op : Operation) (ops : List Operation) → HaveMessageNumbers (op ∷ ops) → IsNumbered op
first_of_all op ops all = all 0 op (omega arith)

rest_of_all : (op : Operation) (ops : List Operation) → HaveMessageNumbers (op ∷ ops) → HaveMessageNumbers ops
rest_of_all op ops all k d within = all (suc k) d (omega arith)

-- where one is taken out of the room, the others stay
cut_out : (earlier later : List Operation) (op : Operation) → HaveMessageNumbers (earlier ++ op ∷ later)
    → IsNumbered op × HaveMessageNumbers (earlier ++ later)
cut_out [] later op all = (first_of_all op later all, rest_of_all op later all)
cut_out (a ∷ earlier) later op all =
    let rest = cut_out earlier later op (rest_of_all a (earlier ++ op ∷ later) all) in
    let first = one a (first_of_all a (earlier ++ op ∷ later) all) in
    (rest.0, All-append IsNumbered (a ∷ []) (earlier ++ later) first rest.1)

-- operations more
grown_by : (t : TextState) (ops : List Operation) (new : TextState) → HaveMessageNumbers ops → HasTakenAll t ops new
    → HasNumbers t → HasNumbers new
grown_by t ops new more has is = subst HasNumbers (sym has.grown) (record {
  site = is.site;
  taken = All-append IsNumbered t.operations ops is.taken more;
  waits = is.waits;
})

in_room : (t : TextState) (room : List Operation) → HaveMessageNumbers room → HasNumbers t → HasNumbers (with_room t room)
in_room t room all is = record { site = is.site; taken = is.taken; waits = all }

drained : {t new : TextState} {n m : ℕ} {stopped : Bool} → Drains t n m stopped new → HasNumbers t → HasNumbers new
drained (ends stay) is = is
drained (stops earlier later op next ready) is = is
drained {t} (takes_in {with_op = with_op} earlier later op next ready has drains) is =
    let parts = cut_out earlier later op (subst HaveMessageNumbers next.room is.waits) in
    drained drains (grown_by (with_room t (earlier ++ later)) (op ∷ []) with_op (one op parts.0) has
    (in_room t (earlier ++ later) parts.1 is))
drained {t} (throws_away earlier later op next thrown drains) is =
    drained drains (in_room t (earlier ++ later) (cut_out earlier later op (subst HaveMessageNumbers next.room is.waits)).1 is)

-- a message's operation fits

taken_in : (t : TextState) (op : Operation) (stopped : Bool) (result : Result Took Refusal) (new : TextState)
    → IsNumbered op → TakesIn t op stopped result new → HasNumbers t → HasNumbers new
taken_in t op stopped result new fits (with_op, n, m, has, drains, answered) is =
    drained drains (grown_by t (op ∷ []) with_op (one op fits) has is)

by_test : (b : Bool) (P Q : Type 0) → MatchBool b P Q → P ⊎ Q
by_test true P Q h = inl h
by_test false P Q h = inr h

-- one that waits stands last in the room, or there is no place
enters : (has_place : Bool) (t : TextState) (op : Operation) (result : Result Took Refusal) (new : TextState)
    → IsNumbered op
    → MatchBool has_place ((result ≡ Ok Waits) × (new ≡ with_room t (t.waiting_room ++ op ∷ [])))
    (Stays t (Err RoomFull) result new) → HasNumbers t → HasNumbers new
enters true t op result new fits waits is =
    subst HasNumbers (sym waits.1)
    (in_room t (t.waiting_room ++ op ∷ []) (All-append IsNumbered t.waiting_room (op ∷ []) is.waits (one op fits))
    is)
enters false t op result new fits stays is = subst HasNumbers (sym stays.1) is

becomes : (t : TextState) (op : Operation) (fate : Fate) (result : Result Took Refusal) (new : TextState)
    → IsNumbered op → Becomes t op fate result new → HasNumbers t → HasNumbers new
becomes t op OtherText result new fits stays is = subst HasNumbers (sym stays.1) is
becomes t op Known result new fits stays is = subst HasNumbers (sym stays.1) is
becomes t op Conflicting result new fits stays is = subst HasNumbers (sym stays.1) is
becomes t op AlreadyWaits result new fits stays is = subst HasNumbers (sym stays.1) is
becomes t op Wait result new fits does is = enters _ t op result new fits does is
becomes t op Misfit result new fits stays is = subst HasNumbers (sym stays.1) is
becomes t op LowStamp result new fits stays is = subst HasNumbers (sym stays.1) is
becomes t op Ready result new fits does is = taken_in t op false result new fits does is

fits_message : (op : Operation) → HasSpelling op → IsNumbered op
fits_message op valid = (valid.site.1, valid.seq.1)

-- so do those of a text that begins anew
begins_text : (ops : List Operation) → All HasSpelling ops → (t new : TextState) → Begins ops t new → HasNumbers t
    → HasNumbers new
begins_text ops spelled t new (fresh, taken) is =
    grown_by (empty_text t.text t.site) ops new (λ k d within. fits_message (get_or ops k d) (spelled k d within)) taken
    (record { site = is.site; taken = All-nil IsNumbered; waits = All-nil IsNumbered })

takes_text : (message : List ℕ) (r : Reply) (t new : TextState) → TakesText message r t new → HasNumbers t
    → HasNumbers new
takes_text message r t new (result, inl malformed, replied) is = subst HasNumbers (sym malformed.1.1) is
takes_text message r t new (result, inr (op, fate, tells, has, does), replied) is =
    becomes t op fate result new (fits_message op tells.valid) does is

takes_short : (message : List ℕ) (r : Reply) (t new : TextState) → TakesTextShort message r t new → HasNumbers t
    → HasNumbers new
takes_short message r t new (result, inl left, replied) is = subst HasNumbers (sym left.1.1) is
takes_short message r t new (result, inr (op, tells, has, does), replied) is =
    taken_in t op true result new (fits_message op tells.valid) does is

-- so do those of a chunk
op_goes : (one : Bool) (t new : TextState) (op : Operation) (result : Result Took Refusal) → HasSpelling op
    → TakesOpSo one t op result new → HasNumbers t → HasNumbers new
op_goes false t new op result valid (fate, has, does) is = becomes t op fate result new (fits_message op valid) does is
op_goes true t new op result valid (inl (has, out)) is = subst HasNumbers (sym out.1.1) is
op_goes true t new op result valid (inr (has, inl does)) is = taken_in t op true result new (fits_message op valid) does is
op_goes true t new op result valid (inr (has, inr stays)) is = subst HasNumbers (sym stays.1) is

-- a merge takes what the other text has

news_fit : (t other : TextState) → HasNumbers other → HaveMessageNumbers (news t other)
news_fit t other fits = All-filter (is_past_front t) IsNumbered other.operations fits.taken

merges_text : (other : TextState) (r : Reply) (t new : TextState) → HasNumbers other → MergesText other r t new
    → HasNumbers t → HasNumbers new
merges_text other r t new fits (result, does, replied) is = go result does
  where
    go : (result : Result ℕ MergeRefusal) → Merges t other result new → HasNumbers new
    go (Ok n) (can, counted, has) = grown_by t (news t other) new (news_fit t other fits) has is
    go (Err (MergesNothing WrongText)) (apart, stays) = subst HasNumbers (sym stays) is
    go (Err (MergesNothing Conflict)) (one, apart, stays) = subst HasNumbers (sym stays) is
    go (Err (MergesNothing why)) does = absurd does
    go (Err (Stopped n)) does = absurd does

merges_short : (other : TextState) (r : Reply) (t new : TextState) → HasNumbers other → MergesTextShort other r t new
    → HasNumbers t → HasNumbers new
merges_short other r t new fits (result, does, replied) is = go result does
  where
    go : (result : Result ℕ MergeRefusal) → MergesShort t other result new → HasNumbers new
    go (Ok n) does = absurd does
    go (Err (MergesNothing why)) does = absurd does
    go (Err (Stopped n)) (can, more, has) =
        grown_by t (take n (news t other)) new (All-take IsNumbered n (news t other) (news_fit t other fits)) has is

-- the operations are the site's own, each the next one
abbrev AreOwn : TextState → List Operation → Type 0
AreOwn t [] = Unit {0}
AreOwn t (op ∷ ops) = (op.site ≡ t.site) × (op.seq ≡ front_of t.operations t.site + 1) × AreOwn (with_operation t op)
    ops

own_inserts : (t : TextState) (pos : ℕ) (pieces : List Stretch) → AreOwn t (inserts t pos pieces)
own_inserts t pos [] = tt
own_inserts t pos (p ∷ pieces) =
    (refl, refl, own_inserts (with_operation t (own_insert t pos p.looks p.bytes)) (pos + length p.bytes) pieces)

own_unless : (t : TextState) (b : Bool) (kind : OpKind) → AreOwn t (if b then own_op t kind ∷ [] else [])
own_unless t true kind = (refl, refl, tt)
own_unless t false kind = tt

own_restore : (t : TextState) (b : Bool) (kind : OpKind) → AreOwn t (if b then [] else own_op t kind ∷ [])
own_restore t true kind = tt
own_restore t false kind = (refl, refl, tt)

own_plan : (t : TextState) (e : Edit) → AreOwn t (plan t e)
own_plan t (insertion pos items) = own_inserts t pos (pieces_of items)
own_plan t (deletion beg end) = own_unless t (nat_lt beg end) _
own_plan t (looks_change beg end sel looks) = own_unless t (nat_lt beg end) _
own_plan t restoration = own_restore t (is_restored t) _
own_plan t (recalling pos) = own_inserts t pos (pieces_of t.last_stretch)

-- one that stands isn't refused for the greatest seq, and so fits
not_spent : (later spent : Bool) (others : Option Refusal)
    → (if later then Some Behind else (if spent then Some SeqSpent else others)) ≡ None → spent ≡ false
not_spent true spent others none = absurd cc
not_spent false true others none = absurd cc
not_spent false false others none = refl

seq_fits : (t : TextState) (kind : OpKind) → refusal_for t kind ≡ None → HasNumbers t
    → front_of t.operations t.site + 1 < 2 ^ 32
seq_fits t kind none is =
    let test : (front_of t.operations t.site == MAX_SEQ) ≡ false = not_spent _
    (front_of t.operations t.site == MAX_SEQ) _ none in
    below_greatest (front_of t.operations t.site) test (small_front t.operations t.site is.taken)
  where
    below_greatest : (n : ℕ) → (n == MAX_SEQ) ≡ false → n < 2 ^ 32 → n + 1 < 2 ^ 32
    below_greatest n test small = grind (arith, test, small)

-- where some stand, the first isn't refused, and of those after it one less stands
stands : (why : Option Refusal) (later : Option (ℕ × Refusal)) (n len : ℕ)
    → suc n ≤ option_map_or (λ stop. stop.0) (refusal_or why later) (suc len)
    → (why ≡ None) × (n ≤ option_map_or (λ stop. stop.0) later len)
stands (Some why) later n len some = absurd (omega (arith, some))
stands None None n len some = (refl, omega (arith, some))
stands None (Some stop) n len some = (refl, omega (arith, some))

standing : (t : TextState) (ops : List Operation) (n : ℕ) → AreOwn t ops → n ≤ count_standing t ops → HasNumbers t
    → HasNumbers (after t (take n ops))
standing t ops zero own few is = is
standing t [] (suc n) own few is = is
standing t (op ∷ ops) (suc n) (site, seq, own) few is =
    let parts = stands (refusal_for t op.kind) (first_refusal (with_operation t op) ops) n (length ops) few in
    let fits : IsNumbered op = (omega (arith, site, is.site), omega (arith, seq, seq_fits t op.kind parts.0 is)) in
    standing (with_operation t op) ops n own parts.1 (record {
      site = is.site;
      taken = All-append IsNumbered t.operations (op ∷ []) is.taken (one op fits);
      waits = is.waits;
    })

counted : (t : TextState) (ops : List Operation) (stop : Option (ℕ × Refusal)) → first_refusal t ops ≡ stop
    → count_standing t ops ≡ option_map_or (λ stop. stop.0) stop (length ops)
counted t ops stop is = ap (λ (o : Option (ℕ × Refusal)). option_map_or (λ stop. stop.0) o (length ops)) is

edits : (t : TextState) (e : Edit) (result : Result ℕ EditRefusal) (new : TextState) (messages : List (List ℕ))
    → Edits t (plan t e) result new messages → HasNumbers t → HasNumbers new
edits t e (Ok n) new messages (none, all, stand) is =
    subst HasNumbers (sym stand.text)
    (standing t (plan t e) n (own_plan t e) (omega (arith, counted t (plan t e) None none, all)) is)
edits t e (Err (Whole why)) new messages (refused, stand) is = subst HasNumbers (sym stand.text) is
edits t e (Err (Partial n why)) new messages (some, refused, stand) is =
    subst HasNumbers (sym stand.text)
    (standing t (plan t e) n (own_plan t e) (omega (arith, counted t (plan t e) (Some (n, why)) refused)) is)

edits_in_part : (t : TextState) (e : Edit) (result : Result ℕ EditRefusal) (new : TextState)
    (messages : List (List ℕ)) → EditsShort t (plan t e) result new messages → HasNumbers t → HasNumbers new
edits_in_part t e (Ok n) new messages short is = absurd short
edits_in_part t e (Err (Whole why)) new messages (memory, some, stand) is = subst HasNumbers (sym stand.text) is
edits_in_part t e (Err (Partial n why)) new messages (memory, some, more, stand) is =
    subst HasNumbers (sym stand.text) (standing t (plan t e) n (own_plan t e) (omega (arith, more)) is)

edits_text : (e : Edit) (r : Reply) (t new : TextState) → EditsText e r t new → HasNumbers t → HasNumbers new
edits_text e r t new does is = elim (by_test (is_in_text t e) _ _ does) [
  | inl (result, messages, done, shows, replied) ↦ edits t e result new messages done is
  | inr stays ↦ subst HasNumbers (sym stays.1) is
]

edits_short : (e : Edit) (r : Reply) (t new : TextState) → EditsTextShort e r t new → HasNumbers t → HasNumbers new
edits_short e r t new (within, (result, messages, done, shows, replied)) is =
    edits_in_part t e result new messages done is

copies_text : (t : TextState) (beg end pos : ℕ) (r : Reply) (u new : TextState) → CopiesText t beg end pos r u new
    → HasNumbers u → HasNumbers new
copies_text t beg end pos r u new does is = elim (by_test (is_copy_in t u beg end pos) _ _ does) [
  | inl positions ↦ elim (by_test (nat_lt MAX_FILE (end - beg)) _ _ positions) [
    | inl stays ↦ subst HasNumbers (sym stays.1) is
    | inr done ↦ edits_text (copied t beg end pos) r u new done is
  ]
  | inr stays ↦ subst HasNumbers (sym stays.1) is
]

copies_in_part : (t : TextState) (beg end pos : ℕ) (r : Reply) (u new : TextState) → CopiesTextShort t beg end pos r u new
    → HasNumbers u → HasNumbers new
copies_in_part t beg end pos r u new (positions, few, inl short) is = edits_short (copied t beg end pos) r u new short is
copies_in_part t beg end pos r u new (positions, few, inr (some, replied, stays)) is = subst HasNumbers (sym stays) is

-- an edit by names makes one operation of the site's own at most
edits_names_text : (what : ByNames) (names : List Range) (r : Reply) (t new : TextState) → EditsNames what names r t new → HasNumbers t
    → HasNumbers new
edits_names_text what names r t new does is = elim (made_or_left what names r t new does) [
  | inl (allowed, taken) ↦
      let op : Operation = op_by_names t what names in
      let fits : IsNumbered op = (is.site, seq_fits t (naming (names_changed t what names)) allowed is) in
      grown_by t (op ∷ []) new (one op fits) taken is
  | inr same ↦ subst HasNumbers (sym same) is
]

settles_text : (stopped : Bool) (r : Reply) (t new : TextState) → SettlesText stopped r t new → HasNumbers t
    → HasNumbers new
settles_text stopped r t new (n, m, drains, replied) is = drained drains is

-- from the text to the run

abbrev AllHaveNumbers : State → Type 0
AllHaveNumbers s = (i text : ℕ) (t : TextState) → IsTextAt s i text t → HasNumbers t

-- so does what a text does in any of the ways that there are
text_goes_so : (s : State) → AllHaveNumbers s → (t u : TextState) → TextGoes s t u → HasNumbers t → HasNumbers u
text_goes_so s all t u (edited e r does) is = edits_text e r t u does is
text_goes_so s all t u (in_part e r does) is = edits_short e r t u does is
text_goes_so s all t u (edits_names what names r does) is = edits_names_text what names r t u does is
text_goes_so s all t u (edits_names_short what names r short) is =
    subst HasNumbers (sym (left_short what names r t u short).1) is
text_goes_so s all t u (copies from beg end pos r does) is = copies_text from beg end pos r t u does is
text_goes_so s all t u (copies_short from beg end pos r does) is = copies_in_part from beg end pos r t u does is
text_goes_so s all t u (takes message r does) is = takes_text message r t u does is
text_goes_so s all t u (taken_short message r does) is = takes_short message r t u does is
text_goes_so s all t u (unpacks_so chunk r does) is = unpacking_keeps HasNumbers op_goes chunk r t u does is
text_goes_so s all t u (unpacks_short chunk r does) is = unpacking_short_keeps HasNumbers op_goes chunk r t u does is
text_goes_so s all t u (settles_so stopped r does) is = settles_text stopped r t u does is
text_goes_so s all t u (merges_so j text other r there does) is = merges_text other r t u (all j text other there) does is
text_goes_so s all t u (merged_short j text other r there does) is =
    merges_short other r t u (all j text other there) does is
text_goes_so s all t u (empties same) is = subst HasNumbers (sym same) (in_room t [] (All-nil IsNumbered) is)
text_goes_so s all t u (begins_anew ops spelled does) is = begins_text ops spelled t u does is

-- telling changes adds no number
tells_so : (t u : TextState) → u ≡ all_told t → HasNumbers t → HasNumbers u
tells_so t u is has = subst HasNumbers (sym is) (record { site = has.site; taken = has.taken; waits = has.waits })

-- and what the run's texts do
goes_so : (s new : State) → TextsGo s new → AllHaveNumbers s → AllHaveNumbers new
goes_so s new (as_they_are same) all i number u (x, at_x, there) =
    all i number u (x, ap (λ (ds : List SiteTexts). slice_get ds i) (sym same) ∙ at_x, there)
goes_so s new (by_text i text d d' at (t, t', there, (t'', does, told), is) desks) all j number u (x, at_x, there_x) =
    let texts : d'.texts ≡ slice_set d.texts (text - 1) t' = ap (λ (x : SiteTexts). x.texts) is in
    elim (set_cases s.desks i j d' x (rw desks at at_x)) [
      | inl same ↦ let there' : slice_get d'.texts (number - 1) ≡ Some u
          = subst (λ (y : SiteTexts). IsTextOf y number u) same there_x in
          elim (set_cases d.texts (text - 1) (number - 1) t' u (rw texts at there')) [
            | inl same' ↦ subst HasNumbers (sym same')
                (tells_so t'' t' told (text_goes_so s all t t'' does (all i text t (d, at, there))))
            | inr before ↦ all i number u (d, at, before)
          ]
      | inr before ↦ all j number u (x, before, there_x)
    ]

-- an element that is made of a number of a range
of_range : {A : Type 0} (f : ℕ → A) (a n i : ℕ) (y : A) → slice_get (map f (range_with_len a n)) i ≡ Some y
    → (k : ℕ) × (k < a + n) × (f k ≡ y)
of_range f a zero i y at = absurd cc
of_range f a (suc n) zero y at = (a, omega arith, same_Some (f a) y at)
of_range f a (suc n) (suc i) y at = let (k, below, is) = of_range f (a + 1) n i y at in (k, omega (arith, below), is)

new_so : (first count width height : ℕ) (files : Files) → first + count ≤ 2 ^ 16
    → AllHaveNumbers (new_state first count width height files)
new_so first count width height files few i text t (d, at, there) =
    let (site, below, is) = of_range fresh_texts first count i d at in
    let here : slice_get (fresh_texts site).texts (text - 1) ≡ Some t = ap
    (λ (x : SiteTexts). slice_get x.texts (text - 1)) is ∙ there in
    let (number, some, same) = of_range (λ (n : ℕ). empty_text n site) 1 16 (text - 1) t here in
    subst HasNumbers same (record {
      site =
          omega (arith, below, few);
      taken = All-nil IsNumbered;
      waits = All-nil IsNumbered;
    })

reached_so : (first count width height : ℕ) (files : Files) (s : State) → first + count ≤ 2 ^ 16
    → Reached first count width height files s → AllHaveNumbers s
reached_so first count width height files s few begins = new_so first count width height files few
reached_so first count width height files s few (goes_on {s = before} e part r new reached replies) =
    goes_so before new (replies_go before e part r new replies).0
    (reached_so first count width height files before few reached)
reached_so first count width height files s few (others_write {s = before} now reached) =
    reached_so first count width height files before few reached

pub reached-numbered : WhatIsReachedIsNumbered
reached-numbered first count width height files s i text t few reached there =
    (reached_so first count width height files s few reached i text t there).taken
