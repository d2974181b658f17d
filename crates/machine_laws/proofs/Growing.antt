-- An event lets a text grow: it is what its operations define still, and what it takes in stands after what it had.
use Rattle.std.proofs.Common.{◌≡◌, ℕ, ◌-◌, List, [], ◌∷◌, ◌++◌, take, Bool, true, false, Result, Ok, Err, refl, sym, ap}
use Rattle.std.proofs.Common.{subst, ◌∙◌, inl, inr, append_assoc}
use Rattle.std.specs.Prelude.{nat_lt}
use Rattle.std.proofs.lemmas.List.{append-nil}
use Rattle.looks.specs.declared.refusal.Refusal.{Refusal}
use Rattle.looks.specs.declared.refusal.Refusal.TheVariants.{RoomFull}
use Rattle.char_files.specs.declared.TheConstants.{MAX_FILE}
use Rattle.operations.specs.NameSet.{Range}
use Rattle.operations.specs.Operation.{Operation}
use Rattle.texts.specs.Draining.{Drains, ends, stops, takes_in, throws_away}
use Rattle.texts.specs.Edit.{Edit, after, is_in_text, plan, with_operation}
use Rattle.texts.specs.Laws.{OwnEditsArePlain}
use Rattle.texts.specs.Merge.{Merges, MergesShort}
use Rattle.texts.specs.Outcome.{Edits, EditsShort, Stand}
use Rattle.texts.specs.Take.{Becomes, Enters, Stays, TakesIn}
use Rattle.texts.specs.Taking.{HasTakenAll}
use Rattle.texts.specs.Text.{IsText}
use Rattle.texts.specs.TextState.{TextState, with_room}
use Rattle.texts.specs.declared.by_names.ByNames.{ByNames}
use Rattle.texts.specs.declared.edit_refusal.EditRefusal.{EditRefusal}
use Rattle.texts.specs.declared.edit_refusal.EditRefusal.TheVariants.{Whole, Partial}
use Rattle.texts.specs.declared.fate.Fate.{Fate}
use Rattle.texts.specs.declared.fate.Fate.TheVariants.{AlreadyWaits, Conflicting, Known, LowStamp, Misfit, OtherText, Ready, Wait}
use Rattle.texts.specs.declared.merge_refusal.MergeRefusal.{MergeRefusal}
use Rattle.texts.specs.declared.merge_refusal.MergeRefusal.TheVariants.{Whole as MergesNothing, Stopped}
use Rattle.texts.specs.declared.took.Took.{Took}
use Rattle.texts.specs.declared.took.Took.TheVariants.{Waits}
use Rattle.machine.specs.Events.{Reply}
use Rattle.machine.specs.OnTexts.{CopiesText, CopiesTextShort, EditsNames, EditsNamesShort, EditsText, EditsTextShort, SettlesText, TakesText}
use Rattle.machine.specs.OnTexts.{TakesTextShort, copied, is_copy_in}
use Rattle.machine_laws.proofs.NamedEdits.{left_short, made_or_left, named_text, named_text_short}
use Rattle.machine_laws.proofs.Reaching.{copies_text, copies_text_short, edits_text, edits_text_short, left_by_merge}
use Rattle.machine_laws.proofs.Reaching.{merged, merged_short, settles_text, takes_text, takes_text_short}
use Rattle.machine_laws.proofs.Rooms.{by_test}
use Rattle.machine_laws.specs.Growing.{Grows}

-- what a text took in stands after what it had, and it wasn't asked for its changes
abbrev pub Adds : TextState → TextState → Type 0
Adds t new = (more : List Operation) × (new.operations ≡ t.operations ++ more) × (new.asked ≡ t.asked)

adds_none : (t new : TextState) → new ≡ t → Adds t new
adds_none t new same = subst (Adds t) (sym same) ([], sym (append-nil t.operations), refl)

adds_more : (t mid new : TextState) → Adds t mid → Adds mid new → Adds t new
adds_more t mid new (more, taken, asked) (more', taken', asked') = (
  more ++ more',
  taken' ∙ ap (λ (ops : List Operation). ops ++ more') taken ∙ append_assoc t.operations more more',
  asked' ∙ asked,
)

taken_adds : (t new : TextState) (ops : List Operation) → HasTakenAll t ops new → Adds t new
taken_adds t new ops taken = (
  ops,
  ap (λ (x : TextState). x.operations) taken.grown,
  ap (λ (x : TextState). x.asked) taken.grown,
)

draining_adds : {t new : TextState} {drained dropped : ℕ} {stopped : Bool} → Drains t drained dropped stopped new → Adds t new
draining_adds {t} (ends all) = adds_none t t refl
draining_adds {t} (stops earlier later op next judged) = adds_none t t refl
draining_adds {t} {new} (takes_in {with_op = with_op} earlier later op next judged taken rest) =
    adds_more t with_op new (taken_adds (with_room t (earlier ++ later)) with_op (op ∷ []) taken) (draining_adds rest)
draining_adds (throws_away earlier later op next thrown rest) = draining_adds rest

-- own operations

after_adds : (t : TextState) (ops : List Operation) → Adds t (after t ops)
after_adds t [] = adds_none t t refl
after_adds t (op ∷ ops) =
    adds_more t (with_operation t op) (after t (op ∷ ops)) (op ∷ [], refl, refl) (after_adds (with_operation t op) ops)

standing_adds : (t : TextState) (ops : List Operation) (n : ℕ) (new : TextState) (messages : List (List ℕ))
    → Stand t ops n new messages → Adds t new
standing_adds t ops n new messages stand = subst (Adds t) (sym stand.text) (after_adds t (take n ops))

edit_adds : (t : TextState) (ops : List Operation) (result : Result ℕ EditRefusal) (new : TextState)
    (messages : List (List ℕ)) → Edits t ops result new messages → Adds t new
edit_adds t ops (Ok n) new messages (none, all, stand) = standing_adds t ops n new messages stand
edit_adds t ops (Err (Whole why)) new messages (refused, stand) = standing_adds t ops 0 new messages stand
edit_adds t ops (Err (Partial n why)) new messages (some, refused, stand) = standing_adds t ops n new messages stand

edit_adds_short : (t : TextState) (ops : List Operation) (result : Result ℕ EditRefusal) (new : TextState)
    (messages : List (List ℕ)) → EditsShort t ops result new messages → Adds t new
edit_adds_short t ops (Ok n) new messages short = absurd short
edit_adds_short t ops (Err (Whole why)) new messages (memory, takes_it, stand) = standing_adds t ops 0 new messages stand
edit_adds_short t ops (Err (Partial n why)) new messages (memory, some, more, stand) =
    standing_adds t ops n new messages stand

edits_add : (e : Edit) (r : Reply) (t new : TextState) → EditsText e r t new → Adds t new
edits_add e r t new does =
    elim (by_test (is_in_text t e) _ _ does) [
      | inl done ↦ let (result, messages, edits, shows, replied) = done.1 in edit_adds t (plan t e) result new messages edits
      | inr left ↦ adds_none t new left.1.1
    ]

edits_add_short : (e : Edit) (r : Reply) (t new : TextState) → EditsTextShort e r t new → Adds t new
edits_add_short e r t new (within, (result, messages, edits, shows, replied)) =
    edit_adds_short t (plan t e) result new messages edits

copies_add : (t : TextState) (beg end pos : ℕ) (r : Reply) (u new : TextState) → CopiesText t beg end pos r u new → Adds u new
copies_add t beg end pos r u new does =
    elim (by_test (is_copy_in t u beg end pos) _ _ does) [
      | inl positions ↦ elim (by_test (nat_lt MAX_FILE (end - beg)) _ _ positions.1) [
        | inl long ↦ adds_none u new long.1.1
        | inr short ↦ edits_add (copied t beg end pos) r u new short.1
      ]
      | inr left ↦ adds_none u new left.1.1
    ]

copies_add_short : (t : TextState) (beg end pos : ℕ) (r : Reply) (u new : TextState) → CopiesTextShort t beg end pos r u new
    → Adds u new
copies_add_short t beg end pos r u new (positions, few, inl short) = edits_add_short (copied t beg end pos) r u new short
copies_add_short t beg end pos r u new (positions, few, inr (some, replied, same)) = adds_none u new same

-- messages of others

taking_adds : (t : TextState) (op : Operation) (stopped : Bool) (result : Result Took Refusal) (new : TextState)
    → TakesIn t op stopped result new → Adds t new
taking_adds t op stopped result new (with_op, drained, dropped, taken, drains, answered) =
    adds_more t with_op new (taken_adds t with_op (op ∷ []) taken) (draining_adds drains)

entering_adds : (t : TextState) (op : Operation) (result : Result Took Refusal) (new : TextState) → Enters t op result new
    → Adds t new
entering_adds t op result new enters =
    let waits = (result ≡ Ok Waits) × (new ≡ with_room t (t.waiting_room ++ op ∷ [])) in
    elim (by_test _ waits (Stays t (Err RoomFull) result new) enters) [
      | inl place ↦ subst (Adds t) (sym place.1.1) ([], sym (append-nil t.operations), refl)
      | inr none ↦ adds_none t new none.1.1
    ]

fate_adds : (t : TextState) (op : Operation) (fate : Fate) (result : Result Took Refusal) (new : TextState)
    → Becomes t op fate result new → Adds t new
fate_adds t op OtherText result new does = adds_none t new does.1
fate_adds t op Known result new does = adds_none t new does.1
fate_adds t op Conflicting result new does = adds_none t new does.1
fate_adds t op AlreadyWaits result new does = adds_none t new does.1
fate_adds t op Wait result new does = entering_adds t op result new does
fate_adds t op Misfit result new does = adds_none t new does.1
fate_adds t op LowStamp result new does = adds_none t new does.1
fate_adds t op Ready result new does = taking_adds t op false result new does

takes_add : (message : List ℕ) (r : Reply) (t new : TextState) → TakesText message r t new → Adds t new
takes_add message r t new (result, inl (spells_none, stays), replied) = adds_none t new stays.1
takes_add message r t new (result, inr (op, fate, tells, has, becomes), replied) = fate_adds t op fate result new becomes

takes_add_short : (message : List ℕ) (r : Reply) (t new : TextState) → TakesTextShort message r t new → Adds t new
takes_add_short message r t new (result, inl (spells, stays), replied) = adds_none t new stays.1
takes_add_short message r t new (result, inr (op, tells, has, takes_it), replied) = taking_adds t op true result new takes_it

merge_adds : (t u : TextState) (result : Result ℕ MergeRefusal) (new : TextState) → Merges t u result new → Adds t new
merge_adds t u (Ok count) new merges = taken_adds t new _ merges.2
merge_adds t u (Err (MergesNothing why)) new merges = adds_none t new (left_by_merge t u why new merges)
merge_adds t u (Err (Stopped done)) new merges = absurd merges

merge_adds_short : (t u : TextState) (result : Result ℕ MergeRefusal) (new : TextState) → MergesShort t u result new
    → Adds t new
merge_adds_short t u (Ok count) new merges = absurd merges
merge_adds_short t u (Err (MergesNothing why)) new merges = absurd merges
merge_adds_short t u (Err (Stopped done)) new merges = taken_adds t new _ merges.2

-- events

grown : (t new : TextState) → IsText t → IsText new → Adds t new → Grows t new
grown t new was is (more, taken, asked) = record { was = was; is = is; more = more; taken = taken; asked = asked }

-- a message that is taken lets the text grow
pub takes_grow : (message : List ℕ) (r : Reply) (t new : TextState) → TakesText message r t new → IsText t → Grows t new
takes_grow message r t new does is = grown t new is (takes_text message r t new does is) (takes_add message r t new does)

pub takes_short_grow : (message : List ℕ) (r : Reply) (t new : TextState) → TakesTextShort message r t new → IsText t
    → Grows t new
takes_short_grow message r t new does is =
    grown t new is (takes_text_short message r t new does is) (takes_add_short message r t new does)

-- so does a settling
pub settles_grow : (stopped : Bool) (r : Reply) (t new : TextState) → SettlesText stopped r t new → IsText t → Grows t new
settles_grow stopped r t new does is =
    grown t new is (settles_text stopped r t new does is)
    (let (drained, dropped, drains, replied) = does in draining_adds drains)

-- and a merge
pub merges_grow : (t u : TextState) (result : Result ℕ MergeRefusal) (new : TextState) → Merges t u result new → IsText t
    → Grows t new
merges_grow t u result new merges is = grown t new is (merged t u result new merges is) (merge_adds t u result new merges)

pub merges_short_grow : (t u : TextState) (result : Result ℕ MergeRefusal) (new : TextState) → MergesShort t u result new
    → IsText t → Grows t new
merges_short_grow t u result new merges is =
    grown t new is (merged_short t u result new merges) (merge_adds_short t u result new merges)

-- and an edit by names
pub named_edits_grow : (what : ByNames) (names : List Range) (r : Reply) (t new : TextState) → EditsNames what names r t new → IsText t
    → Grows t new
named_edits_grow what names r t new does is =
    grown t new is (named_text what names r t new does is) (elim (made_or_left what names r t new does) [
      | inl made ↦ taken_adds t new _ made.1
      | inr same ↦ adds_none t new same
    ])

pub named_edits_short_grow : (what : ByNames) (names : List Range) (r : Reply) (t new : TextState)
    → EditsNamesShort what names r t new → IsText t → Grows t new
named_edits_short_grow what names r t new short is =
    grown t new is (named_text_short what names r t new short is) (adds_none t new (left_short what names r t new short).1)

module _ (plain : OwnEditsArePlain) where
  -- and an own edit, however many of its operations stand
  pub edits_grow : (e : Edit) (r : Reply) (t new : TextState) → EditsText e r t new → IsText t → Grows t new
  edits_grow e r t new does is = grown t new is (edits_text plain e r t new does is) (edits_add e r t new does)

  pub edits_short_grow : (e : Edit) (r : Reply) (t new : TextState) → EditsTextShort e r t new → IsText t → Grows t new
  edits_short_grow e r t new does is =
      grown t new is (edits_text_short plain e r t new does is) (edits_add_short e r t new does)

  -- a copy lets the text grow into which it goes
  pub copies_grow : (t : TextState) (beg end pos : ℕ) (r : Reply) (u new : TextState) → CopiesText t beg end pos r u new
      → IsText u → Grows u new
  copies_grow t beg end pos r u new does is =
      grown u new is (copies_text plain t beg end pos r u new does is) (copies_add t beg end pos r u new does)

  pub copies_short_grow : (t : TextState) (beg end pos : ℕ) (r : Reply) (u new : TextState)
      → CopiesTextShort t beg end pos r u new → IsText u → Grows u new
  copies_short_grow t beg end pos r u new does is =
      grown u new is (copies_text_short plain t beg end pos r u new does is) (copies_add_short t beg end pos r u new does)
