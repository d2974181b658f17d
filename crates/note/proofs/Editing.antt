-- What an own edit leaves of a text's replica.
use Rattle.std.proofs.Common.{◌≡◌, ◌≢◌, ℕ, ◌+◌, ◌-◌, ◌<◌, ◌≤◌, inl, inr, List, [], ◌∷◌, ◌++◌, length, take, slice_index_or, Bool, true, false, MatchBool, MatchOption}
use Rattle.std.proofs.Common.{Option, Some, None, Result, Ok, Err, refl, sym, ap, subst, ◌∙◌, arith}
use Rattle.std.proofs.lemmas.Bool.{cases_eq}
use Rattle.std.specs.Prelude.{IfOk}
use Rattle.std.proofs.lemmas.List.{append-nil, get_or_default, length-append, take-append-le}
use Rattle.looks.specs.declared.refusal.Refusal.{Refusal}
use Rattle.operations.specs.NameSet.{Range}
use Rattle.operations.specs.Operation.{Operation}
use Rattle.texts.specs.Edit.{Edit, after, insertion, deletion, looks_change, plan, with_operation}
use Rattle.texts.specs.Named.{EditsByNamesSending, IsLeft, IsMade, changes_any, names_changed, op_by_names, refusal_of_names}
use Rattle.texts.specs.Outcome.{Edits, EditsSending, EditsShort, Stand}
use Rattle.texts.specs.TextState.{TextState, all_told}
use Rattle.texts.specs.declared.by_names.ByNames.{ByNames}
use Rattle.texts.specs.declared.edit_refusal.EditRefusal.{EditRefusal}
use Rattle.texts.specs.declared.edit_refusal.EditRefusal.TheVariants.{Whole, Partial}
use Rattle.convergence.proofs.OwnOperations.{after_operations, after_room}
use Rattle.note_laws.specs.Note.{Note, Entries, Saying}
use Rattle.note_laws.specs.Admission.{BuildsOn}
use Rattle.note_hashes.specs.Hashes.{digest_of, said_by}
use Rattle.note_admission.specs.Growing.{AreAdmitted, AreTaken, TextSeen}
use Rattle.note_replicas.specs.Following.{IsOfPlace}
use Rattle.note.specs.Editing.{DoesEdit, HasEditedText, IsSaidWell}
use Rattle.note.specs.Texts.{EachText, IsFollowing, IsTextOfNote, NoteText}
use Rattle.note.specs.declared.own_edit.OwnEdit.{OwnEdit}
use Rattle.note.specs.declared.own_edit.OwnEdit.TheVariants as own

-- it is the same site's copy of the same text, in which no more waits, and operations stand behind those that were taken in
pub record HasGrown (t new : TextState) : Type 0 where
  pub place : IsOfPlace t new
  pub room : new.waiting_room ≡ t.waiting_room
  pub more : List Operation
  pub taken : new.operations ≡ t.operations ++ more

not_grown : (t new : TextState) → new ≡ t → HasGrown t new
not_grown t new same =
    subst (HasGrown t) (sym same)
    (record { place = record { text = refl; site = refl }; room = refl; more = []; taken = sym (append-nil t.operations) })

after_place : (t : TextState) (ops : List Operation) → IsOfPlace t (after t ops)
after_place t [] = record { text = refl; site = refl }
after_place t (op ∷ ops) =
    let is = after_place (with_operation t op) ops in
    record { text = is.text; site = is.site }

standing : (t : TextState) (ops : List Operation) (n : ℕ) (new : TextState) (messages : List (List ℕ))
    → Stand t ops n new messages → HasGrown t new
standing t ops n new messages stand =
    let made = take n ops in
    subst (HasGrown t) (sym stand.text)
    (record { place = after_place t made; room = after_room t made; more = made; taken = after_operations t made })

edited : (t : TextState) (ops : List Operation) (result : Result ℕ EditRefusal) (new : TextState) (messages : List (List ℕ))
    → Edits t ops result new messages → HasGrown t new
edited t ops (Ok n) new messages (none, all, stand) = standing t ops n new messages stand
edited t ops (Err (Whole why)) new messages (refused, stand) = standing t ops 0 new messages stand
edited t ops (Err (Partial n why)) new messages (some, refused, stand) = standing t ops n new messages stand

edited_short : (t : TextState) (ops : List Operation) (result : Result ℕ EditRefusal) (new : TextState)
    (messages : List (List ℕ)) → EditsShort t ops result new messages → HasGrown t new
edited_short t ops (Ok n) new messages short = absurd short
edited_short t ops (Err (Whole why)) new messages (memory, takes, stand) = standing t ops 0 new messages stand
edited_short t ops (Err (Partial n why)) new messages (memory, some, fewer, stand) = standing t ops n new messages stand

edited_sending : (t : TextState) (e : Edit) (result : Result ℕ EditRefusal) (new : TextState) (sent sent' : List (List ℕ))
    → EditsSending t e result new sent sent' → HasGrown t new
edited_sending t e result new sent sent' (messages, sends, shows, inl edits) = edited t (plan t e) result new messages edits
edited_sending t e result new sent sent' (messages, sends, shows, inr short) =
    edited_short t (plan t e) result new messages short

module _ (t new : TextState) (what : ByNames) (names : List Range) (result : Result ℕ EditRefusal)
    (messages : List (List ℕ)) where
  named_made : (why : Option Refusal)
      → MatchOption why (IsMade t (op_by_names t what names) result new messages)
      (λ r. IsLeft t (Err (Whole r)) result new messages)
      → HasGrown t new
  named_made None (answer, has, sent) =
      let op = op_by_names t what names in
      subst (HasGrown t) (sym has.grown)
      (record { place = record { text = refl; site = refl }; room = refl; more = op ∷ []; taken = refl })
  named_made (Some r) (answer, same, sent) = not_grown t new same

  named : (any : Bool)
      → MatchBool any
      (MatchOption (refusal_of_names t (names_changed t what names)) (IsMade t (op_by_names t what names) result new messages)
      (λ why. IsLeft t (Err (Whole why)) result new messages))
      (IsLeft t (Ok 0) result new messages)
      → HasGrown t new
  named true made = named_made (refusal_of_names t (names_changed t what names)) made
  named false (answer, same, sent) = not_grown t new same

edited_by_names : (t : TextState) (what : ByNames) (names : List Range) (result : Result ℕ EditRefusal) (new : TextState)
    (sent sent' : List (List ℕ)) → EditsByNamesSending t what names result new sent sent' → HasGrown t new
edited_by_names t what names result new sent sent' (messages, sends, inl edits) =
    named t new what names result messages (changes_any t what names) edits
edited_by_names t what names result new sent sent' (messages, sends, inr (any, why, (answer, same, none))) =
    not_grown t new same

pub does_edit : (edit : OwnEdit) (t : TextState) (result : Result ℕ EditRefusal) (new : TextState) (sent sent' : List (List ℕ))
    → DoesEdit edit t result new sent sent' → HasGrown t new
does_edit (own.Insert pos buffer) t result new sent sent' does = edited_sending t (insertion pos buffer) result new sent sent' does
does_edit (own.Delete beg end) t result new sent sent' does = edited_sending t (deletion beg end) result new sent sent' does
does_edit (own.ChangeLooks beg end sel looks) t result new sent sent' does =
    edited_sending t (looks_change beg end sel looks) result new sent sent' does
does_edit (own.ByNames what names) t result new sent sent' does =
    edited_by_names t what names.items result new sent sent' does

-- a text follows what is admitted, as before
pub follows_still : (t : NoteText) (new : TextState) → IsFollowing t → HasGrown t.replica new
    → IsFollowing (record t { replica = new })
follows_still t new is grown =
    let sum : length new.operations ≡ length t.replica.operations + length grown.more =
    ap length grown.taken ∙ length-append t.replica.operations grown.more in
    record {
      of_text = grown.place.text ∙ is.of_text;
      none_waits = grown.room ∙ is.none_waits;
      taken = let within = is.taken in omega arith;
      admitted = is.admitted;
      same =
          ap (take t.alike) grown.taken ∙ (take-append-le t.alike t.replica.operations grown.more is.taken ∙ is.same);
    }

-- a text of a note, by its number
pub numbered : (texts : List NoteText) (text at : ℕ) (d t : NoteText) → at + 1 ≡ text → at < length texts
    → t ≡ slice_index_or texts at t → slice_index_or texts (text - 1) d ≡ t
numbered texts text at d t nth lt is =
    let here : at ≡ text - 1 = omega arith in
    subst (λ (k : ℕ). slice_index_or texts k d ≡ t) here (sym (get_or_default texts at t d lt) ∙ sym is)

-- what is said with its hash is said well, where it says what it builds on
pub if_said : (key : List ℕ) (author before : ℕ) (op : Operation) (on : Option ℕ) (t : NoteText) (r : Result Saying Refusal)
    → IfOk r (λ s. s ≡ said_by key author before op on)
    → ((note : Note) (entries : Entries) (admitted : List Saying) → note.digest ≡ digest_of key
    → AreTaken note entries t.admission admitted → (s : Saying) → s.op ≡ op → s.on ≡ on → BuildsOn note admitted s)
    → IfOk r (λ s. IsSaidWell key author before op t s)
if_said key author before op on t (Ok s) is builds =
    let says : s.on ≡ on = ap (λ (x : Saying). x.on) is in
    record {
      said = is ∙ sym (ap (said_by key author before op) says);
      builds = λ note entries admitted digest taken.
          builds note entries admitted digest taken s (ap (λ (x : Saying). x.op) is) says;
    }
if_said key author before op on t (Err why) is builds = tt

-- so it does where only its changes were told
pub told_still : (t : NoteText) (new : TextState) (anew : Bool) → IsFollowing t → new ≡ all_told t.replica
    → IsFollowing (record t { replica = new; anew = anew })
told_still t new anew is same =
    let taken : new.operations ≡ t.replica.operations = ap (λ (u : TextState). u.operations) same in
    record {
      of_text = ap (λ (u : TextState). u.text) same ∙ is.of_text;
      none_waits = ap (λ (u : TextState). u.waiting_room) same ∙ is.none_waits;
      taken = subst (λ (ops : List Operation). t.alike ≤ length ops) (sym taken) is.taken;
      admitted = is.admitted;
      same = ap (take t.alike) taken ∙ is.same;
    }

-- each text is of the same entries, where one was edited
pub texts_edited : (note : Note) (entries : Entries) (old new : List NoteText) → length new ≡ length old
    → EachText (λ k t. IsTextOfNote note entries t) old
    → ((k : ℕ) (d : NoteText) → (slice_index_or new k d).admission ≡ (slice_index_or old k d).admission)
    → EachText (λ k t. IsTextOfNote note entries t) new
texts_edited note entries old new many are same k d lt =
    let within : k < length old = omega arith in
    let (admitted, is) = are k d within in
    (admitted, subst (λ (a : TextSeen). AreAdmitted note entries a admitted) (sym (same k d)) is)

-- what is admitted of each text stays, where it stays of one, and the others stay as they are
pub admissions_stay : (old new : List NoteText) (at : ℕ)
    → ((k : ℕ) (d : NoteText) → k ≢ at → slice_index_or new k d ≡ slice_index_or old k d)
    → ((d : NoteText) → (slice_index_or new at d).admission ≡ (slice_index_or old at d).admission)
    → (k : ℕ) (d : NoteText) → (slice_index_or new k d).admission ≡ (slice_index_or old k d).admission
admissions_stay old new at others own k d = elim (cases_eq k at) [
  | inl same ↦
      subst (λ (n : ℕ). (slice_index_or new n d).admission ≡ (slice_index_or old n d).admission) (sym same) (own d)
  | inr apart ↦ ap (λ (t : NoteText). t.admission) (others k d apart)
]

-- a text of which this was edited
pub edited_text : (edit e : OwnEdit) (x t : NoteText) (result : Result ℕ EditRefusal) (new : TextState) (sent sent' : List (List ℕ))
    → edit ≡ e → x ≡ t → DoesEdit e x.replica result new sent sent'
    → HasEditedText edit t result (record x { replica = new }) sent sent'
edited_text edit e x t result new sent sent' same is does = (
  subst (λ (one : OwnEdit). DoesEdit one t.replica result new sent sent') (sym same)
      (subst (λ (u : NoteText). DoesEdit e u.replica result new sent sent') is does),
  ap (λ (u : NoteText). record u { replica = new }) is,
)
