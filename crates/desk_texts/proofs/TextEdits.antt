-- From an edit of a replica to one of a desk's text.
use Rattle.std.proofs.Common.{◌≡◌, ℕ, ◌<◌, ◌≤◌, ◌-◌, true, false, List, [], ◌++◌, length, map, take}
use Rattle.std.proofs.Common.{Result, Ok, Err, refl, sym, ap, ◌∙◌, append-nil, inl, inr, arith}
use Rattle.std.specs.Prelude.{◌⊎◌, ◌↔◌, IfErr, IfOk, IsErrOf, IsOk, IsTrue, nat_le, nat_lt, slice_range}
use Rattle.std.proofs.lemmas.Bool.{and_from, and_parts, false_from_ne_true, le-ltb, leb-true, lt-ltb, ltb-false}
use Rattle.std.proofs.lemmas.Bool.{ltb-true, true_from_ne_false}
use Rattle.std.proofs.lemmas.List.{length-map, take_all}
use Rattle.looks.specs.declared.refusal.Refusal.{Refusal}
use Rattle.looks.specs.declared.refusal.Refusal.TheVariants.{FileSpent, OutOfMemory, OutOfRange}
use Rattle.char_files.specs.Stretch.{Item}
use Rattle.char_files.specs.declared.TheConstants.{MAX_FILE}
use Rattle.operations.specs.Operation.{Operation}
use Rattle.operations.specs.Spelling.{spelling}
use Rattle.texts.specs.Edit.{Edit, is_in_text, is_range_in, plan}
use Rattle.texts.specs.Outcome.{Edits, EditsSending, EditsShort, Shows}
use Rattle.texts.specs.TextState.{TextState, shown_items, shown_of}
use Rattle.texts.specs.declared.edit_refusal.EditRefusal.{EditRefusal}
use Rattle.texts.specs.declared.edit_refusal.EditRefusal.TheVariants.{Whole, Partial}
use Rattle.machine.specs.Events.{Reply, edit_reply, refuses}
use Rattle.machine.specs.OnTexts.{CopiesText, CopiesTextSending, EditsText, EditsTextSending, EditsTextShort, copied, is_copy_in}
use Rattle.desk_texts.specs.TextStep.{CopiesOut}

-- ---- from a replica's edit to a text's

-- all operations of an edit that was done have their messages
count_of_messages : (ops : List Operation) (n : ℕ) (messages : List (List ℕ)) → n ≡ length ops
    → messages ≡ map spelling (take n ops) → n ≡ length messages
count_of_messages ops n messages all told =
    let whole : take n ops ≡ ops = rw all (take_all (length ops) ops (omega arith)) in
    let told_all : messages ≡ map spelling ops = told ∙ ap (map spelling) whole in
    let len : length (map spelling ops) ≡ length ops = simp length-map in
    all ∙ sym len ∙ sym (ap (length {A = List ℕ}) told_all)

-- an edit in the text does what its operations do
edits_in_text : (t : TextState) (e : Edit) (result : Result ℕ EditRefusal) (new : TextState) (messages : List (List ℕ))
    → is_in_text t e ≡ true → Edits t (plan t e) result new messages
    → Shows t e result new → EditsText e (edit_reply result messages) t new
edits_in_text t e result new messages in_text does shows = rw in_text (result, messages, does, shows, refl)

-- the same where memory was refused
short_in_text : (t : TextState) (e : Edit) (result : Result ℕ EditRefusal) (new : TextState)
    (messages : List (List ℕ)) → is_in_text t e ≡ true → EditsShort t (plan t e) result new messages
    → Shows t e result new → EditsTextShort e (edit_reply result messages) t new
short_in_text t e result new messages in_text short shows =
    (in_text, (result, messages, short, shows, refl))

-- where nothing was done, nothing was sent
none_sent : (sent sent' messages : List (List ℕ)) → sent' ≡ sent ++ messages → messages ≡ [] → sent' ≡ sent ++ []
none_sent sent sent' messages sent_is none = sent_is ∙ ap (λ (ms : List (List ℕ)). sent ++ ms) none

module _ (t : TextState) (e : Edit) (sent : List (List ℕ)) where
  -- what the replica's edit promises is what the desk's owes of its text
  pub text_edited : is_in_text t e ≡ true → (result : Result ℕ EditRefusal) (new : TextState)
      (sent' : List (List ℕ)) → EditsSending t e result new sent sent'
      → EditsTextSending t e result new sent sent'
  text_edited in_text (Ok n) new sent' (messages, sent_is, shows, inl does) = (
    messages,
    count_of_messages (plan t e) n messages does.1 does.2.told,
    sent_is,
    inl (edits_in_text t e (Ok n) new messages in_text does shows),
  )
  text_edited in_text (Ok n) new sent' (messages, sent_is, shows, inr short) = absurd short
  text_edited in_text (Err (Whole why)) new sent' (messages, sent_is, shows, inl does) = (
    messages,
    tt,
    none_sent sent sent' messages sent_is does.1.told,
    inl (edits_in_text t e (Err (Whole why)) new messages in_text does shows),
  )
  text_edited in_text (Err (Whole why)) new sent' (messages, sent_is, shows, inr short) = (
    messages,
    tt,
    none_sent sent sent' messages sent_is short.2.told,
    inr (short_in_text t e (Err (Whole why)) new messages in_text short shows),
  )
  text_edited in_text (Err (Partial done why)) new sent' (messages, sent_is, shows, inl does) =
      (messages, tt, sent_is, inl (edits_in_text t e (Err (Partial done why)) new messages in_text does shows))
  text_edited in_text (Err (Partial done why)) new sent' (messages, sent_is, shows, inr short) =
      (messages, tt, sent_is, inr (short_in_text t e (Err (Partial done why)) new messages in_text short shows))

  -- positions outside the text are refused, and nothing is done
  pub text_outside : is_in_text t e ≡ false → EditsTextSending t e (Err (Whole OutOfRange)) t sent sent
  text_outside out = ([], tt, sym (append-nil sent), inl (rw out (refl, refl)))

-- ---- copies

-- what a replica saves is what a copy is to put in
module _ (t u : TextState) (beg end pos : ℕ) (in_range : is_range_in t beg end ≡ true) (in_text : nat_le pos (length
    (shown_of u)) ≡ true) where
  in_both : is_copy_in t u beg end pos ≡ true
  in_both = and_from _ _ in_range in_text

  pub copied_out : (result : Result (List Item) Refusal)
      → IfOk result (λ items. items ≡ slice_range (shown_items t) beg end)
      → (IsErrOf result FileSpent ↔ (MAX_FILE < end - beg))
      → IfErr result (λ e. (e ≡ FileSpent) ⊎ (e ≡ OutOfMemory)) → (beg ≡ end → IsOk result)
      → CopiesOut t beg end pos u result
  copied_out (Ok items) is long errors empty =
      let few : end - beg ≤ MAX_FILE =
      ltb-false MAX_FILE (end - beg) (false_from_ne_true _ (λ lt. (let spent = long.1 (ltb-true _ _ lt) in cc))) in
      (in_both, few, is)
  copied_out (Err why) is long (inl spent) empty =
      let lt : nat_lt MAX_FILE (end - beg) ≡ true = lt-ltb _ _ (long.0 (ap Err spent)) in
      inl (rw (in_both, lt) (ap refuses spent, refl))
  copied_out (Err why) is long (inr short) empty =
      let (le, within) = and_parts (nat_le beg end) _ in_range in
      let some : nat_lt beg end ≡ true = true_from_ne_false _ (λ none. (
      let ok = empty (omega (arith, leb-true _ _ le, ltb-false beg end none)) in
      cc
      )) in
      let few : end - beg ≤ MAX_FILE = ltb-false MAX_FILE (end - beg) (false_from_ne_true _ (λ lt. (
      let spent = long.1 (ltb-true _ _ lt) in
      let same : why ≡ FileSpent = cc in
      cc
      ))) in
      inr (in_both, few, inr (ltb-true _ _ some, ap refuses short, refl))

-- the other text's edit is what is left of a copy
module _ (t u : TextState) (beg end pos : ℕ) (sent : List (List ℕ)) (in_texts : is_copy_in t u beg end pos ≡ true)
    (few : end - beg ≤ MAX_FILE) where
  copies : (r : Reply) (new : TextState) → EditsText (copied t beg end pos) r u new → CopiesText t beg end pos r u new
  copies r new edits =
      let short : nat_lt MAX_FILE (end - beg) ≡ false = le-ltb _ _ few in
      rw (in_texts, short) edits

  of_edit : (result : Result ℕ EditRefusal) (new : TextState) (sent' : List (List ℕ))
      → EditsTextSending u (copied t beg end pos) result new sent sent'
      → CopiesTextSending t beg end pos u result new sent sent'
  of_edit result new sent' (messages, count, sent_is, inl does) =
      (messages, count, sent_is, inl (copies (edit_reply result messages) new does))
  of_edit result new sent' (messages, count, sent_is, inr short) =
      (messages, count, sent_is, inr (in_texts, few, inl short))

  pub text_copied : (result : Result ℕ EditRefusal) (new : TextState) (sent' : List (List ℕ))
      → EditsSending u (copied t beg end pos) result new sent sent'
      → CopiesTextSending t beg end pos u result new sent sent'
  text_copied result new sent' edits =
      let within = (and_parts (is_range_in t beg end) _ in_texts).1 in
      of_edit result new sent' (text_edited u (copied t beg end pos) sent within result new sent' edits)

-- nothing is put into the other text
pub text_not_copied : (t u : TextState) (beg end pos : ℕ) (sent : List (List ℕ)) (why : Refusal)
    → CopiesOut t beg end pos u (Err why) → CopiesTextSending t beg end pos u (Err (Whole why)) u sent sent
text_not_copied t u beg end pos sent why out = ([], tt, sym (append-nil sent), out)

-- the other text's position
pub position_in : (t u : TextState) (beg end pos : ℕ) → IsTrue (is_copy_in t u beg end pos) → pos ≤ length (shown_of u)
position_in t u beg end pos in_texts = leb-true _ _ (and_parts (is_range_in t beg end) _ in_texts).1
