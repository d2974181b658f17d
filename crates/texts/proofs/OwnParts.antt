-- Own edits are plain edits, however many of their operations stand.
use Rattle.std.proofs.Common.{◌≡◌, ℕ, zero, suc, ◌-◌, ◌≤◌, Bool, true, false, cond, leb, ltb, ◌&&◌, List}
use Rattle.std.proofs.Common.{[], ◌∷◌, ◌++◌, length, take, drop, map, refl, sym, ap, subst, ◌∙◌, arith, append-nil}
use Rattle.std.specs.Prelude.{IsTrue}
use Rattle.std.proofs.lemmas.Bool.{and_parts, leb-true, ltb-false}
use Rattle.std.proofs.lemmas.List.{take-append-drop}
use Rattle.looks.specs.Sel.{Selection}
use Rattle.looks.specs.declared.looks.Looks.{Looks}
use Rattle.looks.specs.Looks.{plain_looks}
use Rattle.char_files.specs.declared.character.Char.{Char}
use Rattle.operations.specs.Operation.{Operation, OpKind, change_looks, delete, restore}
use Rattle.texts.specs.Edit.{Edit, after, deletion, first_part, insertion, is_in_text, is_restored, looks_change}
use Rattle.texts.specs.Edit.{names_shown, own_op, plan, recalling, restoration, shown_after, with_operation}
use Rattle.texts.specs.Laws.{IsOwnEdit, IsPlainPart, OwnEditsArePlain}
use Rattle.texts.specs.Laws.{after_part}
use Rattle.texts.specs.Order.{cut, dress, dressed, with_selected}
use Rattle.texts.specs.Text.{IsText}
use Rattle.texts.specs.TextState.{TextState, shown_of}
use Rattle.texts.proofs.KeptStretch.{keeps_its_stretch}
use Rattle.texts.proofs.OwnChange.{restore_shows}
use Rattle.texts.proofs.OwnPieces.{insertion_is_plain}
use Rattle.texts.proofs.OwnStretch as stretch
use Rattle.texts.proofs.OwnStretch.{delete_is_plain}
use Rattle.texts.proofs.Restored.{nothing_hidden}
use Rattle.texts.proofs.Selected.{dressed_again}

module _ (t : TextState) (e : Edit) (is : IsText t) where
  -- an edit that makes nothing leaves what it is to show
  none_made : (n : ℕ) → plan t e ≡ [] → shown_of t ≡ shown_after t e → n ≤ length (plan t e) → IsPlainPart t e n
  none_made n planned same le =
      let count : length (plan t e) ≡ 0 = ap (length {A = Operation}) planned in
      let stays : after_part t e n ≡ t =
      let none : n ≡ 0 = omega arith in ap (λ (k : ℕ). after t (take k (plan t e))) none in
      record {
        text = subst IsText (sym stays) is;
        whole = λ all. ap shown_of stays ∙ same;
        part = λ some. absurd (omega arith);
      }

  -- one that makes one operation stands wholly, or not at all
  one_made : (kind : OpKind) (n : ℕ) → plan t e ≡ own_op t kind ∷ [] → IsOwnEdit t kind (shown_after t e)
      → ((k : ℕ) → first_part t k e ≡ e) → n ≤ length (plan t e) → IsPlainPart t e n
  one_made kind zero planned made alone le =
      let count : length (plan t e) ≡ 1 = ap (length {A = Operation}) planned in
      record { text = is; whole = λ all. absurd (omega arith); part = λ some. absurd (omega arith) }
  one_made kind (suc zero) planned made alone le =
      let stands : after_part t e 1 ≡ with_operation t (own_op t kind) =
      ap (λ (ops : List Operation). after t (take 1 ops)) planned in
      record {
        text = subst IsText (sym stands) made.text;
        whole = λ all. ap shown_of stands ∙ made.shown;
        part = λ some. ap shown_of stands ∙ made.shown ∙ ap (shown_after t) (sym (alone 1));
      }
  one_made kind (suc (suc n)) planned made alone le =
      let count : length (plan t e) ≡ 1 = ap (length {A = Operation}) planned in
      absurd (omega arith)

-- an empty stretch is cut out, or given looks, by doing nothing
cut_none : (xs : List Char) (beg end : ℕ) → beg ≡ end → xs ≡ cut xs beg end
cut_none xs beg end e =
    sym (take-append-drop beg xs) ∙ ap (λ (n : ℕ). take beg xs ++ drop n xs) e

dress_none : (sel : Selection) (looks : Looks) (xs : List Char) (beg end : ℕ) → beg ≡ end
    → xs ≡ dress sel looks xs beg end
dress_none sel looks xs beg end e =
    let short : end - beg ≡ 0 = omega arith in
    cut_none xs beg end e ∙ ap (λ (front : List Char). front ++ drop end xs) (sym (append-nil (take beg xs)))
    ∙ ap (λ (n : ℕ). take beg xs ++ map (dressed sel looks) (take n (drop beg xs)) ++ drop end xs) (sym short)

module _ (t : TextState) (is : IsText t) (n : ℕ) where
  deletion_is_plain : (beg end : ℕ) (some : Bool) → ltb beg end ≡ some → beg ≤ end
      → n ≤ length (plan t (deletion beg end)) → IsPlainPart t (deletion beg end) n
  deletion_is_plain beg end true some rising le =
      let kind : OpKind = delete (names_shown t beg end) in
      one_made t (deletion beg end) is kind n
      (ap (λ (b : Bool). cond b (own_op t kind ∷ []) []) some)
      (delete_is_plain t (names_shown t beg end) beg end is rising (keeps_its_stretch t beg end is).0) (λ k. refl) le
  deletion_is_plain beg end false none rising le =
      let equal : beg ≡ end = omega (arith, ltb-false beg end none) in
      let kind : OpKind = delete (names_shown t beg end) in
      none_made t (deletion beg end) is n (ap (λ (b : Bool). cond b (own_op t kind ∷ []) []) none)
      (cut_none (shown_of t) beg end equal) le

  -- the looks that a message doesn't select are plain there, and none are given
  module _ (beg end : ℕ) (sel : Selection) (looks : Looks) where
    abbrev kind : OpKind
    kind = change_looks sel (with_selected sel looks plain_looks) (names_shown t beg end)

    looks_are_plain : (some : Bool) → ltb beg end ≡ some → beg ≤ end
        → n ≤ length (plan t (looks_change beg end sel looks)) → IsPlainPart t (looks_change beg end sel looks) n
    looks_are_plain true some rising le =
        one_made t (looks_change beg end sel looks) is kind n
        (ap (λ (b : Bool). cond b (own_op t kind ∷ []) []) some)
        (subst (IsOwnEdit t kind) (dressed_again sel looks plain_looks (shown_of t) beg end)
        (stretch.looks_are_plain t sel (with_selected sel looks plain_looks) (names_shown t beg end) beg end is rising
        (keeps_its_stretch t beg end is).0))
        (λ k. refl) le
    looks_are_plain false none rising le =
        let equal : beg ≡ end = omega (arith, ltb-false beg end none) in
        none_made t (looks_change beg end sel looks) is n
        (ap (λ (b : Bool). cond b (own_op t kind ∷ []) []) none)
        (dress_none sel looks (shown_of t) beg end equal) le

  restoration_is_plain : (all : Bool) → is_restored t ≡ all → n ≤ length (plan t restoration)
      → IsPlainPart t restoration n
  restoration_is_plain true all le =
      none_made t restoration is n (ap (λ (b : Bool). cond b [] (own_op t (restore t.last_set) ∷ [])) all)
      (nothing_hidden t all) le
  restoration_is_plain false some le =
      one_made t restoration is (restore t.last_set) n
      (ap (λ (b : Bool). cond b [] (own_op t (restore t.last_set) ∷ [])) some)
      (restore_shows t t.last_set is is.deleted) (λ k. refl) le

  rising : (beg end : ℕ) → (leb beg end && leb end (length (shown_of t))) ≡ true → beg ≤ end
  rising beg end within =
      leb-true beg end (and_parts (leb beg end) (leb end (length (shown_of t))) within).0

  pub each_is_plain : (e : Edit) → IsTrue (is_in_text t e) → n ≤ length (plan t e) → IsPlainPart t e n
  each_is_plain (insertion pos items) within le =
      insertion_is_plain t pos items n is
      (leb-true pos (length (shown_of t)) within)
  each_is_plain (deletion beg end) within le =
      deletion_is_plain beg end (ltb beg end) refl (rising beg end within) le
  each_is_plain (looks_change beg end sel looks) within le =
      looks_are_plain beg end sel looks (ltb beg end) refl (rising beg end within) le
  each_is_plain restoration within le = restoration_is_plain (is_restored t) refl le
  each_is_plain (recalling pos) within le =
      let whole = insertion_is_plain t pos t.last_stretch n is
      (leb-true pos (length (shown_of t)) within) in
      record { text = whole.text; whole = whole.whole; part = whole.part }

pub edits_are_plain : OwnEditsArePlain
edits_are_plain t e n is within le = each_is_plain t is n e within le
