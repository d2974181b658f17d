-- An edit by names hides or shows those that it names, and leaves all others as they were.
use Rattle.std.proofs.Common.{◌≡◌, ℕ, Bool, true, false, not, ◌&&◌, List, Option, Some, None, Ok, Err, refl, sym, ap, subst, ◌∙◌}
use Rattle.std.specs.Prelude.{◌||◌, MatchBool, MatchOption, filter}
use Rattle.std.proofs.lemmas.Bool.{false≢true}
use Rattle.std.proofs.lemmas.List.Elements.{filter_agree}
use Rattle.std.proofs.lemmas.List.Folds.{list_any-from_Any}
use Rattle.looks.specs.declared.refusal.Refusal.{Refusal}
use Rattle.char_files.specs.declared.character.Char.{Char}
use Rattle.operations.specs.NameSet.{Range, names_in}
use Rattle.operations.specs.Operation.{Operation}
use Rattle.operations.proofs.NamesOf.{Contains-names_in}
use Rattle.tree_order.specs.Shown.{is_visible}
use Rattle.texts.specs.Laws.{EditsByNamesArePlain, IsOwnEdit}
use Rattle.texts.specs.Named.{IsLeft, IsMade, are_here, changes_any, kind_by_names, names_changed, op_by_names, refusal_of_names, shown_by_names}
use Rattle.texts.specs.Order.{is_named}
use Rattle.texts.specs.Taking.{HasTaken}
use Rattle.texts.specs.Text.{IsText}
use Rattle.texts.specs.TextState.{TextState, shown_of}
use Rattle.texts.specs.declared.by_names.ByNames.{ByNames}
use Rattle.texts.specs.declared.by_names.ByNames.TheVariants.{Delete, Restore}
use Rattle.texts.specs.declared.edit_refusal.EditRefusal.TheVariants.{Whole}
use Rattle.texts.proofs.Kept.{taken_is_own}
use Rattle.texts.proofs.NamedEdits.{changed_are_chars, changed_is, test}
use Rattle.texts.proofs.OwnChange.{delete_hides, filter_both, named_is, restore_shows}

-- two tests, where each holds with the other
same_test : (a b : Bool) → (a ≡ true → b ≡ true) → (b ≡ true → a ≡ true) → a ≡ b
same_test true true f g = refl
same_test false false f g = refl
same_test true false f g = sym (f refl)
same_test false true f g = g refl

-- of what is shown those are left that aren't named, by either set
left_alike : (a b v : Bool) → (v ≡ true → a ≡ b) → (not a && v) ≡ (not b && v)
left_alike true true v same = refl
left_alike false false v same = refl
left_alike true false true same = absurd (false≢true (sym (same refl)))
left_alike false true true same = absurd (false≢true (same refl))
left_alike true false false same = refl
left_alike false true false same = refl

-- those are shown that are named, by either set, beside those that are
shown_alike : (a b v : Bool) → (not v ≡ true → a ≡ b) → (a || v) ≡ (b || v)
shown_alike true true v same = refl
shown_alike false false v same = refl
shown_alike true false false same = absurd (false≢true (sym (same refl)))
shown_alike false true false same = absurd (false≢true (same refl))
shown_alike true false true same = refl
shown_alike false true true same = refl

module _ (t : TextState) (names : List Range) where
  -- of those that are to change the same are named
  named_alike : (what : ByNames) (c : Char) → test t what names c.name ≡ true
      → is_named (names_changed t what names) c ≡ is_named names c
  named_alike what c changes =
      same_test (is_named (names_changed t what names) c) (is_named names c)
      (λ yes. (named_is names c).1 ((changed_is t what names c.name).0 ((named_is (names_changed t what names) c).0 yes)).0)
      (λ yes. (named_is (names_changed t what names) c).1 ((changed_is t what names c.name).1 ((named_is names c).0 yes, changes)))

  -- a Delete of those that change leaves what one of those that are named leaves
  left_by_delete : filter (λ c. not (is_named (names_changed t Delete names) c)) (shown_of t) ≡ shown_by_names t Delete names
  left_by_delete =
      sym (filter_both (λ (c : Char). not (is_named (names_changed t Delete names) c)) (λ (c : Char). is_visible t.operations c.name) t.order)
      ∙ filter_agree (λ (c : Char). not (is_named (names_changed t Delete names) c) && is_visible t.operations c.name)
      (λ (c : Char). not (is_named names c) && is_visible t.operations c.name)
      (λ c. left_alike _ _ (is_visible t.operations c.name) (named_alike Delete c)) t.order
      ∙ filter_both (λ (c : Char). not (is_named names c)) (λ (c : Char). is_visible t.operations c.name) t.order

  -- and so does a Restore
  shown_by_restore : filter (λ c. is_named (names_changed t Restore names) c || is_visible t.operations c.name) t.order
      ≡ shown_by_names t Restore names
  shown_by_restore =
      filter_agree (λ (c : Char). is_named (names_changed t Restore names) c || is_visible t.operations c.name)
      (λ (c : Char). is_named names c || is_visible t.operations c.name)
      (λ c. shown_alike _ _ (is_visible t.operations c.name) (named_alike Restore c)) t.order

  -- what the operation shows
  shows : (what : ByNames) → IsText t → are_here t names ≡ true
      → IsOwnEdit t (kind_by_names what (names_changed t what names)) (shown_by_names t what names)
  shows Delete is here =
      subst (IsOwnEdit t (kind_by_names Delete (names_changed t Delete names))) left_by_delete
      (delete_hides t (names_changed t Delete names) is (changed_are_chars t Delete names is here))
  shows Restore is here =
      subst (IsOwnEdit t (kind_by_names Restore (names_changed t Restore names))) shown_by_restore
      (restore_shows t (names_changed t Restore names) is (changed_are_chars t Restore names is here))

  -- none of those that are named changes
  module _ (what : ByNames) (none : changes_any t what names ≡ false) where
    unnamed : (c : Char) → test t what names c.name ≡ true → is_named names c ≡ false
    unnamed c changes = same_test (is_named names c) false
        (λ yes.
        let (k, lt, at) = (Contains-names_in names c.name).1 ((named_is names c).0 yes) in
        sym none ∙ list_any-from_Any (test t what names) (names_in names) (k, c.name, lt, at, changes))
        (λ no. absurd (false≢true no))

  nothing_hidden : changes_any t Delete names ≡ false → shown_of t ≡ shown_by_names t Delete names
  nothing_hidden none =
      filter_agree (λ (c : Char). is_visible t.operations c.name)
      (λ (c : Char). not (is_named names c) && is_visible t.operations c.name)
      (λ c. sym (left_alike (is_named names c) false (is_visible t.operations c.name) (unnamed Delete none c))) t.order
      ∙ filter_both (λ (c : Char). not (is_named names c)) (λ (c : Char). is_visible t.operations c.name) t.order

  nothing_shown : changes_any t Restore names ≡ false → shown_of t ≡ shown_by_names t Restore names
  nothing_shown none =
      filter_agree (λ (c : Char). is_visible t.operations c.name)
      (λ (c : Char). is_named names c || is_visible t.operations c.name)
      (λ c. sym (shown_alike (is_named names c) false (is_visible t.operations c.name) (unnamed Restore none c))) t.order

  nothing_changes : (what : ByNames) → changes_any t what names ≡ false → shown_of t ≡ shown_by_names t what names
  nothing_changes Delete none = nothing_hidden none
  nothing_changes Restore none = nothing_shown none

  -- what is told of a text that it left
  abbrev IsPlain : ByNames → TextState → Type 0
  IsPlain what new =
      (shown_of new ≡ shown_by_names t what names) × (new.last_stretch ≡ t.last_stretch) × (new.last_set ≡ t.last_set)

  made_plain : (what : ByNames) (new : TextState) → IsText t → are_here t names ≡ true → HasTaken t (op_by_names t what names) new
      → IsPlain what new
  made_plain what new is here taken =
      let op : Operation = op_by_names t what names in
      let own = shows what is here in
      let same = taken_is_own t op is refl own.text new taken in
      (ap shown_of same ∙ own.shown, ap (λ (u : TextState). u.last_stretch) same, ap (λ (u : TextState). u.last_set) same)

  by_refusal : (what : ByNames) (new : TextState) (count : ℕ) (messages : List (List ℕ)) (refusal : Option Refusal)
      → IsText t → are_here t names ≡ true
      → MatchOption refusal (IsMade t (op_by_names t what names) (Ok count) new messages)
      (λ why. IsLeft t (Err (Whole why)) (Ok count) new messages)
      → IsPlain what new
  by_refusal what new count messages None is here done = made_plain what new is here done.1
  by_refusal what new count messages (Some why) is here done = absurd (let e = done.0 in cc)

  by_change : (what : ByNames) (new : TextState) (count : ℕ) (messages : List (List ℕ)) (any : Bool) → changes_any t what names ≡ any
      → IsText t → are_here t names ≡ true
      → MatchBool any
      (MatchOption (refusal_of_names t (names_changed t what names)) (IsMade t (op_by_names t what names) (Ok count) new messages)
      (λ why. IsLeft t (Err (Whole why)) (Ok count) new messages))
      (IsLeft t (Ok 0) (Ok count) new messages)
      → IsPlain what new
  by_change what new count messages true any is here done =
      by_refusal what new count messages (refusal_of_names t (names_changed t what names)) is here done
  by_change what new count messages false none is here done = (
    ap shown_of done.1 ∙ nothing_changes what none,
    ap (λ (u : TextState). u.last_stretch) done.1,
    ap (λ (u : TextState). u.last_set) done.1,
  )

pub named_edits_are_plain : EditsByNamesArePlain
named_edits_are_plain t new what names count messages is here done =
    by_change t names what new count messages (changes_any t what names) refl is here done
