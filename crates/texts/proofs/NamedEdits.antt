-- Edits by names: what they change, and what refuses them.
use Rattle.std.proofs.Common.{◌≡◌, ℕ, zero, suc, ◌+◌, ◌<◌, inl, inr, ◌⊎◌, Bool, true, false, cond}
use Rattle.std.proofs.Common.{List, [], ◌∷◌, ◌++◌, length, Some, None, Result, Ok, Err, Contains, refl, sym, ap, subst, ◌∙◌, append-nil, arith}
use Rattle.std.specs.Prelude.{◌↔◌, IfErr, IsErrAnd, OnErr, OnOk, filter, nat_le, nat_lt}
use Rattle.std.specs.List.{list_any}
use Rattle.std.proofs.lemmas.Bool.{and_parts, leb-true, lt-ltb}
use Rattle.std.proofs.lemmas.List.Elements.{All-contains, All-contains_itself, All-filter, filter_passes}
use Rattle.std.proofs.lemmas.List.Folds.{Any-from_list_any}
use Rattle.looks.specs.Looks.{plain_looks}
use Rattle.looks.specs.declared.refusal.Refusal.{Refusal}
use Rattle.looks.specs.declared.refusal.Refusal.TheVariants.{OutOfMemory, Scattered}
use Rattle.char_files.specs.CharName.{CharName}
use Rattle.operations.specs.NameSet.{Range, IsAmong, IsIn, names_in, set_of}
use Rattle.operations.specs.Operation.{Operation, OpKind, change_looks}
use Rattle.operations.specs.Spelling.{spelling}
use Rattle.operations.proofs.NamesOf.{Contains-names_in}
use Rattle.operations.proofs.SetOf.{IsAmong-set_of}
use Rattle.operations.specs.declared.name_set.TheConstants.{MAX_RANGES}
use Rattle.set_laws.specs.Fronts.{file_len}
use Rattle.set_laws.proofs.Files.{here_is_char}
use Rattle.set_laws.specs.Verdict.{ready}
use Rattle.taken_text.specs.Named.{has_visibility}
use Rattle.texts.specs.Edit.{own_op}
use Rattle.texts.specs.Named.{EditsByNamesSending, are_here, changes_any, changes_shown, kind_by_names, names_changed, IsWhyNotNamed, MakesByNames, op_by_names, refusal_of_names}
use Rattle.texts.specs.Taking.{HasTaken, IsJudged}
use Rattle.texts.specs.Text.{AreCharNames, IsText}
use Rattle.texts.specs.TextState.{TextState}
use Rattle.texts.specs.declared.by_names.ByNames.{ByNames}
use Rattle.texts.specs.declared.by_names.ByNames.TheVariants.{Delete, Restore}
use Rattle.texts.specs.Own.{answer_of_one}
use Rattle.texts.specs.declared.edit_refusal.EditRefusal.TheVariants.{Whole}
use Rattle.texts.proofs.Made.{among_some, why_not_gathered}
use Rattle.texts.proofs.News.{kept_if_it_passes}
use Rattle.texts.proofs.OwnChange.{delete_hides, restore_shows}

-- a kind that names these, and is refused for no other reason
abbrev pub naming : List Range → OpKind
naming names = change_looks (record { font = false; colour = false; offset = false }) plain_looks names

-- names that are here are those of characters
pub are_chars : (t : TextState) → IsText t → (names : List Range) → are_here t names ≡ true → AreCharNames t.operations names
are_chars t is [] here c (k, r, lt, at, held) = absurd (omega (arith, lt))
are_chars t is (r ∷ names) here c (zero, s, lt, at, held) =
    let (first, rest) = and_parts (nat_le (r.at + r.len) (file_len t.operations r.site)) _ here in
    let in_first : IsIn r c = subst (λ (x : Range). IsIn x c) (sym at) held in
    here_is_char t.operations is.good is.identified c
    (subst (λ (site : ℕ). c.off < file_len t.operations site) (sym in_first.0) (omega (arith, in_first.2, leb-true _ _ first)))
are_chars t is (r ∷ names) here c (suc k, s, lt, at, held) =
    let (first, rest) = and_parts (nat_le (r.at + r.len) (file_len t.operations r.site)) _ here in
    are_chars t is names rest c (k, s, omega (arith, lt), at, held)

module _ (t : TextState) (what : ByNames) (names : List Range) where
  abbrev pub test : CharName → Bool
  test = has_visibility t.operations (changes_shown what)

  -- they, by the operations and the test that were seen
  pub changed_are : (ops : List Operation) (shown : Bool) → ops ≡ t.operations → shown ≡ changes_shown what
      → set_of (filter (has_visibility ops shown) (names_in names)) ≡ names_changed t what names
  changed_are ops shown same tells = (λ k. set_of (filter (has_visibility (same k) (tells k)) (names_in names)))

  -- those that change are among those that are named, and are as they are to be
  pub changed_is : (c : CharName) → IsAmong (names_changed t what names) c ↔ (IsAmong names c × (test c ≡ true))
  changed_is c =
      let passed = filter test (names_in names) in
      let has : (Contains passed c) → IsAmong names c × (test c ≡ true) = λ held. (
        (Contains-names_in names c).0
            (All-contains (Contains (names_in names)) passed c (All-filter test (Contains (names_in names)) (names_in names)
            (All-contains_itself (names_in names))) held),
        All-contains (λ (d : CharName). test d ≡ true) passed c (filter_passes test (names_in names)) held,
      ) in (
        λ among. has ((IsAmong-set_of passed c).0 among),
        λ (among, passes). (IsAmong-set_of passed c).1 (kept_if_it_passes test (names_in names) c ((Contains-names_in names c).1 among) passes),
      )

  -- they are characters' names
  pub changed_are_chars : IsText t → are_here t names ≡ true → AreCharNames t.operations (names_changed t what names)
  changed_are_chars is here c among = are_chars t is names here c ((changed_is c).0 among).0

  -- something changes
  pub some_changed : changes_any t what names ≡ true → 0 < length (names_changed t what names)
  some_changed any =
      let (k, c, lt, at, passes) = Any-from_list_any test (names_in names) any in
      let passed = filter test (names_in names) in
      among_some (names_changed t what names) c
      ((IsAmong-set_of passed c).1 (kept_if_it_passes test (names_in names) c (k, lt, at) passes))

  -- the operation is ready
  pub is_judged : IsText t → are_here t names ≡ true → IsJudged t (op_by_names t what names) ready
  is_judged is here = by_kind what refl
    where
      by_kind : (w : ByNames) → what ≡ w → IsJudged t (own_op t (kind_by_names w (names_changed t what names))) ready
      by_kind Delete same =
          let own = delete_hides t (names_changed t what names) is (changed_are_chars is here) in
          (refl, own.new, own.ready)
      by_kind Restore same =
          let own = restore_shows t (names_changed t what names) is (changed_are_chars is here) in
          (refl, own.new, own.ready)

  -- why the names aren't gathered
  pub not_gathered : refusal_of_names t (names_changed t what names) ≡ cond (nat_lt MAX_RANGES (length (names_changed t what names))) (Some Scattered) None
      → (why : Refusal) → (why ≡ Scattered) ⊎ (why ≡ OutOfMemory) → (why ≡ Scattered → MAX_RANGES < length (names_changed t what names))
      → IsWhyNotNamed t (names_changed t what names) why
  not_gathered refused why which scattered =
      why_not_gathered t (own_op t (naming (names_changed t what names))) (nat_lt MAX_RANGES (length (names_changed t what names)))
      refused why which (λ is. lt-ltb _ _ (scattered is))

  -- what making the operation gives
  pub made_by_names : (result : Result (Unit {0}) Refusal) (new : TextState) (sent sent' : List (List ℕ))
      → refusal_of_names t (names_changed t what names) ≡ None
      → OnOk result (HasTaken t (op_by_names t what names) new × (sent' ≡ sent ++ spelling (op_by_names t what names) ∷ []))
      → IfErr result (λ e. e ≡ OutOfMemory) → OnErr result ((new ≡ t) × (sent' ≡ sent))
      → MakesByNames t what names result new sent sent'
  made_by_names (Ok done) new sent sent' allowed ok memory err = (allowed, ok.0, ok.1)
  made_by_names (Err why) new sent sent' allowed ok memory err = (inr (memory, inl allowed), err.0, err.1)

  -- nothing is done where it isn't made
  pub not_made_by_names : (result : Result (Unit {0}) Refusal) (sent : List (List ℕ)) (why : Refusal)
      → IsErrAnd result (λ e. e ≡ why) → IsWhyNotNamed t (names_changed t what names) why
      → MakesByNames t what names result t sent sent
  not_made_by_names (Ok done) sent why err whynot = absurd err
  not_made_by_names (Err e) sent why err whynot =
      (subst (IsWhyNotNamed t (names_changed t what names)) (sym err) whynot, refl, refl)

  -- whether something changes, by the operations and the test that were seen
  pub any_is : (ops : List Operation) (shown : Bool) → ops ≡ t.operations → shown ≡ changes_shown what
      → list_any (has_visibility ops shown) (names_in names) ≡ changes_any t what names
  any_is ops shown same tells = (λ k. list_any (has_visibility (same k) (tells k)) (names_in names))

  -- where nothing changes, nothing is done
  pub none_by_names : (sent : List (List ℕ)) → changes_any t what names ≡ false
      → EditsByNamesSending t what names (Ok 0) t sent sent
  none_by_names sent none = ([], sym (append-nil sent), inl (rw none (refl, refl, refl)))

  -- else the operation is made, or not
  pub sent_by_names : (made : Result (Unit {0}) Refusal) (new : TextState) (sent sent' : List (List ℕ))
      → changes_any t what names ≡ true → MakesByNames t what names made new sent sent'
      → EditsByNamesSending t what names (answer_of_one made) new sent sent'
  sent_by_names (Ok done) new sent sent' any (allowed, taken, told) =
      (spelling (op_by_names t what names) ∷ [], told, inl (rw (any, allowed) (refl, taken, refl)))
  sent_by_names (Err why) new sent sent' any (inl refused, same, none) =
      ([], none ∙ sym (append-nil sent), inl (rw (any, refused) (refl, same, refl)))
  sent_by_names (Err why) new sent sent' any (inr (memory, which), same, none) =
      ([], none ∙ sym (append-nil sent), inr (any, which, (ap (λ (w : Refusal). Err (Whole w)) memory, same, refl)))
