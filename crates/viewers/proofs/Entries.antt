-- Numbers and contents beside each other, as one list of entries.
use Rattle.std.proofs.Common.{◌≡◌, ℕ, suc, ◌+◌, ◌<◌, List, [], ◌∷◌, ◌++◌, length, map, Bool, true, false, cond, eqb, eqb-true, refl, sym, ap, ◌∙◌, arith, Option, Some, None, ltb-false, get_or, ltb, is_some, true≢false}
use Rattle.std.specs.Prelude.{◌↔◌, IfSome, IsSome, option_map}
use Rattle.std.proofs.lemmas.Bool.{ltb-true}
use Rattle.std.proofs.lemmas.Option.{slice_get_past, slice_get_read}
use Rattle.std.specs.List.{refill, remove, slice_get, zip}
use Rattle.std.specs.Prelude.{not, slice_set}
use Rattle.viewers.specs.Viewers.{AreRising, content_of, contents_without, index_of, numbers, times, with_entry}
use Rattle.viewers.proofs.Numbers.{index_none, none_lower}

module _ {C : Type 0} where
  pub numbers-zip : (ks : List ℕ) (cs : List C) → length cs ≡ length ks → numbers (zip ks cs) ≡ ks
  numbers-zip [] cs e = refl
  numbers-zip (k ∷ ks) [] e = absurd (omega (arith, e))
  numbers-zip (k ∷ ks) (c ∷ cs) e = ap (λ l. k ∷ l) (numbers-zip ks cs (omega (arith, e)))

  pub contents-zip : (ks : List ℕ) (cs : List C) → length cs ≡ length ks → map (λ entry. entry.1) (zip ks cs) ≡ cs
  contents-zip [] [] e = refl
  contents-zip [] (c ∷ cs) e = absurd (omega (arith, e))
  contents-zip (k ∷ ks) [] e = refl
  contents-zip (k ∷ ks) (c ∷ cs) e = ap (λ l. c ∷ l) (contents-zip ks cs (omega (arith, e)))

  pub length-zip : (ks : List ℕ) (cs : List C) → length cs ≡ length ks → length (zip ks cs) ≡ length cs
  length-zip [] [] e = refl
  length-zip [] (c ∷ cs) e = absurd (omega (arith, e))
  length-zip (k ∷ ks) [] e = refl
  length-zip (k ∷ ks) (c ∷ cs) e = ap suc (length-zip ks cs (omega (arith, e)))

  pub zip-push : (ks : List ℕ) (cs : List C) (k : ℕ) (c : C) → length cs ≡ length ks
      → zip (ks ++ k ∷ []) (cs ++ c ∷ []) ≡ zip ks cs ++ (k, c) ∷ []
  zip-push [] [] k c e = refl
  zip-push [] (d ∷ cs) k c e = absurd (omega (arith, e))
  zip-push (l ∷ ks) [] k c e = absurd (omega (arith, e))
  zip-push (l ∷ ks) (d ∷ cs) k c e = ap (λ m. (l, d) ∷ m) (zip-push ks cs k c (omega (arith, e)))

  -- what a list has at an index, as it is read after a reference
  pub read_at : {R : Type 0} (now : R → C) (o : Option R) (cs : List C) (i : ℕ) → is_some o ≡ ltb i (length cs)
      → IfSome o (λ r. now r ≡ get_or cs i (now r)) → option_map now o ≡ slice_get cs i
  read_at now None cs i some value =
      sym (slice_get_past cs i (ltb-false i (length cs) (sym some)))
  read_at now (Some r) cs i some value =
      sym (slice_get_read cs (length cs) i (now r) refl (ltb-true i (length cs) (sym some)) value)

  pub read_within : {R : Type 0} (now : R → C) (o : Option R) (cs : List C) (i n : ℕ) → n ≡ length cs → IsSome o ↔ (i < n)
      → IfSome o (λ r. now r ≡ get_or cs i (now r)) → option_map now o ≡ slice_get cs i
  read_within now None cs i n long some value =
      let past : i < n → ⊥ = λ lt. true≢false (sym (some.1 lt)) in sym (slice_get_past cs i (omega (arith, past, long)))
  read_within now (Some r) cs i n long some value = sym (slice_get_read cs n i (now r) long (some.0 refl) value)

  -- the content at a number's index is the viewer's
  pub content_at_index : (ks : List ℕ) (cs : List C) (v : ℕ) → length cs ≡ length ks
      → content_of (zip ks cs) v ≡ slice_get cs (index_of ks v)
  content_at_index [] [] v e = refl
  content_at_index [] (c ∷ cs) v e = absurd (omega (arith, e))
  content_at_index (k ∷ ks) [] v e = absurd (omega (arith, e))
  content_at_index (k ∷ ks) (c ∷ cs) v e = by_test (eqb k v) (content_at_index ks cs v (omega (arith, e)))
    where
      by_test : (b : Bool) → content_of (zip ks cs) v ≡ slice_get cs (index_of ks v)
          → cond b (Some c) (content_of (zip ks cs) v) ≡ slice_get (c ∷ cs) (cond b 0 (suc (index_of ks v)))
      by_test true more = refl
      by_test false more = more

  -- where no entry has the number, there is no content, none is taken out, and none is set
  pub content_nowhere : (ks : List ℕ) (cs : List C) (v : ℕ) → length cs ≡ length ks → times v ks ≡ 0
      → content_of (zip ks cs) v ≡ None
  content_nowhere ks cs v even none =
      let i = index_none ks v none in
      content_at_index ks cs v even ∙ slice_get_past cs (index_of ks v) (omega (arith, i, even))

  pub all_kept : (ks : List ℕ) (cs : List C) (v : ℕ) → times v ks ≡ 0
      → contents_without (zip ks cs) v ≡ zip ks cs
  all_kept [] cs v none = refl
  all_kept (k ∷ ks) [] v none = refl
  all_kept (k ∷ ks) (c ∷ cs) v none = by_test (all_kept ks cs v) (eqb k v) none
    where
      by_test : (times v ks ≡ 0 → contents_without (zip ks cs) v ≡ zip ks cs) → (b : Bool) → cond b 1 0 + times v ks ≡ 0
          → cond (not b) ((k, c) ∷ contents_without (zip ks cs) v) (contents_without (zip ks cs) v) ≡ (k, c) ∷ zip ks cs
      by_test more true none = absurd (omega (arith, none))
      by_test more false none = ap (λ l. (k, c) ∷ l) (more (omega (arith, none)))

  pub filter-zip : (from below v : ℕ) (ks : List ℕ) (cs : List C) → AreRising from ks below → length cs ≡ length ks
      → contents_without (zip ks cs) v ≡ zip (remove ks (index_of ks v)) (remove cs (index_of ks v))
  filter-zip from below v [] [] rising e = refl
  filter-zip from below v [] (c ∷ cs) rising e = absurd (omega (arith, e))
  filter-zip from below v (k ∷ ks) [] rising e = absurd (omega (arith, e))
  filter-zip from below v (k ∷ ks) (c ∷ cs) rising e =
      by_test (eqb k v) refl (filter-zip (suc k) below v ks cs rising.1 (omega (arith, e)))
    where
      by_test : (b : Bool) → eqb k v ≡ b → contents_without (zip ks cs) v ≡ zip (remove ks (index_of ks v)) (remove cs (index_of ks v))
          → cond (not b) ((k, c) ∷ contents_without (zip ks cs) v) (contents_without (zip ks cs) v)
          ≡ zip (remove (k ∷ ks) (cond b 0 (suc (index_of ks v)))) (remove (c ∷ cs) (cond b 0 (suc (index_of ks v))))
      by_test true is more =
          let same = eqb-true k v is in
          all_kept ks cs v (none_lower (suc k) below v ks rising.1 (omega (arith, same)))
      by_test false is more = ap (λ l. (k, c) ∷ l) more

  all_same : (ks : List ℕ) (cs : List C) (v : ℕ) (w : C) → times v ks ≡ 0
      → with_entry (zip ks cs) v w ≡ zip ks cs
  all_same [] cs v w none = refl
  all_same (k ∷ ks) [] v w none = refl
  all_same (k ∷ ks) (c ∷ cs) v w none = by_test (all_same ks cs v w) (eqb k v) none
    where
      by_test : (times v ks ≡ 0 → with_entry (zip ks cs) v w ≡ zip ks cs) → (b : Bool) → cond b 1 0 + times v ks ≡ 0
          → cond b (v, w) (k, c) ∷ with_entry (zip ks cs) v w ≡ (k, c) ∷ zip ks cs
      by_test more true none = absurd (omega (arith, none))
      by_test more false none = ap (λ l. (k, c) ∷ l) (more (omega (arith, none)))

  pub set-zip : (from below v : ℕ) (w : C) (ks : List ℕ) (cs : List C) → AreRising from ks below → length cs ≡ length ks
      → zip ks (slice_set cs (index_of ks v) w) ≡ with_entry (zip ks cs) v w
  set-zip from below v w [] [] rising e = refl
  set-zip from below v w [] (c ∷ cs) rising e = absurd (omega (arith, e))
  set-zip from below v w (k ∷ ks) [] rising e = absurd (omega (arith, e))
  set-zip from below v w (k ∷ ks) (c ∷ cs) rising e =
      by_test (eqb k v) refl (set-zip (suc k) below v w ks cs rising.1 (omega (arith, e)))
    where
      by_test : (b : Bool) → eqb k v ≡ b → zip ks (slice_set cs (index_of ks v) w) ≡ with_entry (zip ks cs) v w
          → zip (k ∷ ks) (slice_set (c ∷ cs) (cond b 0 (suc (index_of ks v))) w) ≡ cond b (v, w) (k, c) ∷ with_entry (zip ks cs) v w
      by_test true is more =
          let same = eqb-true k v is in
          let rest = all_same ks cs v w (none_lower (suc k) below v ks rising.1 (omega (arith, same))) in
          λ i. (same i, w) ∷ sym rest i
      by_test false is more = ap (λ l. (k, c) ∷ l) more

  -- other contents in the same order, as they are seen
  pub refill-zip : (ks : List ℕ) (cs ws : List C) (n : ℕ) → length cs ≡ length ks → n ≡ length cs
      → zip ks (refill n cs ws) ≡ zip (numbers (zip ks cs)) (refill (length (zip ks cs)) (map (λ entry. entry.1) (zip ks cs)) ws)
  refill-zip ks cs ws n even long =
      let m : n ≡ length (zip ks cs) = long ∙ sym (length-zip ks cs even) in
      λ t. zip (sym (numbers-zip ks cs even) t) (refill (m t) (sym (contents-zip ks cs even) t) ws)

  -- what is read at the index that a call answered is what the viewer shows
  pub content_read : {R : Type 0} (now : R → C) (o : Option R) (ks : List ℕ) (cs : List C) (v i : ℕ)
      → length cs ≡ length ks → i ≡ index_of ks v → option_map now o ≡ slice_get cs i
      → option_map now o ≡ content_of (zip ks cs) v
  content_read now o ks cs v i even is read =
      read ∙ ap (slice_get cs) is ∙ sym (content_at_index ks cs v even)

  -- and what is set or taken out there
  pub set_at : (from below v i : ℕ) (w : C) (ks : List ℕ) (cs : List C) → AreRising from ks below → length cs ≡ length ks
      → i ≡ index_of ks v → zip ks (slice_set cs i w) ≡ with_entry (zip ks cs) v w
  set_at from below v i w ks cs rising even is =
      ap (λ j. zip ks (slice_set cs j w)) is ∙ set-zip from below v w ks cs rising even

  pub removed_at : (from below v i : ℕ) (ks left : List ℕ) (cs rest : List C) → AreRising from ks below → length cs ≡ length ks
      → i ≡ index_of ks v → left ≡ remove ks i → rest ≡ remove cs i → zip left rest ≡ contents_without (zip ks cs) v
  removed_at from below v i ks left cs rest rising even is first second =
      (λ t. zip (first t) (second t)) ∙ ap (λ j. zip (remove ks j) (remove cs j)) is
      ∙ sym (filter-zip from below v ks cs rising even)
