-- What of a list of operations isn't held yet, and what a merge of it shows.
use Rattle.std.proofs.Common.{◌≡◌, ◌≢◌, ℕ, zero, suc, ◌+◌, ◌<◌, inl, inr, ◌⊎◌, Bool, true, false, cond, List, [], ◌∷◌}
use Rattle.std.proofs.Common.{◌++◌, length, take, drop, Some, Result, Ok, Err, sym, ap, subst, ◌∙◌, arith}
use Rattle.std.specs.Prelude.{AllPairs, Contains, OnOk, filter, slice_get}
use Rattle.std.proofs.lemmas.Bool.{cases_Bool, cond-false, cond-true, ltb-false}
use Rattle.std.proofs.lemmas.List.{append-nil, get_or-take, length-take-le, take-append-drop}
use Rattle.std.proofs.lemmas.List.Elements.{All-contains, All-contains_itself, All-filter, Contains-append_cases}
use Rattle.std.proofs.lemmas.List.Elements.{Contains-append_left, Contains-append_right, filter-append, filter_more}
use Rattle.std.proofs.lemmas.Option.{get_or_from_slice_get, slice_get_within}
use Rattle.operations.specs.Operation.{Operation}
use Rattle.tree_order.specs.Laws.{AreSameSet}
use Rattle.set_laws.specs.Sets.{HasToTheFront, IsPartOf}
use Rattle.texts.specs.Laws.{MergesShowTheUnion}
use Rattle.texts.specs.Merge.{IsUnionOf, Merges, MergesShort, is_past_front, news}
use Rattle.texts.specs.Text.{IsText}
use Rattle.texts.specs.TextState.{TextState, shown_of}
use Rattle.texts.specs.declared.merge_refusal.MergeRefusal.{MergeRefusal}
use Rattle.tree_order.proofs.SameSet.{says_the_same}
use Rattle.set_laws.proofs.Fronts.{has_to_the_front}
use Rattle.texts.proofs.Chars.{shows_the_definition}

-- one that stands at a place of a list in which none is twice is none of those before it
pub stands_once : (ops : List Operation) → AllPairs (λ a b. a ≢ b) ops → (i : ℕ) (op : Operation)
    → slice_get ops i ≡ Some op → Contains (take i ops) op → ⊥
stands_once ops once i op at (k, lt, is) =
    let inside : i < length ops = slice_get_within ops i op at in
    let len : length (take i ops) ≡ i = length-take-le i ops (omega arith) in
    let less : k < i = omega arith in
    once k i op less inside (sym (get_or-take i ops k op less) ∙ is ∙ sym (get_or_from_slice_get ops i op op at))

-- what passes is kept
pub kept_if_it_passes : {X : Type 0} (p : X → Bool) (xs : List X) (x : X) → Contains xs x → p x ≡ true → Contains (filter p xs) x
kept_if_it_passes p [] x (k, lt, is) passes = absurd (omega arith)
kept_if_it_passes {X} p (y ∷ xs) x (zero, lt, is) passes =
    subst (λ (kept : List X). Contains kept x) (sym (cond-true _ _ _ (ap p is ∙ passes)))
    (0, omega arith, is)
kept_if_it_passes {X} p (y ∷ xs) x (suc k, lt, is) passes =
    let rest = kept_if_it_passes p xs x (k, omega arith, is) passes in
    elim (cases_Bool (p y)) [
      | inl is_so ↦
          let (n, within, at) = rest in
          subst (λ (kept : List X). Contains kept x) (sym (cond-true _ _ _ is_so)) (suc n, omega arith, at)
      | inr isnt ↦ subst (λ (kept : List X). Contains kept x) (sym (cond-false _ _ _ isnt)) rest
    ]

-- what is kept was there
pub there_before_filter : (p : Operation → Bool) (ops : List Operation) → IsPartOf (filter p ops) ops
there_before_filter p ops op held =
    All-contains (Contains ops) (filter p ops) op (All-filter p (Contains ops) ops (All-contains_itself ops)) held

-- a filter passes the next element, or drops it
next_filtered : (p : Operation → Bool) (ops : List Operation) (i : ℕ) (op : Operation) → slice_get ops i ≡ Some op
    → filter p (take (i + 1) ops) ≡ filter p (take i ops) ++ cond (p op) (op ∷ []) []
next_filtered p ops i op at =
    filter_more p ops i op (slice_get_within ops i op at)
    ∙ ap (λ (o : Operation). filter p (take i ops) ++ cond (p o) (o ∷ []) []) (get_or_from_slice_get ops i op op at)

pub next_passes : (p : Operation → Bool) (ops : List Operation) (i : ℕ) (op : Operation) → slice_get ops i ≡ Some op
    → p op ≡ true → filter p (take (i + 1) ops) ≡ filter p (take i ops) ++ op ∷ []
next_passes p ops i op at passes =
    next_filtered p ops i op at ∙ ap (λ (xs : List Operation). filter p (take i ops) ++ xs) (cond-true _ _ _ passes)

pub next_fails : (p : Operation → Bool) (ops : List Operation) (i : ℕ) (op : Operation) → slice_get ops i ≡ Some op
    → p op ≡ false → filter p (take (i + 1) ops) ≡ filter p (take i ops)
next_fails p ops i op at fails =
    next_filtered p ops i op at
    ∙ ap (λ (xs : List Operation). filter p (take i ops) ++ xs) (cond-false _ _ _ fails)
    ∙ append-nil (filter p (take i ops))

-- what passes of a list passes of its first part, and then of the rest
pub parts_filtered : (p : Operation → Bool) (ops : List Operation) (i : ℕ)
    → filter p ops ≡ filter p (take i ops) ++ filter p (drop i ops)
parts_filtered p ops i =
    ap (filter p) (sym (take-append-drop i ops)) ∙ filter-append p (take i ops) (drop i ops)

-- those of a list that aren't held here
abbrev pub news_of : TextState → List Operation → List Operation
news_of t ops = filter (is_past_front t) ops

-- a list's operations are held here, or are news
pub held_or_new : (t : TextState) (all ops : List Operation) → HasToTheFront t.operations all → IsPartOf ops all
    → IsPartOf ops (t.operations ++ news_of t ops)
held_or_new t all ops told part op held =
    elim (cases_Bool (is_past_front t op)) [
      | inl past ↦
          Contains-append_right t.operations (news_of t ops) op (kept_if_it_passes (is_past_front t) ops op held past)
      | inr not_past ↦
          Contains-append_left t.operations (news_of t ops) op
          ((told op (part op held)).1 (ltb-false _ _ not_past))
    ]

-- and what is held with the news is held here, or is of the list
pub held_with_news : (t : TextState) (ops : List Operation) → IsPartOf (t.operations ++ news_of t ops) (t.operations ++ ops)
held_with_news t ops op h =
    elim (Contains-append_cases t.operations (news_of t ops) op h) [
      | inl here ↦ Contains-append_left t.operations ops op here
      | inr new ↦ Contains-append_right t.operations ops op (there_before_filter (is_past_front t) ops op new)
    ]

-- a merge shows the union
pub shows_the_union : MergesShowTheUnion
shows_the_union t other new count is is' (can, number, taken) =
    let both : List Operation = t.operations ++ other.operations in
    let told = has_to_the_front t.operations other.operations is.good can.identified in
    let now : new.operations ≡ t.operations ++ news t other = ap (λ (u : TextState). u.operations) taken.grown in
    let same : AreSameSet new.operations both = λ op. (
      λ h. held_with_news t other.operations op (subst (λ (ops : List Operation). Contains ops op) now h),
      λ h. subst (λ (ops : List Operation). Contains ops op) (sym now)
          (elim (Contains-append_cases t.operations other.operations op h) [
            | inl here ↦ Contains-append_left t.operations (news t other) op here
            | inr there ↦ held_or_new t other.operations other.operations told (λ o g. g) op there
          ]),
    ) in
    record {
      operations = same;
      shown = (says_the_same new.operations both same taken.is.good).shown (shown_of new) (shows_the_definition new taken.is);
    }

-- where a merge was done, the text shows the union
pub union_where_done : (t other new : TextState) (result : Result ℕ MergeRefusal) → IsText t
    → IsText other → Merges t other result new ⊎ MergesShort t other result new → OnOk result (IsUnionOf t other new)
union_where_done t other new (Ok count) is is' (inl merges) = shows_the_union t other new count is is' merges
union_where_done t other new (Ok count) is is' (inr short) = absurd short
union_where_done t other new (Err why) is is' merges = tt
