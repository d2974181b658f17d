-- The run of one Insert more, put into its gap, makes the order.
use Rattle.std.proofs.Common.{◌≡◌, ◌↔◌, inl, inr, true, false, List, [], ◌∷◌, ◌++◌, refl, sym, ap, subst}
use Rattle.std.proofs.Common.{◌∙◌, append_assoc, AllPairs, Contains, arith}
use Rattle.std.proofs.lemmas.Bool.{false≢true}
use Rattle.std.proofs.lemmas.Bool.Decides.{nat_tests}
use Rattle.std.proofs.lemmas.List.Elements.{All-contains, Contains-append_left, Contains-append_right}
use Rattle.std.proofs.lemmas.List.Elements.{Contains-append_cases, Contains-push, Contains-push_cases}
use Rattle.std.proofs.lemmas.List.{append-nil}
use Rattle.looks.specs.Key.{is_below}
use Rattle.looks.specs.declared.key.Key.{Key}
use Rattle.char_files.specs.CharName.{CharName}
use Rattle.char_files.specs.declared.name.Anchor.{Anchor}
use Rattle.char_files.specs.declared.name.Anchor.TheVariants.{Root, At}
use Rattle.operations.specs.Operation.{Operation, Inserts, key_of}
use Rattle.tree_order.specs.Insertion.{IsOneMore, IsGap, EndsAt, BeginsNotAbove, IsAbove, IsNotAbove, run_of}
use Rattle.tree_order.specs.Insertion.{RunGoesIntoGap}
use Rattle.tree_order.specs.Tree.{IsChar, IsInsertOf, IsParent, IsPath, LeadsDown}
use Rattle.tree_order.specs.Order.{Before, IsOrder}
use Rattle.tree_order.proofs.Before.{Before-asymmetric, Before-irreflexive, Before-transitive}
use Rattle.tree_order.proofs.Before.{trail_from_Before}
use Rattle.tree_order.proofs.Before.{IsOrder-from_sorted, sorted_from_IsOrder}
use Rattle.tree_order.proofs.OneMore.{held, new_insert, old_insert, old_char, old_before}
use Rattle.tree_order.proofs.OneMore.{no_old_descendant, new_and_old}
use Rattle.tree_order.proofs.Paths.{Leads-append}
use Rattle.tree_order.proofs.RunNames.{run_inserts, run_leads}
use Rattle.tree_order.proofs.RunPlace.{TurnsOff, turns_off, above_between}
use Rattle.tree_order.proofs.Runs.{between}
use Rattle.tree_order.proofs.Sorted.{AllPairs-across, AllPairs-between, AllPairs-tail}
use Rattle.tree_order.proofs.Sorted.{Contains-head, Contains-tail, Contains-cons_cases}
use Rattle.tree_order.proofs.SortedPathsLemmas.{IsChar-push}
use Rattle.tree_order.proofs.Trails.{Trail}
use Rattle.tree_order.proofs.Tree.{has_path, one_insert}

-- a child stands after its parent
before_child : (ops : List Operation) (c d : CharName) (path : List CharName) → LeadsDown ops Root path (At c)
    → IsParent ops d (At c) → Before ops c d
before_child ops c d path up hung =
    let on : IsPath ops d (path ++ d ∷ []) =
    Leads-append ops Root (At c) (At d) path (d ∷ []) up (hung, refl) in
    (path, path ++ d ∷ [], up, on, inl (d, [], refl))

-- two tests of one key can't differ
below_once : (a j m : Operation) (k : Key) → j ≡ m → k ≡ key_of j → is_below (key_of a) k ≡ false
    → is_below (key_of a) (key_of m) ≡ true → ⊥
below_once a j m k same is stops above =
    false≢true (sym stops ∙ ap (is_below (key_of a)) is
    ∙ ap (λ (o : Operation). is_below (key_of a) (key_of o)) same ∙ above)

not_both_ways : (a j m : Operation) (k : Key) → j ≡ m → k ≡ key_of j → is_below (key_of a) k ≡ true
    → is_below (key_of m) (key_of a) ≡ true → ⊥
not_both_ways a j m k same is more less =
    let again : is_below (key_of a) (key_of m) ≡ true =
    sym (ap (is_below (key_of a)) is ∙ ap (λ (o : Operation). is_below (key_of a) (key_of o)) same) ∙ more in
    grind (arith, nat_tests)

module _ (ops : List Operation) (i : Operation) (one : IsOneMore ops i) (order : List CharName)
    (is : IsOrder ops order) where
  -- the old order is sorted in the larger set too
  pub old_sorted : AllPairs (Before (ops ++ i ∷ [])) order
  old_sorted j k d lt within = old_before ops i one _ _ (sorted_from_IsOrder ops order is j k d lt within)

module _ (ops : List Operation) (i : Operation) (one : IsOneMore ops i)
    (preceding skipped following : List CharName) (is : IsOrder ops (preceding ++ skipped ++ following))
    (gap : IsGap ops i preceding skipped following) (r : CharName) (new : Inserts i r)
    (hung : IsParent (ops ++ i ∷ []) r gap.cause) where
  sorted : AllPairs (Before (ops ++ i ∷ [])) (preceding ++ skipped ++ following)
  sorted = old_sorted ops i one (preceding ++ skipped ++ following) is

  char_of : (c : CharName) → Contains (preceding ++ skipped ++ following) c → IsChar ops c
  char_of c h = (is.each c).0 h

  char_before : (c : CharName) → Contains preceding c → IsChar ops c
  char_before c h =
      char_of c (Contains-append_left (preceding ++ skipped) following c (Contains-append_left preceding skipped c h))

  char_skipped : (c : CharName) → Contains skipped c → IsChar ops c
  char_skipped c h =
      char_of c (Contains-append_left (preceding ++ skipped) following c (Contains-append_right preceding skipped c h))

  char_after : (c : CharName) → Contains following c → IsChar ops c
  char_after c h = char_of c (Contains-append_right (preceding ++ skipped) following c h)

  -- what stands up to the cause is before r
  up_to_cause : (a : Anchor) → EndsAt preceding a → IsParent (ops ++ i ∷ []) r a → (x : CharName)
      → Contains preceding x → Before (ops ++ i ∷ []) x r
  up_to_cause Root none on x h =
      let h' : Contains {X = CharName} [] x = subst (λ (xs : List CharName). Contains xs x) none h in
      absurd (omega arith)
  up_to_cause (At c) (front, e) on x h =
      let all : List Operation = ops ++ i ∷ [] in
      let last : Contains preceding c =
      subst (λ (xs : List CharName). Contains xs c) (sym e) (Contains-push front c) in
      let (path, up) = has_path all one.larger c (old_char ops i one c (char_before c last)) in
      let parent : Before all c r = before_child all c r path up on in
      elim (Contains-push_cases front c x (subst (λ (xs : List CharName). Contains xs x) e h)) [
        | inl earlier ↦
            let whole : preceding ++ skipped ++ following ≡ front ++ (c ∷ [] ++ skipped ++ following) =
            rw e (append_assoc (front ++ c ∷ []) skipped following
            ∙ append_assoc front (c ∷ []) (skipped ++ following)
            ∙ ap (λ (xs : List CharName). front ++ xs) (sym (append_assoc (c ∷ []) skipped following))) in
            let pairs : AllPairs (Before all) (front ++ (c ∷ [] ++ skipped ++ following)) =
            subst (AllPairs (Before all)) whole sorted in
            Before-transitive all one.larger x c r
            (AllPairs-across (Before all) front (c ∷ [] ++ skipped ++ following) pairs x c earlier
            (Contains-head c ([] ++ skipped ++ following))) parent
        | inr same ↦ subst (λ (y : CharName). Before all y r) same parent
      ]

  -- what is skipped is before r: else a smaller key stood among it
  skipped_before : (x : CharName) → Contains skipped x → Before (ops ++ i ∷ []) x r
  skipped_before x h =
      elim (new_and_old ops i one r x new (char_skipped x h)) [
        | inl after ↦ absurd (none_turns_off (turns_off ops i one r new x (char_skipped x h) after))
        | inr before ↦ before
      ]
    where
      none_turns_off : TurnsOff ops i r x → ⊥
      none_turns_off t =
          elim (Contains-append_cases (preceding ++ skipped) following t.d ((is.each t.d).1 t.old)) [
            | inl k ↦ elim (Contains-append_cases preceding skipped t.d k) [
              | inl up ↦ Before-asymmetric (ops ++ i ∷ []) one.larger r t.d t.after
                  (up_to_cause gap.cause gap.at_cause hung t.d up)
              | inr among ↦
                  let (k', (j, at_d, same), more) =
                  All-contains (IsAbove ops (key_of i)) skipped t.d gap.greater among in
                  let one_d : j ≡ t.insert =
                  one_insert (ops ++ i ∷ []) one.larger t.d j t.insert (old_insert ops i one t.d j at_d)
                  t.inserts in
                  not_both_ways i j t.insert k' one_d same more t.smaller
            ]
            | inr k ↦
                let stands_before : Before (ops ++ i ∷ []) x t.d =
                AllPairs-across (Before (ops ++ i ∷ [])) (preceding ++ skipped) following sorted x t.d
                (Contains-append_right preceding skipped x h) k in
                elim t.up_to [
                  | inl e ↦ Before-irreflexive (ops ++ i ∷ []) one.larger x
                      (subst (Before (ops ++ i ∷ []) x) e stands_before)
                  | inr back ↦ Before-asymmetric (ops ++ i ∷ []) one.larger x t.d stands_before back
                ]
          ]

  front_before : (x : CharName) → Contains (preceding ++ skipped) x → Before (ops ++ i ∷ []) x r
  front_before x h =
      elim (Contains-append_cases preceding skipped x h) [
        | inl k ↦ up_to_cause gap.cause gap.at_cause hung x k
        | inr k ↦ skipped_before x k
      ]

  -- a path to the cause goes before those of the characters after it
  cause_before : (a : Anchor) → EndsAt preceding a → (b : CharName) → Contains following b → (q : List CharName)
      → LeadsDown (ops ++ i ∷ []) Root q (At b)
      → (path : List CharName) × LeadsDown (ops ++ i ∷ []) Root path a × Trail (ops ++ i ∷ []) path q
  cause_before Root none b h [] uq = let both : Root ≡ At b = uq in absurd cc
  cause_before Root none b h (d ∷ q) uq = ([], refl, tt)
  cause_before (At c) (front, e) b h q uq =
      let all : List Operation = ops ++ i ∷ [] in
      let last : Contains preceding c =
      subst (λ (xs : List CharName). Contains xs c) (sym e) (Contains-push front c) in
      let (path, up) = has_path all one.larger c (old_char ops i one c (char_before c last)) in
      let before : Before all c b =
      AllPairs-across (Before all) (preceding ++ skipped) following sorted c b
      (Contains-append_left preceding skipped c last) h in
      (path, up, trail_from_Before all one.larger c b path q up uq before)

  -- r is before the first character that isn't skipped: else that one had a greater key
  first_after : (b : CharName) → Contains following b → IsNotAbove ops (key_of i) b → Before (ops ++ i ∷ []) r b
  first_after b h (k, (j, at_b, same), stops) =
      elim (new_and_old ops i one r b new (char_after b h)) [
        | inl before ↦ before
        | inr after ↦
            let all : List Operation = ops ++ i ∷ [] in
            let at_b' : IsInsertOf all b j = old_insert ops i one b j at_b in
            let (q, uq) = has_path all one.larger b (j, at_b') in
            let (path, up, goes) = cause_before gap.cause gap.at_cause b h q uq in
            let above = above_between ops i one r new gap.cause path b j (char_after b h) at_b' up hung q uq
            goes after in
            absurd (below_once i j j k refl same stops above)
      ]

-- what stands after one that r is before is after r
after_first : (ops : List Operation) (i : Operation) → IsOneMore ops i → (r b : CharName)
    → (following : List CharName) → AllPairs (Before (ops ++ i ∷ [])) (b ∷ following)
    → Before (ops ++ i ∷ []) r b → (x : CharName) → Contains (b ∷ following) x → Before (ops ++ i ∷ []) r x
after_first ops i one r b following pairs first x h =
    let all : List Operation = ops ++ i ∷ [] in
    elim (Contains-cons_cases b following x h) [
      | inl e ↦ subst (Before all r) (sym e) first
      | inr later ↦ Before-transitive all one.larger r b x first
          (AllPairs-across (Before all) (b ∷ []) following pairs b x (Contains-head b []) later)
    ]

-- the part of a sorted list after its front
sorted_after : (ops : List Operation) (front following : List CharName)
    → AllPairs (Before ops) (front ++ following) → AllPairs (Before ops) following
sorted_after ops [] following pairs = pairs
sorted_after ops (x ∷ front) following pairs =
    sorted_after ops front following (AllPairs-tail (Before ops) x (front ++ following) pairs)

-- r is before all that isn't skipped
all_later : (ops : List Operation) (i : Operation) (one : IsOneMore ops i)
    (preceding skipped following : List CharName) → IsOrder ops (preceding ++ skipped ++ following)
    → (gap : IsGap ops i preceding skipped following) → (r : CharName) → Inserts i r
    → IsParent (ops ++ i ∷ []) r gap.cause → BeginsNotAbove ops (key_of i) following
    → (x : CharName) → Contains following x → Before (ops ++ i ∷ []) r x
all_later ops i one preceding skipped [] is gap r new hung stops x h = absurd (omega arith)
all_later ops i one preceding skipped (b ∷ following) is gap r new hung stops x h =
    let all : List Operation = ops ++ i ∷ [] in
    let pairs : AllPairs (Before all) (b ∷ following) =
    sorted_after all (preceding ++ skipped) (b ∷ following)
    (old_sorted ops i one (preceding ++ skipped ++ b ∷ following) is) in
    after_first ops i one r b following pairs (first_after ops i one preceding skipped (b ∷ following) is gap r new
    hung b (Contains-head b following) stops) x h

-- the rest of the run stands directly after its first character, each one after the one before
module _ (ops : List Operation) (i : Operation) (one : IsOneMore ops i) where
  -- no old character comes between one of the run and the next
  next_before : (r d x : CharName) → Inserts i r → Inserts i d → IsChar ops x
      → IsParent (ops ++ i ∷ []) d (At r) → Before (ops ++ i ∷ []) r x → Before (ops ++ i ∷ []) d x
  next_before r d x new_r new_d old hung before =
      elim (new_and_old ops i one d x new_d old) [
        | inl b ↦ b
        | inr back ↦ absurd (no_old_descendant ops i one r x new_r old
            (between (ops ++ i ∷ []) one.larger r d x hung before back))
      ]

  rest_sorted : (front : List CharName) (r : CharName) (rest following : List CharName) (b : Anchor)
      → AllPairs (Before (ops ++ i ∷ [])) (front ++ r ∷ following) → LeadsDown (ops ++ i ∷ []) (At r) rest b
      → ((x : CharName) → Contains (r ∷ rest) x → Inserts i x)
      → ((x : CharName) → Contains following x → IsChar ops x)
      → AllPairs (Before (ops ++ i ∷ [])) (front ++ (r ∷ rest) ++ following)
  rest_sorted front r [] following b pairs lead new old = rw (append_assoc front (r ∷ []) following) pairs
  rest_sorted front r (d ∷ rest) following b pairs (hung, lead) new old =
      let all : List Operation = ops ++ i ∷ [] in
      let new_r : Inserts i r = new r (Contains-head r (d ∷ rest)) in
      let new_d : Inserts i d = new d (Contains-tail r (d ∷ rest) d (Contains-head d rest)) in
      let (path, up) = has_path all one.larger r (i, new_insert ops i one r new_r) in
      let next : Before all r d = before_child all r d path up hung in
      let joined : AllPairs (Before all) ((front ++ r ∷ []) ++ following) =
      rw (append_assoc front (r ∷ []) following) pairs in
      let below : (x : CharName) → Contains (front ++ r ∷ []) x → Before all x d =
      λ x h. elim (Contains-push_cases front r x h) [
        | inl earlier ↦ Before-transitive all one.larger x r d
            (AllPairs-across (Before all) front (r ∷ following) pairs x r earlier (Contains-head r following)) next
        | inr same ↦ subst (λ (y : CharName). Before all y d) same next
      ] in
      let above : (x : CharName) → Contains following x → Before all d x =
      λ x h. next_before r d x new_r new_d (old x h) hung
      (AllPairs-across (Before all) (front ++ r ∷ []) following joined r x (Contains-push front r) h) in
      let more : AllPairs (Before all) ((front ++ r ∷ []) ++ d ∷ following) =
      AllPairs-between (Before all) (front ++ r ∷ []) following d joined below above in
      let whole : AllPairs (Before all) ((front ++ r ∷ []) ++ (d ∷ rest) ++ following) =
      rest_sorted (front ++ r ∷ []) d rest following b more lead
      (λ x h. new x (Contains-tail r (d ∷ rest) x h)) old in
      subst (λ (xs : List CharName). AllPairs (Before all) (xs ++ following))
      (append_assoc front (r ∷ []) (d ∷ rest)) whole

-- the run in its gap is sorted
run_sorted : (ops : List Operation) (i : Operation) (one : IsOneMore ops i)
    (preceding skipped following : List CharName) → IsOrder ops (preceding ++ skipped ++ following)
    → (gap : IsGap ops i preceding skipped following) → (run : List CharName) (b : Anchor)
    → LeadsDown (ops ++ i ∷ []) gap.cause run b → ((x : CharName) → Contains run x → Inserts i x)
    → AllPairs (Before (ops ++ i ∷ [])) (preceding ++ skipped ++ run ++ following)
run_sorted ops i one preceding skipped following is gap [] b lead new =
    let all : List Operation = ops ++ i ∷ [] in
    subst (λ (xs : List CharName). AllPairs (Before all) (xs ++ following)) (sym (append-nil (preceding ++ skipped)))
    (old_sorted ops i one (preceding ++ skipped ++ following) is)
run_sorted ops i one preceding skipped following is gap (r ∷ rest) b (hung, lead) new =
    let all : List Operation = ops ++ i ∷ [] in
    let new_r : Inserts i r = new r (Contains-head r rest) in
    rest_sorted ops i one (preceding ++ skipped) r rest following b
    (AllPairs-between (Before all) (preceding ++ skipped) following r
    (old_sorted ops i one (preceding ++ skipped ++ following) is)
    (front_before ops i one preceding skipped following is gap r new_r hung)
    (all_later ops i one preceding skipped following is gap r new_r hung gap.stops))
    lead new (λ x h. (is.each x).0 (Contains-append_right (preceding ++ skipped) following x h))

-- and it has each character
each_with_run : (ops : List Operation) (i : Operation) (front following : List CharName)
    → IsOrder ops (front ++ following) → (c : CharName)
    → Contains (front ++ run_of i ++ following) c ↔ IsChar (ops ++ i ∷ []) c
each_with_run ops i front following is c = (
  λ h. (IsChar-push ops i c).1 (elim (Contains-append_cases (front ++ run_of i) following c h) [
    | inl k ↦ elim (Contains-append_cases front (run_of i) c k) [
      | inl m ↦ inl ((is.each c).0 (Contains-append_left front following c m))
      | inr m ↦ inr ((run_inserts i c).0 m)
    ]
    | inr k ↦ inl ((is.each c).0 (Contains-append_right front following c k))
  ]),
  λ h. elim ((IsChar-push ops i c).0 h) [
    | inl old ↦ elim (Contains-append_cases front following c ((is.each c).1 old)) [
      | inl k ↦ Contains-append_left (front ++ run_of i) following c (Contains-append_left front (run_of i) c k)
      | inr k ↦ Contains-append_right (front ++ run_of i) following c k
    ]
    | inr inserts ↦ Contains-append_left (front ++ run_of i) following c
        (Contains-append_right front (run_of i) c ((run_inserts i c).1 inserts))
  ],
)

pub into_gap : RunGoesIntoGap
into_gap ops i preceding skipped following one is gap =
    let (b, lead) = run_leads (ops ++ i ∷ []) i gap.cause (held ops i one) gap.of_insert in
    IsOrder-from_sorted (ops ++ i ∷ []) one.larger (preceding ++ skipped ++ run_of i ++ following)
    (each_with_run ops i (preceding ++ skipped) following is)
    (run_sorted ops i one preceding skipped following is gap (run_of i) b lead (λ x h. (run_inserts i x).0 h))
