use Rattle.std.proofs.Common.{◌≡◌, ◌≢◌, ℕ, ◌+◌, ◌<◌, ◌≤◌, List, length, slice_index_or, slice_set, sym, subst, ◌∙◌, arith, below_more}
use Rattle.std.proofs.lemmas.List.{get_or-set_other, get_or-set_same, get_or_default}
use Rattle.desk_windows.specs.Windows.{IsWindowTold}
use Rattle.desk_windows.proofs.telling.tell_each.Goals as goal

-- one element more of a list is so with what it was
one_more : {C : Type 0} (R : C → C → Type 0) (old now : List C) (i : ℕ) (w x : C) → i < length now
    → ((k : ℕ) (d : C) → k < i → R (slice_index_or old k d) (slice_index_or now k d))
    → ((k : ℕ) (d : C) → i ≤ k → slice_index_or now k d ≡ slice_index_or old k d)
    → R (slice_index_or now i w) x
    → (k : ℕ) → k < i + 1 → (d : C) → R (slice_index_or old k d) (slice_index_or (slice_set now i x) k d)
one_more {C} R old now i w x lt told left one =
    below_more (λ (k : ℕ). (d : C) → R (slice_index_or old k d) (slice_index_or (slice_set now i x) k d)) i
    (λ k less d.
    let ne : k ≢ i = omega arith in
    subst (R (slice_index_or old k d)) (sym (get_or-set_other now i k x d ne)) (told k d less))
    (λ d.
    let was : slice_index_or now i w ≡ slice_index_or old i d = get_or_default now i w d lt ∙ left i d (omega arith) in
    subst (R (slice_index_or old i d)) (sym (get_or-set_same now i x d lt))
    (subst (λ (y : C). R y x) was one))

pub loop-index-preserved : goal.loop-index-preserved
loop-index-preserved c =
    let i = c.loop-index.index in
    let more = one_more (IsWindowTold c.args.text c.args.changes.now c.args.replica.now) c.args.windows.now c.loop-index.windows i
    c.index-windows-index.result c.tell.new.self (omega arith) c.loop-index.invariant.told c.loop-index.invariant.left
    c.tell.ensures in
    record {
      told = λ k d lt. more k lt d;
      left = λ k d le.
          let ne : k ≢ i = omega arith in
          get_or-set_other c.loop-index.windows i k c.tell.new.self d ne ∙ c.loop-index.invariant.left k d (omega arith);
    }
