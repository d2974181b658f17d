-- What stands before a member, and what a part of the members weighs.
use Rattle.std.proofs.Common.{◌≡◌, ◌≢◌, ℕ, ◌+◌, ◌<◌, ◌≤◌, [], ◌∷◌, ◌++◌, length, get_or, take, drop, All}
use Rattle.std.proofs.Common.{sym, ap, ◌∙◌, subst, arith}
use Rattle.std.proofs.lemmas.List.{take-append-drop, take_all, drop_more, take_more, length-append, length-take-le}
use Rattle.std.proofs.lemmas.List.Elements.{All-more}
use Rattle.std.proofs.lemmas.List.Sums.{sum-map, sum_by-append, sum_by-cons}
use Rattle.std.proofs.Math.Seq.{get_or-append_seam}
use Rattle.piece_raw.specs.Ring.{HasTag}
use Rattle.rank_index.specs.Slots.{IsSlot}
use Rattle.rank_index.specs.Ranked.{weight_of, IsRank, IsFound}
use Rattle.rank_index.proofs.Tagged.{Members}

pub weight_of-append : (xs ys : Members) → weight_of (xs ++ ys) ≡ weight_of xs + weight_of ys
weight_of-append xs ys =
    let f : ℕ × ℕ → ℕ = λ (m : ℕ × ℕ). m.1 in
    omega (arith, sum-map f (xs ++ ys), sum-map f xs, sum-map f ys, sum_by-append f xs ys)

-- the weight of a list that is cut at one member
pub weight_of-cut : (xs : Members) (m : ℕ × ℕ) (ys : Members)
    → weight_of (xs ++ m ∷ ys) ≡ weight_of xs + (m.1 + weight_of ys)
weight_of-cut xs m ys =
    let f : ℕ × ℕ → ℕ = λ (n : ℕ × ℕ). n.1 in
    omega (arith, weight_of-append xs (m ∷ ys), sum-map f (m ∷ ys), sum-map f ys, sum_by-cons f m ys)

module _ (xs : Members) (i : ℕ) (d : ℕ × ℕ) (lt : i < length xs) where
  split_across : xs ≡ take i xs ++ get_or xs i d ∷ drop (i + 1) xs
  split_across = sym (take-append-drop i xs) ∙ ap (λ (l : Members). take i xs ++ l) (drop_more xs i d lt)

  -- one member more
  pub weight_of-more : weight_of (take (i + 1) xs) ≡ weight_of (take i xs) + (get_or xs i d).1
  weight_of-more =
      omega (arith, ap weight_of (take_more xs i d lt), weight_of-cut (take i xs) (get_or xs i d) [])

  -- what stands before a member, and the member, are within the whole
  pub weight_of-more_le : weight_of (take i xs) + (get_or xs i d).1 ≤ weight_of xs
  weight_of-more_le =
      omega (arith, ap weight_of split_across, weight_of-cut (take i xs) (get_or xs i d) (drop (i + 1) xs))

  pub others_more : (tag : ℕ) → All (λ n. n.0 ≢ tag) (take i xs) → (get_or xs i d).0 ≢ tag
      → All (λ n. n.0 ≢ tag) (take (i + 1) xs)
  others_more tag others other = All-more (λ (n : ℕ × ℕ). n.0 ≢ tag) xs i d lt others other

  -- a member of this tag
  pub rank_at : (ys : Members) (tag n : ℕ) → xs ≡ ys → (get_or xs i d).0 ≡ tag → n ≡ weight_of (take i xs)
      → IsRank ys tag n
  rank_at ys tag n same head count =
      let weight : ℕ = (get_or xs i d).1 in (
        take i xs,
        drop (i + 1) xs,
        weight,
        sym same ∙ split_across ∙ ap (λ (t : ℕ). take i xs ++ (t, weight) ∷ drop (i + 1) xs) head,
        count,
      )

  pub slot_at : (tag : ℕ) → (get_or xs i d).0 ≡ tag → IsSlot xs tag i
  slot_at tag head =
      let weight : ℕ = (get_or xs i d).1 in (
        take i xs,
        drop (i + 1) xs,
        weight,
        split_across ∙ ap (λ (t : ℕ). take i xs ++ (t, weight) ∷ drop (i + 1) xs) head,
        sym (length-take-le i xs (omega arith)),
      )

  -- a member whose stretch holds a position
  pub found_at : (ys : Members) (pos within : ℕ) → xs ≡ ys → within < (get_or xs i d).1
      → pos ≡ weight_of (take i xs) + within → IsFound ys pos (get_or xs i d).0 within
  found_at ys pos within same inside at =
      (take i xs, drop (i + 1) xs, (get_or xs i d).1, sym same ∙ split_across, at, inside)

-- a tag that none has
no_member : (xs : Members) (tag : ℕ) → All (λ m. m.0 ≢ tag) xs → HasTag xs tag → ⊥
no_member xs tag none (weight, (before, after, cut)) =
    let m : ℕ × ℕ = (tag, weight) in
    none (length before) m (omega (arith, ap length cut, length-append before (m ∷ after)))
    (ap (λ (l : Members). (get_or l (length before) m).0) cut
    ∙ ap (λ (n : ℕ × ℕ). n.0) (get_or-append_seam before m after m))

-- a tag that none has of those from the front on
pub none_after : (xs : Members) (i tag : ℕ) → i ≡ 0 → All (λ m. m.0 ≢ tag) (drop i xs) → HasTag xs tag → ⊥
none_after xs i tag front none =
    no_member xs tag (subst (λ (n : ℕ). All (λ m. m.0 ≢ tag) (drop n xs)) front none)

-- a tag that none has of those that a loop has passed
pub none_passed : (xs ys : Members) (i tag : ℕ) → xs ≡ ys → length xs ≤ i → All (λ m. m.0 ≢ tag) (take i xs)
    → HasTag ys tag → ⊥
none_passed xs ys i tag same all none =
    no_member ys tag (subst (λ (l : Members). All (λ m. m.0 ≢ tag) l) (take_all i xs all ∙ same) none)
