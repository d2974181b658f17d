-- What a change at a slot does to the members.
use Rattle.std.proofs.Common.{◌≡◌, ℕ, ◌+◌, ◌<◌, ◌==◌, Bool, false, cond, [], ◌∷◌, ◌++◌, Some, length}
use Rattle.std.proofs.Common.{get_or, take, drop, set, refl, sym, ap, ◌∙◌, subst, arith}
use Rattle.std.proofs.Common.{append_assoc, eq-eqb, ne_eqb}
use Rattle.std.specs.List.{AllByRecursion, IsDistinct, insert}
use Rattle.std.proofs.lemmas.Bool.{eqb-false}
use Rattle.std.proofs.lemmas.List.{take-append-drop, take_at, length-append}
use Rattle.std.proofs.lemmas.List.Sums.{sum-map, sum_by-set}
use Rattle.std.proofs.Math.Seq.{get_or-append_seam, set-append_seam}
use Rattle.piece_raw.specs.Ring.{HasTag, last_tag, tags, with_value}
use Rattle.rank_index.specs.Slots.{IsSlot}
use Rattle.rank_index.specs.Ranked.{weight_of}
use Rattle.rank_index.proofs.ChunkRank.{weight_of-append, weight_of-cut}
use Rattle.rank_index.proofs.Tagged.{Members}

-- a member of a tag is among the members
pub has_slot : (xs : Members) (tag slot : ℕ) → IsSlot xs tag slot → HasTag xs tag
has_slot xs tag slot (before, after, weight, cut, at) = (weight, (before, after, cut))

last_tag-push : (xs : Members) (m : ℕ × ℕ) → last_tag (xs ++ m ∷ []) ≡ Some m.0
last_tag-push [] m = refl
last_tag-push (n ∷ []) m = refl
last_tag-push (n ∷ k ∷ xs) m = last_tag-push (k ∷ xs) m

pub slot_within : (xs : Members) (tag slot : ℕ) → IsSlot xs tag slot → slot < length xs
slot_within xs tag slot (before, after, weight, cut, at) =
    omega (arith, ap length cut, length-append before ((tag, weight) ∷ after))

-- the last one up to the slot after a tag's is the one of this tag
pub last_later : (xs : Members) (tag slot : ℕ) → IsSlot xs tag slot
    → last_tag (take (slot + 1) xs) ≡ Some tag
last_later xs tag slot (before, after, weight, cut, at) =
    let m : ℕ × ℕ = (tag, weight) in
    let count : length (before ++ m ∷ []) ≡ slot + 1 = omega (arith, length-append before (m ∷ [])) in
    let front : take (slot + 1) xs ≡ before ++ m ∷ [] =
    ap (take (slot + 1)) (cut ∙ sym (append_assoc before (m ∷ []) after))
    ∙ take_at (before ++ m ∷ []) after (slot + 1) count in
    ap last_tag front ∙ last_tag-push before m

-- what one member more weighs
pub weight_of-insert : (xs : Members) (at : ℕ) (m : ℕ × ℕ) → weight_of (insert xs at m) ≡ weight_of xs + m.1
weight_of-insert xs at m =
    omega (
      arith,
      ap weight_of (take-append-drop at xs),
      weight_of-append (take at xs) (drop at xs),
      weight_of-cut (take at xs) m (drop at xs),
    )

-- what the members weigh after a write
pub weight_of-set : (xs : Members) (i : ℕ) (m d : ℕ × ℕ) → i < length xs
    → weight_of (set xs i m) + (get_or xs i d).1 ≡ weight_of xs + m.1
weight_of-set xs i m d lt =
    let f : ℕ × ℕ → ℕ = λ (n : ℕ × ℕ). n.1 in
    omega (arith, sum-map f (set xs i m), sum-map f xs, sum_by-set f xs i m d lt)

module _ (P : ℕ → Type 0) where
  at_cut : (xs : Members) (m : ℕ × ℕ) (ys : Members) → AllByRecursion P (tags (xs ++ m ∷ ys)) → P m.0
  at_cut [] m ys all = all.0
  at_cut (n ∷ xs) m ys all = at_cut xs m ys all.1

-- a tag's weight changes nothing where the tag isn't
others_stay : (tag w : ℕ) (xs : Members) → AllByRecursion (λ t. (tag == t) ≡ false) (tags xs)
    → with_value tag w xs ≡ xs
others_stay tag w [] others = refl
others_stay tag w (m ∷ xs) others =
    let other : (m.0 == tag) ≡ false = ne_eqb m.0 tag (λ e. eqb-false tag m.0 others.0 (sym e)) in
    ap (λ (b : Bool). (m.0, cond b w m.1) ∷ with_value tag w xs) other
    ∙ ap (λ (l : Members). m ∷ l) (others_stay tag w xs others.1)

written : (xs ys : Members) (tag v w : ℕ) → IsDistinct ◌==◌ (tags (xs ++ (tag, v) ∷ ys))
    → with_value tag w (xs ++ (tag, v) ∷ ys) ≡ xs ++ (tag, w) ∷ ys
unfolding IsDistinct
written [] ys tag v w distinct =
    ap (λ (b : Bool). (tag, cond b w v) ∷ with_value tag w ys) (eq-eqb tag tag refl)
    ∙ ap (λ (l : Members). (tag, w) ∷ l) (others_stay tag w ys distinct.0)
written (m ∷ xs) ys tag v w distinct =
    ap (λ (b : Bool). (m.0, cond b w m.1) ∷ with_value tag w (xs ++ (tag, v) ∷ ys))
    (at_cut (λ t. (m.0 == t) ≡ false) xs (tag, v) ys distinct.0)
    ∙ ap (λ (l : Members). m ∷ l) (written xs ys tag v w distinct.1)

-- a weight written at a tag's slot
pub set_at : (items xs : Members) (tag slot w : ℕ) (m : ℕ × ℕ) → items ≡ xs → m ≡ get_or items slot m
    → IsSlot xs tag slot → IsDistinct ◌==◌ (tags xs) → set items slot (m.0, w) ≡ with_value tag w xs
set_at items xs tag slot w m same read (before, after, v, cut, at) distinct =
    let n : ℕ × ℕ = (tag, v) in
    let whole : items ≡ before ++ n ∷ after = same ∙ cut in
    let kept : m.0 ≡ tag =
    ap (λ (k : ℕ × ℕ). k.0) read ∙ ap (λ (l : Members). (get_or l slot m).0) whole
    ∙ ap (λ (k : ℕ). (get_or (before ++ n ∷ after) k m).0) at
    ∙ ap (λ (k : ℕ × ℕ). k.0) (get_or-append_seam before n after m) in
    ap (λ (t : ℕ). set items slot (t, w)) kept
    ∙ ap (λ (l : Members). set l slot (tag, w)) whole
    ∙ ap (λ (k : ℕ). set (before ++ n ∷ after) k (tag, w)) at
    ∙ set-append_seam before n after (tag, w)
    ∙ sym (written before after tag v w (subst (λ (l : Members). IsDistinct ◌==◌ (tags l)) cut distinct))
    ∙ sym (ap (with_value tag w) cut)
