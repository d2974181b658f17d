-- Chunks, one of which has another member or other weights.
use Rattle.std.proofs.Common.{◌≡◌, ℕ, ◌+◌, ◌<◌, ◌≤◌, List, [], ◌∷◌, ◌++◌, length, get_or}
use Rattle.std.proofs.Common.{Option, Some, None, inl, inr, refl, sym, ap, subst, ◌∙◌, arith, append_assoc}
use Rattle.std.proofs.Common.{length-append}
use Rattle.std.specs.List.{IsDistinct}
use Rattle.std.proofs.Math.ListN.{set}
use Rattle.std.proofs.lemmas.List.Elements.{All-cons, All-nil}
use Rattle.piece_raw.specs.Ring.{HasTag, AreTags, IsPushed, last_tag}
use Rattle.rank_index.specs.declared.chunk.TheConstants.{HALF}
use Rattle.rank_index.specs.Chunks.{ChunkSeen, members_of, AreEnteredUnder, AreHalfFull, AreTied}
use Rattle.rank_index.specs.Chunks.{IsSlotAfter}
use Rattle.rank_index.specs.Ranked.{weight_of}
use Rattle.rank_index.proofs.ChunkRank.{weight_of-append, weight_of-cut}
use Rattle.rank_index.proofs.Homes.{homes_pushed}
use Rattle.rank_index.proofs.Pieces.{all_parts, all_whole, seam_at}
use Rattle.rank_index.proofs.Stretches.{members_of-seam}
use Rattle.rank_index.proofs.Tagged.{Members, HasTag-nil, tags_pushed}

-- no members at all
pub tied_empty : (c : ChunkSeen) → c.members ≡ [] → AreTied [] (c ∷ [])
unfolding IsDistinct
tied_empty c e =
    let none : members_of (c ∷ []) ≡ [] = ap (λ (l : Members). l ++ []) e in
    let P : ChunkSeen → Type 0 = λ (d : ChunkSeen). AreEnteredUnder [] d.home d.members in
    let no_tags : AreTags {T = ℕ} [] = (tt, tt) in
    record {
      tags = subst AreTags (sym none) no_tags;
      counted = ap length (sym none);
      entered = All-cons P c [] (λ (tag : ℕ) (h : HasTag c.members tag). absurd (HasTag-nil tag
          (subst (λ (l : Members). HasTag l tag) e h))) (All-nil P);
      halves = inl refl;
      some = omega arith;
    }

-- a chunk with as many members at least
pub half_full : (earlier : List ChunkSeen) (c d : ChunkSeen) (later : List ChunkSeen) → length c.members ≤ length d.members
    → AreHalfFull (earlier ++ c ∷ later) → AreHalfFull (earlier ++ d ∷ later)
half_full earlier c d later le half =
    let P : ChunkSeen → Type 0 = λ (e : ChunkSeen). HALF ≤ length e.members in
    elim half [
      | inl one ↦ inl (omega (arith, one, length-append earlier (c ∷ later), length-append earlier (d ∷ later)))
      | inr all ↦
          let (left, here, right) = all_parts P earlier c later all in
          inr (all_whole P earlier d later left (omega (arith, here, le)) right)
    ]

last_tag-cons : (m : ℕ × ℕ) (xs : Members) (tag : ℕ) → last_tag xs ≡ Some tag → last_tag (m ∷ xs) ≡ Some tag
last_tag-cons m [] tag e = absurd cc
last_tag-cons m (x ∷ xs) tag e = e

last_tag-append : (xs ys : Members) (tag : ℕ) → last_tag ys ≡ Some tag → last_tag (xs ++ ys) ≡ Some tag
last_tag-append [] ys tag e = e
last_tag-append (x ∷ xs) ys tag e = last_tag-cons x (xs ++ ys) tag (last_tag-append xs ys tag e)

-- what stands last before the slot in the chunk stands last before it in the whole
last_before : (chunks earlier : List ChunkSeen) (slot : ℕ) (xs : Members) (after : Option ℕ) → slot ≡ length earlier
    → IsSlotAfter chunks slot after → last_tag xs ≡ after → last_tag (members_of earlier ++ xs) ≡ after
last_before chunks [] slot xs after at later e = e
last_before chunks (c ∷ earlier) slot xs None at later e = absurd (omega (arith, at, later))
last_before chunks (c ∷ earlier) slot xs (Some tag) at later e =
    last_tag-append (members_of (c ∷ earlier)) xs tag e

pub one_more : (old new : Members) (after : Option ℕ) (tag w : ℕ) → IsPushed old after tag w new
    → length new ≡ length old + 1
one_more old new after tag w (xs, ys, was, last, is) =
    omega (arith, ap length is, ap length was, length-append xs ((tag, w) ∷ ys), length-append xs ys)

-- and weighs what it adds
pub weight_pushed : (old new : Members) (after : Option ℕ) (tag w : ℕ) → IsPushed old after tag w new
    → weight_of new ≡ weight_of old + w
weight_pushed old new after tag w (xs, ys, was, last, is) =
    omega (arith, ap weight_of is, ap weight_of was, weight_of-cut xs (tag, w) ys, weight_of-append xs ys)

module _ (earlier : List ChunkSeen) (c d : ChunkSeen) (later : List ChunkSeen) where
  pushed_in_all : (slot : ℕ) (after : Option ℕ) (tag w : ℕ) → slot ≡ length earlier
      → IsSlotAfter (earlier ++ c ∷ later) slot after → IsPushed c.members after tag w d.members
      → IsPushed (members_of (earlier ++ c ∷ later)) after tag w (members_of (earlier ++ d ∷ later))
  pushed_in_all slot after tag w at is_after (xs, ys, was, last, is) =
      let around : Members → Members = λ (l : Members). members_of earlier ++ (l ++ members_of later) in (
        members_of earlier ++ xs,
        ys ++ members_of later,
        members_of-seam earlier c later ∙ ap around was
            ∙ ap (λ (l : Members). members_of earlier ++ l) (append_assoc xs ys (members_of later))
            ∙ sym (append_assoc (members_of earlier) xs (ys ++ members_of later)),
        last_before (earlier ++ c ∷ later) earlier slot xs after at is_after last,
        members_of-seam earlier d later ∙ ap around is
            ∙ ap (λ (l : Members). members_of earlier ++ l)
            (append_assoc xs ((tag, w) ∷ ys) (members_of later))
            ∙ sym (append_assoc (members_of earlier) xs ((tag, w) ∷ (ys ++ members_of later))),
      )

  pub tied_pushed : (homes : List ℕ) (slot : ℕ) (after : Option ℕ) (tag w : ℕ) → slot ≡ length earlier
      → IsSlotAfter (earlier ++ c ∷ later) slot after → IsPushed c.members after tag w d.members
      → d.home ≡ c.home → tag ≡ length (members_of (earlier ++ c ∷ later)) → AreTied homes (earlier ++ c ∷ later)
      → AreTied (homes ++ d.home ∷ []) (earlier ++ d ∷ later)
  tied_pushed homes slot after tag w at is_after put same next tied =
      let all : IsPushed (members_of (earlier ++ c ∷ later)) after tag w (members_of (earlier ++ d ∷ later)) =
      pushed_in_all slot after tag w at is_after put in
      record {
        tags = tags_pushed (members_of (earlier ++ c ∷ later)) (members_of (earlier ++ d ∷ later)) after tag w
            tied.tags next all;
        counted = omega (
          arith,
          tied.counted,
          length-append homes (d.home ∷ []),
          one_more
              (members_of (earlier ++ c ∷ later)) (members_of (earlier ++ d ∷ later)) after tag w all,
        );
        entered = homes_pushed homes earlier c d later after tag w tied.entered same (next ∙ sym tied.counted) put;
        halves = half_full earlier c d later (omega (arith, one_more c.members d.members after tag w put)) tied.halves;
        some = omega (arith, length-append earlier (d ∷ later));
      }

-- the same of the chunk that the code reads at a slot and changes there
module _ (chunks : List ChunkSeen) (slot : ℕ) (c d : ChunkSeen) (lt : slot < length chunks)
    (is : c ≡ get_or chunks slot c) (after : Option ℕ) (tag w : ℕ)
    (is_after : IsSlotAfter chunks slot after) (put : IsPushed c.members after tag w d.members)
  where
    pub pushed_here : IsPushed (members_of chunks) after tag w (members_of (set chunks slot d))
    pushed_here =
        let (earlier, later, cut, at, changed) = seam_at chunks slot c lt is in
        subst (λ (l : List ChunkSeen). IsPushed (members_of chunks) after tag w (members_of l)) (sym (changed d))
        (subst (λ (l : List ChunkSeen). IsPushed (members_of l) after tag w (members_of (earlier ++ d ∷ later)))
        (sym cut) (pushed_in_all earlier c d later slot after tag w at
        (subst (λ (l : List ChunkSeen). IsSlotAfter l slot after) cut is_after) put))

    pub tied_pushed_here : (homes : List ℕ) → d.home ≡ c.home → tag ≡ length (members_of chunks)
        → AreTied homes chunks → AreTied (homes ++ d.home ∷ []) (set chunks slot d)
    tied_pushed_here homes same next tied =
        let (earlier, later, cut, at, changed) = seam_at chunks slot c lt is in
        subst (AreTied (homes ++ d.home ∷ [])) (sym (changed d)) (tied_pushed earlier c d later homes slot after
        tag w at (subst (λ (l : List ChunkSeen). IsSlotAfter l slot after) cut is_after) put same
        (next ∙ ap (λ (l : List ChunkSeen). length (members_of l)) cut) (subst (AreTied homes) cut tied))
