-- The table of the chunks' slots.
use Rattle.std.proofs.Common.{◌≡◌, ℕ, zero, suc, ◌+◌, ◌<◌, ◌≤◌, List, [], ◌∷◌, ◌++◌, length, get_or, take, drop}
use Rattle.std.proofs.Common.{Some, ◌⊎◌, inl, inr, refl, sym, ap, subst, ◌∙◌, arith, slice_get}
use Rattle.std.proofs.Common.{length-append, length-set}
use Rattle.std.specs.List.{insert}
use Rattle.std.proofs.Math.ListN.{set}
use Rattle.std.proofs.lemmas.Bool.Decides.{eqb_tells}
use Rattle.std.proofs.lemmas.List.{take-append-drop, length-take-le}
use Rattle.std.proofs.lemmas.Option.{same_Some, slice_get_within, slice_get_read, get_or_from_slice_get}
use Rattle.piece_raw.specs.Ring.{HasTag}
use Rattle.rank_index.specs.Chunks.{ChunkSeen, members_of, AreHomes, AreInSlots, AreSlotsTo, HomesDiffer, IsSlotOf}
use Rattle.rank_index.proofs.Homes.{get-set_same, get-set_other, home_at}
use Rattle.rank_index.proofs.Pieces.{get-left}
use Rattle.rank_index.proofs.Stretches.{chunk_with}

-- an element of a list with one more is that one, or stands where it stood or one slot after
module _ {X : Type 0} (x d : X) (ys : List X) where
  pub around_seam : (xs : List X) (k : ℕ) → slice_get (xs ++ x ∷ ys) k ≡ Some d
      → ((k < length xs) × (slice_get (xs ++ ys) k ≡ Some d))
      ⊎ (((k ≡ length xs) × (d ≡ x)) ⊎ ((j : ℕ) × (k ≡ suc j) × (length xs ≤ j) × (slice_get (xs ++ ys) j ≡ Some d)))
  around_seam [] zero e = inr (inl (refl, sym (same_Some x d e)))
  around_seam [] (suc k) e = inr (inr (k, refl, omega arith, e))
  around_seam (z ∷ xs) zero e = inl (omega arith, e)
  around_seam (z ∷ xs) (suc k) e = elim (around_seam xs k e) [
    | inl w ↦ inl (omega (arith, w.0), w.1)
    | inr more ↦ elim more [
      | inl w ↦ inr (inl (omega (arith, w.0), w.1))
      | inr w ↦ inr (inr (suc w.0, ap suc w.1, omega (arith, w.2), w.3))
    ]
  ]

-- the tables tell the chunk of a member
module _ (chunks : List ChunkSeen) (slots homes : List ℕ) (tag : ℕ) (are : AreHomes homes chunks)
    (placed : AreInSlots slots chunks) (here : HasTag (members_of chunks) tag)
  where
    told_home : (d : ℕ) → (c : ChunkSeen) × (slice_get homes tag ≡ Some c.home) × (get_or homes tag d ≡ c.home)
        × (slot : ℕ) × (slice_get slots c.home ≡ Some slot) × (slice_get chunks slot ≡ Some c) × HasTag c.members tag
    told_home d =
        let (slot, (c, at, has)) = chunk_with chunks tag here in
        let home : slice_get homes tag ≡ Some c.home = home_at homes chunks slot c tag are at has in (
          c,
          home,
          get_or_from_slice_get homes tag c.home d home,
          slot,
          placed.told slot c (slice_get_within chunks slot c at) at,
          at,
          has,
        )

    pub home_within : (d : ℕ) → get_or homes tag d < length slots
    home_within d =
        let (c, home, is, slot, at, there, has) = told_home d in
        subst (λ (n : ℕ). n < length slots) (sym is) (slice_get_within slots c.home slot at)

    pub slot_told : (d e : ℕ) → IsSlotOf chunks (get_or slots (get_or homes tag d) e) tag
    slot_told d e =
        let (c, home, is, slot, at, there, has) = told_home d in
        let told : get_or slots (get_or homes tag d) e ≡ slot =
        ap (λ (n : ℕ). get_or slots n e) is ∙ get_or_from_slice_get slots c.home slot e at in
        (c, ap (slice_get chunks) told ∙ there, has)

-- a chunk changed at its slot, under the same home
pub placed_set : (slots : List ℕ) (chunks : List ChunkSeen) (at : ℕ) (c d : ChunkSeen) → at < length chunks
    → c ≡ get_or chunks at c → d.home ≡ c.home → AreInSlots slots chunks → AreInSlots slots (set chunks at d)
placed_set slots chunks at c d lt is same placed =
    let long : length (set chunks at d) ≡ length chunks = length-set chunks at d in
    let was : slice_get slots c.home ≡ Some at =
    placed.told at c lt (slice_get_read chunks (length chunks) at c refl lt is) in
    record {
      told = λ k e below there. elim (eqb_tells k at) [
        | inl here ↦
            let there' : slice_get (set chunks at d) at ≡ Some e =
            subst (λ (n : ℕ). slice_get (set chunks at d) n ≡ Some e) here.1 there in
            let is_d : d ≡ e = same_Some d e (sym (get-set_same chunks at d lt) ∙ there') in
            ap (slice_get slots) (ap (λ (s : ChunkSeen). s.home) (sym is_d) ∙ same) ∙ was ∙ ap Some (sym here.1)
        | inr other ↦
            placed.told k e (omega (arith, below, long)) (sym (get-set_other chunks at k d other.1) ∙ there)
      ];
      counted = placed.counted ∙ sym long;
    }

-- the table tells the chunks before this slot, and has room to tell each, under a home of its own
pub record IsToldTo (slots : List ℕ) (chunks : List ChunkSeen) (from : ℕ) : Type 0 where
  pub before : AreSlotsTo slots chunks from
  pub homes : HomesDiffer chunks
  pub within : (k : ℕ) (c : ChunkSeen) → slice_get chunks k ≡ Some c → c.home < length slots

-- a chunk more, under the next home
module _ (slots : List ℕ) (chunks : List ChunkSeen) (placed : AreInSlots slots chunks) (at : ℕ)
    (le : at ≤ length chunks) (rest : ChunkSeen) (fresh : rest.home ≡ length slots)
  where
    abbrev made : List ChunkSeen
    made = insert chunks at rest

    -- where the table has the chunk at a slot: there, nowhere, or one slot before
    abbrev WasAt : ℕ → ChunkSeen → Type 0
    WasAt k d = ((k < at) × (slice_get slots d.home ≡ Some k))
        ⊎ (((k ≡ at) × (d.home ≡ length slots))
        ⊎ ((j : ℕ) × (k ≡ suc j) × (at ≤ j) × (slice_get slots d.home ≡ Some j)))

    was_at : (k : ℕ) (d : ChunkSeen) → slice_get made k ≡ Some d → WasAt k d
    was_at k d there =
        let long : length (take at chunks) ≡ at = length-take-le at chunks le in
        let whole : (n : ℕ) → slice_get (take at chunks ++ drop at chunks) n ≡ Some d
        → slice_get slots d.home ≡ Some n = λ n e.
        let is : slice_get chunks n ≡ Some d =
        subst (λ (l : List ChunkSeen). slice_get l n ≡ Some d) (take-append-drop at chunks) e in
        placed.told n d (slice_get_within chunks n d is) is in
        elim (around_seam rest d (drop at chunks) (take at chunks) k there) [
          | inl w ↦ inl (omega (arith, w.0, long), whole k w.1)
          | inr more ↦ elim more [
            | inl w ↦ inr (inl (omega (arith, w.0, long), ap (λ (s : ChunkSeen). s.home) w.1 ∙ fresh))
            | inr w ↦ inr (inr (w.0, w.1, omega (arith, w.2, long), whole w.0 w.3))
          ]
        ]

    told_earlier : (v : ℕ) → AreSlotsTo (slots ++ v ∷ []) made at
    told_earlier v k d below there = elim (was_at k d there) [
      | inl w ↦ get-left slots (v ∷ []) d.home k w.1
      | inr more ↦ elim more [
        | inl w ↦ absurd (omega (arith, w.0, below))
        | inr w ↦ absurd (omega (arith, w.1, w.2, below))
      ]
    ]

    homes_within : (v k : ℕ) (d : ChunkSeen) → slice_get made k ≡ Some d → d.home < length (slots ++ v ∷ [])
    homes_within v k d there =
        let long : length (slots ++ v ∷ []) ≡ length slots + 1 = length-append slots (v ∷ []) in
        elim (was_at k d there) [
          | inl w ↦ omega (arith, long, slice_get_within slots d.home k w.1)
          | inr more ↦ elim more [
            | inl w ↦ omega (arith, long, w.1)
            | inr w ↦ omega (arith, long, slice_get_within slots d.home w.0 w.3)
          ]
        ]

    one_slot : (c d : ChunkSeen) (j k : ℕ) → c.home ≡ d.home → slice_get slots c.home ≡ Some j
        → slice_get slots d.home ≡ Some k → j ≡ k
    one_slot c d j k same at_j at_k = same_Some j k (sym at_j ∙ ap (slice_get slots) same ∙ at_k)

    homes_differ : HomesDiffer made
    homes_differ j k c d there_j there_k same = elim (was_at j c there_j) [
      | inl v ↦ elim (was_at k d there_k) [
        | inl w ↦ one_slot c d j k same v.1 w.1
        | inr more ↦ elim more [
          | inl w ↦ absurd (omega (arith, w.1, same, slice_get_within slots c.home j v.1))
          | inr w ↦ absurd (omega (arith, one_slot c d j w.0 same v.1 w.3, v.0, w.2))
        ]
      ]
      | inr other ↦ elim other [
        | inl v ↦ elim (was_at k d there_k) [
          | inl w ↦ absurd (omega (arith, v.1, same, slice_get_within slots d.home k w.1))
          | inr more ↦ elim more [
            | inl w ↦ omega (arith, v.0, w.0)
            | inr w ↦ absurd (omega (arith, v.1, same, slice_get_within slots d.home w.0 w.3))
          ]
        ]
        | inr v ↦ elim (was_at k d there_k) [
          | inl w ↦ absurd (omega (arith, one_slot c d v.0 k same v.3 w.1, v.2, w.0))
          | inr more ↦ elim more [
            | inl w ↦ absurd (omega (arith, w.1, same, slice_get_within slots c.home v.0 v.3))
            | inr w ↦ omega (arith, one_slot c d v.0 w.0 same v.3 w.3, v.1, w.1)
          ]
        ]
      ]
    ]

-- a chunk that is changed under its home, and a new one directly after it, under the next home
module _ (slots : List ℕ) (chunks : List ChunkSeen) (placed : AreInSlots slots chunks) (at : ℕ) (c d rest : ChunkSeen)
    (lt : at < length chunks) (is : c ≡ get_or chunks at c) (same : d.home ≡ c.home)
    (fresh : rest.home ≡ length slots)
  where
    abbrev changed : List ChunkSeen
    changed = set chunks at d

    le : at + 1 ≤ length changed
    le = omega (arith, lt, length-set chunks at d)

    was_placed : AreInSlots slots changed
    was_placed = placed_set slots chunks at c d lt is same placed

    pub told_after : (v : ℕ) → IsToldTo (slots ++ v ∷ []) (insert changed (at + 1) rest) (at + 1)
    told_after v = record {
      before = told_earlier slots changed was_placed (at + 1) le rest fresh v;
      homes = homes_differ slots changed was_placed (at + 1) le rest fresh;
      within = homes_within slots changed was_placed (at + 1) le rest fresh v;
    }

-- one chunk alone
pub placed_alone : (c : ChunkSeen) → c.home ≡ 0 → AreInSlots (0 ∷ []) (c ∷ [])
placed_alone c first = record {
  told = λ k d below there.
      let front : k ≡ 0 = omega (arith, below) in
      let is : c ≡ d = same_Some c d (subst (λ (n : ℕ). slice_get (c ∷ []) n ≡ Some d) front there) in
      ap (slice_get (0 ∷ [])) (ap (λ (s : ChunkSeen). s.home) (sym is) ∙ first) ∙ ap Some (sym front);
  counted = refl;
}
