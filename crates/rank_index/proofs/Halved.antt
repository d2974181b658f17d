-- Chunks, one of which gave its second half to a chunk of its own.
use Rattle.std.proofs.Common.{◌≡◌, ℕ, ◌+◌, ◌*◌, ◌<◌, ◌≤◌, List, [], ◌∷◌, ◌++◌, length, get_or, slice_get, All}
use Rattle.std.proofs.Common.{Some, ◌⊎◌, inl, inr, sym, ap, subst, ◌∙◌, arith, append_assoc}
use Rattle.std.proofs.Common.{length-append}
use Rattle.std.proofs.lemmas.List.Elements.{All-cons, All-nil, All-head, All-tail}
use Rattle.std.proofs.lemmas.Option.{same_Some, slice_get_within}
use Rattle.piece_raw.specs.Ring.{HasTag, AreTags}
use Rattle.rank_index.specs.declared.chunk.TheConstants.{MOST, HALF}
use Rattle.rank_index.specs.Chunks.{ChunkSeen, members_of, AreEnteredUnder, AreHomes, AreHalfFull, AreTied, IsHalved}
use Rattle.rank_index.specs.Chunks.{IsSlotOf, HasRoomInChunk}
use Rattle.rank_index.proofs.Homes.{homes_kept}
use Rattle.std.specs.List.{insert}
use Rattle.std.proofs.Math.ListN.{set}
use Rattle.rank_index.proofs.Pieces.{all_parts, all_whole, get-seam, split_across, seam_at, insert-after, is_read}
use Rattle.rank_index.proofs.Stretches.{members_of-seam, not_earlier, not_after}
use Rattle.rank_index.proofs.Tagged.{Members, AreApart, HasTag-append, HasTag-left, HasTag-right, no_tag_twice}
use Rattle.rank_index.proofs.Tagged.{apart_left, apart_right}

-- half full chunks have many members
half_full : (chunks : List ChunkSeen) → All (λ c. HALF ≤ length c.members) chunks
    → HALF * length chunks ≤ length (members_of chunks)
half_full [] all = omega arith
half_full (c ∷ chunks) all =
    let P : ChunkSeen → Type 0 = λ (d : ChunkSeen). HALF ≤ length d.members in
    let here : HALF ≤ length c.members = All-head P c chunks all in
    omega (
      arith,
      here,
      half_full chunks (All-tail P c chunks all),
      length-append c.members (members_of chunks),
    )

-- a full chunk among them tells of half a chunk more
pub full_among : (chunks : List ChunkSeen) (slot : ℕ) (c : ChunkSeen) → AreHalfFull chunks
    → slice_get chunks slot ≡ Some c → MOST ≤ length c.members
    → HALF * (length chunks + 1) ≤ length (members_of chunks)
full_among chunks slot c half at full =
    let (earlier, later, cut, there) = split_across chunks slot c at in
    let count : length chunks ≡ length earlier + length (c ∷ later) =
    ap length cut ∙ length-append earlier (c ∷ later) in
    let members : length (members_of chunks)
    ≡ length (members_of earlier) + (length c.members + length (members_of later)) =
    ap (λ (l : List ChunkSeen). length (members_of l)) cut ∙ ap length (members_of-seam earlier c later)
    ∙ length-append (members_of earlier) (c.members ++ members_of later)
    ∙ ap (λ (n : ℕ). length (members_of earlier) + n) (length-append c.members (members_of later)) in
    elim half [
      | inl one ↦ omega (arith, members, full, one)
      | inr all ↦
          let P : ChunkSeen → Type 0 = λ (d : ChunkSeen). HALF ≤ length d.members in
          let (left, here, right) = all_parts P earlier c later (subst (All P) cut all) in
          omega (arith, members, full, count, half_full earlier left, half_full later right)
    ]

-- its slot is that of one of them
pub full_within : (chunks : List ChunkSeen) (slot : ℕ)
    → (c : ChunkSeen) × (slice_get chunks slot ≡ Some c) × (length c.members ≡ MOST) → slot < length chunks
full_within chunks slot (c, at, full) = slice_get_within chunks slot c at

none : (xs : List ChunkSeen) → length xs ≡ 0 → All (λ c. HALF ≤ length c.members) xs
none [] e = All-nil (λ (c : ChunkSeen). HALF ≤ length c.members)
none (x ∷ xs) e = absurd (omega arith)

-- the same chunks, with one of them in two parts
module _ (earlier : List ChunkSeen) (whole front rest : ChunkSeen) (later : List ChunkSeen)
    (parts : whole.members ≡ front.members ++ rest.members)
  where
    abbrev old : List ChunkSeen
    old = earlier ++ whole ∷ later

    abbrev new : List ChunkSeen
    new = earlier ++ front ∷ rest ∷ later

    members_halved : members_of new ≡ members_of old
    members_halved =
        members_of-seam earlier front (rest ∷ later)
        ∙ ap (λ (l : Members). members_of earlier ++ l)
        (sym (append_assoc front.members rest.members (members_of later))
        ∙ ap (λ (l : Members). l ++ members_of later) (sym parts))
        ∙ sym (members_of-seam earlier whole later)

    homes_halved : (before after : List ℕ) → AreApart (members_of old) → AreHomes before old
        → front.home ≡ whole.home → AreEnteredUnder after rest.home rest.members
        → ((tag : ℕ) → (HasTag rest.members tag → ⊥) → slice_get after tag ≡ slice_get before tag)
        → AreHomes after new
    homes_halved before after apart are same entered others =
        let P : ChunkSeen → Type 0 = λ (c : ChunkSeen). AreEnteredUnder before c.home c.members in
        let Q : ChunkSeen → Type 0 = λ (c : ChunkSeen). AreEnteredUnder after c.home c.members in
        let in_whole : (tag : ℕ) → HasTag rest.members tag → HasTag whole.members tag =
        λ (tag : ℕ) (h : HasTag rest.members tag).
        subst (λ (l : Members). HasTag l tag) (sym parts) (HasTag-right front.members rest.members tag h) in
        let (left, here, right) = all_parts P earlier whole later are in
        let left' : All Q earlier =
        homes_kept before after rest.members others earlier (λ (tag : ℕ) (h : HasTag rest.members tag)
        (g : HasTag (members_of earlier) tag). not_earlier earlier whole later tag apart (in_whole tag h) g) left in
        let right' : All Q later =
        homes_kept before after rest.members others later (λ (tag : ℕ) (h : HasTag rest.members tag)
        (g : HasTag (members_of later) tag). not_after earlier whole later tag apart (in_whole tag h) g) right in
        let two : AreApart (front.members ++ rest.members) =
        subst AreApart parts (apart_left whole.members (members_of later)
        (apart_right (members_of earlier) (whole.members ++ members_of later)
        (subst AreApart (members_of-seam earlier whole later) apart))) in
        let here' : Q front = λ (tag : ℕ) (has : HasTag front.members tag).
        others tag (λ (h : HasTag rest.members tag). no_tag_twice front.members rest.members tag two has h)
        ∙ here tag (subst (λ (l : Members). HasTag l tag) (sym parts)
        (HasTag-left front.members rest.members tag has))
        ∙ ap Some (sym same) in
        all_whole Q earlier front (rest ∷ later) left' here' (All-cons Q rest later entered right')

    halves_halved : AreHalfFull old → length front.members ≡ HALF → length rest.members ≡ HALF → AreHalfFull new
    halves_halved half first second =
        let P : ChunkSeen → Type 0 = λ (c : ChunkSeen). HALF ≤ length c.members in
        let count : length old ≡ length earlier + length (whole ∷ later) = length-append earlier (whole ∷ later) in
        let both : All P earlier × All P later = elim half [
          | inl one ↦ (none earlier (omega (arith, count, one)), none later (omega (arith, count, one)))
          | inr all ↦ let (left, here, right) = all_parts P earlier whole later all in (left, right)
        ] in
        inr (all_whole P earlier front (rest ∷ later) both.0 (omega (arith, first))
        (All-cons P rest later (omega (arith, second)) both.1))

    tied_halved : (before after : List ℕ) → AreTied before old → length after ≡ length before
        → front.home ≡ whole.home → (length front.members ≡ HALF) × (length rest.members ≡ HALF)
        → AreEnteredUnder after rest.home rest.members
        → ((tag : ℕ) → (HasTag rest.members tag → ⊥) → slice_get after tag ≡ slice_get before tag)
        → AreTied after new
    tied_halved before after tied same_length same halves entered others = record {
      tags = subst AreTags (sym members_halved) tied.tags;
      counted = same_length ∙ tied.counted ∙ ap length (sym members_halved);
      entered = homes_halved before after tied.tags.0 tied.entered same entered others;
      halves = halves_halved tied.halves halves.0 halves.1;
      some = omega (arith, length-append earlier (front ∷ rest ∷ later));
    }

-- there is one chunk more; where there are as few as before, all is as it was
pub same_if_few : (at : ℕ) (was now : List ChunkSeen) → IsHalved at was now → length now ≤ length was → now ≡ was
same_if_few at was now halved few =
    absurd (omega (
      arith,
      few,
      ap length halved.was,
      ap length halved.is,
      length-append halved.before (halved.whole ∷ halved.after),
      length-append halved.before (halved.front ∷ halved.rest ∷ halved.after),
    ))

-- where a member of the whole is now
module _ (at : ℕ) (was now : List ChunkSeen) (halved : IsHalved at was now) where
  pub at_front : slice_get now at ≡ Some halved.front
  at_front =
      subst (λ (l : List ChunkSeen). slice_get l at ≡ Some halved.front) (sym halved.is)
      (ap (slice_get (halved.before ++ halved.front ∷ halved.rest ∷ halved.after)) halved.slot
      ∙ get-seam halved.before halved.front (halved.rest ∷ halved.after))

  pub at_rest : slice_get now (at + 1) ≡ Some halved.rest
  at_rest =
      let longer : List ChunkSeen = halved.before ++ halved.front ∷ [] in
      let is : now ≡ longer ++ halved.rest ∷ halved.after =
      halved.is ∙ sym (append_assoc halved.before (halved.front ∷ []) (halved.rest ∷ halved.after)) in
      let next : at + 1 ≡ length longer =
      omega (arith, halved.slot, length-append halved.before (halved.front ∷ [])) in
      subst (λ (l : List ChunkSeen). slice_get l (at + 1) ≡ Some halved.rest) (sym is)
      (ap (slice_get (longer ++ halved.rest ∷ halved.after)) next ∙ get-seam longer halved.rest halved.after)

  pub room_at_front : HasRoomInChunk now at
  room_at_front = (halved.front, at_front, omega (arith, halved.halves.0))

  pub room_at_rest : HasRoomInChunk now (at + 1)
  room_at_rest = (halved.rest, at_rest, omega (arith, halved.halves.1))

  in_a_half : (tag : ℕ) → IsSlotOf was at tag → HasTag halved.front.members tag ⊎ HasTag halved.rest.members tag
  in_a_half tag (c, there, has) =
      let whole : slice_get was at ≡ Some halved.whole =
      subst (λ (l : List ChunkSeen). slice_get l at ≡ Some halved.whole) (sym halved.was)
      (ap (slice_get (halved.before ++ halved.whole ∷ halved.after)) halved.slot
      ∙ get-seam halved.before halved.whole halved.after) in
      let same : c ≡ halved.whole = same_Some c halved.whole (sym there ∙ whole) in
      HasTag-append halved.front.members halved.rest.members tag
      (subst (λ (l : Members). HasTag l tag) (ap (λ (d : ChunkSeen). d.members) same ∙ halved.parts) has)

  pub after_in_rest : (tag : ℕ) → IsSlotOf was at tag → (HasTag halved.front.members tag → ⊥)
      → IsSlotOf now (at + 1) tag
  after_in_rest tag there absent = elim (in_a_half tag there) [
    | inl first ↦ absurd (absent first)
    | inr second ↦ (halved.rest, at_rest, second)
  ]

  -- what the code reads at the slot is the front
  pub in_front : (tag : ℕ) (c : ChunkSeen) → c ≡ get_or now at c → HasTag c.members tag
      → HasTag halved.front.members tag
  in_front tag c is has =
      subst (λ (d : ChunkSeen). HasTag d.members tag) (is_read now at halved.front c at_front is) has

  pub from_front : (tag : ℕ) → HasTag halved.front.members tag → (c : ChunkSeen) → c ≡ get_or now at c
      → HasTag c.members tag
  from_front tag has c is =
      subst (λ (d : ChunkSeen). HasTag d.members tag) (sym (is_read now at halved.front c at_front is)) has

-- what the code makes of the chunk that it reads at a slot
module _ (chunks : List ChunkSeen) (at : ℕ) (whole front rest : ChunkSeen) (lt : at < length chunks)
    (is_read : whole ≡ get_or chunks at whole) (parts : whole.members ≡ front.members ++ rest.members)
    (halves : (length front.members ≡ HALF) × (length rest.members ≡ HALF))
  where
    abbrev made : List ChunkSeen
    made = insert (set chunks at front) (at + 1) rest

    made_of : (earlier later : List ChunkSeen) → at ≡ length earlier → set chunks at front ≡ earlier ++ front ∷ later
        → made ≡ earlier ++ front ∷ rest ∷ later
    made_of earlier later slot e =
        (λ i. insert (e i) (slot i + 1) rest) ∙ insert-after earlier front rest later

    pub halved_here : IsHalved at chunks made
    halved_here =
        let (earlier, later, cut, slot, changed) = seam_at chunks at whole lt is_read in
        record {
          before = earlier;
          whole = whole;
          after = later;
          front = front;
          rest = rest;
          slot = slot;
          was = cut;
          is = made_of earlier later slot (changed front);
          parts = parts;
          halves = halves;
        }

    pub tied_here : (before after : List ℕ) → AreTied before chunks → length after ≡ length before
        → front.home ≡ whole.home → AreEnteredUnder after rest.home rest.members
        → ((tag : ℕ) → (HasTag rest.members tag → ⊥) → slice_get after tag ≡ slice_get before tag)
        → AreTied after made
    tied_here before after tied same_length same entered others =
        let (earlier, later, cut, slot, changed) = seam_at chunks at whole lt is_read in
        subst (AreTied after) (sym (made_of earlier later slot (changed front)))
        (tied_halved earlier whole front rest later parts before after (subst (AreTied before) cut tied)
        same_length same halves entered others)
