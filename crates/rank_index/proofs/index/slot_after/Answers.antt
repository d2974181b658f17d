use Rattle.std.proofs.Common.{◌≡◌, ℕ, ◌+◌, ◌*◌, ◌<◌, ◌≤◌, List, length, get_or, slice_get, Some, None, refl, sym, ap, subst, ◌∙◌, arith, rules, true, true≢false}
use Rattle.std.proofs.lemmas.Option.{same_Some, slice_get_read, slice_get_within}
use Rattle.piece_raw.specs.Ring.{HasTag}
use Rattle.rank_index.specs.declared.chunk.TheConstants.{MOST, HALF}
use Rattle.rank_index.specs.Chunks.{ChunkSeen, members_of, IsSlotOf, IsSlotAfter, IsHalved}
use Rattle.rank_index.proofs.Halved.{full_among, at_front, in_front, from_front, same_if_few, after_in_rest, room_at_front, room_at_rest}
use Rattle.rank_index.proofs.index.slot_after.Goals as goal
use Rattle.rank_index.proofs.index.slot_after.Goals.{After-index, in-Some, in-None}

-- where the chunk is full, they all have as many members as half a chunk more
many : (c : After-index) → MOST ≤ length c.index.result.now.members
    → HALF * (length c.args.chunks.now.items + 1) ≤ length (members_of c.args.chunks.now.items)
many c full =
    let chunks : List ChunkSeen = c.args.chunks.now.items in
    let slot : ℕ = c.match-after.slot in
    let whole : ChunkSeen = c.index.result.now in
    let within : slot < length chunks = elim c.match-after.branch [
      | in-Some w ↦
          let (there, at, has) = w.chunk_of-slot.ensures in
          omega (
            arith,
            w.slot-is,
            ap length w.deref.ensures.value,
            slice_get_within w.deref.result.now w.chunk_of-slot.result there at,
          )
      | in-None w ↦ omega (arith, w.slot-is, c.requires.tied.some)
    ] in
    let at : slice_get chunks slot ≡ Some whole =
    slice_get_read chunks (length chunks) slot whole refl within c.index.ensures in
    full_among chunks slot whole c.requires.tied.halves at full

pub halve-requires-clause-spare : goal.halve-requires-clause-spare
halve-requires-clause-spare c =
    let full : MOST ≤ length c.index.result.now.members =
    omega (arith, c.if-members-lt-MOST.false, ap length c.members.ensures.members) in
    omega (
      arith,
      many (goal.at.halve-requires-clause-spare c).After-index full,
      c.requires.room,
      c.args.chunks.now.ok.0,
    )

pub halve-requires-clause-few : goal.halve-requires-clause-few
halve-requires-clause-few c =
    let full : MOST ≤ length c.index.result.now.members =
    omega (arith, c.if-members-lt-MOST.false, ap length c.members.ensures.members) in
    omega (
      arith,
      many (goal.at.halve-requires-clause-few c).After-index full,
      c.requires.few,
      c.requires.tied.counted,
      c.requires.placed.counted,
      c.args.chunks.now.ok.0,
      c.args.slots.now.ok.0,
    )

pub returns-in-Some-after-clause-slot : goal.returns-in-Some-after-clause-slot
returns-in-Some-after-clause-slot c =
    let old : List ChunkSeen = c.args.chunks.now.items in
    let new : List ChunkSeen = c.halve.new.chunks.items in
    let slot : ℕ = c.match-after.slot in
    let halved : IsHalved slot old new = c.halve.ensures.halved in
    let tag : ℕ = c.in-Some-after.tag in
    let absent : HasTag halved.front.members tag → ⊥ = λ (h : HasTag halved.front.members tag).
    let seen : (d : ChunkSeen) → d ≡ get_or new slot d → HasTag d.members tag =
    from_front slot old new halved tag h in
    let found : c.has.result ≡ true = search (rules, c.has.ensures.1, seen) in
    true≢false (sym found ∙ c.if-not-has.true) in
    elim c.match-after.branch [
      | in-Some w ↦
          let same : w.in-Some.tag ≡ tag = same_Some w.in-Some.tag tag (sym w.after-is ∙ c.in-Some-after.is) in
          let there : IsSlotOf old slot w.in-Some.tag =
          subst (λ (l : List ChunkSeen). IsSlotOf l slot w.in-Some.tag) w.deref.ensures.value
          (subst (λ (n : ℕ). IsSlotOf w.deref.result.now n w.in-Some.tag) (sym w.slot-is)
          w.chunk_of-slot.ensures) in
          subst (IsSlotAfter new (slot + 1)) (sym (w.in-Some.is ∙ ap Some same))
          (after_in_rest slot old new halved tag (subst (IsSlotOf old slot) same there) absent)
      | in-None w ↦
          let clash : Some tag ≡ None = sym c.in-Some-after.is ∙ w.after-is ∙ w.in-None.is in
          absurd cc
    ]

pub returns-in-Some-after-clause-room : goal.returns-in-Some-after-clause-room
returns-in-Some-after-clause-room c =
    room_at_rest c.match-after.slot c.args.chunks.now.items c.halve.new.chunks.items c.halve.ensures.halved

pub returns-in_default-clause-slot : goal.returns-in_default-clause-slot
returns-in_default-clause-slot c =
    let new : List ChunkSeen = c.halve.new.chunks.items in
    let slot : ℕ = c.match-after.slot in
    let halved : IsHalved slot c.args.chunks.now.items new = c.halve.ensures.halved in
    let tag : ℕ = c.in-Some-after.tag in
    let seen : (d : ChunkSeen) → d ≡ get_or new slot d → HasTag d.members tag → HasTag halved.front.members tag =
    in_front slot c.args.chunks.now.items new halved tag in
    let has : HasTag halved.front.members tag = search (rules, seen, c.has.ensures.0 c.if-not-has.false) in
    let there : IsSlotOf new slot tag =
    (halved.front, at_front slot c.args.chunks.now.items new halved, has) in
    elim c.match-after.branch [
      | in-Some w ↦
          subst (IsSlotAfter new slot) (sym (w.in-Some.is ∙ sym w.after-is ∙ c.in-Some-after.is)) there
      | in-None w ↦ subst (IsSlotAfter new slot) (sym c.in-Some-after.is ∙ w.after-is) there
    ]

pub returns-in_default-clause-room : goal.returns-in_default-clause-room
returns-in_default-clause-room c =
    room_at_front c.match-after.slot c.args.chunks.now.items c.halve.new.chunks.items c.halve.ensures.halved

pub returns-in-Some-after-clause-same : goal.returns-in-Some-after-clause-same
returns-in-Some-after-clause-same c few =
    same_if_few c.match-after.slot c.args.chunks.now.items c.halve.new.chunks.items c.halve.ensures.halved
    (omega (arith, few, c.args.chunks.now.ok.0, c.halve.new.chunks.ok.0))

pub returns-in_default-clause-same : goal.returns-in_default-clause-same
returns-in_default-clause-same c few =
    same_if_few c.match-after.slot c.args.chunks.now.items c.halve.new.chunks.items c.halve.ensures.halved
    (omega (arith, few, c.args.chunks.now.ok.0, c.halve.new.chunks.ok.0))
