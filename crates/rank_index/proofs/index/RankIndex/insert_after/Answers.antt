use Rattle.std.proofs.Common.{◌≡◌, ℕ, ◌+◌, ◌/◌, ◌<◌, ◌≤◌, ◌++◌, [], ◌∷◌, List, length, drop, get_or, min, ap, sym, subst, ◌∙◌, arith}
use Rattle.std.proofs.Math.ListN.{set}
use Rattle.std.proofs.lemmas.List.{get_or_read, take_at}
use Rattle.std.proofs.lemmas.Option.{slice_get_within}
use Rattle.piece_raw.specs.Ring.{IsPushed}
use Rattle.rank_index.specs.declared.groups.TheConstants.{GROUP}
use Rattle.rank_index.specs.Chunks.{ChunkSeen, members_of, AreTied}
use Rattle.rank_index.specs.Groups.{AreGroups, AreLows}
use Rattle.rank_index.specs.Keyed.{AreLeast}
use Rattle.rank_index.specs.Ranked.{Ranked, weight_of}
use Rattle.rank_index.proofs.Grouped.{group_among, groups_set}
use Rattle.rank_index.proofs.Inserted.{pushed_here, tied_pushed_here, weight_pushed}
use Rattle.rank_index.proofs.InSlots.{placed_set}
use Rattle.rank_index.proofs.Keyed.{least_pushed}
use Rattle.rank_index.proofs.Lows.{lows_lowered}
use Rattle.rank_index.proofs.Tagged.{Members}
use Rattle.rank_index.proofs.Weights.{weight_within}
use Rattle.rank_index.proofs.index.RankIndex.insert_after.Goals as goal
use Rattle.rank_index.proofs.index.RankIndex.insert_after.Goals.{After-regroup_if_grown, After-index_mut-chunk, After-insert_after, After-index_mut-group}
use Rattle.rank_index.proofs.index.RankIndex.insert_after.Goals.{After-find_lows_if_grown, After-index_mut-low}

-- the chunk's slot is that of one of the chunks
within : (c : After-index_mut-chunk) → c.slot_after-slot.result < length c.slot_after-slot.new.chunks.items
within c =
    let (there, at, room) = c.slot_after-slot.ensures.room in
    slice_get_within c.slot_after-slot.new.chunks.items c.slot_after-slot.result there at

-- these have the members that were there
same : (c : After-index_mut-chunk) → members_of c.slot_after-slot.new.chunks.items ≡ c.args.self.now.items
same c = c.slot_after-slot.ensures.members ∙ ap (λ (r : Ranked). r.items) c.self.view_is

-- each tag has its key
long : (c : After-index_mut-chunk) → length c.self.inside.keys.items ≡ length c.slot_after-slot.new.homes
long c =
    omega (
      arith,
      c.self.invariant.9,
      c.self.inside.keys.ok.0,
      c.slot_after-slot.auto.homes,
      c.deref_mut.ensures.len,
    )

-- what was put into the chunk was put among all members
put : (c : After-insert_after) → c.slot_after-slot.result < length c.slot_after-slot.new.chunks.items
    → IsPushed (members_of c.slot_after-slot.new.chunks.items) c.args.after c.args.tag c.args.weight
    (members_of (set c.slot_after-slot.new.chunks.items c.slot_after-slot.result c.insert_after.new.self))
put c lt =
    pushed_here c.slot_after-slot.new.chunks.items c.slot_after-slot.result c.index_mut-chunk.result.now
    c.insert_after.new.self lt c.index_mut-chunk.ensures.value c.args.after c.args.tag c.args.weight
    c.slot_after-slot.ensures.slot c.insert_after.ensures.inserted

pub regroup_if_grown-requires-clause-same : goal.regroup_if_grown-requires-clause-same
regroup_if_grown-requires-clause-same c few =
    let no_more : c.slot_after-slot.new.chunks.len ≤ c.self.inside.chunks.len =
    omega (arith, few, c.deref-2.ensures.len, c.len-before.ensures) in
    rw (c.deref-2.ensures.value, c.slot_after-slot.ensures.same no_more) c.self.invariant.7

pub regroup_if_grown-requires-clause-room : goal.regroup_if_grown-requires-clause-room
regroup_if_grown-requires-clause-room c =
    omega (arith, c.deref-2.ensures.len, c.slot_after-slot.ensures.count, c.self.invariant.8)

pub regroup_if_grown-requires-clause-total : goal.regroup_if_grown-requires-clause-total
regroup_if_grown-requires-clause-total c =
    omega (
      arith,
      ap (λ (l : List ChunkSeen). weight_of (members_of l)) c.deref-2.ensures.value,
      ap weight_of c.slot_after-slot.ensures.members,
      c.self.invariant.4,
    )

-- the groups are those of the chunks that are there now
grouped : (c : After-regroup_if_grown)
    → AreGroups c.regroup_if_grown.new.groups.items c.slot_after-slot.new.chunks.items
grouped c = subst (AreGroups c.regroup_if_grown.new.groups.items) c.deref-2.ensures.value c.regroup_if_grown.ensures.groups

-- the chunk's group has a sum
there : (c : After-index_mut-chunk)
    → AreGroups c.regroup_if_grown.new.groups.items c.slot_after-slot.new.chunks.items
    → c.slot_after-slot.result / GROUP < length c.regroup_if_grown.new.groups.items
there c are = omega (arith, within c, are.all)

pub index_mut-group-requires : goal.index_mut-group-requires
index_mut-group-requires c =
    let at = goal.at.index_mut-group-requires c in
    omega (arith, there at.After-index_mut-chunk (grouped at.After-regroup_if_grown), c.regroup_if_grown.new.groups.ok.0)

-- and it is read
sum_is : (c : After-index_mut-group)
    → c.slot_after-slot.result / GROUP < length c.regroup_if_grown.new.groups.items
    → c.index_mut-group.result.now
    ≡ get_or c.regroup_if_grown.new.groups.items (c.slot_after-slot.result / GROUP) 0
sum_is c lt =
    get_or_read c.regroup_if_grown.new.groups.items (c.slot_after-slot.result / GROUP)
    c.index_mut-group.result.now lt c.index_mut-group.ensures.value 0

pub overflow_add-group : goal.overflow_add-group
overflow_add-group c =
    let at = goal.at.overflow_add-group c in
    let are = grouped at.After-regroup_if_grown in
    let lt = there at.After-index_mut-chunk are in
    omega (
      arith,
      sum_is at.After-index_mut-group lt,
      group_among c.regroup_if_grown.new.groups.items c.slot_after-slot.new.chunks.items
          (c.slot_after-slot.result / GROUP) are lt,
      ap weight_of (same at.After-index_mut-chunk),
      c.from.ensures,
      c.requires.total,
    )

pub find_lows_if_grown-requires-clause-same : goal.find_lows_if_grown-requires-clause-same
find_lows_if_grown-requires-clause-same c few =
    let no_more : c.slot_after-slot.new.chunks.len ≤ c.self.inside.chunks.len =
    omega (arith, few, c.deref-3.ensures.len, c.len-before.ensures) in
    rw (c.deref-3.ensures.value, c.slot_after-slot.ensures.same no_more) c.self.invariant.11

pub find_lows_if_grown-requires-clause-room : goal.find_lows_if_grown-requires-clause-room
find_lows_if_grown-requires-clause-room c =
    omega (arith, c.deref-3.ensures.len, c.slot_after-slot.ensures.count, c.self.invariant.12)

-- the groups' least keys are those of the chunks that are there now
lowest : (c : After-find_lows_if_grown)
    → AreLows c.find_lows_if_grown.new.lows.items c.slot_after-slot.new.chunks.items
lowest c = subst (AreLows c.find_lows_if_grown.new.lows.items) c.deref-3.ensures.value c.find_lows_if_grown.ensures.lows

-- the chunk's group has one
low_there : (c : After-index_mut-chunk)
    → AreLows c.find_lows_if_grown.new.lows.items c.slot_after-slot.new.chunks.items
    → c.slot_after-slot.result / GROUP < length c.find_lows_if_grown.new.lows.items
low_there c are = omega (arith, within c, are.all)

pub index_mut-low-requires : goal.index_mut-low-requires
index_mut-low-requires c =
    let at = goal.at.index_mut-low-requires c in
    omega (
      arith,
      low_there at.After-index_mut-chunk (lowest at.After-find_lows_if_grown),
      c.find_lows_if_grown.new.lows.ok.0,
    )

-- and it is read
low_is : (c : After-index_mut-low)
    → c.slot_after-slot.result / GROUP < length c.find_lows_if_grown.new.lows.items
    → c.index_mut-low.result.now
    ≡ get_or c.find_lows_if_grown.new.lows.items (c.slot_after-slot.result / GROUP) 0
low_is c lt =
    get_or_read c.find_lows_if_grown.new.lows.items (c.slot_after-slot.result / GROUP)
    c.index_mut-low.result.now lt c.index_mut-low.ensures.value 0

pub insert_after-requires-clause-total : goal.insert_after-requires-clause-total
insert_after-requires-clause-total c =
    let at = (goal.at.insert_after-requires-clause-total c).After-index_mut-chunk in
    omega (
      arith,
      weight_within c.slot_after-slot.new.chunks.items c.slot_after-slot.result c.index_mut-chunk.result.now
          (within at) c.index_mut-chunk.ensures.value,
      ap weight_of (same at),
      c.requires.total,
    )

pub invariant_of-self : goal.invariant_of-self
invariant_of-self c =
    let at = goal.at.invariant_of-self c in
    let chunks : List ChunkSeen = c.slot_after-slot.new.chunks.items in
    let homes : List ℕ = c.slot_after-slot.new.homes in
    let slot : ℕ = c.slot_after-slot.result in
    let chunk : ChunkSeen = c.insert_after.new.self in
    let lt : slot < length chunks = within at.After-index_mut-chunk in
    let are = grouped at.After-regroup_if_grown in
    let is_same : members_of chunks ≡ c.args.self.now.items = same at.After-index_mut-chunk in
    let weight : weight_of (members_of (set chunks slot chunk)) ≡ weight_of (members_of chunks) + c.args.weight =
    weight_pushed (members_of chunks) (members_of (set chunks slot chunk)) c.args.after c.args.tag c.args.weight
    (put at.After-insert_after lt) in
    let count : length homes ≡ c.self.inside.homes.len =
    omega (arith, c.slot_after-slot.auto.homes, c.deref_mut.ensures.len) in
    let entered : c.push_reserved.new.self.items ≡ homes ++ chunk.home ∷ [] =
    c.push_reserved.ensures.items
    ∙ ap (λ (l : List ℕ). l ++ c.home.result ∷ [])
    (take_at homes (drop (length homes) c.self.inside.homes.items) c.self.inside.homes.len count)
    ∙ ap (λ (n : ℕ). homes ++ n ∷ []) c.home.ensures in (
      subst (λ (l : List ℕ). AreTied l (set chunks slot chunk)) (sym entered) (tied_pushed_here chunks slot
          c.index_mut-chunk.result.now chunk lt c.index_mut-chunk.ensures.value c.args.after c.args.tag
          c.args.weight c.slot_after-slot.ensures.slot c.insert_after.ensures.inserted homes
          c.insert_after.ensures.home (c.requires.tag ∙ sym (ap length is_same)) c.slot_after-slot.ensures.tied),
      c.slot_after-slot.ensures.empty,
      omega (arith, c.slot_after-slot.ensures.count, c.slot_after-slot.ensures.chunks_room, c.self.invariant.2),
      omega (arith, weight, ap weight_of c.slot_after-slot.ensures.members, c.self.invariant.3),
      omega (arith, weight, ap weight_of is_same, c.requires.total),
      placed_set c.slot_after-slot.new.slots.items chunks slot c.index_mut-chunk.result.now chunk lt
          c.index_mut-chunk.ensures.value c.insert_after.ensures.home c.slot_after-slot.ensures.placed,
      omega (
        arith,
        c.slot_after-slot.ensures.count,
        c.slot_after-slot.ensures.slots_room,
        c.self.invariant.6,
      ),
      groups_set c.regroup_if_grown.new.groups.items chunks slot c.index_mut-chunk.result.now chunk
          (c.index_mut-group.result.now + c.from.result) lt c.index_mut-chunk.ensures.value are (omega (
            arith,
            sum_is at.After-index_mut-group (there at.After-index_mut-chunk are),
            c.from.ensures,
            weight_pushed c.index_mut-chunk.result.now.members chunk.members c.args.after c.args.tag c.args.weight
                c.insert_after.ensures.inserted,
          )),
      omega (arith, c.slot_after-slot.ensures.count, c.regroup_if_grown.ensures.room, c.self.invariant.8),
      omega (arith, c.push_reserved.ensures.len, c.push_reserved-2.ensures.len, c.deref_mut.ensures.len, c.self.invariant.9),
      subst (λ (l : List ℕ). AreLeast l (set chunks slot chunk)) (sym c.push_reserved-2.ensures.items)
          (least_pushed c.self.inside.keys.items homes chunks slot c.index_mut-chunk.result.now chunk lt
          c.index_mut-chunk.ensures.value
          (subst (λ (l : List ℕ). AreLeast l chunks) c.deref.ensures.value c.slot_after-slot.ensures.least)
          c.args.after c.args.tag c.args.weight c.args.key (long at.After-index_mut-chunk)
          c.slot_after-slot.ensures.tied.entered
          (omega (
            arith,
            long at.After-index_mut-chunk,
            c.requires.tag,
            ap length is_same,
            c.slot_after-slot.ensures.tied.counted,
          ))
          c.insert_after.ensures.inserted c.insert_after.ensures.least),
      lows_lowered c.find_lows_if_grown.new.lows.items chunks slot c.index_mut-chunk.result.now chunk lt
          c.index_mut-chunk.ensures.value (lowest at.After-find_lows_if_grown) c.args.key c.min.result
          c.insert_after.ensures.least (c.min.ensures ∙ ap (λ (n : ℕ). min n c.args.key) (low_is at.After-index_mut-low
          (low_there at.After-index_mut-chunk (lowest at.After-find_lows_if_grown)))),
      omega (arith, c.slot_after-slot.ensures.count, c.find_lows_if_grown.ensures.room, c.self.invariant.12),
    )

pub returns-clause-inserted : goal.returns-clause-inserted
returns-clause-inserted c =
    let at = goal.at.returns-clause-inserted c in
    subst (λ (l : Members). IsPushed l c.args.after c.args.tag c.args.weight
    (members_of (set c.slot_after-slot.new.chunks.items c.slot_after-slot.result c.insert_after.new.self)))
    (same at.After-index_mut-chunk) (put at.After-insert_after (within at.After-index_mut-chunk))
