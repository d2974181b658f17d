use Rattle.std.proofs.Common.{◌≡◌, ◌+◌, ◌-◌, ◌/◌, ◌<◌, ◌^◌, length, get_or, sym, ap, subst, ◌∙◌, arith}
use Rattle.std.proofs.lemmas.List.{get_or_read}
use Rattle.piece_raw.specs.Ring.{with_value}
use Rattle.rank_index.specs.declared.groups.TheConstants.{GROUP}
use Rattle.rank_index.specs.Chunks.{members_of}
use Rattle.rank_index.specs.Ranked.{Ranked, weight_of}
use Rattle.rank_index.proofs.Reweighed.{Weighs, apart_read, reweighed_here, tied_reweighed_here, weighs_here}
use Rattle.rank_index.proofs.Grouped.{group_among, groups_set, in_group}
use Rattle.rank_index.proofs.InSlots.{placed_set}
use Rattle.rank_index.proofs.Keyed.{least_set}
use Rattle.rank_index.proofs.Lows.{lows_same}
use Rattle.rank_index.proofs.Stretches.{IsReadFor, is_within, read_for}
use Rattle.rank_index.proofs.Tagged.{Members}
use Rattle.rank_index.proofs.index.RankIndex.set_weight.Goals as goal
use Rattle.rank_index.proofs.index.RankIndex.set_weight.Goals.{After-sum-was, After-index_mut-group}

-- the chunk that is read has the member
is_read : (c : After-sum-was)
    → IsReadFor c.self.inside.chunks.items c.chunk_of-slot.result c.args.tag c.index_mut-chunk.result.now
is_read c =
    read_for c.deref.result.now c.self.inside.chunks.items c.chunk_of-slot.result c.args.tag
    c.index_mut-chunk.result.now c.deref.ensures.value c.chunk_of-slot.ensures c.index_mut-chunk.ensures.value

-- it and the other chunks weigh what all do, with the old weight and with the new one
weighs : (c : After-sum-was)
    → Weighs c.self.inside.chunks.items c.index_mut-chunk.result.now c.args.tag c.args.weight
weighs c =
    weighs_here c.self.inside.chunks.items c.chunk_of-slot.result c.args.tag c.index_mut-chunk.result.now (is_read c)
    c.args.weight c.self.invariant.0.tags

same : (c : After-sum-was) → members_of c.self.inside.chunks.items ≡ c.args.self.now.items
same c = ap (λ (r : Ranked). r.items) c.self.view_is

-- with the new weight all weigh less than 2^64
total : (c : After-sum-was)
    → weight_of (with_value c.args.tag c.args.weight (members_of c.self.inside.chunks.items)) < 2 ^ 64
total c =
    subst (λ (l : Members). weight_of (with_value c.args.tag c.args.weight l) < 2 ^ 64) (sym (same c))
    c.requires.total

pub index_mut-chunk-requires : goal.index_mut-chunk-requires
index_mut-chunk-requires c =
    omega (
      arith,
      is_within c.deref.result.now c.chunk_of-slot.result c.args.tag c.chunk_of-slot.ensures,
      c.deref.ensures.len,
    )

pub set_weight-requires-clause-here : goal.set_weight-requires-clause-here
set_weight-requires-clause-here c = (is_read (goal.at.set_weight-requires-clause-here c).After-sum-was).here

pub set_weight-requires-clause-once : goal.set_weight-requires-clause-once
set_weight-requires-clause-once c =
    let read = is_read (goal.at.set_weight-requires-clause-once c).After-sum-was in
    apart_read c.self.inside.chunks.items c.chunk_of-slot.result c.index_mut-chunk.result.now read.within read.is
    c.self.invariant.0.tags.0

pub set_weight-requires-clause-total : goal.set_weight-requires-clause-total
set_weight-requires-clause-total c =
    let at = (goal.at.set_weight-requires-clause-total c).After-sum-was in
    omega (arith, (weighs at).is, total at)

-- its group has a sum
grouped : (c : After-sum-was) → c.chunk_of-slot.result / GROUP < length c.self.inside.groups.items
grouped c = omega (arith, (is_read c).within, c.self.invariant.7.all)

pub index_mut-group-requires : goal.index_mut-group-requires
index_mut-group-requires c =
    omega (arith, grouped (goal.at.index_mut-group-requires c).After-sum-was, c.self.inside.groups.ok.0)

-- the sum that is told of its group, which counts the chunk in
sum_is : (c : After-index_mut-group) → c.chunk_of-slot.result / GROUP < length c.self.inside.groups.items
    → c.index_mut-group.result.now ≡ get_or c.self.inside.groups.items (c.chunk_of-slot.result / GROUP) 0
sum_is c within =
    get_or_read c.self.inside.groups.items (c.chunk_of-slot.result / GROUP) c.index_mut-group.result.now within
    c.index_mut-group.ensures.value 0

pub overflow_sub-group : goal.overflow_sub-group
overflow_sub-group c =
    let at = goal.at.overflow_sub-group c in
    let read = is_read at.After-sum-was in
    omega (
      arith,
      sum_is at.After-index_mut-group (grouped at.After-sum-was),
      c.sum-was.ensures,
      in_group c.self.inside.groups.items c.self.inside.chunks.items c.chunk_of-slot.result
          c.index_mut-chunk.result.now read.within read.is c.self.invariant.7,
    )

pub overflow_add-group : goal.overflow_add-group
overflow_add-group c =
    let at = goal.at.overflow_add-group c in
    let groups = c.self.inside.groups.items in
    let chunks = c.self.inside.chunks.items in
    omega (
      arith,
      sum_is at.After-index_mut-group (grouped at.After-sum-was),
      group_among groups chunks (c.chunk_of-slot.result / GROUP) c.self.invariant.7 (grouped at.After-sum-was),
      (weighs at.After-sum-was).was,
      (weighs at.After-sum-was).is,
      total at.After-sum-was,
      ap weight_of c.set_weight.ensures.members,
      c.sum-was.ensures,
      c.sum-is.ensures,
    )

pub overflow_sub-self : goal.overflow_sub-self
overflow_sub-self c =
    omega (
      arith,
      c.sum-was.ensures,
      (weighs (goal.at.overflow_sub-self c).After-sum-was).was,
      c.self.invariant.3,
    )

pub overflow_add-self : goal.overflow_add-self
overflow_add-self c =
    let at = (goal.at.overflow_add-self c).After-sum-was in
    omega (
      arith,
      (weighs at).was,
      (weighs at).is,
      total at,
      ap weight_of c.set_weight.ensures.members,
      c.sum-was.ensures,
      c.sum-is.ensures,
      c.self.invariant.3,
    )

pub invariant_of-self : goal.invariant_of-self
invariant_of-self c =
    let steps = goal.at.invariant_of-self c in
    let at = steps.After-sum-was in
    let chunks = c.self.inside.chunks.items in
    let slot = c.chunk_of-slot.result in
    let old = c.index_mut-chunk.result.now in
    let new = c.set_weight.new.self in
    let is_new = c.set_weight.ensures.members in
    let read = is_read at in
    let whole = ap weight_of (reweighed_here chunks slot c.args.tag old read new c.args.weight is_new c.self.invariant.0.tags) in (
      tied_reweighed_here chunks slot c.args.tag old read new c.args.weight is_new c.self.inside.homes.items
          c.set_weight.ensures.home c.self.invariant.0,
      c.self.invariant.1,
      c.self.invariant.2,
      omega (
        arith,
        (weighs at).was,
        (weighs at).is,
        whole,
        ap weight_of is_new,
        c.sum-was.ensures,
        c.sum-is.ensures,
        c.self.invariant.3,
      ),
      omega (arith, whole, total at),
      placed_set c.self.inside.slots.items chunks slot old new read.within read.is c.set_weight.ensures.home
          c.self.invariant.5,
      c.self.invariant.6,
      groups_set c.self.inside.groups.items chunks slot old new
          (c.index_mut-group.result.now - c.sum-was.result + c.sum-is.result) read.within read.is
          c.self.invariant.7 (omega (
            arith,
            sum_is steps.After-index_mut-group (grouped at),
            c.sum-was.ensures,
            c.sum-is.ensures,
            in_group c.self.inside.groups.items chunks slot old read.within read.is c.self.invariant.7,
          )),
      c.self.invariant.8,
      c.self.invariant.9,
      least_set c.self.inside.keys.items c.self.inside.homes.items chunks slot old new read.within read.is c.self.invariant.10
          c.args.tag c.args.weight is_new c.set_weight.ensures.least,
      lows_same c.self.inside.lows.items chunks slot old new read.within read.is c.self.invariant.11 c.set_weight.ensures.least,
      c.self.invariant.12,
    )

pub returns-clause-items : goal.returns-clause-items
returns-clause-items c =
    let at = (goal.at.returns-clause-items c).After-sum-was in
    reweighed_here c.self.inside.chunks.items c.chunk_of-slot.result c.args.tag c.index_mut-chunk.result.now
    (is_read at) c.set_weight.new.self c.args.weight c.set_weight.ensures.members c.self.invariant.0.tags
    ∙ ap (with_value c.args.tag c.args.weight) (same at)
