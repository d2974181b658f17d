use Rattle.std.proofs.Common.{◌<◌, length, get_or, arith, rules}
use Rattle.rank_index.proofs.Homes.{tag_within}
use Rattle.rank_index.proofs.InSlots.{home_within, slot_told}
use Rattle.rank_index.proofs.index.chunk_of.Goals as goal

pub bounds-homes-tag : goal.bounds-homes-tag
bounds-homes-tag c = tag_within c.args.homes.now c.args.chunks.now c.args.tag c.requires.homes c.requires.here

pub offset_bounds-homes-tag : goal.offset_bounds-homes-tag
offset_bounds-homes-tag c =
    let lt : c.args.tag < length c.args.homes.now =
    tag_within c.args.homes.now c.args.chunks.now c.args.tag c.requires.homes c.requires.here in
    first_of (search rules, omega arith)

pub bounds-slots-home : goal.bounds-slots-home
bounds-slots-home c =
    home_within c.args.chunks.now c.args.slots.now c.args.homes.now c.args.tag c.requires.homes c.requires.placed
    c.requires.here 0

pub offset_bounds-slots-home : goal.offset_bounds-slots-home
offset_bounds-slots-home c =
    let lt : get_or c.args.homes.now c.args.tag 0 < length c.args.slots.now =
    home_within c.args.chunks.now c.args.slots.now c.args.homes.now c.args.tag c.requires.homes c.requires.placed
    c.requires.here 0 in
    first_of (search rules, omega arith)

pub returns : goal.returns
returns c =
    slot_told c.args.chunks.now c.args.slots.now c.args.homes.now c.args.tag c.requires.homes c.requires.placed
    c.requires.here 0 0
