use Rattle.std.proofs.Common.{◌≡◌, ◌+◌, ◌++◌, [], ◌∷◌, List, Some, length, slice_get, refl, sym, subst, arith}
use Rattle.std.specs.List.{insert}
use Rattle.std.proofs.Math.ListN.{set}
use Rattle.std.proofs.lemmas.List.Elements.{All-pop}
use Rattle.std.proofs.lemmas.Option.{slice_get_read}
use Rattle.rank_index.specs.Chunks.{ChunkSeen, AreTied, IsHalved}
use Rattle.rank_index.proofs.Halved.{full_within, halved_here, tied_here}
use Rattle.rank_index.proofs.Homes.{part_within}
use Rattle.rank_index.proofs.InSlots.{IsToldTo, told_after}
use Rattle.rank_index.proofs.Keyed.{least_halved}
use Rattle.rank_index.specs.Keyed.{AreLeast}
use Rattle.rank_index.proofs.index.halve.Goals as goal
use Rattle.rank_index.proofs.index.halve.Goals.{After-halve}

-- the table is told up to the new chunk, which stands after the other under the next home
told : (c : After-halve) → IsToldTo (c.args.slots.now.items ++ c.len-home.result ∷ [])
    (insert (set c.args.chunks.now.items c.args.slot c.halve.new.self) (c.args.slot + 1) c.halve.new.rest)
    (c.args.slot + 1)
told c =
    let chunks : List ChunkSeen = c.args.chunks.now.items in
    let fresh : c.halve.new.rest.home ≡ length c.args.slots.now.items =
    omega (arith, c.halve.ensures.homes.1, c.move_to.ensures.home, c.len-home.ensures, c.args.slots.now.ok.0) in
    told_after c.args.slots.now.items chunks c.requires.placed c.args.slot c.index_mut.result.now c.halve.new.self
    c.halve.new.rest (full_within chunks c.args.slot c.requires.full) c.index_mut.ensures.value
    c.halve.ensures.homes.0 fresh c.len-home.result

pub enter-requires : goal.enter-requires
enter-requires c =
    let chunks : List ChunkSeen = c.args.chunks.now.items in
    let whole : ChunkSeen = c.index_mut.result.now in
    let there : slice_get chunks c.args.slot ≡ Some whole =
    slice_get_read chunks (length chunks) c.args.slot whole refl (full_within chunks c.args.slot c.requires.full)
    c.index_mut.ensures.value in
    part_within c.args.homes.now chunks c.args.slot whole c.halve.new.self.members c.halve.new.rest.members
    c.requires.tied.entered there c.halve.ensures.parts

pub overflow_add-slot : goal.overflow_add-slot
overflow_add-slot c =
    let chunks = c.args.chunks.now in
    omega (arith, full_within chunks.items c.args.slot c.requires.full, chunks.ok.0, chunks.ok.1, chunks.small)

pub insert-requires : goal.insert-requires
insert-requires c =
    let chunks = c.args.chunks.now in
    omega (arith, full_within chunks.items c.args.slot c.requires.full, chunks.ok.0)

pub renumber-requires-clause-before : goal.renumber-requires-clause-before
renumber-requires-clause-before c =
    rw (c.deref_mut.ensures.value, c.push_reserved.ensures.items, c.deref.ensures.value, c.in-Ok.ensures.items)
    (told (goal.at.renumber-requires-clause-before c).After-halve).before

pub renumber-requires-clause-homes : goal.renumber-requires-clause-homes
renumber-requires-clause-homes c =
    rw (c.deref.ensures.value, c.in-Ok.ensures.items)
    (told (goal.at.renumber-requires-clause-homes c).After-halve).homes

pub renumber-requires-clause-within : goal.renumber-requires-clause-within
renumber-requires-clause-within c =
    rw (c.deref_mut.ensures.value, c.push_reserved.ensures.items, c.deref.ensures.value, c.in-Ok.ensures.items)
    (told (goal.at.renumber-requires-clause-within c).After-halve).within

pub returns-clause-halved : goal.returns-clause-halved
returns-clause-halved c =
    let chunks : List ChunkSeen = c.args.chunks.now.items in
    subst (IsHalved c.args.slot chunks) (sym c.in-Ok.ensures.items) (halved_here chunks c.args.slot
    c.index_mut.result.now c.halve.new.self c.halve.new.rest (full_within chunks c.args.slot c.requires.full)
    c.index_mut.ensures.value c.halve.ensures.parts c.halve.ensures.halves)

pub returns-clause-empty : goal.returns-clause-empty
returns-clause-empty c =
    (All-pop (λ (d : ChunkSeen). d.members ≡ []) c.args.spare.now.items c.pop.new.self.items c.pop.result
    c.pop.ensures.items c.requires.empty).0

pub returns-clause-tied : goal.returns-clause-tied
returns-clause-tied c =
    let chunks : List ChunkSeen = c.args.chunks.now.items in
    subst (AreTied c.enter.new.homes) (sym c.in-Ok.ensures.items) (tied_here chunks c.args.slot
    c.index_mut.result.now c.halve.new.self c.halve.new.rest (full_within chunks c.args.slot c.requires.full)
    c.index_mut.ensures.value c.halve.ensures.parts c.halve.ensures.halves c.args.homes.now c.enter.new.homes
    c.requires.tied (omega (arith, c.enter.auto.homes)) c.halve.ensures.homes.0 c.enter.ensures.entered
    c.enter.ensures.others)

pub returns-clause-least : goal.returns-clause-least
returns-clause-least c =
    let chunks : List ChunkSeen = c.args.chunks.now.items in
    subst (AreLeast c.args.keys.now) (sym c.in-Ok.ensures.items) (least_halved c.args.keys.now c.args.homes.now chunks c.args.slot
    c.index_mut.result.now c.halve.new.self (full_within chunks c.args.slot c.requires.full) c.index_mut.ensures.value
    c.requires.least c.halve.new.rest c.halve.ensures.least c.halve.ensures.rest_least)
