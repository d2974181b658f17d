use Rattle.std.proofs.Common.{◌≡◌, ◌+◌, ◌-◌, List, length, take, drop, ap, subst, ◌∙◌, arith}
use Rattle.std.proofs.lemmas.List.{take_rest}
use Rattle.rank_index.specs.Chunks.{ChunkSeen, members_of}
use Rattle.rank_index.specs.Groups.{weight_to}
use Rattle.rank_index.specs.Ranked.{Ranked, weight_of, IsFound}
use Rattle.rank_index.proofs.Tagged.{Members}
use Rattle.rank_index.proofs.Weights.{found_after, weight_parts}
use Rattle.rank_index.proofs.index.RankIndex.find.Goals as goal
use Rattle.rank_index.proofs.index.RankIndex.find.Goals.{After-deref-3}

-- the chunks that are looked along are those from the group's first one on
rest : (c : After-deref-3)
    → take (length c.deref-3.result.now - c.group_at-slot.result.0)
    (drop c.group_at-slot.result.0 c.deref-3.result.now)
    ≡ drop c.group_at-slot.result.0 c.self.inside.chunks.items
rest c =
    take_rest c.deref-3.result.now c.group_at-slot.result.0
    ∙ ap (drop c.group_at-slot.result.0) c.deref-3.ensures.value

-- and what stands before them is passed
passed : (c : After-deref-3)
    → c.args.pos ≡ weight_to c.self.inside.chunks.items c.group_at-slot.result.0 + c.group_at-slot.result.1
passed c =
    c.group_at-slot.ensures.left
    ∙ ap (λ (l : List ChunkSeen). weight_to l c.group_at-slot.result.0 + c.group_at-slot.result.1)
    c.deref-2.ensures.value

pub found_in-requires : goal.found_in-requires
found_in-requires c =
    let at = (goal.at.found_in-requires c).After-deref-3 in
    omega (
      arith,
      ap (λ (l : List ChunkSeen). weight_of (members_of l)) (rest at),
      passed at,
      weight_parts c.self.inside.chunks.items c.group_at-slot.result.0,
      ap (λ (r : Ranked). weight_of r.items) c.self.view_is,
      c.requires.within,
    )

pub returns : goal.returns
returns c =
    let at = (goal.at.returns c).After-deref-3 in
    let in_rest = subst (λ (l : List ChunkSeen). IsFound (members_of l) c.group_at-slot.result.1 c.found_in.result.0
    c.found_in.result.1) (rest at) c.found_in.ensures in
    record {
      found = subst (λ (l : Members). IsFound l c.args.pos c.found_in.result.0 c.found_in.result.1)
          (ap (λ (r : Ranked). r.items) c.self.view_is)
          (found_after c.self.inside.chunks.items c.group_at-slot.result.0 c.args.pos c.group_at-slot.result.1
          c.found_in.result.0 c.found_in.result.1 (passed at) in_rest);
    }
