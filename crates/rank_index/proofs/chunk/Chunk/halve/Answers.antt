use Rattle.std.proofs.Common.{◌≡◌, ◌+◌, ◌-◌, ◌++◌, length, take, drop, refl, sym, ap, ◌∙◌, arith}
use Rattle.std.proofs.lemmas.List.{take-append-drop, take_rest}
use Rattle.rank_index.specs.declared.chunk.TheConstants.{HALF}
use Rattle.rank_index.specs.Chunks.{ChunkSeen}
use Rattle.rank_index.specs.Ranked.{weight_of}
use Rattle.rank_index.proofs.ChunkRank.{weight_of-more_le}
use Rattle.rank_index.proofs.ChunkHalves.{all_moved, parts_weigh}
use Rattle.rank_index.proofs.chunk.Chunk.halve.Goals as goal
use Rattle.rank_index.proofs.chunk.Chunk.halve.Goals.{After-sum}

-- what was moved is the second half
moved : (c : After-sum) → c.loop-member.rest.members ≡ drop HALF c.args.self.now.members
moved c =
    all_moved (take (length c.deref.result.now - HALF) (drop HALF c.deref.result.now)) c.loop-member.rest.members
    (drop HALF c.args.self.now.members) c.loop-member.member-index c.loop-member-test.false
    c.loop-member.invariant.moved c.loop-member.invariant.whole

-- what is kept is the first
kept : (c : After-sum) → c.truncate.new.self.items ≡ take HALF c.args.self.now.members
kept c = c.truncate.ensures.items ∙ ap (λ (s : ChunkSeen). take HALF s.members) c.self.view_is

-- both weigh what all did
weighs : (c : After-sum)
    → weight_of c.truncate.new.self.items + weight_of c.loop-member.rest.members
    ≡ weight_of c.self.inside.members.items
weighs c =
    omega (
      arith,
      ap weight_of (kept c),
      ap weight_of (moved c),
      parts_weigh c.args.self.now.members HALF,
      ap (λ (s : ChunkSeen). weight_of s.members) c.self.view_is,
    )

pub loop-member-init : goal.loop-member-init
loop-member-init c = record {
  whole = take_rest c.deref.result.now HALF ∙ ap (drop HALF) c.deref.ensures.value
      ∙ ap (λ (s : ChunkSeen). drop HALF s.members) c.self.view_is;
  moved = c.requires.empty;
  home = refl;
}

pub push-requires-clause-total : goal.push-requires-clause-total
push-requires-clause-total c =
    let xs = take (length c.deref.result.now - HALF) (drop HALF c.deref.result.now) in
    let old = c.args.self.now.members in
    omega (
      arith,
      weight_of-more_le xs c.loop-member.member-index (0, 0) c.loop-member-test.true,
      ap weight_of c.loop-member.invariant.moved,
      ap weight_of c.loop-member.invariant.whole,
      parts_weigh old HALF,
      ap (λ (s : ChunkSeen). weight_of s.members) c.self.view_is,
      c.self.invariant.1,
    )

pub overflow_sub-self : goal.overflow_sub-self
overflow_sub-self c = omega (arith, c.sum.ensures, weighs c, c.self.invariant.0)

pub invariant_of-self : goal.invariant_of-self
invariant_of-self c =
    let weight = weighs (goal.at.invariant_of-self c).After-sum in (
      omega (arith, c.sum.ensures, weight, c.self.invariant.0),
      omega (arith, weight, c.self.invariant.1),
      omega (arith, c.truncate.ensures.len, c.self.invariant.2),
      omega (arith, c.truncate.ensures.capacity, c.self.invariant.3),
    )

pub returns-clause-parts : goal.returns-clause-parts
returns-clause-parts c =
    let at = (goal.at.returns-clause-parts c).After-sum in
    sym (take-append-drop HALF c.args.self.now.members) ∙ (λ i. sym (kept at) i ++ sym (moved at) i)
    ∙ (λ i. sym c.find_least.ensures.members i ++ sym c.find_least-2.ensures.members i)
