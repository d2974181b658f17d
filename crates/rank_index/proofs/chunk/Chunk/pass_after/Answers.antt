use Rattle.std.proofs.Common.{◌≡◌, ℕ, ◌+◌, ◌-◌, ◌++◌, IsTrue, length, take, drop, ap, subst, ◌∙◌, arith}
use Rattle.std.proofs.lemmas.List.{take_rest}
use Rattle.rank_index.specs.Keyed.{AreAbove, IsPassed, last_tag_from}
use Rattle.rank_index.proofs.ChunkSlot.{slot_within}
use Rattle.rank_index.proofs.Keyed.{rest_after}
use Rattle.rank_index.proofs.Tagged.{Members}
use Rattle.rank_index.proofs.chunk.Chunk.pass_after.Goals as goal

pub overflow_add-slot : goal.overflow_add-slot
overflow_add-slot c =
    omega (
      arith,
      slot_within c.args.self.now.members c.args.tag c.in-Some.slot c.in-Some.ensures.slot,
      c.members-members.ensures.most,
    )

pub returns-clause-passed : goal.returns-clause-passed
returns-clause-passed c =
    let members : Members = c.args.self.now.members in
    let slot : ℕ = c.in-Some.slot in
    let read : Members = c.members-members.result.now in
    let (before, follow, weight, cut, at) = c.in-Some.ensures.slot in
    let rest : take (length read - (slot + 1)) (drop (slot + 1) read) ≡ follow =
    take_rest read (slot + 1) ∙ ap (drop (slot + 1)) c.members-members.ensures.members
    ∙ rest_after members before follow (c.args.tag, weight) slot cut at in (
      before,
      weight,
      follow,
      cut,
      subst (λ (l : Members). IsTrue c.pass.result.1
          → (more : Members) → IsPassed c.args.keys.now c.args.key (l ++ more) c.args.tag c.pass.result.0) rest c.pass.ensures.stops,
      λ goes. let (above, last) = c.pass.ensures.all goes in
          (subst (AreAbove c.args.keys.now c.args.key) rest above, last ∙ ap (last_tag_from c.args.tag) rest),
    )
