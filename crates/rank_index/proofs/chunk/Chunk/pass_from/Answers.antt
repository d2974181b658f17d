use Rattle.std.proofs.Common.{◌<◌, ◌++◌, IsTrue, length, ap, subst, sym, ◌∙◌, arith, true≢false}
use Rattle.std.proofs.lemmas.List.{take_all}
use Rattle.rank_index.specs.Keyed.{AreAbove, IsPassed, last_tag_from, least_of}
use Rattle.rank_index.proofs.Keyed.{above_least, least_above}
use Rattle.rank_index.proofs.Tagged.{Members}
use Rattle.rank_index.proofs.chunk.Chunk.pass_from.Goals as goal
use Rattle.rank_index.proofs.chunk.Chunk.pass_from.Goals.{After-pass}

pub returns-then-is_above-clause-all : goal.returns-then-is_above-clause-all
returns-then-is_above-clause-all c = λ goes. (
  above_least c.args.keys.now c.args.key c.args.self.now.members
      (omega (arith, c.is_above.ensures.value.0 c.if-is_above.true, c.least.ensures, c.requires)),
  c.last_of.ensures
      ∙ ap (last_tag_from c.args.tag) (take_all (length c.members-members.result.now) c.members-members.result.now (omega arith)
      ∙ c.members-members.ensures.members),
)

pub returns-clause-stops : goal.returns-clause-stops
returns-clause-stops c =
    subst (λ (l : Members). IsTrue c.pass.result.1
    → (more : Members) → IsPassed c.args.keys.now c.args.key (l ++ more) c.args.tag c.pass.result.0)
    c.members-members.ensures.members c.pass.ensures.stops

pub returns-clause-all : goal.returns-clause-all
returns-clause-all c = λ goes.
    let (above, last) = c.pass.ensures.all goes in (
      subst (AreAbove c.args.keys.now c.args.key) c.members-members.ensures.members above,
      last ∙ ap (last_tag_from c.args.tag) c.members-members.ensures.members,
    )

-- where a walk passes all members, the least key is greater
walk_above : (c : After-pass) → ¬ IsTrue c.pass.result.1 → 0 < length c.args.self.now.members
    → c.args.key < c.args.self.now.least
walk_above c goes some =
    let (above, last) = c.pass.ensures.all goes in
    let under : c.args.key < least_of c.args.keys.now c.args.self.now.members =
    least_above c.args.keys.now c.args.key c.args.self.now.members (λ i. omega (arith, c.type_inv.keys i)) some
    (subst (AreAbove c.args.keys.now c.args.key) c.members-members.ensures.members above) in
    omega (arith, under, c.requires)

pub returns-clause-above : goal.returns-clause-above
returns-clause-above c = walk_above (goal.at.returns-clause-above c).After-pass

pub returns-clause-one : goal.returns-clause-one
returns-clause-one c = λ goes some.
    let under = walk_above (goal.at.returns-clause-one c).After-pass goes some in
    absurd (true≢false (sym (c.is_above.ensures.value.1 (omega (arith, under, c.least.ensures))) ∙ c.if-is_above.false))
