use Rattle.std.proofs.Common.{◌≡◌, ℕ, ◌+◌, ◌*◌, ◌/◌, ◌<◌, List, get_or, take, drop, ap, ◌∙◌, arith}
use Rattle.rank_index.specs.declared.groups.TheConstants.{GROUP}
use Rattle.rank_index.specs.Chunks.{ChunkSeen}
use Rattle.rank_index.specs.Groups.{least_among}
use Rattle.rank_index.proofs.Lows.{group_passed}
use Rattle.rank_index.proofs.passing.pass_groups.Goals as goal

pub loop-at-preserved : goal.loop-at-preserved
loop-at-preserved c =
    let at : ℕ = c.loop-at.at in
    let chunks : List ChunkSeen = c.args.chunks.now in
    let begins = c.loop-at.invariant.begins c.loop-at-test.true in
    let first : GROUP * (at / GROUP) ≡ at = omega (arith, begins) in
    let low : get_or c.args.lows.now (at / GROUP) 0 ≡ least_among (take GROUP (drop at chunks)) =
    c.requires.lows.told (at / GROUP) (omega (arith, c.loop-at-test.true, c.requires.lows.all))
    ∙ ap (λ (n : ℕ). least_among (take GROUP (drop n chunks))) first in
    let above = c.is_above.ensures.value.0 c.if-not-is_above.false in
    let under : c.args.key < least_among (take GROUP (drop at chunks)) = omega (arith, low, above) in
    let n = c.min-at.ensures in
    let one = c.is_above.ensures.counted in
    let so_far = c.loop-at.invariant.whole c.loop-at-test.true in
    record {
      order = omega (arith, c.loop-at.invariant.order);
      within = omega (arith, n, c.loop-at.invariant.within);
      begins = λ lt. omega (arith, n, begins, lt);
      on = λ last p. c.loop-at.invariant.on last (group_passed c.args.keys.now c.args.key chunks at (at + c.min-at.result)
          c.index-chunks-at.result (omega (arith, c.requires.from, c.loop-at.invariant.order)) c.loop-at-test.true
          (ap (λ (m : ℕ). at + m) n) under c.requires.least c.requires.halves c.index-chunks-at.is c.loop-at.last
          c.last_tag-last.result last c.last_tag-last.ensures p);
      whole = λ lt. omega (arith, n, one, so_far, lt);
      few = omega (arith, n, one, so_far);
    }
