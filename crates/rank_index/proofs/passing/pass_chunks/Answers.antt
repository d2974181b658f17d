use Rattle.std.proofs.Common.{◌≡◌, ℕ, ◌<◌, IsTrue, List, length, subst, sym, ◌∙◌, arith, true≢false}
use Rattle.rank_index.specs.Chunks.{ChunkSeen}
use Rattle.rank_index.specs.Keyed.{least_of}
use Rattle.rank_index.proofs.Keyed.{chunk_passed}
use Rattle.rank_index.proofs.Lows.{above_next, has_some}
use Rattle.rank_index.proofs.passing.pass_chunks.Goals as goal

pub loop-slot-preserved : goal.loop-slot-preserved
loop-slot-preserved c =
    let chunks : List ChunkSeen = c.args.chunks.now in
    let slot : ℕ = c.loop-slot.slot in
    let this : ChunkSeen = c.index-chunks-slot.result in
    let goes : ¬ IsTrue c.pass_from-next.result.1 = λ yes. true≢false (sym yes ∙ c.if-stops.false) in
    let (above, is) = c.pass_from-next.ensures.all goes in
    let lt : slot < length chunks = omega (arith, c.loop-slot-test.true, c.requires.within) in
    let some : 0 < length this.members =
    has_some chunks slot this (omega (arith, c.requires.from)) lt c.requires.halves c.index-chunks-slot.is in
    let least : this.least ≡ least_of c.args.keys.now this.members =
    subst (λ (d : ChunkSeen). d.least ≡ least_of c.args.keys.now d.members) (sym c.index-chunks-slot.is)
    (c.requires.least slot this lt) in
    let under : c.args.key < this.least = c.pass_from-next.ensures.above goes some in
    record {
      on = λ last p. c.loop-slot.invariant.on last (chunk_passed c.args.keys.now c.args.key chunks slot this lt
          c.index-chunks-slot.is c.loop-slot.last c.pass_from-next.result.0 last above is p);
      above = λ past. above_next c.args.keys.now c.args.key chunks c.args.from slot this c.loop-slot.auto.slot lt
          c.index-chunks-slot.is least under c.loop-slot.invariant.above;
      few = omega (arith, c.loop-slot.invariant.few, c.pass_from-next.ensures.one goes some, c.loop-slot.auto.slot);
    }
