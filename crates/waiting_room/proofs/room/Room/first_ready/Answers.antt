use Rattle.std.proofs.Common.{take_all, sym, subst, arith}
use Rattle.std.specs.List.{All}
use Rattle.std.proofs.lemmas.Bool.{both_ways}
use Rattle.std.proofs.lemmas.List.Elements.{All-more}
use Rattle.std.proofs.lemmas.Option.{slice_get_within, get_or_from_slice_get}
use Rattle.waiting_room.specs.Room.{StaysWaiting}
use Rattle.waiting_room.proofs.room.Room.first_ready.Goals as goal

pub returns-then-not-stays-clause-some : goal.returns-then-not-stays-clause-some
returns-then-not-stays-clause-some g c = record {
  op = c.waiting.result.now;
  there = c.waiting.ensures;
  leaves = λ stays. both_ways c.stays.result c.if-not-stays.true (c.stays.ensures.1 stays);
  before = c.loop-index.invariant;
}

pub loop-index-preserved : goal.loop-index-preserved
loop-index-preserved g c =
    let Stays = StaysWaiting (g.H.Held.ops c.args.held.now) in
    let room = c.args.self.now in
    let i = c.loop-index.index in
    let op = c.waiting.result.now in
    let there = c.waiting.ensures in
    All-more Stays room i op (slice_get_within room i op there) c.loop-index.invariant
    (subst Stays (sym (get_or_from_slice_get room i op op there))
    (c.stays.ensures.0 c.if-not-stays.false))

pub returns-clause-none : goal.returns-clause-none
returns-clause-none g c =
    let room = c.args.self.now in
    let len = c.len-index-end.ensures.value in
    let past = c.loop-index-test.false in
    subst (All (StaysWaiting (g.H.Held.ops c.args.held.now))) (take_all c.loop-index.index room (omega arith))
    c.loop-index.invariant
