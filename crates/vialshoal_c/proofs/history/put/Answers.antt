use Rattle.std.proofs.Common.{arith}
use Rattle.vialshoal_c.specs.History.{is_front, replica_front}
use Rattle.vialshoal_c.proofs.Handing.{put_within}
use Rattle.vialshoal_c.proofs.history.put.Goals as goal

pub push_reserved-requires : goal.push_reserved-requires
push_reserved-requires c =
    let within = put_within is_front replica_front c.args.fronts.now c.args.taken.now.items c.loop-some.taken.items
    c.loop-some.some-index (record { site = 0; seq = 0 }) c.loop-some-test.true c.loop-some.invariant.put in
    omega (arith, within, c.loop-some.invariant.room, c.requires.room)
