use Rattle.std.proofs.Common.{arith}
use Rattle.vialshoal_c.specs.Naming.{is_range, replica_range}
use Rattle.vialshoal_c.proofs.Handing.{put_within}
use Rattle.vialshoal_c.proofs.naming.put.Goals as goal

pub push_reserved-requires : goal.push_reserved-requires
push_reserved-requires c =
    let within = put_within is_range replica_range c.args.names.now c.args.ranges.now.items c.loop-some.ranges.items
    c.loop-some.some-index (record { site = 0; offset = 0; len = 0 }) c.loop-some-test.true c.loop-some.invariant.put in
    omega (arith, within, c.loop-some.invariant.room, c.requires.room)
