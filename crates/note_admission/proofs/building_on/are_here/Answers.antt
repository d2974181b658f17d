use Rattle.std.proofs.Common.{◌<◌, subst, arith}
use Rattle.set_laws.specs.Fronts.{IsHere}
use Rattle.note_admission.proofs.building_on.are_here.Goals as goal

pub returns : goal.returns
returns c = λ all name held.
    let (k, lt, is) = held in
    let within : k < c.loop-name.name-index = let past = c.loop-name-test.false in omega arith in
    subst (IsHere c.args.log.now.ops) is (c.loop-name.invariant k name within)
