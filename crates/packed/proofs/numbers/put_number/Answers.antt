use Rattle.std.proofs.Common.{[], ◌∷◌, arith}
use Rattle.packed.specs.Numbers.{sevens}
use Rattle.packed.proofs.Parts.{put_rest}
use Rattle.packed.proofs.Sevens.{all_left, seven_put, last_left}
use Rattle.packed.proofs.numbers.put_number.Goals as goal

pub loop-rest-init : goal.loop-rest-init
loop-rest-init c = all_left c.args.out.now.items c.args.number c.requires

pub loop-rest-preserved : goal.loop-rest-preserved
loop-rest-preserved c =
    seven_put c.args.out.now.items c.loop-rest.out.items c.push.new.self.items (sevens c.args.number)
    c.loop-rest.rest (omega arith) c.loop-rest.invariant c.in_ok-push.ensures.items

pub returns : goal.returns
returns c =
    put_rest c.args.out.now.items c.loop-rest.out.items c.push-2.new.self.items (sevens c.args.number)
    (c.loop-rest.rest ∷ [])
    (last_left c.args.out.now.items c.loop-rest.out.items (sevens c.args.number) c.loop-rest.rest (omega arith)
    c.loop-rest.invariant)
    c.in_ok-push-2.ensures.items
