use Rattle.std.proofs.Common.{◌≡◌, ◌+◌, ◌-◌, ℕ, suc, arith, subst}
use Rattle.note_bodies.proofs.Turns.{OnsSoFar, no_on, one_on}
use Rattle.note_bodies.proofs.ons.ons_at.Goals as goal

pub returns-in_default-clause-refused : goal.returns-in_default-clause-refused
returns-in_default-clause-refused c = λ malformed.
    let n = c.args.count - (c.loop.counter + 1) in
    let one : c.args.count - c.loop.counter ≡ suc n = omega arith in
    no_on c.args.count c.args.bound c.args.bytes.now c.loop.ons.items n c.loop.least c.loop.rest.now
    (subst (λ (m : ℕ). OnsSoFar c.args.count c.args.bound c.args.bytes.now c.loop.ons.items m c.loop.least c.loop.rest.now) one c.loop.invariant)
    c.in_default.ensures

pub loop-preserved : goal.loop-preserved
loop-preserved c =
    let n = c.args.count - (c.loop.counter + 1) in
    let one : c.args.count - c.loop.counter ≡ suc n = omega arith in
    rw (c.in_ok-push.ensures.items, c.from-least.ensures) (one_on c.args.count c.args.bound c.args.bytes.now c.loop.ons.items n c.loop.least c.loop.rest.now c.in-Some.on c.in-Some.after.now
    (subst (λ (m : ℕ). OnsSoFar c.args.count c.args.bound c.args.bytes.now c.loop.ons.items m c.loop.least c.loop.rest.now) one c.loop.invariant)
    c.in-Some.ensures)
