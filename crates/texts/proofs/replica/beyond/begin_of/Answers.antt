use Rattle.std.proofs.Common.{◌≡◌, ◌≤◌, ◌+◌, ap, sym, arith}
use Rattle.set_laws.specs.Fronts.{front_of}
use Rattle.texts.specs.Fronts.{front_in}
use Rattle.texts.proofs.Beyond.{begins_here, none_begins}
use Rattle.texts.proofs.replica.beyond.begin_of.Goals as goal

pub returns-then-front-seq : goal.returns-then-front-seq
returns-then-front-seq c =
    let most : front_of c.args.log.now.ops c.args.site ≤ front_in c.args.fronts.now c.args.site =
    omega (arith, c.if-front-seq.true, c.front.ensures, c.front_in-seq.ensures) in
    none_begins c.args.fronts.now c.args.log.now.ops c.args.site c.len.result most c.len.ensures

pub unreachable-requires : goal.unreachable-requires
unreachable-requires c =
    let held = (c.lemma_are_held_to_the_front.ensures.held c.args.site (c.front_in-seq.result + 1)).1
    (omega arith, omega (arith, c.if-front-seq.false, c.front.ensures)) in
    let some = c.in-None.ensures.here.1 held in
    absurd cc

pub returns : goal.returns
returns c =
    let (op, there, on, at) = c.in-Some.ensures.value in
    begins_here c.args.fronts.now c.args.log.now.ops c.requires c.lemma_are_held_to_the_front.ensures.identified
    c.lemma_are_held_to_the_front.ensures.once c.args.site c.in-Some.place op there on
    (omega (arith, at, c.front_in-seq.ensures))
