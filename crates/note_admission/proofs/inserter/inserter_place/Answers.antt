use Rattle.std.proofs.Common.{ap, arith}
use Rattle.std.proofs.lemmas.Bool.{false≢true}
use Rattle.set_laws.specs.Fronts.{front_of}
use Rattle.op_log.proofs.Lists.{Contains-slice_get}
use Rattle.note_admission.proofs.Finding.{inserts_there}
use Rattle.note_admission.proofs.inserter.inserter_place.Goals as goal

pub unreachable-requires : goal.unreachable-requires
unreachable-requires c =
    let front = ap (front_of c.args.log.now.ops) c.site.ensures in
    let last = c.inserter.ensures.last in
    let held = (c.lemma_are_held_to_the_front.ensures.held c.site.result c.inserter.result).1
    (c.inserter.ensures.first, omega arith) in
    false≢true (c.in-None.ensures.here.1 held)

pub returns : goal.returns
returns c =
    let ops = c.args.log.now.ops in
    let (op, there, on, at) = c.in-Some.ensures.value in (
      op,
      there,
      inserts_there ops c.requires.good c.lemma_are_held_to_the_front.ensures.identified c.args.name c.site.result
          c.inserter.result c.site.ensures c.inserter.ensures.from c.inserter.ensures.to op
          (Contains-slice_get ops c.in-Some.place op there) on at,
    )
