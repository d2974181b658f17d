use Rattle.std.proofs.Common.{◌≡◌, ap, ◌∙◌, arith}
use Rattle.std.proofs.lemmas.Bool.{leb-true, le-leb}
use Rattle.set_laws.specs.Fronts.{front_of}
use Rattle.set_laws.proofs.Counting.{determined_by_counts}
use Rattle.waiting_room.proofs.judging.follows_on.Goals as goal

pub returns : goal.returns
returns g c =
    let ops = g.H.Held.ops c.args.held.now in
    let op = c.args.op.now in
    let told = determined_by_counts ops op c.lemma_are_good.ensures.good
    c.lemma_are_good.ensures.identified c.requires in
    let front : c.front.result ≡ front_of ops op.site = c.front.ensures ∙ ap (front_of ops) c.site.ensures in
    let seq = c.seq.ensures in
    let counted = c.requires.counted in (
      λ e. told.follows.1 (let le = leb-true _ _ e in omega arith),
      λ follows. let le = told.follows.0 follows in le-leb _ _ (omega arith),
    )
