use Rattle.std.proofs.Common.{◌≡◌, ap, ◌∙◌, arith}
use Rattle.std.proofs.lemmas.Bool.{ltb-true, lt-ltb}
use Rattle.set_laws.specs.Fronts.{front_of}
use Rattle.set_laws.proofs.Fronts.{lemma_are_held_to_the_front}
use Rattle.waiting_room.proofs.Unheld.{new_past_front}
use Rattle.waiting_room.proofs.waiting.is_new.Goals as goal

pub returns : goal.returns
returns g c =
    let ops = g.H.Held.ops c.args.held.now in
    let op = c.args.op.now in
    let held = lemma_are_held_to_the_front ops c.lemma_are_good.ensures.good c.lemma_are_good.ensures.identified in
    let front : c.front.result ≡ front_of ops op.site = c.front.ensures ∙ ap (front_of ops) c.site.ensures in
    let seq = c.seq.ensures in (
      λ e. let less = ltb-true _ _ e in (new_past_front ops op held).1 (omega arith),
      λ new. let less = (new_past_front ops op held).0 new in lt-ltb _ _ (omega arith),
    )
