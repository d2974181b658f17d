use Rattle.texts.proofs.Places.{place_within}
use Rattle.vialshoal_c.proofs.showing.find.Goals as goal

pub anchor_after-requires : goal.anchor_after-requires
anchor_after-requires c =
    place_within c.args.replica.now c.lemma_is_text.ensures c.args.name c.in-Some.pos c.in-Some.ensures.place
