use Rattle.std.proofs.Common.{◌≤◌, sym, subst, refl, ℕ, length}
use Rattle.texts.specs.TextState.{shown_of}
use Rattle.text_frames.proofs.Places.{place_told, place_within}
use Rattle.text_frames.proofs.drawing.place_of.Goals as goal

pub returns-in-Some-clause-place : goal.returns-in-Some-clause-place
returns-in-Some-clause-place c =
    λ anchor. place_told c.args.replica.now c.lemma_is_text.ensures c.args.anchor c.in-Some.place c.in-Some.ensures.place

pub returns-in-Some-clause-within : goal.returns-in-Some-clause-within
returns-in-Some-clause-within c =
    subst (λ (n : ℕ). n ≤ length (shown_of c.args.replica.now))
    (sym (place_told c.args.replica.now c.lemma_is_text.ensures c.args.anchor c.in-Some.place c.in-Some.ensures.place))
    (place_within c.args.replica.now c.lemma_is_text.ensures c.args.anchor (c.in-Some.ensures.here.0 refl))
