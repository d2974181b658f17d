use Rattle.std.proofs.Common.{◌≡◌, ◌-◌, ◌∙◌, ap, sym, ℕ}
use Rattle.std.proofs.lemmas.Bool.{both_ways}
use Rattle.char_files.specs.declared.name.Anchor.TheVariants.{At}
use Rattle.texts.specs.Edit.{anchor_before}
use Rattle.texts.specs.TextState.{shown_of}
use Rattle.machine.specs.Windows.{place_in}
use Rattle.text_frames.proofs.Preceding.{none_less, one_less}
use Rattle.text_frames.proofs.marks.place_before.Goals as goal

pub returns-then-are_same : goal.returns-then-are_same
returns-then-are_same c =
    let place : c.place_of-place.result ≡ place_in c.args.replica.now (At c.args.name) = c.place_of-place.ensures.place c.requires in
    ap (λ (n : ℕ). n - 1) place
    ∙ one_less c.args.replica.now c.lemma_is_text.ensures c.args.name c.requires
    (ap (anchor_before (shown_of c.args.replica.now)) (sym place) ∙ sym c.anchor_after.ensures
    ∙ c.are_same.ensures.0 c.if-are_same.true)

pub returns-else-are_same : goal.returns-else-are_same
returns-else-are_same c =
    let place : c.place_of-place.result ≡ place_in c.args.replica.now (At c.args.name) = c.place_of-place.ensures.place c.requires in
    place
    ∙ none_less c.args.replica.now c.lemma_is_text.ensures c.args.name c.requires
    (λ e.
    both_ways c.are_same.result c.if-are_same.false
    (c.are_same.ensures.1
    (c.anchor_after.ensures ∙ ap (anchor_before (shown_of c.args.replica.now)) place ∙ e)))
