use Rattle.std.proofs.Common.{◌≡◌, sym, ap, ◌∙◌}
use Rattle.std.proofs.lemmas.Bool.{true≢false}
use Rattle.char_files.specs.CharName.{CharName}
use Rattle.char_files.specs.declared.name.Anchor.TheVariants.{At}
use Rattle.operations.proofs.WithName.{same_name}
use Rattle.texts.proofs.Places.{place_within}
use Rattle.desk_texts.proofs.Standing.{before, hidden, name_or, not_here}
use Rattle.desk_texts.proofs.where_shown.shown_at.Goals as goal

pub returns-in_err-place : goal.returns-in_err-place
returns-in_err-place c =
    rw c.from_residual.ensures (not_here c.args.replica.now c.lemma_is_text.ensures c.args.name (λ char.
    let lost = c.in_err-place.ensures.here.1 char in absurd cc))

pub anchor_after-requires : goal.anchor_after-requires
anchor_after-requires c =
    place_within c.args.replica.now c.lemma_is_text.ensures c.args.name c.in_ok-place.place c.in_ok-place.ensures.place

pub returns-in-At : goal.returns-in-At
returns-in-At c =
    let same = c.are_same.ensures.0 c.if-are_same.true in
    before c.args.replica.now c.lemma_is_text.ensures c.args.name c.in_ok-place.place c.in_ok-place.ensures.place
    (sym c.anchor_after.ensures ∙ c.in-At.is
    ∙ ap (λ (n : CharName). At n) (same_name c.in-At.other c.args.name same.0 same.1))

pub returns-in_default : goal.returns-in_default
returns-in_default c =
    hidden c.args.replica.now c.lemma_is_text.ensures c.args.name c.in_ok-place.place c.in_ok-place.ensures.place (λ at.
    let same : c.in-At.other ≡ c.args.name =
    ap (name_or c.args.name) (sym c.in-At.is ∙ c.anchor_after.ensures ∙ at) in
    let told = c.are_same.ensures.1 (ap (λ (n : CharName). n.site) same, ap (λ (n : CharName). n.off) same) in
    absurd (true≢false (sym told ∙ c.if-are_same.false)))

pub returns-in_default-2 : goal.returns-in_default-2
returns-in_default-2 c =
    hidden c.args.replica.now c.lemma_is_text.ensures c.args.name c.in_ok-place.place c.in_ok-place.ensures.place (λ at.
    let lost = sym c.in_default.is ∙ c.anchor_after.ensures ∙ at in absurd cc)
