use Rattle.std.proofs.Common.{sym, subst, Some}
use Rattle.char_files.specs.declared.name.Anchor.{Anchor}
use Rattle.texts.specs.Text.{IsAnchor}
use Rattle.texts.specs.TextState.{TextState}
use Rattle.text_frames.proofs.Preceding.{before_is_anchor}
use Rattle.desk_windows.specs.Pointing.{IsCaretSpot, ShowsThis}
use Rattle.desk_windows.specs.Windows.{AreOf, WindowsSeen}
use Rattle.desk_windows.proofs.Pointed.{caret_set, same_text}
use Rattle.desk_windows.proofs.windows.Windows.move_caret.Goals as goal

pub returns-clause-of : goal.returns-clause-of
returns-clause-of c =
    let i = c.self.inside in let d = c.args.texts.now in
    let old : WindowsSeen = record { viewers = i.viewers; caret = i.caret; selected = i.selected } in
    let are : AreOf d old = subst (λ (w : WindowsSeen). AreOf d w) (sym c.self.view_is) c.requires.of in
    let spot = c.in-Some.spot in let now : TextState = c.replica-replica.result.now in
    let there : IsCaretSpot d old (Some spot) =
    subst (λ (w : WindowsSeen). IsCaretSpot d w (Some spot)) (sym c.self.view_is) c.in-Some.ensures in
    let shows : ShowsThis d old spot.viewer spot.text now =
    subst (λ (t : TextState). ShowsThis d old spot.viewer spot.text t)
    (same_text d spot.text there.1.1 now there.7.text c.replica-replica.ensures) there.7 in
    let anchor : Anchor = c.anchor_after-anchor.result in
    let char : IsAnchor now.operations anchor =
    subst (IsAnchor now.operations) (sym c.anchor_after-anchor.ensures) (before_is_anchor now c.lemma_is_text.ensures c.args.pos) in
    caret_set d old spot.viewer spot.text now anchor are shows char
