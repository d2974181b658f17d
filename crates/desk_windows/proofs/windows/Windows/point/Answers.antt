use Rattle.std.proofs.Common.{sym, subst, Some}
use Rattle.char_files.specs.declared.name.Anchor.{Anchor}
use Rattle.texts.specs.Text.{IsAnchor}
use Rattle.texts.specs.TextState.{TextState}
use Rattle.text_frames.proofs.Preceding.{before_is_anchor}
use Rattle.desk_windows.specs.Pointing.{IsPointed}
use Rattle.desk_windows.specs.Windows.{AreOf, WindowsSeen}
use Rattle.desk_windows.proofs.Pointed.{caret_set, shows_it}
use Rattle.desk_windows.proofs.windows.Windows.point.Goals as goal

pub returns-clause-of : goal.returns-clause-of
returns-clause-of c =
    let i = c.self.inside in let d = c.args.texts.now in
    let old : WindowsSeen = record { viewers = i.viewers; caret = i.caret; selected = i.selected } in
    let are : AreOf d old = subst (λ (w : WindowsSeen). AreOf d w) (sym c.self.view_is) c.requires in
    let spot = c.in-Some.spot in let now : TextState = c.replica-replica.result.now in
    let there : IsPointed d old c.args.col c.args.row (Some spot) =
    subst (λ (w : WindowsSeen). IsPointed d w c.args.col c.args.row (Some spot)) (sym c.self.view_is) c.in-Some.ensures in
    let anchor : Anchor = c.anchor_after-anchor.result in
    let char : IsAnchor now.operations anchor =
    subst (IsAnchor now.operations) (sym c.anchor_after-anchor.ensures) (before_is_anchor now c.lemma_is_text.ensures spot.pos) in
    caret_set d old spot.viewer spot.text now anchor are
    (shows_it d old spot there.0 there.2 now c.replica-replica.ensures) char
