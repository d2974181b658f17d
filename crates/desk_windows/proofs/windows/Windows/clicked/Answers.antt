use Rattle.std.proofs.Common.{◌≡◌, ◌<◌, Some, sym, ap, ◌∙◌, subst, arith}
use Rattle.viewers.specs.Viewers.{content_of}
use Rattle.desk_windows.specs.Pointing.{IsInWindow, IsTargetIn}
use Rattle.desk_windows.specs.Windows.{AreOf, WindowSeen, WindowsSeen}
use Rattle.desk_windows.proofs.Pointed.{clicks_nothing, clicks_there, in_window, points_nowhere, points_so}
use Rattle.desk_windows.proofs.windows.Windows.clicked.Goals as goal

pub returns-in_default-content_at-clause-meets : goal.returns-in_default-content_at-clause-meets
returns-in_default-content_at-clause-meets c =
    let i = c.self.inside in let d = c.args.texts.now in
    let old : WindowsSeen = record { viewers = i.viewers; caret = i.caret; selected = i.selected } in
    let at = sym c.in-Some.ensures in let area = sym c.in-Some-area.ensures in
    let out = c.if-height-row.false in let h = c.height.ensures in
    let lt : c.args.row < i.viewers.tracks.height = omega (arith, out, h) in
    rw (← c.self.view_is)
    (clicks_nothing d old c.args.col c.args.row c.in-Some.viewer c.in-Some-area.area c.lemma_are_viewers.ensures lt at area
    (sym c.in_default-content_at.ensures))

pub returns-in_default-content_at-clause-points : goal.returns-in_default-content_at-clause-points
returns-in_default-content_at-clause-points c =
    let i = c.self.inside in let d = c.args.texts.now in
    let old : WindowsSeen = record { viewers = i.viewers; caret = i.caret; selected = i.selected } in
    let at = sym c.in-Some.ensures in let area = sym c.in-Some-area.ensures in
    let out = c.if-height-row.false in let h = c.height.ensures in
    let lt : c.args.row < i.viewers.tracks.height = omega (arith, out, h) in
    rw (← c.self.view_is)
    (points_nowhere d old c.args.col c.args.row c.in-Some.viewer c.in-Some-area.area c.lemma_are_viewers.ensures lt at area
    (sym c.in_default-content_at.ensures))

pub cell_target-requires : goal.cell_target-requires
cell_target-requires c =
    let i = c.self.inside in let d = c.args.texts.now in
    let old : WindowsSeen = record { viewers = i.viewers; caret = i.caret; selected = i.selected } in
    let at = sym c.in-Some.ensures in let area = sym c.in-Some-area.ensures in
    let out = c.if-height-row.false in let h = c.height.ensures in
    let lt : c.args.row < i.viewers.tracks.height = omega (arith, out, h) in
    let are : AreOf d old = subst (λ (w : WindowsSeen). AreOf d w) (sym c.self.view_is) c.requires in
    let x : WindowSeen = record { text = c.window.inside.text; frame = c.window.inside.frame } in
    let shown : content_of i.viewers.contents c.in-Some.viewer ≡ Some x =
    sym c.in-Some-content_at.ensures ∙ ap Some (sym c.window.view_is) in
    subst (λ (y : WindowSeen). IsInWindow c.in-Some-area.area y c.args.col c.args.row) c.window.view_is
    (in_window d old c.args.col c.args.row c.in-Some.viewer c.in-Some-area.area c.lemma_are_viewers.ensures lt at area x
    are.shown shown)

pub returns-clause-meets : goal.returns-clause-meets
returns-clause-meets c =
    let i = c.self.inside in let d = c.args.texts.now in
    let old : WindowsSeen = record { viewers = i.viewers; caret = i.caret; selected = i.selected } in
    let at = sym c.in-Some.ensures in let area = sym c.in-Some-area.ensures in
    let out = c.if-height-row.false in let h = c.height.ensures in
    let lt : c.args.row < i.viewers.tracks.height = omega (arith, out, h) in
    let are : AreOf d old = subst (λ (w : WindowsSeen). AreOf d w) (sym c.self.view_is) c.requires in
    let x : WindowSeen = record { text = c.window.inside.text; frame = c.window.inside.frame } in
    let shown : content_of i.viewers.contents c.in-Some.viewer ≡ Some x =
    sym c.in-Some-content_at.ensures ∙ ap Some (sym c.window.view_is) in
    rw (← c.self.view_is)
    (clicks_there d old c.args.col c.args.row c.in-Some.viewer c.in-Some-area.area c.lemma_are_viewers.ensures lt at area x are shown
    c.cell_target.result
    (subst (λ (y : WindowSeen). IsTargetIn c.in-Some-area.area y c.args.col c.args.row c.cell_target.result) (sym c.window.view_is)
    c.cell_target.ensures))

pub returns-clause-points : goal.returns-clause-points
returns-clause-points c =
    let i = c.self.inside in let d = c.args.texts.now in
    let old : WindowsSeen = record { viewers = i.viewers; caret = i.caret; selected = i.selected } in
    let at = sym c.in-Some.ensures in let area = sym c.in-Some-area.ensures in
    let out = c.if-height-row.false in let h = c.height.ensures in
    let lt : c.args.row < i.viewers.tracks.height = omega (arith, out, h) in
    let are : AreOf d old = subst (λ (w : WindowsSeen). AreOf d w) (sym c.self.view_is) c.requires in
    let x : WindowSeen = record { text = c.window.inside.text; frame = c.window.inside.frame } in
    let shown : content_of i.viewers.contents c.in-Some.viewer ≡ Some x =
    sym c.in-Some-content_at.ensures ∙ ap Some (sym c.window.view_is) in
    rw (← c.self.view_is)
    (points_so d old c.args.col c.args.row c.in-Some.viewer c.in-Some-area.area c.lemma_are_viewers.ensures lt at area x are shown
    c.cell_target.result
    (subst (λ (y : WindowSeen). IsTargetIn c.in-Some-area.area y c.args.col c.args.row c.cell_target.result) (sym c.window.view_is)
    c.cell_target.ensures))
