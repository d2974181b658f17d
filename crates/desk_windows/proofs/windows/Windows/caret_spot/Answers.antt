use Rattle.std.proofs.Common.{◌≡◌, Some, sym, ap, ◌∙◌, subst}
use Rattle.viewers.specs.Viewers.{content_of}
use Rattle.machine.specs.Windows.{Caret, place_in}
use Rattle.desk_windows.specs.Windows.{AreOf, WindowSeen, WindowsSeen}
use Rattle.desk_windows.proofs.Pointed.{caret_stands}
use Rattle.desk_windows.proofs.windows.Windows.caret_spot.Goals as goal

pub replica-requires : goal.replica-requires
replica-requires c =
    let i = c.self.inside in let d = c.args.texts.now in
    let old : WindowsSeen = record { viewers = i.viewers; caret = i.caret; selected = i.selected } in
    let are : AreOf d old = subst (λ (w : WindowsSeen). AreOf d w) (sym c.self.view_is) c.requires in
    let x : WindowSeen = record { text = c.window.inside.text; frame = c.window.inside.frame } in
    let shown : content_of i.viewers.contents c.caret.inside.viewer ≡ Some x =
    sym c.in-Some-content_at.ensures ∙ ap Some (sym c.window.view_is) in
    (are.shown.texts c.caret.inside.viewer x shown).on_desk

pub returns : goal.returns
returns c =
    let i = c.self.inside in let d = c.args.texts.now in
    let old : WindowsSeen = record { viewers = i.viewers; caret = i.caret; selected = i.selected } in
    let are : AreOf d old = subst (λ (w : WindowsSeen). AreOf d w) (sym c.self.view_is) c.requires in
    let caret : Caret = record { viewer = c.caret.inside.viewer; anchor = c.caret.inside.anchor } in
    let x : WindowSeen = record { text = c.window.inside.text; frame = c.window.inside.frame } in
    let shown : content_of i.viewers.contents c.caret.inside.viewer ≡ Some x =
    sym c.in-Some-content_at.ensures ∙ ap Some (sym c.window.view_is) in
    let now = c.replica.result.now in
    rw (← c.self.view_is)
    (caret_stands d old caret x c.replica.result.now c.place-pos.result are (c.in-Some.is ∙ ap Some (sym c.caret.view_is)) shown
    c.replica.ensures (c.place-pos.ensures ∙ ap (λ (c : Caret). place_in now c.anchor) (sym c.caret.view_is)))
