use Rattle.std.proofs.Common.{◌≡◌, Some, sym, ap, ◌∙◌, subst, refl}
use Rattle.viewers.specs.Viewers.{content_of}
use Rattle.desk_windows.specs.Windows.{AreOf, WindowSeen, WindowsSeen, seen_window}
use Rattle.desk_windows.proofs.Scrolling.{shown_nothing, shown_text}
use Rattle.desk_windows.proofs.windows.Windows.text_of.Goals as goal

pub returns-in-Some-clause-text : goal.returns-in-Some-clause-text
returns-in-Some-clause-text c = λ d are_now.
    let i = c.self.inside in
    let old : WindowsSeen = record { viewers = i.viewers; caret = i.caret; selected = i.selected } in
    let are : AreOf d old = subst (λ (w : WindowsSeen). AreOf d w) (sym c.self.view_is) are_now in
    let x : WindowSeen = record { text = c.window.inside.text; frame = c.window.inside.frame } in
    let there : content_of i.viewers.contents c.args.viewer ≡ Some x =
    sym c.in-Some.ensures ∙ ap Some (sym c.window.view_is) in
    let shows = are.shown.texts c.args.viewer x there in
    rw (← c.self.view_is)
    ((seen_window x, shows.text), shown_text d old c.args.viewer 0 x x shows.text there shows.at, refl)

pub returns-in-Some-clause-on_desk : goal.returns-in-Some-clause-on_desk
returns-in-Some-clause-on_desk c = λ d are_now.
    let i = c.self.inside in
    let old : WindowsSeen = record { viewers = i.viewers; caret = i.caret; selected = i.selected } in
    let are : AreOf d old = subst (λ (w : WindowsSeen). AreOf d w) (sym c.self.view_is) are_now in
    let x : WindowSeen = record { text = c.window.inside.text; frame = c.window.inside.frame } in
    let there : content_of i.viewers.contents c.args.viewer ≡ Some x =
    sym c.in-Some.ensures ∙ ap Some (sym c.window.view_is) in
    (are.shown.texts c.args.viewer x there).on_desk

pub returns-in-None-clause-text : goal.returns-in-None-clause-text
returns-in-None-clause-text c = λ d are_now.
    let i = c.self.inside in
    let old : WindowsSeen = record { viewers = i.viewers; caret = i.caret; selected = i.selected } in
    rw (← c.self.view_is) (shown_nothing d old c.args.viewer 0 (sym c.in-None.ensures))
