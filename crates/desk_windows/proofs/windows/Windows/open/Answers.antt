use Rattle.std.proofs.Common.{refl, sym, ap, ◌∙◌, subst}
use Rattle.viewers.specs.Viewers.{ViewersSeen}
use Rattle.desk_windows.specs.Windows.{AllShow, AreOf, WindowSeen, WindowsSeen, width_of}
use Rattle.desk_windows.proofs.Going.{opened_are}
use Rattle.desk_windows.proofs.Standing.{all_after}
use Rattle.desk_windows.proofs.windows.Windows.open.Goals as goal

pub fit_all-requires : goal.fit_all-requires
fit_all-requires c =
    let d = c.args.texts.now in let s = c.self.inside.viewers in
    let all : AllShow d c.self.inside.viewers = subst (λ (w : WindowsSeen). AllShow d w.viewers) (sym c.self.view_is) c.requires.of.shown.texts in
    let window : WindowSeen = record { text = c.args.text; frame = c.in_ok-frame.frame } in
    let wide = c.in_ok-frame.ensures.width ∙ c.track_width-width.ensures ∙ ap (λ n. width_of n c.args.track) c.width.ensures in
    subst (λ (s : ViewersSeen WindowSeen). AllShow d s) (sym c.open_at.ensures.after)
    (all_after d s c.args.track c.args.row window c.replica.result.now c.lemma_are_viewers.ensures all c.requires.on_desk
    c.replica.ensures c.in_ok-frame.ensures.drawn wide)

pub returns-clause-of : goal.returns-clause-of
returns-clause-of c =
    let d = c.args.texts.now in let i = c.self.inside in
    let old : WindowsSeen = record { viewers = i.viewers; caret = i.caret; selected = i.selected } in
    let new : WindowsSeen = record { viewers = c.fit_all.new.viewers; caret = i.caret; selected = i.selected } in
    let window : WindowSeen = record { text = c.args.text; frame = c.in_ok-frame.frame } in
    let are : AreOf d old = subst (λ (w : WindowsSeen). AreOf d w) (sym c.self.view_is) c.requires.of in
    opened_are d old c.args.track c.args.row window c.open_at.new.viewers new are c.open_at.ensures.after
    c.fit_all.ensures.same c.fit_all.ensures.shown refl refl
